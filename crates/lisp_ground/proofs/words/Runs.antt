-- Compact runs of cells on a ground: one begins at each cell, and its end is one of those for which a transport is known.
use Rattle.std.proofs.Common.{◌≡◌, ℕ, zero, suc, ◌+◌, ◌-◌, ◌<◌, ◌≤◌, ◌⊎◌, inl, inr, refl, sym, ◌∙◌, ap, subst, arith, Option, Some, None}
use Rattle.std.specs.Option.{is_some}
use Rattle.std.proofs.lemmas.Bool.{cases_lt}
use Rattle.area_space.specs.store_word.declared.word.CdrCode.{CdrCode}
use Rattle.area_space.specs.store_word.declared.word.CdrCode.TheVariants.{Next as CdrNext, Nil as CdrNil, Normal as CdrNormal, Second as CdrSecond}
use Rattle.area_space.specs.store_word.declared.word.Content.{Content}
use Rattle.area_space.specs.store_word.declared.word.Content.TheVariants.{Null, Nil as NilWord, Fixnum, List as ListAt, Struct as StructAt, Header, HeaderForward, GcForward}
use Rattle.area_space.specs.lisp_graph.declared.object.Value.{Value}
use Rattle.area_space.specs.mem_port.Store.{Store}
use Rattle.area_space.specs.Table.{Table}
use Rattle.lisp_meaning.specs.State.{object}
use Rattle.lisp_meaning.specs.Image.{Image, word}
use Rattle.lisp_meaning.specs.Classes.{classes}
use Rattle.lisp_meaning.specs.Forwards as G
use Rattle.lisp_meaning.specs.Roles.{AsCons, Role, PairHead, Cell, names_as, name_at, as_ref, value_of, cdr_of}
use Rattle.lisp_meaning.specs.Fits.{CellCdr}
use Rattle.lisp_meaning.specs.Rewriting.{StandsThere}
use Rattle.lisp_meaning.specs.Transport.{CellsStand}
use Rattle.lisp_meaning.proofs.roles.RunNames.{cons_there, run_cells, follower_named}
use Rattle.lisp_meaning.proofs.layout.ObjectWords.{cell_fits}
use Rattle.obj_layout.specs.declared.run.RunEnd.{RunEnd}
use Rattle.obj_layout.specs.declared.run.RunEnd.TheVariants.{Nil, Pair, Forwarded}
use Rattle.obj_layout.specs.declared.run.Run.{Run}
use Rattle.obj_layout.specs.Forwards.{word_at, Final}
use Rattle.obj_layout.specs.Runs.{IsCell, IsPair, IsForwarded, StandsBehind, last_code, IsRun, HasRun}
use Rattle.obj_layout.proofs.RunLaws.{run-one, run-more}
use Rattle.lisp_ground.specs.Image.{ground_image}
use Rattle.lisp_ground.specs.GroundInvariant.{GroundInvariant}
use Rattle.lisp_meaning.specs.Interpretation.{Interpretation}
use Rattle.lisp_ground.proofs.words.FinalAddresses.{same_forward, has_final, final_here, final_is_place, place_named}
use Rattle.lisp_ground.proofs.words.Shapes.{pair_shape, cell_shape, pair_code, cell_code}

-- a word that has a value is no forward
value_no_forward : (role : ℕ → Role) (c : Content) (v : Value) → value_of role c ≡ Some v → G.forward_of c ≡ None
value_no_forward role Null v e = refl
value_no_forward role NilWord v e = refl
value_no_forward role (Fixnum i) v e = refl
value_no_forward role (ListAt a) v e = refl
value_no_forward role (StructAt a) v e = refl
value_no_forward role (Header x size) v e = refl
value_no_forward role (HeaderForward a) v e = cc
value_no_forward role (GcForward a) v e = cc

module _ (m : Store) (t : Table) (it : Interpretation) (on : GroundInvariant m t it) where
  abbrev g : Image
  g = ground_image m t

  cell_stands : (b n i : ℕ) → it.map.role b ≡ Cell n i → StandsThere g it.map AsCons b n
  cell_stands b n i r =
      let f = cell_fits (word g) (classes g) it.map it.store on.kept.roled n b i r in
      record { named = ap (names_as AsCons) r; here = value_no_forward it.map.role (word g b).content f.car.0 f.car.2 }

  cell_is : (b n i : ℕ) → it.map.role b ≡ Cell n i → IsCell m.words b
  cell_is b n i r = record { final = final_here m t it on AsCons b n (cell_stands b n i r); shape = cell_shape m t it on b n i r }

  -- a compact run of at most `left` cells begins at a cell, by its place in the list
  run_from : (left b n i : ℕ) → it.map.role b ≡ Cell n i → i + left ≡ 1024 → (run : Run) × (run.cells ≤ left) × IsRun m.words b run
  run_from zero b n i r few = let f = (cell_fits (word g) (classes g) it.map it.store on.kept.roled n b i r).few in absurd (omega arith)
  run_from (suc left) b n i r few = by_code (word g b).cdr refl (cell_fits (word g) (classes g) it.map it.store on.kept.roled n b i r).cdr (λ c n2 r2. run_from left c n2 (suc i) r2 (omega arith))
    where
      one : (ending : RunEnd) → (word_at m.words b).cdr ≡ last_code ending → StandsBehind m.words (b + 1) ending → (run : Run) × (run.cells ≤ suc left) × IsRun m.words b run
      one ending code behind = (record { cells = 1; ending = ending }, omega arith, run-one m.words b ending (cell_is b n i r) code behind)

      by_behind : (word g b).cdr ≡ CdrNext → (p : ℕ) → names_as AsCons (it.map.role (suc b)) ≡ Some p → ((q j : ℕ) → it.map.role (suc b) ≡ Cell q j → j ≡ suc i)
          → ((c n2 : ℕ) → it.map.role c ≡ Cell n2 (suc i) → (run : Run) × (run.cells ≤ left) × IsRun m.words c run)
          → (o : Option ℕ) → G.forward_of (word g (suc b)).content ≡ o → (run : Run) × (run.cells ≤ suc left) × IsRun m.words b run
      by_behind code p named place rest (Some to) forward =
          let next : suc b ≡ b + 1 = omega arith in
          let f = has_final m t it on AsCons (suc b) p named in
          one (Forwarded f.0) code (subst (λ (x : ℕ). IsForwarded m.words x f.0) next (record {
            forward = ap is_some (same_forward (word_at m.words (suc b)).content ∙ forward);
            final = f.2;
            inside = f.1;
          }))
      by_behind code p named place rest None none = by_role (cons_there (word g) (classes g) it.map it.store on.kept.roled (suc b) p named none)
        where
          by_role : (it.map.role (suc b) ≡ PairHead p) ⊎ ((j : ℕ) × (it.map.role (suc b) ≡ Cell p j)) → (run : Run) × (run.cells ≤ suc left) × IsRun m.words b run
          by_role (inl x) =
              let next : suc b ≡ b + 1 = omega arith in
              one Pair code (subst (λ (y : ℕ). IsPair m.words y) next (record {
                final = final_here m t it on AsCons (suc b) p (record { named = named; here = none });
                shape = pair_shape m t it on (suc b) p x;
              }))
          by_role (inr x) =
              let next : suc b ≡ b + 1 = omega arith in
              let more = rest (suc b) p (x.1 ∙ ap (Cell p) (place p x.0 x.1)) in
              (record (more.0) { cells = more.0.cells + 1 }, (let l = more.1 in omega arith), run-more m.words b more.0 (cell_is b n i r) code (subst (λ (y : ℕ). IsRun m.words y more.0) next more.2))

      by_code : (code : CdrCode) → (word g b).cdr ≡ code → CellCdr it.map.role b i (cdr_of (object it.store n).body) (word g b).cdr
          → ((c n2 : ℕ) → it.map.role c ≡ Cell n2 (suc i) → (run : Run) × (run.cells ≤ left) × IsRun m.words c run) → (run : Run) × (run.cells ≤ suc left) × IsRun m.words b run
      by_code CdrNil e x rest = one Nil e tt
      by_code CdrNext e x rest =
          let y = subst (λ (c : CdrCode). CellCdr it.map.role b i (cdr_of (object it.store n).body) c) e x in
          by_behind e y.0 y.1 y.4 rest (G.forward_of (word g (suc b)).content) refl
      by_code CdrNormal e x rest = absurd (subst (λ (c : CdrCode). CellCdr it.map.role b i (cdr_of (object it.store n).body) c) e x)
      by_code CdrSecond e x rest = absurd (subst (λ (c : CdrCode). CellCdr it.map.role b i (cdr_of (object it.store n).body) c) e x)

  -- so one of at most 1,024
  pub has_run : (b n i : ℕ) → it.map.role b ≡ Cell n i → HasRun m.words b
  has_run b n i r =
      let few = (cell_fits (word g) (classes g) it.map it.store on.kept.roled n b i r).few in
      let x = run_from (1024 - i) b n i r (omega arith) in
      (x.0, (let l = x.1 in omega arith), x.2)

  -- What the end of a run says

  linked_here : (b : ℕ) (run : Run) → IsRun m.words b run → (i : ℕ) → i < run.cells → (i + 1 ≡ run.cells → last_code run.ending ≡ CdrNext) → (word g (b + i)).cdr ≡ CdrNext
  linked_here b run is i low last =
      elim (cases_lt (i + 1) run.cells) [
        | inl inner ↦ is.linked i inner
        | inr end ↦ (
            let e : i + 1 ≡ run.cells = omega arith in
            let at : b + run.cells - 1 ≡ b + i = omega arith in
            sym (ap (λ (x : ℕ). (word_at m.words x).cdr) at) ∙ (is.last ∙ last e))
      ]

  -- the cells of a run, all but the last, or all
  pub run_cells_stand : (b : ℕ) (run : Run) (count : ℕ) → IsRun m.words b run → count ≤ run.cells → (count ≡ run.cells → last_code run.ending ≡ CdrNext) → CellsStand g b count
  run_cells_stand b run count is few last = record {
    here = λ i low. sym (same_forward (word_at m.words (b + i)).content) ∙ (is.cells i (omega arith)).final.no_forward;
    next = λ i low. linked_here b run is i (omega arith) (λ e. last (omega arith));
  }

  -- its last cell is the last of the list
  pub run_to_nil : (b cells : ℕ) → IsRun m.words b (record { cells = suc cells; ending = Nil })
      → CellsStand g b cells × (G.forward_of (word g (b + cells)).content ≡ None) × ((word g (b + cells)).cdr ≡ CdrNil)
  run_to_nil b cells is = (
    run_cells_stand b (record { cells = suc cells; ending = Nil }) cells is (omega arith) (λ e. absurd (omega arith)),
    sym (same_forward (word_at m.words (b + cells)).content) ∙ (is.cells cells (omega arith)).final.no_forward,
    (let at : b + suc cells - 1 ≡ b + cells = omega arith in sym (ap (λ (x : ℕ). (word_at m.words x).cdr) at) ∙ is.last),
  )

  -- a pair follows
  pub run_to_pair : (b cells : ℕ) → IsRun m.words b (record { cells = cells; ending = Pair })
      → CellsStand g b cells × (G.forward_of (word g (b + cells)).content ≡ None) × ((word g (b + cells)).cdr ≡ CdrNormal)
  run_to_pair b cells is = (
    run_cells_stand b (record { cells = cells; ending = Pair }) cells is (omega arith) (λ e. refl),
    sym (same_forward (word_at m.words (b + cells)).content) ∙ is.behind.final.no_forward,
    pair_code (word_at m.words (b + cells)).content (word_at m.words (b + cells)).cdr is.behind.shape,
  )

  -- a forward follows: its final address is that of the rest of the list
  pub run_to_forward : (b cells to : ℕ) → IsRun m.words b (record { cells = suc cells; ending = Forwarded to }) → (p : ℕ) → names_as AsCons (it.map.role (suc (b + cells))) ≡ Some p
      → CellsStand g b (suc cells) × (value_of it.map.role (ListAt to) ≡ value_of it.map.role (ListAt (suc (b + cells))))
  run_to_forward b cells to is p named = (
    run_cells_stand b (record { cells = suc cells; ending = Forwarded to }) (suc cells) is (omega arith) (λ e. refl),
    ap as_ref (ap (λ (x : ℕ). names_as AsCons (it.map.role x)) end ∙ (place_named m t it on AsCons (suc (b + cells)) p named ∙ sym named)),
  )
    where
      end : to ≡ it.map.at p
      end = let at : b + suc cells ≡ suc (b + cells) = omega arith in final_is_place m t it on AsCons (suc (b + cells)) p named to (subst (λ (x : ℕ). Final m.words x to) at is.behind.final)

  -- Its cells, by what their words are for

  pub run_roles : (b n i : ℕ) (run : Run) → it.map.role b ≡ Cell n i → IsRun m.words b run → (j : ℕ) → j < run.cells → it.map.role (b + j) ≡ Cell (name_at it.map (b + j)) (i + j)
  run_roles b n i run r is = run_cells (word g) (classes g) it.map it.store on.kept.roled b n i run.cells r
      (λ j inner. is.linked j (omega arith))
      (λ j low. (let c = is.cells j low in (sym (same_forward (word_at m.words (b + j)).content) ∙ c.final.no_forward, cell_code (word_at m.words (b + j)).content (word_at m.words (b + j)).cdr c.shape)))

  -- what follows a run that doesn't end in nil has a name
  pub run_follower : (b n i cells : ℕ) (ending : RunEnd) → it.map.role b ≡ Cell n i → IsRun m.words b (record { cells = suc cells; ending = ending }) → last_code ending ≡ CdrNext
      → names_as AsCons (it.map.role (suc (b + cells))) ≡ Some (name_at it.map (suc (b + cells)))
  run_follower b n i cells ending r is last =
      let role = run_roles b n i (record { cells = suc cells; ending = ending }) r is cells (omega arith) in
      let at : b + suc cells - 1 ≡ b + cells = omega arith in
      let code : (word g (b + cells)).cdr ≡ CdrNext = sym (ap (λ (x : ℕ). (word_at m.words x).cdr) at) ∙ (is.last ∙ last) in
      follower_named (word g) (classes g) it.map it.store on.kept.roled (b + cells) (name_at it.map (b + cells)) (i + cells) role code
