-- The invariant after a parcel has moved.
use Rattle.std.proofs.Common.{ℕ, suc, ◌≡◌, ◌⊎◌, ◌+◌, ◌-◌, ◌*◌, ◌<◌, ◌≤◌, List, Option, Some, None, refl, sym, ◌∙◌, ap, subst, inl, inr, arith}
use Rattle.std.proofs.lemmas.Bool.{cases_lt, lt-ltb, le-ltb}
use Rattle.store_word.specs.Words.{Parts}
use Rattle.store_word.specs.declared.word.CdrCode.TheVariants.{Next as CdrNext, Nil as CdrNil, Normal as CdrNormal}
use Rattle.store_word.specs.declared.word.Content.{Content}
use Rattle.store_word.specs.declared.word.Content.TheVariants.{List as ListAt, Header}
use Rattle.area_space.specs.lisp_graph.declared.object.Value.{Value}
use Rattle.obj_layout.specs.declared.shape.Shape.TheVariants.{Pair as PairShape, Cell as CellShape, BlockOf}
use Rattle.obj_layout.specs.declared.run.RunEnd.{RunEnd}
use Rattle.obj_layout.specs.declared.run.RunEnd.TheVariants.{Nil as EndsNil, Pair as EndsPair, Forwarded}
use Rattle.obj_layout.specs.declared.run.Run.{Run}
use Rattle.obj_layout.specs.Forwards.{word_at}
use Rattle.obj_layout.specs.Shapes.{shape_of, shape_from, charge_at}
use Rattle.obj_layout.specs.Runs.{IsRun, StandsBehind, last_code}
use Rattle.lisp_ground.specs.lisp_meaning.State.{Condemned, object}
use Rattle.lisp_ground.specs.lisp_meaning.Image.{Image, word, with_words}
use Rattle.lisp_ground.specs.lisp_meaning.Classes.{classes}
use Rattle.lisp_ground.specs.lisp_meaning.Forwards.{forward_of}
use Rattle.lisp_ground.specs.lisp_meaning.Roles.{Kind, AsCons, AsBlock, PairHead, Cell, Head, names_as, name_at, name_or, as_ref, value_of}
use Rattle.lisp_ground.specs.lisp_meaning.Fits.{Holds}
use Rattle.lisp_ground.specs.lisp_meaning.Invariant.{MemoryInvariant}
use Rattle.lisp_ground.specs.lisp_meaning.After.{After}
use Rattle.lisp_ground.specs.lisp_meaning.Transport.{Survives, Rehouses}
use Rattle.lisp_ground.proofs.lisp_meaning.layout.ObjectWords.{head_fits, cell_fits, block_fits}
use Rattle.lisp_ground.proofs.lisp_meaning.roles.RunNames.{cons_there, block_there, pair_there}
use Rattle.lisp_ground.proofs.lisp_meaning.invariant.Transports.{block_moved, run_to_pair_moved, run_to_nil_moved, cut_run_moved}
use Rattle.transporter.specs.declared.parcel.Parcel.{Parcel}
use Rattle.transporter.specs.Parcels.{IsParcel, a_block, a_pair, a_run, block_parcel, pair_parcel, run_parcel, word_count_of, moved_word}
use Rattle.transporter.proofs.ParcelRoles.{normal-pair, header-block, pair-charge, run-pair, run-behind, run-rest}
use Rattle.lisp_ground.specs.lisp_meaning.Interpretation.{Interpretation}

-- the numbers of a transport, in another form
rehouses-as : (g g1 : Image) (ws : List Parts) (top : ℕ) (aim : Condemned) (a b count forwards area level charge count' forwards' charge' : ℕ) → Rehouses g g1 ws top aim a b count forwards area level charge
    → count ≡ count' → forwards ≡ forwards' → charge ≡ charge' → Rehouses g g1 ws top aim a b count' forwards' area level charge'
rehouses-as g g1 ws top aim a b count forwards area level charge count' forwards' charge' r x y z =
    subst (λ (n : ℕ). Rehouses g g1 ws top aim a b n forwards' area level charge') x
    (subst (λ (n : ℕ). Rehouses g g1 ws top aim a b count n area level charge') y (subst (λ (n : ℕ). Rehouses g g1 ws top aim a b count forwards area level n) z r))

-- the first of the objects that moved
first-moved : (g g' : Image) (it : Interpretation) (moved charge a b count n : ℕ) → names_as AsCons (it.map.role a) ≡ Some n → moved ≡ charge
    → After g g' it it.store moved AsCons b (suc count) (λ i. name_at it.map (a + i)) → After g g' it it.store charge AsCons b 1 (λ i. n)
first-moved g g' it moved charge a b count n named is after = record {
  map = after.map;
  kept = after.kept;
  refines = after.refines;
  there = λ i l.
      let zeroth : i ≡ 0 = omega arith in
      let place : a + i ≡ a = omega arith in
      let same : name_at it.map (a + i) ≡ n = ap (name_at it.map) place ∙ ap name_or named in
      after.there i (omega arith) ∙ ap Some same;
  old = (let e = after.old in omega arith);
}

-- a header has no value
no-value : (role : ℕ → Rattle.lisp_ground.specs.lisp_meaning.Roles.Role) (content : Content) (kind size : ℕ) (part : Option Value) → content ≡ Header kind size → Holds role content part → ⊥
no-value role content kind size part is h = let e = sym (ap (value_of role) is) ∙ h.2 in cc

module _ (g g1 : Image) (ws : List Parts) (it : Interpretation) (registers : List Value) (n at to area level : ℕ)
    (h : MemoryInvariant g it) (none : forward_of (word g at).content ≡ None) where
  -- what is shown of each thing that moves
  abbrev Arrives : Kind → Parcel → Type 0
  Arrives kind p =
      Rehouses g g1 ws it.top it.aim at to (word_count_of p) p.objects area level p.charge → ((i : ℕ) → i < word_count_of p → word g1 (to + i) ≡ moved_word g.words at p.words p.rest i)
      → After g (with_words g1 ws) it it.store p.charge kind to 1 (λ i. n)

  block-arrives : (code length : ℕ) → Survives it registers AsBlock at n → shape_of (word_at g.words at) ≡ BlockOf code length → Arrives AsBlock (block_parcel at length)
  block-arrives code length v is r copies =
      let content = header-block (word_at g.words at).content (word_at g.words at).cdr code length is in
      block_moved g g1 ws it registers at to n code length area level h v content
      (rehouses-as g g1 ws it.top it.aim at to (suc length + 0) 1 area level (suc length) (suc length) 1 (suc length) r (omega arith) refl refl) (λ i l. copies i (omega arith))

  module _ (v : Survives it registers AsCons at n) where
    pair-arrives : shape_of (word_at g.words at) ≡ PairShape → Arrives AsCons (pair_parcel at (charge_at g.words at))
    pair-arrives is r copies =
        let place : at + 0 ≡ at = omega arith in
        let normal = normal-pair (word_at g.words at).content (word_at g.words at).cdr is in
        let head = pair_there (word g) (classes g) it.map it.store h.roled at n v.named none normal in
        let name : name_at it.map (at + 0) ≡ n = ap (name_at it.map) place ∙ ap name_or v.named in
        let charge : (object it.store (name_at it.map (at + 0))).charge ≡ charge_at g.words at = ap (λ (m : ℕ). (object it.store m).charge) name ∙ pair-charge g.words (classes g) it.map it.store h.roled at n head is in
        first-moved g (with_words g1 ws) it (3 * 0 + (object it.store (name_at it.map (at + 0))).charge) (charge_at g.words at) at to 0 n v.named (omega arith)
        (run_to_pair_moved g g1 ws it registers at to n 0 area level h v (record { here = λ i l. absurd (omega arith); next = λ i l. absurd (omega arith) })
        (ap (λ (a : ℕ). forward_of (word g a).content) place ∙ none) (ap (λ (a : ℕ). (word g a).cdr) place ∙ normal)
        (rehouses-as g g1 ws it.top it.aim at to (2 + 0) 1 area level (charge_at g.words at) (0 + 2) (suc 0) (3 * 0 + (object it.store (name_at it.map (at + 0))).charge) r refl refl (omega arith)) (λ i l. copies i (omega arith)))

    module _ (run : Run) (is : IsRun g.words at run) where
      count : ℕ
      count = run.cells - 1

      one-more : suc (run.cells - 1) ≡ run.cells
      one-more = let some = is.some in omega arith

      nil-arrives : (word_at g.words (at + run.cells - 1)).cdr ≡ CdrNil → Arrives AsCons (run_parcel at run.cells (charge_at g.words (at + run.cells)) EndsNil)
      nil-arrives last r copies =
          let some = is.some in
          let place : at + (run.cells - 1) ≡ at + run.cells - 1 = omega arith in
          first-moved g (with_words g1 ws) it (3 * (run.cells - 1) + 3) (3 * run.cells) at to (run.cells - 1) n v.named (omega arith)
          (run_to_nil_moved g g1 ws it registers at to n (run.cells - 1) area level h v
          (record { here = λ i l. (is.cells i (omega arith)).final.no_forward; next = λ i l. is.linked i (omega arith) })
          (is.cells (run.cells - 1) (omega arith)).final.no_forward (ap (λ (a : ℕ). (word g a).cdr) place ∙ last)
          (rehouses-as g g1 ws it.top it.aim at to (run.cells + 0) run.cells area level (3 * run.cells) (run.cells - 1 + 1) (suc (run.cells - 1)) (3 * (run.cells - 1) + 3) r (omega arith) (omega arith) (omega arith))
          (λ i l. copies i (omega arith)))

      -- the code of each cell, if the last is coded next
      coded : (word_at g.words (at + run.cells - 1)).cdr ≡ CdrNext → (i : ℕ) → i < run.cells → (word g (at + i)).cdr ≡ CdrNext
      coded last i l = go (cases_lt (suc i) run.cells)
        where
          go : (suc i < run.cells) ⊎ (run.cells ≤ suc i) → (word g (at + i)).cdr ≡ CdrNext
          go (inl less) = is.linked i (omega arith)
          go (inr more) = ap (λ (a : ℕ). (word g a).cdr) (let e : at + i ≡ at + run.cells - 1 = omega arith in e) ∙ last

      run-pair-arrives : (word_at g.words (at + run.cells - 1)).cdr ≡ CdrNext → StandsBehind g.words (at + run.cells) EndsPair → Arrives AsCons (run_parcel at run.cells (charge_at g.words (at + run.cells)) EndsPair)
      run-pair-arrives last behind r copies =
          let head = run-pair g.words (classes g) it.map it.store h.roled at n run v.named is behind last in
          let charge = pair-charge g.words (classes g) it.map it.store h.roled (at + run.cells) (name_at it.map (at + run.cells)) head behind.shape in
          first-moved g (with_words g1 ws) it (3 * run.cells + (object it.store (name_at it.map (at + run.cells))).charge) (3 * run.cells + charge_at g.words (at + run.cells)) at to run.cells n v.named (omega arith)
          (run_to_pair_moved g g1 ws it registers at to n run.cells area level h v
          (record { here = λ i l. (is.cells i l).final.no_forward; next = coded last })
          behind.final.no_forward (normal-pair (word_at g.words (at + run.cells)).content (word_at g.words (at + run.cells)).cdr behind.shape)
          (rehouses-as g g1 ws it.top it.aim at to (run.cells + 2 + 0) (run.cells + 1) area level (3 * run.cells + charge_at g.words (at + run.cells)) (run.cells + 2) (suc run.cells) (3 * run.cells + (object it.store (name_at it.map (at + run.cells))).charge) r
          (omega arith) (omega arith) (omega arith))
          (λ i l. copies i (omega arith)))

      cut-arrives : (rest : ℕ) → (word_at g.words (at + run.cells - 1)).cdr ≡ CdrNext → StandsBehind g.words (at + run.cells) (Forwarded rest)
          → Arrives AsCons (run_parcel at run.cells (charge_at g.words (at + run.cells)) (Forwarded rest))
      cut-arrives rest last behind r copies =
          let some = is.some in
          let place : at + (run.cells - 1) ≡ at + run.cells - 1 = omega arith in
          let next : suc (at + (run.cells - 1)) ≡ at + run.cells = omega arith in
          let there = run-rest g.words (classes g) it.map it.store h.roled at n run v.named is rest behind last in
          let follows = run-behind g.words (classes g) it.map it.store h.roled at n run v.named is last in
          let zeroth : suc (run.cells - 1) - run.cells ≡ 0 = omega arith in
          let first : suc run.cells - run.cells ≡ 1 = omega arith in
          let car : word g1 (to + (run.cells - 1)) ≡ record { cdr = CdrNormal; content = (word g (at + (run.cells - 1))).content } =
          copies (run.cells - 1) (omega arith) ∙ rw (le-ltb (suc (run.cells - 1)) run.cells (omega arith), zeroth) (ap (λ (a : ℕ). record { cdr = CdrNormal; content = (word g a).content }) (sym place)) in
          let cdr : word g1 (suc (to + (run.cells - 1))) ≡ record { cdr = CdrNext; content = ListAt rest } =
          ap (word g1) (let e : suc (to + (run.cells - 1)) ≡ to + run.cells = omega arith in e) ∙ copies run.cells (omega arith) ∙ rw (le-ltb (suc run.cells) run.cells (omega arith), first) refl in
          first-moved g (with_words g1 ws) it (3 * (run.cells - 1) + 3) (3 * run.cells) at to (run.cells - 1) n v.named (omega arith)
          (cut_run_moved g g1 ws it registers at to n (run.cells - 1) rest area level h v
          (record { here = λ i l. (is.cells i (omega arith)).final.no_forward; next = λ i l. coded last i (omega arith) })
          (ap as_ref there ∙ sym (ap (λ (a : ℕ). as_ref (names_as AsCons (it.map.role a))) next ∙ ap as_ref follows))
          (rehouses-as g g1 ws it.top it.aim at to (run.cells + 1) run.cells area level (3 * run.cells) (run.cells - 1 + 2) (suc (run.cells - 1)) (3 * (run.cells - 1) + 3) r (omega arith) (omega arith) (omega arith))
          (λ i l. copies i (omega arith) ∙ rw (lt-ltb (suc i) run.cells (omega arith)) refl) car cdr)

      run-arrives : (ending : RunEnd) → (word_at g.words (at + run.cells - 1)).cdr ≡ last_code ending → StandsBehind g.words (at + run.cells) ending → Arrives AsCons (run_parcel at run.cells (charge_at g.words (at + run.cells)) ending)
      run-arrives EndsNil last behind = nil-arrives last
      run-arrives EndsPair last behind = run-pair-arrives last behind
      run-arrives (Forwarded rest) last behind = cut-arrives rest last behind

  -- a reference to a cons leads to no header, and one to a block to nothing else
  no-cons-block : (code length : ℕ) → names_as AsCons (it.map.role at) ≡ Some n → shape_of (word_at g.words at) ≡ BlockOf code length → ⊥
  no-cons-block code length named is = go (cons_there (word g) (classes g) it.map it.store h.roled at n named none)
    where
      content : (word_at g.words at).content ≡ Header code length
      content = header-block (word_at g.words at).content (word_at g.words at).cdr code length is

      go : (it.map.role at ≡ PairHead n) ⊎ ((i : ℕ) × (it.map.role at ≡ Cell n i)) → ⊥
      go (inl r) = no-value it.map.role (word_at g.words at).content code length _ content (head_fits (word g) (classes g) it.map it.store h.roled n at r).car
      go (inr r) = no-value it.map.role (word_at g.words at).content code length _ content (cell_fits (word g) (classes g) it.map it.store h.roled n at r.0 r.1).car

  block-shape : names_as AsBlock (it.map.role at) ≡ Some n → (code : ℕ) × (length : ℕ) × (shape_of (word_at g.words at) ≡ BlockOf code length)
  block-shape named =
      let f = block_fits (word g) (classes g) it.map it.store h.roled n at (block_there (word g) (classes g) it.map it.store h.roled at n named none) in
      (f.kind, f.size, ap (λ (c : Content). shape_from c (word_at g.words at).cdr) f.content)

  pub arrives : (kind : Kind) (p : Parcel) → Survives it registers kind at n → IsParcel g.words at p → Arrives kind p
  arrives AsCons p v (a_block code length is p_is) = absurd (no-cons-block code length v.named is)
  arrives AsCons p v (a_pair is p_is) = subst (Arrives AsCons) (sym p_is) (pair-arrives v is)
  arrives AsCons p v (a_run run is few p_is) = subst (Arrives AsCons) (sym p_is) (run-arrives v run is run.ending is.last is.behind)
  arrives AsBlock p v (a_block code length is p_is) = subst (Arrives AsBlock) (sym p_is) (block-arrives code length v is)
  arrives AsBlock p v (a_pair is p_is) = let b = block-shape v.named in let e = b.2 in absurd (cc)
  arrives AsBlock p v (a_run run is few p_is) =
      let b = block-shape v.named in
      let e = b.2 in
      let some = is.some in
      let c : shape_of (word_at g.words at) ≡ CellShape = ap (λ (a : ℕ). shape_of (word_at g.words a)) (let z : at ≡ at + 0 = omega arith in z) ∙ (is.cells 0 (omega arith)).shape in
      absurd (cc)
