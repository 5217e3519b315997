-- Transport of a compact run, by the flips of its words from the last to the first.
use Rattle.std.proofs.Common.{◌≡◌, ℕ, zero, suc, ◌+◌, ◌<◌, ◌≤◌, ◌⊎◌, inl, inr, true, false, ◌==◌, sym, ◌∙◌, ap, subst, arith, Some, None}
use Rattle.std.proofs.lemmas.Bool.{cases_eq}
use Rattle.lisp_graph.specs.declared.object.Value.TheVariants as V
use Rattle.lisp_meaning.specs.reading.Classes.{Class, region_of, is_old_at, is_live_at}
use Rattle.lisp_meaning.specs.invariants.Fits.{Holds, CellCdr, IsCell, Roled}
use Rattle.lisp_meaning.specs.invariants.Laid.{Shape, ACell, APair, size, role_in, laid}
use Rattle.lisp_meaning.specs.invariants.MovingRun.{Copied, Known, Moving}
use Rattle.lisp_meaning.specs.invariants.Roles.{AsCons, Role, Scratch, Waste, PairHead, Cell, Moved, names_as, owner, as_ref, value_of, RoleMap, cdr_of}
use Rattle.lisp_meaning.specs.machine.State.{Store, object}
use Rattle.lisp_meaning.specs.machine.Maps.{put_at}
use Rattle.lisp_graph.specs.store_word.Words.{Parts}
use Rattle.lisp_graph.specs.store_word.declared.word.CdrCode.{CdrCode}
use Rattle.lisp_graph.specs.store_word.declared.word.CdrCode.TheVariants.{Next as CdrNext, Nil as CdrNil, Normal as CdrNormal}
use Rattle.lisp_graph.specs.store_word.declared.word.Content.TheVariants.{List as ListAt, GcForward}
use Rattle.lisp_meaning.proofs.maps.Frames.{Frame}
use Rattle.lisp_meaning.proofs.layout.Layout.{role_new, role_first, role_else, other_is, was_owned}
use Rattle.lisp_meaning.proofs.layout.ObjectWords.{cell_fits, head_fits, positive, stands_pair, owner_in}
use Rattle.lisp_meaning.proofs.roles.Chains.{name_is}
use Rattle.lisp_meaning.proofs.layout.ObjectCopy.{flip_cell, flip_cell_frame, flip_last, flip_last_frame, flip_pair, flip_pair_frame}

-- One more word of the run has been moved: what is left of the copied ones, and what is known

module _ (W W' : ℕ → Parts) (regions : ℕ → Class) (k k' : RoleMap) (s : Store) (from to j count start : ℕ) (name : ℕ → ℕ) (R : Roled W regions k s)
    (c : Copied W k from to j start name) (f : Frame k k' s s (λ m. m == name j))
    (at : k.at (name j) ≡ from + j) (scratch : (i : ℕ) → i < j → k'.role (to + i) ≡ Scratch)
    (words : (a : ℕ) → (a ≡ from + j → ⊥) → W' a ≡ W a) (away : (i : ℕ) → i < j → to + i ≡ from + j → ⊥) where
  -- the names of the run are different, since they are at different addresses
  distinct : (i : ℕ) → i < j → (name i == name j) ≡ false
  distinct i l = other_is (name i) (name j) (λ (z : name i ≡ name j).
      let x = (cell_fits W regions k s R (name i) (from + i) (start + i) (c.cell i l)).place in
      let y = ap k.at z in omega arith)

  pub copied_still : Copied W' k' from to j start name
  copied_still = record {
    cell = λ i l. f.parts (from + i) (name i) (ap owner (c.cell i l)) (distinct i l) ∙ c.cell i l;
    copy = scratch;
    content = λ i l. ap (λ (u : Parts). u.content) (words (to + i) (away i l)) ∙ c.content i l ∙ sym (ap (λ (u : Parts). u.content) (words (from + i) (λ (z : from + i ≡ from + j). omega arith)));
    code = λ i l. ap (λ (u : Parts). u.cdr) (words (from + i) (λ (z : from + i ≡ from + j). omega arith)) ∙ c.code i l;
    code_there = λ i l. ap (λ (u : Parts). u.cdr) (words (to + i) (away i l)) ∙ c.code_there i l;
  }

  pub known_more : Known k from to (suc j) count start name → names_as AsCons (k'.role (from + j)) ≡ Some (name j) → names_as AsCons (k'.role (to + j)) ≡ Some (name j)
      → ((p q : ℕ) → k'.role (to + j) ≡ Cell p q → q ≡ start + j) → Known k' from to j count start name
  known_more n here there place = record {
    here = λ i l h. here_at i l h (cases_eq i j);
    there = λ i l h. there_at i l h (cases_eq i j);
    place = λ i l h p q e. place_at i l h p q e (cases_eq i j);
  }
    where
      here_at : (i : ℕ) → j ≤ i → i < count → (i ≡ j) ⊎ (i ≡ j → ⊥) → names_as AsCons (k'.role (from + i)) ≡ Some (name i)
      here_at i l h (inl z) = let P : ℕ → Type 0 = λ x. names_as AsCons (k'.role (from + x)) ≡ Some (name x) in subst P (sym z) here
      here_at i l h (inr ne) = f.refine AsCons (from + i) (name i) (n.here i (omega arith) h)

      there_at : (i : ℕ) → j ≤ i → i < count → (i ≡ j) ⊎ (i ≡ j → ⊥) → names_as AsCons (k'.role (to + i)) ≡ Some (name i)
      there_at i l h (inl z) = let P : ℕ → Type 0 = λ x. names_as AsCons (k'.role (to + x)) ≡ Some (name x) in subst P (sym z) there
      there_at i l h (inr ne) = f.refine AsCons (to + i) (name i) (n.there i (omega arith) h)

      place_at : (i : ℕ) → j ≤ i → i < count → (p q : ℕ) → k'.role (to + i) ≡ Cell p q → (i ≡ j) ⊎ (i ≡ j → ⊥) → q ≡ start + i
      place_at i l h p q e (inl z) = place p q (ap (λ (x : ℕ). k'.role (to + x)) (sym z) ∙ e) ∙ ap (λ (x : ℕ). start + x) (sym z)
      place_at i l h p q e (inr ne) = go (f.cells (to + i) p q e)
        where
          go : (k.role (to + i) ≡ Cell p q) ⊎ (names_as AsCons (k.role (to + i)) ≡ None) → q ≡ start + i
          go (inl x) = n.place i (omega arith) h p q x
          go (inr x) = let y = n.there i (omega arith) h in cc

-- the roles of the laid map, for one cell that was at a
module _ (k : RoleMap) (n a b i : ℕ) (to : Shape) (ra : k.role a ≡ Cell n i) (scratch : (j : ℕ) → j < size to → k.role (b + j) ≡ Scratch) where
  only : (j : ℕ) → j < 1 → owner (k.role (a + j)) ≡ Some n
  only j l = ap (λ (c : ℕ). owner (k.role c)) (let z : a + j ≡ a = omega arith in z) ∙ ap owner ra

  pub at_old : (laid k n a 1 b to (Moved AsCons n) Waste (k.age a)).role a ≡ Moved AsCons n
  at_old = role_first k n a 1 b to (Moved AsCons n) Waste (k.age a) only scratch (omega arith)

  pub at_new : (laid k n a 1 b to (Moved AsCons n) Waste (k.age a)).role b ≡ role_in to n 0
  at_new = ap (laid k n a 1 b to (Moved AsCons n) Waste (k.age a)).role (let z : b ≡ b + 0 = omega arith in z) ∙ role_new k n a 1 b to (Moved AsCons n) Waste (k.age a) only scratch 0 (positive to)

  pub at_else : (c : ℕ) → (c < b) ⊎ (b + size to ≤ c) → (c ≡ a → ⊥) → (laid k n a 1 b to (Moved AsCons n) Waste (k.age a)).role c ≡ k.role c
  at_else c x ne = role_else k n a 1 b to (Moved AsCons n) Waste (k.age a) only scratch c (out x) (λ y. ne (let l = y.0 in let h = y.1 in omega arith))
    where
      out : (c < b) ⊎ (b + size to ≤ c) → (b ≤ c) × (c < b + size to) → ⊥
      out (inl x) y = let l = y.0 in omega arith
      out (inr x) y = let h = y.1 in omega arith

-- the run with one more cell moved
abbrev pub run_map : RoleMap → ℕ → ℕ → ℕ → ℕ → (ℕ → ℕ) → RoleMap
run_map k from to j start name = laid k (name j) (from + j) 1 (to + j) (ACell (start + j)) (Moved AsCons (name j)) Waste (k.age (from + j))

module _ (W W' : ℕ → Parts) (regions : ℕ → Class) (k : RoleMap) (s : Store) (from to j count start : ℕ) (name : ℕ → ℕ)
    (m : Moving W regions k s from to (suc j) count start name) (inside : suc j < count)
    (forward : (W' (from + j)).content ≡ GcForward (to + j)) (words : (a : ℕ) → (a ≡ from + j → ⊥) → W' a ≡ W a) where
  pub ra : k.role (from + j) ≡ Cell (name j) (start + j)
  ra = m.copied.cell j (omega arith)

  rb : k.role (to + j) ≡ Scratch
  rb = m.copied.copy j (omega arith)

  was : IsCell k s (from + j) (W (from + j)) (name j) (start + j)
  was = cell_fits W regions k s m.roled (name j) (from + j) (start + j) ra

  next : CellCdr k.role (to + j) (start + j) (cdr_of (object s (name j)).body) (W (to + j)).cdr
  next =
      let P : CdrCode → Type 0 = λ x. CellCdr k.role (from + j) (start + j) (cdr_of (object s (name j)).body) x in
      let Q : CdrCode → Type 0 = λ x. CellCdr k.role (to + j) (start + j) (cdr_of (object s (name j)).body) x in
      let c = subst P (m.copied.code j (omega arith)) was.cdr in
      let e : suc (from + j) ≡ from + suc j = omega arith in
      let d : suc (to + j) ≡ to + suc j = omega arith in
      let same : c.0 ≡ name (suc j) = name_is c.0 (name (suc j)) (sym c.1 ∙ ap (λ (i : ℕ). names_as AsCons (k.role i)) e ∙ m.known.here (suc j) (omega arith) inside) in
      subst Q (sym (m.copied.code_there j (omega arith))) (
        c.0,
        ap (λ (i : ℕ). names_as AsCons (k.role i)) d ∙ m.known.there (suc j) (omega arith) inside ∙ ap Some (sym same),
        c.2,
        m.near j inside,
        λ p i x. m.known.place (suc j) (omega arith) inside p i (ap k.role (sym d) ∙ x) ∙ (let z : start + suc j ≡ suc (start + j) = omega arith in z),
      )

  pub step_frame : Frame k (laid k (name j) (from + j) 1 (to + j) (ACell (start + j)) (Moved AsCons (name j)) Waste (k.age (from + j))) s s (λ p. p == name j)
  step_frame = flip_cell_frame W W' regions k s m.roled (name j) (from + j) (to + j) was.used (m.old j (omega arith)) (m.live j (omega arith)) forward words
      (start + j) ra rb (m.copied.content j (omega arith)) next

  step_roled : Roled W' regions (laid k (name j) (from + j) 1 (to + j) (ACell (start + j)) (Moved AsCons (name j)) Waste (k.age (from + j))) s
  step_roled = flip_cell W W' regions k s m.roled (name j) (from + j) (to + j) was.used (m.old j (omega arith)) (m.live j (omega arith)) forward words
      (start + j) ra rb (m.copied.content j (omega arith)) next

  pub scratch_one : (i : ℕ) → i < 1 → k.role (to + j + i) ≡ Scratch
  scratch_one i l = ap k.role (let z : to + j + i ≡ to + j = omega arith in z) ∙ rb

  below : Copied W k from to j start name
  below = let c = m.copied in record {
    cell = λ i l. c.cell i (omega arith);
    copy = λ i l. c.copy i (omega arith);
    content = λ i l. c.content i (omega arith);
    code = λ i l. c.code i (omega arith);
    code_there = λ i l. c.code_there i (omega arith);
  }

  away : (i : ℕ) → i < j → to + i ≡ from + j → ⊥
  away i l z = let x = ap k.role z in let y = m.copied.copy i (omega arith) in let w = ra in cc

  scratch_below : (i : ℕ) → i < j → (laid k (name j) (from + j) 1 (to + j) (ACell (start + j)) (Moved AsCons (name j)) Waste (k.age (from + j))).role (to + i) ≡ Scratch
  scratch_below i l = at_else k (name j) (from + j) (to + j) (start + j) (ACell (start + j)) ra scratch_one (to + i) (inl (omega arith)) (away i l) ∙ m.copied.copy i (omega arith)

  -- one cell further
  pub run_step : Moving W' regions (laid k (name j) (from + j) 1 (to + j) (ACell (start + j)) (Moved AsCons (name j)) Waste (k.age (from + j))) s from to j count start name
  run_step =
      let there = at_new k (name j) (from + j) (to + j) (start + j) (ACell (start + j)) ra scratch_one in
      record {
        roled = step_roled;
        copied = copied_still W W' regions k _ s from to j count start name m.roled below step_frame was.place scratch_below words away;
        known = known_more W W' regions k _ s from to j count start name m.roled below step_frame was.place scratch_below words away m.known
            (ap (names_as AsCons) (at_old k (name j) (from + j) (to + j) (start + j) (ACell (start + j)) ra scratch_one)) (ap (names_as AsCons) there)
            (λ p q e. (let x : Cell (name j) (start + j) ≡ Cell p q = sym there ∙ e in cc));
        old = m.old;
        live = m.live;
        near = m.near;
      }

-- all cells, one after another
abbrev pub gc_forward : ℕ → Parts
gc_forward b = record { cdr = CdrNext; content = GcForward b }

unfoldable pub forwarded : (ℕ → Parts) → ℕ → ℕ → ℕ → (ℕ → Parts)
forwarded W from to zero = W
forwarded W from to (suc j) = forwarded (put_at W (from + j) (gc_forward (to + j))) from to j

-- How a run begins to move: its last word, by the way in which it ends

module _ (W W' : ℕ → Parts) (regions : ℕ → Class) (k : RoleMap) (s : Store) (R : Roled W regions k s) (from to left start : ℕ) (name : ℕ → ℕ)
    (copied : Copied W k from to left start name)
    (old : (i : ℕ) → i ≤ left → is_old_at regions (from + i) ≡ true) (live : (i : ℕ) → i ≤ left → is_live_at regions (to + i) ≡ true)
    (near : (i : ℕ) → i < left → region_of (suc (to + i)) ≡ region_of (to + i))
    (forward : (W' (from + left)).content ≡ GcForward (to + left)) (words : (a : ℕ) → (a ≡ from + left → ⊥) → W' a ≡ W a) where
  none_known : Known k from to (suc left) (suc left) start name
  none_known = record { here = λ i l h. absurd (omega arith); there = λ i l h. absurd (omega arith); place = λ i l h p q e. absurd (omega arith) }

  apart : (i : ℕ) → i < left → (r : Role) → k.role (from + left) ≡ r → (r ≡ Scratch → ⊥) → to + i ≡ from + left → ⊥
  apart i l r e ne z = ne (sym e ∙ ap k.role (sym z) ∙ copied.copy i l)

  begin : (k' : RoleMap) → Roled W' regions k' s → Frame k k' s s (λ m. m == name left) → k.at (name left) ≡ from + left
      → ((i : ℕ) → i < left → k'.role (to + i) ≡ Scratch) → ((i : ℕ) → i < left → to + i ≡ from + left → ⊥)
      → names_as AsCons (k'.role (from + left)) ≡ Some (name left) → names_as AsCons (k'.role (to + left)) ≡ Some (name left)
      → ((p q : ℕ) → k'.role (to + left) ≡ Cell p q → q ≡ start + left)
      → Moving W' regions k' s from to left (suc left) start name
  begin k' R' f at scratch away here there place = record {
    roled = R';
    copied = copied_still W W' regions k k' s from to left (suc left) start name R copied f at scratch words away;
    known = known_more W W' regions k k' s from to left (suc left) start name R copied f at scratch words away none_known here there place;
    old = λ i l. old i (omega arith);
    live = λ i l. live i (omega arith);
    near = λ i l. near i (omega arith);
  }

  -- with a cell coded nil
  module _ (ra : k.role (from + left) ≡ Cell (name left) (start + left)) (rb : k.role (to + left) ≡ Scratch)
      (copy : (W (to + left)).content ≡ (W (from + left)).content) (code : (W (from + left)).cdr ≡ CdrNil) (code_there : (W (to + left)).cdr ≡ CdrNil) where
    nil_was : IsCell k s (from + left) (W (from + left)) (name left) (start + left)
    nil_was = cell_fits W regions k s R (name left) (from + left) (start + left) ra

    nil_next : CellCdr k.role (to + left) (start + left) (cdr_of (object s (name left)).body) (W (to + left)).cdr
    nil_next =
        let P : CdrCode → Type 0 = λ x. CellCdr k.role (from + left) (start + left) (cdr_of (object s (name left)).body) x in
        let Q : CdrCode → Type 0 = λ x. CellCdr k.role (to + left) (start + left) (cdr_of (object s (name left)).body) x in
        let e : cdr_of (object s (name left)).body ≡ Some V.Nil = subst P code nil_was.cdr in
        subst Q (sym code_there) e

    nil_scratch : (i : ℕ) → i < 1 → k.role (to + left + i) ≡ Scratch
    nil_scratch i l = ap k.role (let z : to + left + i ≡ to + left = omega arith in z) ∙ rb

    pub nil_frame : Frame k (laid k (name left) (from + left) 1 (to + left) (ACell (start + left)) (Moved AsCons (name left)) Waste (k.age (from + left))) s s (λ p. p == name left)
    nil_frame = flip_cell_frame W W' regions k s R (name left) (from + left) (to + left) nil_was.used (old left (omega arith)) (live left (omega arith)) forward words (start + left) ra rb copy nil_next

    pub nil_begins : Moving W' regions (laid k (name left) (from + left) 1 (to + left) (ACell (start + left)) (Moved AsCons (name left)) Waste (k.age (from + left))) s from to left (suc left) start name
    nil_begins =
        let there = at_new k (name left) (from + left) (to + left) (start + left) (ACell (start + left)) ra nil_scratch in
        let away : (i : ℕ) → i < left → to + i ≡ from + left → ⊥ = λ i l. apart i l (Cell (name left) (start + left)) ra (λ e. cc) in
        begin _ (flip_cell W W' regions k s R (name left) (from + left) (to + left) nil_was.used (old left (omega arith)) (live left (omega arith)) forward words (start + left) ra rb copy nil_next)
        nil_frame nil_was.place
        (λ i l. at_else k (name left) (from + left) (to + left) (start + left) (ACell (start + left)) ra nil_scratch (to + i) (inl (omega arith)) (away i l) ∙ copied.copy i l) away
        (ap (names_as AsCons) (at_old k (name left) (from + left) (to + left) (start + left) (ACell (start + left)) ra nil_scratch)) (ap (names_as AsCons) there)
        (λ p q e. (let x : Cell (name left) (start + left) ≡ Cell p q = sym there ∙ e in cc))

  -- before a forward: the last cell becomes a pair, whose cdr is the list at an address of the same name
  module _ (ra : k.role (from + left) ≡ Cell (name left) (start + left)) (rb : k.role (to + left) ≡ Scratch) (rc : k.role (suc (to + left)) ≡ Scratch)
      (near_last : region_of (suc (to + left)) ≡ region_of (to + left)) (copy : (W (to + left)).content ≡ (W (from + left)).content)
      (code : (W (from + left)).cdr ≡ CdrNext) (code1 : (W (to + left)).cdr ≡ CdrNormal) (code2 : (W (suc (to + left))).cdr ≡ CdrNext)
      (target follower : ℕ) (follows : names_as AsCons (k.role (suc (from + left))) ≡ Some follower) (list : (W (suc (to + left))).content ≡ ListAt target)
      (final : names_as AsCons (k.role target) ≡ Some follower) where
    last_was : IsCell k s (from + left) (W (from + left)) (name left) (start + left)
    last_was = cell_fits W regions k s R (name left) (from + left) (start + left) ra

    last_cdr : Holds k.role (W (suc (to + left))).content (cdr_of (object s (name left)).body)
    last_cdr =
        let P : CdrCode → Type 0 = λ x. CellCdr k.role (from + left) (start + left) (cdr_of (object s (name left)).body) x in
        let c = subst P code last_was.cdr in
        (V.Ref c.0, c.2, ap (value_of k.role) list ∙ ap as_ref (final ∙ sym follows ∙ c.1))

    last_scratch : (i : ℕ) → i < 2 → k.role (to + left + i) ≡ Scratch
    last_scratch zero l = ap k.role (let z : to + left + 0 ≡ to + left = omega arith in z) ∙ rb
    last_scratch (suc zero) l = ap k.role (let z : to + left + 1 ≡ suc (to + left) = omega arith in z) ∙ rc
    last_scratch (suc (suc i)) l = absurd (omega arith)

    pub last_frame : Frame k (laid k (name left) (from + left) 1 (to + left) APair (Moved AsCons (name left)) Waste (k.age (from + left))) s s (λ p. p == name left)
    last_frame = flip_last_frame W W' regions k s R (name left) (from + left) (to + left) last_was.used (old left (omega arith)) (live left (omega arith)) forward words (start + left) ra rb rc near_last copy code1 code2 last_cdr

    pub last_begins : Moving W' regions (laid k (name left) (from + left) 1 (to + left) APair (Moved AsCons (name left)) Waste (k.age (from + left))) s from to left (suc left) start name
    last_begins =
        let there = at_new k (name left) (from + left) (to + left) (start + left) APair ra last_scratch in
        let away : (i : ℕ) → i < left → to + i ≡ from + left → ⊥ = λ i l. apart i l (Cell (name left) (start + left)) ra (λ e. cc) in
        begin _ (flip_last W W' regions k s R (name left) (from + left) (to + left) last_was.used (old left (omega arith)) (live left (omega arith)) forward words (start + left) ra rb rc near_last copy code1 code2 last_cdr)
        last_frame last_was.place
        (λ i l. at_else k (name left) (from + left) (to + left) (start + left) APair ra last_scratch (to + i) (inl (omega arith)) (away i l) ∙ copied.copy i l) away
        (ap (names_as AsCons) (at_old k (name left) (from + left) (to + left) (start + left) APair ra last_scratch)) (ap (names_as AsCons) there)
        (λ p q e. (let x : PairHead (name left) ≡ Cell p q = sym there ∙ e in cc))

  -- with the pair that follows the last cell
  module _ (ra : k.role (from + left) ≡ PairHead (name left)) (rb : k.role (to + left) ≡ Scratch) (rc : k.role (suc (to + left)) ≡ Scratch)
      (near_last : region_of (suc (to + left)) ≡ region_of (to + left)) (copy : W (to + left) ≡ W (from + left)) (copy2 : W (suc (to + left)) ≡ W (suc (from + left))) where
    pair_only : (j : ℕ) → j < 2 → owner (k.role (from + left + j)) ≡ Some (name left)
    pair_only j l = ap owner ((stands_pair W regions k s R (name left) (from + left) ra).only j l) ∙ owner_in APair (name left) j

    pair_scratch : (i : ℕ) → i < 2 → k.role (to + left + i) ≡ Scratch
    pair_scratch zero l = ap k.role (let z : to + left + 0 ≡ to + left = omega arith in z) ∙ rb
    pair_scratch (suc zero) l = ap k.role (let z : to + left + 1 ≡ suc (to + left) = omega arith in z) ∙ rc
    pair_scratch (suc (suc i)) l = absurd (omega arith)

    pub pair_frame : Frame k (laid k (name left) (from + left) 2 (to + left) APair (Moved AsCons (name left)) Waste (k.age (from + left))) s s (λ p. p == name left)
    pair_frame = flip_pair_frame W W' regions k s R (name left) (from + left) (to + left) (head_fits W regions k s R (name left) (from + left) ra).used (old left (omega arith)) (live left (omega arith)) forward words ra rb rc near_last copy copy2

    pub pair_begins : Moving W' regions (laid k (name left) (from + left) 2 (to + left) APair (Moved AsCons (name left)) Waste (k.age (from + left))) s from to left (suc left) start name
    pair_begins =
        let f = head_fits W regions k s R (name left) (from + left) ra in
        let there : (laid k (name left) (from + left) 2 (to + left) APair (Moved AsCons (name left)) Waste (k.age (from + left))).role (to + left) ≡ PairHead (name left) =
        ap (laid k (name left) (from + left) 2 (to + left) APair (Moved AsCons (name left)) Waste (k.age (from + left))).role (let z : to + left ≡ to + left + 0 = omega arith in z)
        ∙ role_new k (name left) (from + left) 2 (to + left) APair (Moved AsCons (name left)) Waste (k.age (from + left)) pair_only pair_scratch 0 (omega arith) in
        let here : (laid k (name left) (from + left) 2 (to + left) APair (Moved AsCons (name left)) Waste (k.age (from + left))).role (from + left) ≡ Moved AsCons (name left) =
        role_first k (name left) (from + left) 2 (to + left) APair (Moved AsCons (name left)) Waste (k.age (from + left)) pair_only pair_scratch (omega arith) in
        let away : (i : ℕ) → i < left → to + i ≡ from + left → ⊥ = λ i l. apart i l (PairHead (name left)) ra (λ e. cc) in
        begin _ (flip_pair W W' regions k s R (name left) (from + left) (to + left) f.used (old left (omega arith)) (live left (omega arith)) forward words ra rb rc near_last copy copy2)
        pair_frame f.place
        (λ i l. role_else k (name left) (from + left) 2 (to + left) APair (Moved AsCons (name left)) Waste (k.age (from + left)) pair_only pair_scratch (to + i)
        (λ x. let lo = x.0 in omega arith)
        (λ x. let y = was_owned k (name left) (from + left) 2 (to + left) APair (Moved AsCons (name left)) Waste (k.age (from + left)) pair_only pair_scratch (to + i) x in
        let z = ap owner (copied.copy i l) in cc)
        ∙ copied.copy i l) away
        (ap (names_as AsCons) here) (ap (names_as AsCons) there)
        (λ p q e. (let x : PairHead (name left) ≡ Cell p q = sym there ∙ e in cc))
