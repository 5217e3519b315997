-- The whole transport of a compact run, from the invariant to the invariant: words placed and copied, and each cell's GC-FORWARD written.
use Rattle.std.proofs.Common.{◌≡◌, ℕ, zero, suc, ◌+◌, ◌*◌, ◌-◌, ◌<◌, ◌≤◌, ◌⊎◌, inl, inr, true, ◌==◌, refl, sym, ◌∙◌, ap, subst, arith, Some, List}
use Rattle.std.proofs.lemmas.Bool.{cases_eq, cases_lt}
use Rattle.lisp_graph.specs.store_word.Words.{Parts}
use Rattle.lisp_graph.specs.Totals.{if_true}
use Rattle.lisp_meaning.specs.machine.Maps.{put_at}
use Rattle.lisp_meaning.specs.machine.State.{object, in_use, survivor}
use Rattle.lisp_meaning.specs.reading.Image.{Image, word, Live, Old}
use Rattle.lisp_meaning.specs.reading.Classes.{class_at, region_of, classes}
use Rattle.lisp_meaning.specs.reading.Marks.{Marks}
use Rattle.lisp_meaning.specs.invariants.Roles.{AsCons, Role, Blank, Scratch, Waste, Moved, names_as, owner, RoleMap}
use Rattle.lisp_meaning.specs.invariants.Fits.{Roled}
use Rattle.lisp_meaning.specs.invariants.ChargesIn.{is_cell, is_of_husk}
use Rattle.lisp_meaning.specs.invariants.Invariant.{MemoryInvariant}
use Rattle.lisp_meaning.specs.invariants.Interpretation.{Interpretation}
use Rattle.lisp_meaning.specs.invariants.Laid.{Shape, size, role_in, scratched, laid}
use Rattle.lisp_meaning.specs.invariants.MovingRun.{Moving}
use Rattle.lisp_meaning.proofs.maps.LaterMaps.{RunLater}
use Rattle.lisp_meaning.specs.invariants.Placed.{Placed, Rehomed}
use Rattle.lisp_meaning.proofs.maps.Puts.{put_at-same, put_at-other}
use Rattle.lisp_meaning.proofs.maps.Frames.{Frame}
use Rattle.lisp_meaning.proofs.layout.Layout.{between_which, role_new, role_rest, role_else}
use Rattle.lisp_meaning.proofs.layout.ObjectWords.{Standing, positive, owner_in}
use Rattle.lisp_meaning.proofs.layout.Placement.{opened, ground, scratch_role, other_role, ground_frame, class_else}
use Rattle.lisp_meaning.proofs.roles.UsedWords.{NewRoles}
use Rattle.lisp_meaning.proofs.reading.Husks.{owned_no_husk, named_no_husk}
use Rattle.lisp_meaning.proofs.sums.MoveSums.{Moves, moves_then, moves_written, moves_one, moves_as}
use Rattle.lisp_meaning.proofs.invariant.AfterTransport.{Carried, kept_moved, less_old}
use Rattle.lisp_meaning.proofs.invariant.ObjectTransport.{not_placed, old_condemned, old_area}
use Rattle.lisp_meaning.proofs.layout.RunCopy.{gc_forward, forwarded}
use Rattle.lisp_meaning.proofs.layout.RunMoves.{RunDone, run_done}

-- Words after the forwards

pub forwarded-else : (left : ℕ) (W : ℕ → Parts) (from to a : ℕ) → ((i : ℕ) → i < left → a ≡ from + i → ⊥) → forwarded W from to left a ≡ W a
unfolding forwarded
forwarded-else zero W from to a out = refl
forwarded-else (suc j) W from to a out =
    forwarded-else j (put_at W (from + j) (gc_forward (to + j))) from to a (λ i l. out i (omega arith)) ∙ put_at-other W (from + j) (gc_forward (to + j)) a (out j (omega arith))

pub forwarded-at : (left : ℕ) (W : ℕ → Parts) (from to i : ℕ) → i < left → forwarded W from to left (from + i) ≡ gc_forward (to + i)
unfolding forwarded
forwarded-at zero W from to i l = absurd (omega arith)
forwarded-at (suc j) W from to i l = go (cases_eq i j) (λ (q : i < j). forwarded-at j (put_at W (from + j) (gc_forward (to + j))) from to i q)
  where
    go : (i ≡ j) ⊎ (i ≡ j → ⊥) → (i < j → forwarded (put_at W (from + j) (gc_forward (to + j))) from to j (from + i) ≡ gc_forward (to + i)) → forwarded (put_at W (from + j) (gc_forward (to + j))) from to j (from + i) ≡ gc_forward (to + i)
    go (inl z) before =
        forwarded-else j (put_at W (from + j) (gc_forward (to + j))) from to (from + i) (λ m h e. (let x : i < j = omega arith in omega arith))
        ∙ put_at-same W (from + j) (gc_forward (to + j)) (from + i) (ap (λ (x : ℕ). from + x) z) ∙ ap (λ (x : ℕ). gc_forward (to + x)) (sym z)
    go (inr ne) before = before (omega arith)

module _ (g g1 : Image) (it : Interpretation) (h : MemoryInvariant g it) (from to left start : ℕ) (name : ℕ → ℕ) (old new : Shape) (area level was : ℕ)
    (p : Placed g g1 to (left + size new) area level) (c : Rehomed g g1 area was level (3 * left + (object it.store (name left)).charge)) (ws : List Parts) (marks : Marks (record g1 { words = ws }))
    -- the names of the run, and their addresses
    (used : (i : ℕ) → i ≤ left → in_use it.store (name i)) (place : (i : ℕ) → i ≤ left → it.map.at (name i) ≡ from + i) (near : (i : ℕ) → i ≤ left → region_of (from + i) ≡ region_of from)
    (own : (i : ℕ) → i < left → owner (it.map.role (from + i)) ≡ Some (name i)) (st : Standing it.map (name left) (from + left) old)
    (there : class_at (classes g) from ≡ record { area = area; level = was; standing = Old }) (is_bound : (i : ℕ) → i ≤ left → it.aim.bound (name i) ≡ true)
    -- the last word's move
    (begins : Moving (put_at (word g1) (from + left) (gc_forward (to + left))) (classes g1)
    (laid (scratched it.map to (left + size new)) (name left) (from + left) (size old) (to + left) new (Moved AsCons (name left)) Waste (it.map.age (from + left))) it.store from to left (suc left) start name)
    (f : Frame (scratched it.map to (left + size new)) (laid (scratched it.map to (left + size new)) (name left) (from + left) (size old) (to + left) new (Moved AsCons (name left)) Waste (it.map.age (from + left))) it.store it.store (λ m. m == name left))
    -- the forwards
    (forward : (i : ℕ) → i ≤ left → word (record g1 { words = ws }) (from + i) ≡ gc_forward (to + i))
    (others : (a : ℕ) → ((i : ℕ) → i ≤ left → a ≡ from + i → ⊥) → word (record g1 { words = ws }) a ≡ word g1 a)
    (survives : survivor it.top it.aim.what was ≡ level) (low : level < suc it.top) (pays : size new + if_true (is_cell (role_in new (name left) 0)) 2 ≤ (object it.store (name left)).charge) where
  count : ℕ
  count = left + size new

  outside : (i : ℕ) → ((to ≤ i) × (i < to + (left + size new)) → ⊥) → (scratched it.map to (left + size new)).role i ≡ it.map.role i
  outside = other_role g g1 it h to (left + size new) area level p

  inside : (i : ℕ) → (to ≤ i) × (i < to + (left + size new)) → (scratched it.map to (left + size new)).role i ≡ Scratch
  inside = scratch_role g g1 it h to (left + size new) area level p

  apart : (i n : ℕ) → owner (it.map.role i) ≡ Some n → (to ≤ i) × (i < to + (left + size new)) → ⊥
  apart = not_placed g g1 it h to (left + size new) area level p

  owned : (j : ℕ) → j < size old → owner (it.map.role (from + left + j)) ≡ Some (name left)
  owned j l = ap owner (st.only j l) ∙ owner_in old (name left) j

  only : (j : ℕ) → j < size old → owner ((scratched it.map to (left + size new)).role (from + left + j)) ≡ Some (name left)
  only j l = ap owner (outside (from + left + j) (apart (from + left + j) (name left) (owned j l))) ∙ owned j l

  written : (j : ℕ) → j < size new → (scratched it.map to (left + size new)).role (to + left + j) ≡ Scratch
  written j l = inside (to + left + j) (omega arith, omega arith)

  k2 : RoleMap
  k2 = laid (scratched it.map to (left + size new)) (name left) (from + left) (size old) (to + left) new (Moved AsCons (name left)) Waste (it.map.age (from + left))

  k2_at : (laid (scratched it.map to (left + size new)) (name left) (from + left) (size old) (to + left) new (Moved AsCons (name left)) Waste (it.map.age (from + left))).at (name left) ≡ to + left
  k2_at = put_at-same it.map.at (name left) (to + left) (name left) refl

  k2_at_else : (m : ℕ) → (m ≡ name left → ⊥) → (laid (scratched it.map to (left + size new)) (name left) (from + left) (size old) (to + left) new (Moved AsCons (name left)) Waste (it.map.age (from + left))).at m ≡ it.map.at m
  k2_at_else m ne = put_at-other it.map.at (name left) (to + left) m ne

  k2_new : (j : ℕ) → j < size new → (laid (scratched it.map to (left + size new)) (name left) (from + left) (size old) (to + left) new (Moved AsCons (name left)) Waste (it.map.age (from + left))).role (to + left + j) ≡ role_in new (name left) j
  k2_new j l = role_new (scratched it.map to (left + size new)) (name left) (from + left) (size old) (to + left) new (Moved AsCons (name left)) Waste (it.map.age (from + left)) only written j l

  k2_else : (a : ℕ) → ((to + left ≤ a) × (a < to + left + size new) → ⊥) → ((from + left ≤ a) × (a < from + left + size old) → ⊥)
      → (laid (scratched it.map to (left + size new)) (name left) (from + left) (size old) (to + left) new (Moved AsCons (name left)) Waste (it.map.age (from + left))).role a ≡ (scratched it.map to (left + size new)).role a
  k2_else a x y = role_else (scratched it.map to (left + size new)) (name left) (from + left) (size old) (to + left) new (Moved AsCons (name left)) Waste (it.map.age (from + left)) only written a x y

  k2_rest : (a : ℕ) → (from + left ≤ a) × (a < from + left + size old) → (a ≡ from + left → ⊥)
      → (laid (scratched it.map to (left + size new)) (name left) (from + left) (size old) (to + left) new (Moved AsCons (name left)) Waste (it.map.age (from + left))).role a ≡ Waste
  k2_rest a x ne = role_rest (scratched it.map to (left + size new)) (name left) (from + left) (size old) (to + left) new (Moved AsCons (name left)) Waste (it.map.age (from + left)) only written a x ne

  old_class : (i : ℕ) → i ≤ left → class_at (classes g) (from + i) ≡ record { area = area; level = was; standing = Old }
  old_class i l = ap (classes g) (near i l) ∙ there

  old_class1 : (i : ℕ) → i ≤ left → class_at (classes g1) (from + i) ≡ record { area = area; level = was; standing = Old }
  old_class1 i l =
      ap (class_at (classes g1)) (sym (place i l)) ∙ class_else g g1 it h to (left + size new) area level p (name i) (used i l) ∙ ap (class_at (classes g)) (place i l) ∙ old_class i l

  new_class1 : (i : ℕ) → i ≤ left → class_at (classes g1) (to + i) ≡ record { area = area; level = level; standing = Live }
  new_class1 i l = ap (classes g1) (p.near i (let z = positive new in omega arith)) ∙ p.class_there

  d : RunDone (forwarded (put_at (word g1) (from + left) (gc_forward (to + left))) from to left) (classes g1)
      (laid (scratched it.map to (left + size new)) (name left) (from + left) (size old) (to + left) new (Moved AsCons (name left)) Waste (it.map.age (from + left))) it.store from to left (suc left) start name
      (record { area = area; level = was; standing = Old }) (record { area = area; level = level; standing = Live })
  d = run_done left (put_at (word g1) (from + left) (gc_forward (to + left))) (classes g1) _ it.store from to (suc left) start name _ _ (omega arith) h.names (λ i l. old_class1 i (omega arith)) (λ i l. new_class1 i (omega arith)) begins

  words : (a : ℕ) → word (record g1 { words = ws }) a ≡ forwarded (put_at (word g1) (from + left) (gc_forward (to + left))) from to left a
  words a = go (cases_lt a from) (cases_lt a (from + suc left))
    where
      out : (a < from) ⊎ (from + suc left ≤ a) → (i : ℕ) → i ≤ left → a ≡ from + i → ⊥
      out (inl l) i q e = omega arith
      out (inr l) i q e = omega arith

      beyond : (a < from) ⊎ (from + suc left ≤ a) → word (record g1 { words = ws }) a ≡ forwarded (put_at (word g1) (from + left) (gc_forward (to + left))) from to left a
      beyond x =
          others a (out x)
          ∙ sym (forwarded-else left (put_at (word g1) (from + left) (gc_forward (to + left))) from to a (λ i l. out x i (omega arith)) ∙ put_at-other (word g1) (from + left) (gc_forward (to + left)) a (out x left (omega arith)))

      at : (i : ℕ) → a ≡ from + i → i ≤ left → (i ≡ left) ⊎ (i ≡ left → ⊥) → word (record g1 { words = ws }) a ≡ forwarded (put_at (word g1) (from + left) (gc_forward (to + left))) from to left a
      at i e l (inl z) =
          ap (word (record g1 { words = ws })) e ∙ forward i l
          ∙ sym (forwarded-else left (put_at (word g1) (from + left) (gc_forward (to + left))) from to a (λ m q x. (let y : m < left = q in omega arith))
          ∙ put_at-same (word g1) (from + left) (gc_forward (to + left)) a (e ∙ ap (λ (x : ℕ). from + x) z) ∙ ap (λ (x : ℕ). gc_forward (to + x)) (sym z))
      at i e l (inr ne) =
          ap (word (record g1 { words = ws })) e ∙ forward i l
          ∙ sym (ap (forwarded (put_at (word g1) (from + left) (gc_forward (to + left))) from to left) e ∙ forwarded-at left (put_at (word g1) (from + left) (gc_forward (to + left))) from to i (omega arith))

      go : (a < from) ⊎ (from ≤ a) → (a < from + suc left) ⊎ (from + suc left ≤ a) → word (record g1 { words = ws }) a ≡ forwarded (put_at (word g1) (from + left) (gc_forward (to + left))) from to left a
      go (inl l) t = beyond (inl l)
      go (inr l) (inr q) = beyond (inr q)
      go (inr l) (inl q) = at (a - from) (omega arith) (omega arith) (cases_eq (a - from) left)

  roled : Roled (word (record g1 { words = ws })) (classes g1) d.map it.store
  roled = let P : (ℕ → Parts) → Type 0 = λ W. Roled W (classes g1) d.map it.store in subst P (λ i a. (sym (words a)) i) d.moving.roled

  -- a word that has a name is neither blank nor only written
  named_not : (r : Role) (n : ℕ) → names_as AsCons r ≡ Some n → (r ≡ Blank → ⊥) × (r ≡ Scratch → ⊥)
  named_not r n e = (λ z. (let x = ap (names_as AsCons) z in cc), λ z. (let x = ap (names_as AsCons) z in cc))

  owned_not : (r : Role) (n : ℕ) → owner r ≡ Some n → (r ≡ Blank → ⊥) × (r ≡ Scratch → ⊥)
  owned_not r n e = (λ z. (let x = ap owner z in cc), λ z. (let x = ap owner z in cc))

  -- what is neither in the run nor in its copy
  beyond : (a : ℕ) → ((i : ℕ) → i < left → a ≡ from + i → ⊥) → ((i : ℕ) → i < left → a ≡ to + i → ⊥) → d.map.role a ≡ k2.role a
  unfolding k2
  beyond a x y = d.elsewhere a x y

  roles : NewRoles it.map d.map to (left + size new)
  unfolding k2
  roles = record { inside = λ a l q. new_at a (a - to) (omega arith) (omega arith) (cases_lt (a - to) (suc left)); outside = λ a x. old_at a x (between_which from (suc left) a) (between_which (from + left) (size old) a) }
    where
      new_at : (a i : ℕ) → a ≡ to + i → i < left + size new → (i < suc left) ⊎ (suc left ≤ i) → (d.map.role a ≡ Blank → ⊥) × (d.map.role a ≡ Scratch → ⊥)
      new_at a i e l (inl q) = named_not (d.map.role a) (name i) (ap (λ (x : ℕ). names_as AsCons (d.map.role x)) e ∙ d.moving.known.there i (omega arith) q)
      new_at a i e l (inr q) =
          let z : a ≡ to + left + (i - left) = omega arith in
          let there : (laid (scratched it.map to (left + size new)) (name left) (from + left) (size old) (to + left) new (Moved AsCons (name left)) Waste (it.map.age (from + left))).role a ≡ role_in new (name left) (i - left) =
          ap (laid (scratched it.map to (left + size new)) (name left) (from + left) (size old) (to + left) new (Moved AsCons (name left)) Waste (it.map.age (from + left))).role z ∙ k2_new (i - left) (omega arith) in
          let same = beyond a (λ m y w. apart a (name m) (ap (λ (x : ℕ). owner (it.map.role x)) w ∙ own m y) (omega arith, omega arith)) (λ m y w. omega arith) in
          owned_not (d.map.role a) (name left) (ap owner (same ∙ there) ∙ owner_in new (name left) (i - left))

      old_at : (a : ℕ) → ((to ≤ a) × (a < to + (left + size new)) → ⊥) → ((from ≤ a) × (a < from + suc left)) ⊎ ((from ≤ a) × (a < from + suc left) → ⊥)
          → ((from + left ≤ a) × (a < from + left + size old)) ⊎ ((from + left ≤ a) × (a < from + left + size old) → ⊥)
          → (d.map.role a ≡ it.map.role a) ⊎ ((it.map.role a ≡ Blank → ⊥) × (d.map.role a ≡ Blank → ⊥) × (d.map.role a ≡ Scratch → ⊥))
      old_at a x (inl y) t =
          let l = y.0 in let q = y.1 in
          let e : a ≡ from + (a - from) = omega arith in
          let n = named_not (d.map.role a) (name (a - from)) (ap (λ (i : ℕ). names_as AsCons (d.map.role i)) e ∙ d.moving.known.here (a - from) (omega arith) (omega arith)) in
          inr (was_owned (cases_lt (a - from) left), n.0, n.1)
        where
          was_owned : (a - from < left) ⊎ (left ≤ a - from) → it.map.role a ≡ Blank → ⊥
          was_owned (inl w) = let l = y.0 in (owned_not (it.map.role a) (name (a - from)) (ap (λ (i : ℕ). owner (it.map.role i)) (let e : a ≡ from + (a - from) = omega arith in e) ∙ own (a - from) w)).0
          was_owned (inr w) = let l = y.0 in let q = y.1 in
              (owned_not (it.map.role a) (name left) (ap (λ (i : ℕ). owner (it.map.role i)) (let e : a ≡ from + left + 0 = omega arith in e) ∙ owned 0 (positive old))).0
      old_at a x (inr y) (inl t) =
          let l = t.0 in let q = t.1 in
          let r = beyond a (λ i w e. y (omega arith, omega arith)) (λ i w e. x (omega arith, omega arith)) ∙ k2_rest a t (λ (e : a ≡ from + left). y (omega arith, omega arith)) in
          inr (
            (owned_not (it.map.role a) (name left) (ap (λ (i : ℕ). owner (it.map.role i)) (let e : a ≡ from + left + (a - (from + left)) = omega arith in e) ∙ owned (a - (from + left)) (omega arith))).0,
            λ z. (let w = sym r ∙ z in cc),
            λ z. (let w = sym r ∙ z in cc),
          )
      old_at a x (inr y) (inr t) =
          inl (beyond a (λ i w e. y (omega arith, omega arith)) (λ i w e. x (omega arith, omega arith)) ∙ k2_else a (λ z. (let l = z.0 in let q = z.1 in x (omega arith, omega arith))) t ∙ outside a x)

  -- no word becomes a word of a husk
  no_husk : (a : ℕ) → is_of_husk (d.map.role a) ≡ true → d.map.role a ≡ it.map.role a
  unfolding k2
  no_husk a h = at (between_which to (left + size new) a) (between_which from (suc left) a) (between_which (from + left) (size old) a) (cases_lt (a - to) (suc left))
    where
      at : ((to ≤ a) × (a < to + (left + size new))) ⊎ ((to ≤ a) × (a < to + (left + size new)) → ⊥) → ((from ≤ a) × (a < from + suc left)) ⊎ ((from ≤ a) × (a < from + suc left) → ⊥)
          → ((from + left ≤ a) × (a < from + left + size old)) ⊎ ((from + left ≤ a) × (a < from + left + size old) → ⊥) → (a - to < suc left) ⊎ (suc left ≤ a - to) → d.map.role a ≡ it.map.role a
      at (inl x) y t (inl q) =
          let l = x.0 in
          let e : a ≡ to + (a - to) = omega arith in
          let z = named_no_husk (d.map.role a) (name (a - to)) (ap (λ (i : ℕ). names_as AsCons (d.map.role i)) e ∙ d.moving.known.there (a - to) (omega arith) q) in
          cc
      at (inl x) y t (inr q) =
          let l = x.0 in let v = x.1 in
          let e : a ≡ to + left + (a - to - left) = omega arith in
          let there : (laid (scratched it.map to (left + size new)) (name left) (from + left) (size old) (to + left) new (Moved AsCons (name left)) Waste (it.map.age (from + left))).role a ≡ role_in new (name left) (a - to - left) =
          ap (laid (scratched it.map to (left + size new)) (name left) (from + left) (size old) (to + left) new (Moved AsCons (name left)) Waste (it.map.age (from + left))).role e ∙ k2_new (a - to - left) (omega arith) in
          let same = beyond a (λ m y w. apart a (name m) (ap (λ (i : ℕ). owner (it.map.role i)) w ∙ own m y) x) (λ m y w. omega arith) in
          let z = owned_no_husk (d.map.role a) (name left) (ap owner (same ∙ there) ∙ owner_in new (name left) (a - to - left)) in
          cc
      at (inr x) (inl y) t u =
          let l = y.0 in let q = y.1 in
          let e : a ≡ from + (a - from) = omega arith in
          let z = named_no_husk (d.map.role a) (name (a - from)) (ap (λ (i : ℕ). names_as AsCons (d.map.role i)) e ∙ d.moving.known.here (a - from) (omega arith) (omega arith)) in
          cc
      at (inr x) (inr y) (inl t) u =
          let l = t.0 in let q = t.1 in
          let r = beyond a (λ i w e. y (omega arith, omega arith)) (λ i w e. x (omega arith, omega arith)) ∙ k2_rest a t (λ (e : a ≡ from + left). y (omega arith, omega arith)) in
          let z = ap is_of_husk r in
          cc
      at (inr x) (inr y) (inr t) u =
          beyond a (λ i w e. y (omega arith, omega arith)) (λ i w e. x (omega arith, omega arith)) ∙ k2_else a (λ z. (let l = z.0 in let q = z.1 in x (omega arith, omega arith))) t ∙ outside a x

  carried : (m i : ℕ) → i ≤ left → m ≡ name i → d.map.at m ≡ to + i → Carried g it.map d.map it.store it.aim to area was m
  carried m i l e at =
      let P : ℕ → Type 0 = λ x. d.map.at x ≡ to + i → Carried g it.map d.map it.store it.aim to area was x in
      subst P (sym e) (λ (at : d.map.at (name i) ≡ to + i). record {
        condemned = old_condemned g it h (name i) (from + i) area was (used i l) (place i l) (old_class i l);
        bound = is_bound i l;
        area_of = old_area g it h (name i) (from + i) area was (used i l) (place i l) (old_class i l);
        was = ap (class_at (classes g)) (place i l) ∙ old_class i l;
        near = ap region_of at ∙ p.near i (let z = positive new in omega arith);
      }) at

  places : (m : ℕ) → in_use it.store m → (d.map.at m ≡ it.map.at m) ⊎ Carried g it.map d.map it.store it.aim to area was m
  places m u = go (d.places m) (cases_eq m (name left))
    where
      go : (d.map.at m ≡ (laid (scratched it.map to (left + size new)) (name left) (from + left) (size old) (to + left) new (Moved AsCons (name left)) Waste (it.map.age (from + left))).at m) ⊎ ((i : ℕ) × (i < left) × (m ≡ name i) × (d.map.at m ≡ to + i))
          → (m ≡ name left) ⊎ (m ≡ name left → ⊥) → (d.map.at m ≡ it.map.at m) ⊎ Carried g it.map d.map it.store it.aim to area was m
      go (inr x) t = let l = x.1 in inr (carried m x.0 (omega arith) x.2 x.3)
      go (inl x) (inl z) = inr (carried m left (omega arith) z (x ∙ put_at-same it.map.at (name left) (to + left) m z))
      go (inl x) (inr ne) = inl (x ∙ k2_at_else m ne)

  last_role : (laid (scratched it.map to (left + size new)) (name left) (from + left) (size old) (to + left) new (Moved AsCons (name left)) Waste (it.map.age (from + left))).role
      ((laid (scratched it.map to (left + size new)) (name left) (from + left) (size old) (to + left) new (Moved AsCons (name left)) Waste (it.map.age (from + left))).at (name left)) ≡ role_in new (name left) 0
  last_role =
      ap (laid (scratched it.map to (left + size new)) (name left) (from + left) (size old) (to + left) new (Moved AsCons (name left)) Waste (it.map.age (from + left))).role (k2_at ∙ (let z : to + left ≡ to + left + 0 = omega arith in z))
      ∙ k2_new 0 (positive new)

  moves : Moves (classes g1) it.map d.map it.store (record { area = area; level = was; standing = Old }) (record { area = area; level = level; standing = Live })
      (3 * left + (object it.store (name left)).charge) (2 * left + if_true (is_cell (role_in new (name left) 0)) 2)
  moves =
      let spare : ℕ = if_true (is_cell ((laid (scratched it.map to (left + size new)) (name left) (from + left) (size old) (to + left) new (Moved AsCons (name left)) Waste (it.map.age (from + left))).role
      ((laid (scratched it.map to (left + size new)) (name left) (from + left) (size old) (to + left) new (Moved AsCons (name left)) Waste (it.map.age (from + left))).at (name left)))) 2 in
      let one = moves_one (word g1) (classes g1) (scratched it.map to (left + size new)) _ it.store (name left) _ _ (ground g g1 it h to (left + size new) area level p) f
      (h.names (name left) (used left (omega arith))) (used left (omega arith)) (λ m ne. k2_at_else m ne)
      (ap (class_at (classes g1)) (place left (omega arith)) ∙ old_class1 left (omega arith)) (ap (class_at (classes g1)) k2_at ∙ new_class1 left (omega arith)) in
      let two = moves_then (classes g1) it.map (scratched it.map to (left + size new)) _ it.store _ _ 0 0 (object it.store (name left)).charge spare
      (moves_written (word g) (classes g1) it.map (scratched it.map to (left + size new)) it.store _ _ (opened g g1 it h to (left + size new) area level p) (ground_frame g g1 it h to (left + size new) area level p) (λ m. refl)) one in
      moves_as (classes g1) it.map d.map it.store _ _ (0 + (object it.store (name left)).charge + 3 * left) (0 + spare + 2 * left) _ _ (omega arith)
      (let z = ap (λ (r : Role). if_true (is_cell r) 2) last_role in omega arith)
      (moves_then (classes g1) it.map _ d.map it.store _ _ (0 + (object it.store (name left)).charge) (0 + spare) (3 * left) (2 * left) two d.moves)

  -- after the transport: a later map, and the run's names at their new places
  pub run_moved : RunLater g (record g1 { words = ws }) it (3 * left + (object it.store (name left)).charge) to left name
  run_moved = record {
    map = d.map;
    kept = kept_moved g g1 it d.map h to (left + size new) area level was (3 * left + (object it.store (name left)).charge) (2 * left + if_true (is_cell (role_in new (name left) 0)) 2) p c ws marks roled
        roles places moves survives low (let z = pays in omega arith) no_husk;
    refines = λ kind a n e. d.refines kind a n (f.refine kind a n ((ground_frame g g1 it h to (left + size new) area level p).refine kind a n e));
    there = λ i l. d.moving.known.there i (omega arith) (omega arith);
    less_old = less_old g g1 it d.map h to (left + size new) area level was (3 * left + (object it.store (name left)).charge) (2 * left + if_true (is_cell (role_in new (name left) 0)) 2) p c ws marks roled
        roles places moves survives low (let z = pays in omega arith);
  }
