-- The three ways in which a compact run that moves may end: with a cell coded nil, before a forward, with a pair.
use Rattle.std.proofs.Common.{◌≡◌, ℕ, zero, suc, ◌+◌, ◌*◌, ◌<◌, ◌≤◌, ◌⊎◌, inl, inr, true, refl, sym, ◌∙◌, ap, subst, arith, Some, List}
use Rattle.std.proofs.lemmas.Bool.{cases_eq}
use Rattle.lisp_graph.specs.store_word.Words.{Parts}
use Rattle.lisp_graph.specs.store_word.declared.word.CdrCode.{CdrCode}
use Rattle.lisp_graph.specs.store_word.declared.word.CdrCode.TheVariants.{Next as CdrNext, Nil as CdrNil, Normal as CdrNormal}
use Rattle.lisp_graph.specs.store_word.declared.word.Content.TheVariants.{List as ListAt, GcForward}
use Rattle.lisp_meaning.specs.machine.Maps.{put_at}
use Rattle.lisp_meaning.specs.machine.State.{Store, object, in_use, survivor}
use Rattle.lisp_meaning.specs.reading.Image.{Image, word, Old, is_old, is_live}
use Rattle.lisp_meaning.specs.reading.Classes.{Class, class_at, is_old_at, is_live_at, region_of, classes}
use Rattle.lisp_meaning.specs.reading.Marks.{Marks}
use Rattle.lisp_meaning.specs.invariants.Roles.{AsCons, Scratch, PairHead, Cell, names_as, owner, RoleMap, name_at}
use Rattle.lisp_meaning.specs.invariants.Fits.{PairCode, IsCell}
use Rattle.lisp_meaning.specs.invariants.Invariant.{MemoryInvariant}
use Rattle.lisp_meaning.specs.invariants.Interpretation.{Interpretation}
use Rattle.lisp_meaning.specs.invariants.Laid.{ACell, APair, scratched}
use Rattle.lisp_meaning.proofs.maps.LaterMaps.{RunLater}
use Rattle.lisp_meaning.specs.invariants.MovingRun.{Copied}
use Rattle.lisp_meaning.specs.invariants.Placed.{Placed, Rehomed}
use Rattle.lisp_meaning.proofs.maps.Puts.{put_at-same, put_at-other}
use Rattle.lisp_meaning.proofs.layout.ObjectWords.{cell_fits, head_fits, tail_fits, stands_cell, stands_pair}
use Rattle.lisp_meaning.proofs.layout.Placement.{ground, scratch_role, other_role, ground_frame}
use Rattle.lisp_meaning.proofs.invariant.ObjectTransport.{not_placed}
use Rattle.lisp_meaning.proofs.layout.RunCopy.{gc_forward, nil_begins, nil_frame, last_begins, last_frame, pair_begins, pair_frame}
use Rattle.lisp_meaning.proofs.roles.RunNames.{follower_near}
use Rattle.lisp_meaning.proofs.invariant.RunTransport.{run_moved}

-- The words at the last cell, after all words are copied

record LastCell (g g1 : Image) (k : RoleMap) (s : Store) (from to left start width : ℕ) : Type 0 where
  pub was : (i : ℕ) → i ≤ left → IsCell k s (from + i) (word g (from + i)) (name_at k (from + i)) (start + i)
  pub old : (i : ℕ) → i ≤ left → is_old_at (classes g1) (from + i) ≡ true
  pub live : (i : ℕ) → i ≤ left → is_live_at (classes g1) (to + i) ≡ true
  pub near : (i : ℕ) → i < left → region_of (suc (to + i)) ≡ region_of (to + i)
  pub role : (scratched k to (left + width)).role (from + left) ≡ Cell (name_at k (from + left)) (start + left)
  pub scratch : (scratched k to (left + width)).role (to + left) ≡ Scratch
  pub same : word g1 (from + left) ≡ word g (from + left)

-- What all three share

module _ (g g1 : Image) (it : Interpretation) (h : MemoryInvariant g it) (from to left start width : ℕ) (area level was : ℕ)
    (p : Placed g g1 to (left + width) area level) (wide : 0 < width)
    (cells : (i : ℕ) → i < left → it.map.role (from + i) ≡ Cell (name_at it.map (from + i)) (start + i)) (next : (i : ℕ) → i < left → (word g (from + i)).cdr ≡ CdrNext)
    (there : class_at (classes g) from ≡ record { area = area; level = was; standing = Old })
    (copy : (i : ℕ) → i < left → word g1 (to + i) ≡ word g (from + i)) where
  pub run_near : (i : ℕ) → i ≤ left → region_of (from + i) ≡ region_of from
  run_near zero l = ap region_of (let z : from + 0 ≡ from = omega arith in z)
  run_near (suc i) l =
      ap region_of (let z : from + suc i ≡ suc (from + i) = omega arith in z)
      ∙ follower_near (word g) (classes g) it.map it.store h.roled (from + i) (name_at it.map (from + i)) (start + i) (cells i (omega arith)) (next i (omega arith)) ∙ run_near i (omega arith)

  -- a word of an object keeps its role, and is unchanged
  pub still : (i n : ℕ) → owner (it.map.role i) ≡ Some n → (scratched it.map to (left + width)).role i ≡ it.map.role i
  still i n o = other_role g g1 it h to (left + width) area level p i (not_placed g g1 it h to (left + width) area level p i n o)

  pub same : (i n : ℕ) → owner (it.map.role i) ≡ Some n → word g1 i ≡ word g i
  same i n o = p.words i (not_placed g g1 it h to (left + width) area level p i n o)

  pub scratch : (j : ℕ) → j < left + width → (scratched it.map to (left + width)).role (to + j) ≡ Scratch
  scratch j l = scratch_role g g1 it h to (left + width) area level p (to + j) (omega arith, omega arith)

  pub copied : Copied (word g1) (scratched it.map to (left + width)) from to left start (λ i. name_at it.map (from + i))
  copied = record {
    cell = λ i l. still (from + i) (name_at it.map (from + i)) (ap owner (cells i l)) ∙ cells i l;
    copy = λ i l. scratch i (omega arith);
    content = λ i l. ap (λ (u : Parts). u.content) (copy i l ∙ sym (same (from + i) (name_at it.map (from + i)) (ap owner (cells i l))));
    code = λ i l. ap (λ (u : Parts). u.cdr) (same (from + i) (name_at it.map (from + i)) (ap owner (cells i l))) ∙ next i l;
    code_there = λ i l. ap (λ (u : Parts). u.cdr) (copy i l) ∙ next i l;
  }

  pub old_all : (o : (i : ℕ) → i ≤ left → (n : ℕ) × (it.map.at n ≡ from + i) × in_use it.store n) → (i : ℕ) → i ≤ left → is_old_at (classes g1) (from + i) ≡ true
  old_all o i l =
      let x = o i l in
      ap (λ (c : Class). is_old c.standing)
      (ap (class_at (classes g1)) (sym x.1) ∙ Rattle.lisp_meaning.proofs.layout.Placement.class_else g g1 it h to (left + width) area level p x.0 x.2
      ∙ ap (class_at (classes g)) x.1 ∙ ap (classes g) (run_near i l) ∙ there)

  pub live_all : (i : ℕ) → i ≤ left → is_live_at (classes g1) (to + i) ≡ true
  live_all i l = ap (λ (c : Class). is_live c.standing) (ap (classes g1) (p.near i (omega arith)) ∙ p.class_there)

  pub near_all : (i : ℕ) → i < left → region_of (suc (to + i)) ≡ region_of (to + i)
  near_all i l = ap region_of (let z : suc (to + i) ≡ to + suc i = omega arith in z) ∙ p.near (suc i) (omega arith) ∙ sym (p.near i (omega arith))

  last_cell : (each : (i : ℕ) → i < suc left → it.map.role (from + i) ≡ Cell (name_at it.map (from + i)) (start + i)) → LastCell g g1 it.map it.store from to left start width
  last_cell each = record {
    was = cell_was;
    old = old_all (λ i l. (name_at it.map (from + i), (cell_was i l).place, (cell_was i l).used));
    live = live_all;
    near = near_all;
    role = still (from + left) (name_at it.map (from + left)) (ap owner (each left (omega arith))) ∙ each left (omega arith);
    scratch = scratch left (omega arith);
    same = same (from + left) (name_at it.map (from + left)) (ap owner (each left (omega arith)));
  }
    where
      cell_was : (i : ℕ) → i ≤ left → IsCell it.map it.store (from + i) (word g (from + i)) (name_at it.map (from + i)) (start + i)
      cell_was i l = cell_fits (word g) (classes g) it.map it.store h.roled (name_at it.map (from + i)) (from + i) (start + i) (each i (omega arith))

-- The words once the last forward was written

forward_there : (W : ℕ → Parts) (a b : ℕ) → (put_at W a (gc_forward b) a).content ≡ GcForward b
forward_there W a b = ap (λ (u : Parts). u.content) (put_at-same W a (gc_forward b) a refl)

forward_else : (W : ℕ → Parts) (a b i : ℕ) → (i ≡ a → ⊥) → put_at W a (gc_forward b) i ≡ W i
forward_else W a b i ne = put_at-other W a (gc_forward b) i ne

-- With a cell coded nil, which `left` cells precede

module _ (g g1 : Image) (it : Interpretation) (h : MemoryInvariant g it) (from to left start : ℕ) (area level was : ℕ)
    (p : Placed g g1 to (left + 1) area level) (c : Rehomed g g1 area was level (3 * left + 3)) (ws : List Parts) (marks : Marks (record g1 { words = ws }))
    (cells : (i : ℕ) → i < suc left → it.map.role (from + i) ≡ Cell (name_at it.map (from + i)) (start + i))
    (next : (i : ℕ) → i < left → (word g (from + i)).cdr ≡ CdrNext) (last : (word g (from + left)).cdr ≡ CdrNil)
    (there : class_at (classes g) from ≡ record { area = area; level = was; standing = Old }) (is_bound : (i : ℕ) → i ≤ left → it.aim.bound (name_at it.map (from + i)) ≡ true)
    (copy : (i : ℕ) → i < suc left → word g1 (to + i) ≡ word g (from + i))
    (forward : (i : ℕ) → i ≤ left → word (record g1 { words = ws }) (from + i) ≡ gc_forward (to + i))
    (others : (a : ℕ) → ((i : ℕ) → i ≤ left → a ≡ from + i → ⊥) → word (record g1 { words = ws }) a ≡ word g1 a)
    (survives : survivor it.top it.aim.what was ≡ level) (low : level < suc it.top) where
  nil_cells : (i : ℕ) → i < left → it.map.role (from + i) ≡ Cell (name_at it.map (from + i)) (start + i)
  nil_cells i l = cells i (omega arith)

  nil_copy : (i : ℕ) → i < left → word g1 (to + i) ≡ word g (from + i)
  nil_copy i l = copy i (omega arith)

  nil : LastCell g g1 it.map it.store from to left start 1
  nil = last_cell g g1 it h from to left start 1 area level was p (omega arith) nil_cells next there nil_copy cells

  pub run_nil_moved : RunLater g (record g1 { words = ws }) it (3 * left + (object it.store (name_at it.map (from + left))).charge) to left (λ i. name_at it.map (from + i))
  run_nil_moved = run_moved g g1 it h from to left start (λ i. name_at it.map (from + i)) (ACell (start + left)) (ACell (start + left)) area level was p
      (let P : ℕ → Type 0 = λ x. Rehomed g g1 area was level (3 * left + x) in subst P (sym (nil.was left (omega arith)).charge) c) ws marks
      (λ i l. (nil.was i l).used) (λ i l. (nil.was i l).place) (run_near g g1 it h from to left start 1 area level was p (omega arith) nil_cells next there nil_copy)
      (λ i l. ap owner (cells i (omega arith))) (stands_cell (word g) (classes g) it.map it.store h.roled (name_at it.map (from + left)) (from + left) (start + left) (cells left (omega arith))) there is_bound
      (nil_begins (word g1) (put_at (word g1) (from + left) (gc_forward (to + left))) (classes g1) (scratched it.map to (left + 1)) it.store (ground g g1 it h to (left + 1) area level p) from to left start (λ i. name_at it.map (from + i))
      (copied g g1 it h from to left start 1 area level was p (omega arith) nil_cells next there nil_copy) nil.old nil.live nil.near
      (forward_there (word g1) (from + left) (to + left)) (forward_else (word g1) (from + left) (to + left)) nil.role nil.scratch
      (ap (λ (u : Parts). u.content) (copy left (omega arith) ∙ sym nil.same)) (ap (λ (u : Parts). u.cdr) nil.same ∙ last) (ap (λ (u : Parts). u.cdr) (copy left (omega arith)) ∙ last))
      (nil_frame (word g1) (put_at (word g1) (from + left) (gc_forward (to + left))) (classes g1) (scratched it.map to (left + 1)) it.store (ground g g1 it h to (left + 1) area level p) from to left start (λ i. name_at it.map (from + i))
      (copied g g1 it h from to left start 1 area level was p (omega arith) nil_cells next there nil_copy) nil.old nil.live nil.near
      (forward_there (word g1) (from + left) (to + left)) (forward_else (word g1) (from + left) (to + left)) nil.role nil.scratch
      (ap (λ (u : Parts). u.content) (copy left (omega arith) ∙ sym nil.same)) (ap (λ (u : Parts). u.cdr) nil.same ∙ last) (ap (λ (u : Parts). u.cdr) (copy left (omega arith)) ∙ last))
      forward others survives low (let x = (nil.was left (omega arith)).charge in omega arith)

-- Before a forward: the last cell becomes a pair, whose cdr is the list at an address of the name after it

module _ (g g1 : Image) (it : Interpretation) (h : MemoryInvariant g it) (from to left start : ℕ) (area level was : ℕ)
    (p : Placed g g1 to (left + 2) area level) (c : Rehomed g g1 area was level (3 * left + 3)) (ws : List Parts) (marks : Marks (record g1 { words = ws }))
    (cells : (i : ℕ) → i < suc left → it.map.role (from + i) ≡ Cell (name_at it.map (from + i)) (start + i)) (next : (i : ℕ) → i < suc left → (word g (from + i)).cdr ≡ CdrNext)
    (there : class_at (classes g) from ≡ record { area = area; level = was; standing = Old }) (is_bound : (i : ℕ) → i ≤ left → it.aim.bound (name_at it.map (from + i)) ≡ true)
    (copy : (i : ℕ) → i < left → word g1 (to + i) ≡ word g (from + i))
    (car : (word g1 (to + left)).content ≡ (word g (from + left)).content) (car_code : (word g1 (to + left)).cdr ≡ CdrNormal)
    (target follower : ℕ) (cdr : (word g1 (suc (to + left))).content ≡ ListAt target) (cdr_code : (word g1 (suc (to + left))).cdr ≡ CdrNext)
    (follows : names_as AsCons (it.map.role (suc (from + left))) ≡ Some follower) (final : names_as AsCons (it.map.role target) ≡ Some follower)
    (forward : (i : ℕ) → i ≤ left → word (record g1 { words = ws }) (from + i) ≡ gc_forward (to + i))
    (others : (a : ℕ) → ((i : ℕ) → i ≤ left → a ≡ from + i → ⊥) → word (record g1 { words = ws }) a ≡ word g1 a)
    (survives : survivor it.top it.aim.what was ≡ level) (low : level < suc it.top) where
  last_cells : (i : ℕ) → i < left → it.map.role (from + i) ≡ Cell (name_at it.map (from + i)) (start + i)
  last_cells i l = cells i (omega arith)

  last_next : (i : ℕ) → i < left → (word g (from + i)).cdr ≡ CdrNext
  last_next i l = next i (omega arith)

  ends : LastCell g g1 it.map it.store from to left start 2
  ends = last_cell g g1 it h from to left start 2 area level was p (omega arith) last_cells last_next there copy cells

  last_scratch2 : (scratched it.map to (left + 2)).role (suc (to + left)) ≡ Scratch
  last_scratch2 = ap (scratched it.map to (left + 2)).role (let z : suc (to + left) ≡ to + suc left = omega arith in z) ∙ scratch g g1 it h from to left start 2 area level was p (omega arith) last_cells last_next there copy (suc left) (omega arith)

  last_close : region_of (suc (to + left)) ≡ region_of (to + left)
  last_close = ap region_of (let z : suc (to + left) ≡ to + suc left = omega arith in z) ∙ p.near (suc left) (omega arith) ∙ sym (p.near left (omega arith))

  named : (a n : ℕ) → names_as AsCons (it.map.role a) ≡ Some n → names_as AsCons ((scratched it.map to (left + 2)).role a) ≡ Some n
  named a n e = (ground_frame g g1 it h to (left + 2) area level p).refine AsCons a n e

  pub run_last_moved : RunLater g (record g1 { words = ws }) it (3 * left + (object it.store (name_at it.map (from + left))).charge) to left (λ i. name_at it.map (from + i))
  run_last_moved = run_moved g g1 it h from to left start (λ i. name_at it.map (from + i)) (ACell (start + left)) APair area level was p
      (let P : ℕ → Type 0 = λ x. Rehomed g g1 area was level (3 * left + x) in subst P (sym (ends.was left (omega arith)).charge) c) ws marks
      (λ i l. (ends.was i l).used) (λ i l. (ends.was i l).place) (run_near g g1 it h from to left start 2 area level was p (omega arith) last_cells last_next there copy)
      (λ i l. ap owner (cells i (omega arith))) (stands_cell (word g) (classes g) it.map it.store h.roled (name_at it.map (from + left)) (from + left) (start + left) (cells left (omega arith))) there is_bound
      (last_begins (word g1) (put_at (word g1) (from + left) (gc_forward (to + left))) (classes g1) (scratched it.map to (left + 2)) it.store (ground g g1 it h to (left + 2) area level p) from to left start (λ i. name_at it.map (from + i))
      (copied g g1 it h from to left start 2 area level was p (omega arith) last_cells last_next there copy) ends.old ends.live ends.near
      (forward_there (word g1) (from + left) (to + left)) (forward_else (word g1) (from + left) (to + left)) ends.role ends.scratch last_scratch2 last_close
      (car ∙ sym (ap (λ (u : Parts). u.content) ends.same)) (ap (λ (u : Parts). u.cdr) ends.same ∙ next left (omega arith)) car_code cdr_code target follower
      (named (suc (from + left)) follower follows) cdr (named target follower final))
      (last_frame (word g1) (put_at (word g1) (from + left) (gc_forward (to + left))) (classes g1) (scratched it.map to (left + 2)) it.store (ground g g1 it h to (left + 2) area level p) from to left start (λ i. name_at it.map (from + i))
      (copied g g1 it h from to left start 2 area level was p (omega arith) last_cells last_next there copy) ends.old ends.live ends.near
      (forward_there (word g1) (from + left) (to + left)) (forward_else (word g1) (from + left) (to + left)) ends.role ends.scratch last_scratch2 last_close
      (car ∙ sym (ap (λ (u : Parts). u.content) ends.same)) (ap (λ (u : Parts). u.cdr) ends.same ∙ next left (omega arith)) car_code cdr_code target follower
      (named (suc (from + left)) follower follows) cdr (named target follower final))
      forward others survives low (let x = (ends.was left (omega arith)).charge in omega arith)

-- With a pair, which `left` cells precede

module _ (g g1 : Image) (it : Interpretation) (h : MemoryInvariant g it) (from to left start : ℕ) (area level was : ℕ)
    (p : Placed g g1 to (left + 2) area level) (c : Rehomed g g1 area was level (3 * left + (object it.store (name_at it.map (from + left))).charge)) (ws : List Parts) (marks : Marks (record g1 { words = ws }))
    (cells : (i : ℕ) → i < left → it.map.role (from + i) ≡ Cell (name_at it.map (from + i)) (start + i)) (next : (i : ℕ) → i < left → (word g (from + i)).cdr ≡ CdrNext)
    (pair : it.map.role (from + left) ≡ PairHead (name_at it.map (from + left)))
    (there : class_at (classes g) from ≡ record { area = area; level = was; standing = Old }) (is_bound : (i : ℕ) → i ≤ left → it.aim.bound (name_at it.map (from + i)) ≡ true)
    (copy : (i : ℕ) → i < left → word g1 (to + i) ≡ word g (from + i)) (copy1 : word g1 (to + left) ≡ word g (from + left)) (copy2 : word g1 (suc (to + left)) ≡ word g (suc (from + left)))
    (forward : (i : ℕ) → i ≤ left → word (record g1 { words = ws }) (from + i) ≡ gc_forward (to + i))
    (others : (a : ℕ) → ((i : ℕ) → i ≤ left → a ≡ from + i → ⊥) → word (record g1 { words = ws }) a ≡ word g1 a)
    (survives : survivor it.top it.aim.what was ≡ level) (low : level < suc it.top) where
  pair_facts : (i : ℕ) → i ≤ left → (i ≡ left) ⊎ (i ≡ left → ⊥) → in_use it.store (name_at it.map (from + i)) × (it.map.at (name_at it.map (from + i)) ≡ from + i)
  pair_facts i l (inl z) =
      let f = head_fits (word g) (classes g) it.map it.store h.roled (name_at it.map (from + left)) (from + left) pair in
      let P : ℕ → Type 0 = λ x. in_use it.store (name_at it.map (from + x)) × (it.map.at (name_at it.map (from + x)) ≡ from + x) in
      subst P (sym z) (f.used, f.place)
  pair_facts i l (inr ne) = let f = cell_fits (word g) (classes g) it.map it.store h.roled (name_at it.map (from + i)) (from + i) (start + i) (cells i (omega arith)) in (f.used, f.place)

  pair_old : (i : ℕ) → i ≤ left → is_old_at (classes g1) (from + i) ≡ true
  pair_old = old_all g g1 it h from to left start 2 area level was p (omega arith) cells next there copy (λ i l. (name_at it.map (from + i), (pair_facts i l (cases_eq i left)).1, (pair_facts i l (cases_eq i left)).0))

  pair_live : (i : ℕ) → i ≤ left → is_live_at (classes g1) (to + i) ≡ true
  pair_live = live_all g g1 it h from to left start 2 area level was p (omega arith) cells next there copy

  pair_near : (i : ℕ) → i < left → region_of (suc (to + i)) ≡ region_of (to + i)
  pair_near = near_all g g1 it h from to left start 2 area level was p (omega arith) cells next there copy

  pair_role : (scratched it.map to (left + 2)).role (from + left) ≡ PairHead (name_at it.map (from + left))
  pair_role = still g g1 it h from to left start 2 area level was p (omega arith) cells next there copy (from + left) (name_at it.map (from + left)) (ap owner pair) ∙ pair

  pair_scratch : (scratched it.map to (left + 2)).role (to + left) ≡ Scratch
  pair_scratch = scratch g g1 it h from to left start 2 area level was p (omega arith) cells next there copy left (omega arith)

  pair_scratch2 : (scratched it.map to (left + 2)).role (suc (to + left)) ≡ Scratch
  pair_scratch2 = ap (scratched it.map to (left + 2)).role (let z : suc (to + left) ≡ to + suc left = omega arith in z) ∙ scratch g g1 it h from to left start 2 area level was p (omega arith) cells next there copy (suc left) (omega arith)

  pair_close : region_of (suc (to + left)) ≡ region_of (to + left)
  pair_close = ap region_of (let z : suc (to + left) ≡ to + suc left = omega arith in z) ∙ p.near (suc left) (omega arith) ∙ sym (p.near left (omega arith))

  pair_same : word g1 (from + left) ≡ word g (from + left)
  pair_same = same g g1 it h from to left start 2 area level was p (omega arith) cells next there copy (from + left) (name_at it.map (from + left)) (ap owner pair)

  pair_same2 : word g1 (suc (from + left)) ≡ word g (suc (from + left))
  pair_same2 = same g g1 it h from to left start 2 area level was p (omega arith) cells next there copy (suc (from + left)) (name_at it.map (from + left))
      (ap owner (head_fits (word g) (classes g) it.map it.store h.roled (name_at it.map (from + left)) (from + left) pair).tail)

  pair_pays : 2 + 0 ≤ (object it.store (name_at it.map (from + left))).charge
  pair_pays = go (tail_fits (word g) (classes g) it.map it.store h.roled (name_at it.map (from + left)) (from + left) pair).code
    where
      go : {code : CdrCode} → PairCode (object it.store (name_at it.map (from + left))).charge code → 2 + 0 ≤ (object it.store (name_at it.map (from + left))).charge
      go (inl x) = let y = x.0 in omega arith
      go (inr x) = let y = x.0 in omega arith

  pub run_pair_moved : RunLater g (record g1 { words = ws }) it (3 * left + (object it.store (name_at it.map (from + left))).charge) to left (λ i. name_at it.map (from + i))
  run_pair_moved = run_moved g g1 it h from to left start (λ i. name_at it.map (from + i)) APair APair area level was p c ws marks
      (λ i l. (pair_facts i l (cases_eq i left)).0) (λ i l. (pair_facts i l (cases_eq i left)).1) (run_near g g1 it h from to left start 2 area level was p (omega arith) cells next there copy)
      (λ i l. ap owner (cells i l)) (stands_pair (word g) (classes g) it.map it.store h.roled (name_at it.map (from + left)) (from + left) pair) there is_bound
      (pair_begins (word g1) (put_at (word g1) (from + left) (gc_forward (to + left))) (classes g1) (scratched it.map to (left + 2)) it.store (ground g g1 it h to (left + 2) area level p) from to left start (λ i. name_at it.map (from + i))
      (copied g g1 it h from to left start 2 area level was p (omega arith) cells next there copy) pair_old pair_live pair_near
      (forward_there (word g1) (from + left) (to + left)) (forward_else (word g1) (from + left) (to + left)) pair_role pair_scratch pair_scratch2 pair_close (copy1 ∙ sym pair_same) (copy2 ∙ sym pair_same2))
      (pair_frame (word g1) (put_at (word g1) (from + left) (gc_forward (to + left))) (classes g1) (scratched it.map to (left + 2)) it.store (ground g g1 it h to (left + 2) area level p) from to left start (λ i. name_at it.map (from + i))
      (copied g g1 it h from to left start 2 area level was p (omega arith) cells next there copy) pair_old pair_live pair_near
      (forward_there (word g1) (from + left) (to + left)) (forward_else (word g1) (from + left) (to + left)) pair_role pair_scratch pair_scratch2 pair_close (copy1 ∙ sym pair_same) (copy2 ∙ sym pair_same2))
      forward others survives low pair_pays
