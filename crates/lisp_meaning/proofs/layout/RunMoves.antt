-- A compact run moves, from its last cell to its first: the map after it, and what the move did to places, sums and the remaining words.
use Rattle.std.proofs.Common.{◌≡◌, ℕ, zero, suc, ◌+◌, ◌*◌, ◌<◌, ◌≤◌, ◌⊎◌, inl, inr, refl, ◌∙◌, ap, arith, length}
use Rattle.std.proofs.lemmas.Bool.{cases_eq, cases_lt}
use Rattle.lisp_graph.specs.store_word.Words.{Parts}
use Rattle.lisp_graph.specs.store_word.declared.word.Content.TheVariants.{GcForward}
use Rattle.lisp_graph.specs.Totals.{if_true}
use Rattle.lisp_meaning.specs.machine.Maps.{put_at}
use Rattle.lisp_meaning.specs.machine.State.{Store, object, in_use}
use Rattle.lisp_meaning.specs.reading.Classes.{Class, class_at}
use Rattle.lisp_meaning.specs.invariants.Roles.{Role, Scratch, Cell, RoleMap, Refines}
use Rattle.lisp_meaning.specs.invariants.Fits.{IsCell}
use Rattle.lisp_meaning.specs.invariants.ChargesIn.{is_cell}
use Rattle.lisp_meaning.specs.invariants.Laid.{ACell}
use Rattle.lisp_meaning.specs.invariants.MovingRun.{Moving}
use Rattle.lisp_meaning.proofs.maps.Puts.{put_at-same, put_at-other}
use Rattle.lisp_meaning.proofs.layout.ObjectWords.{cell_fits}
use Rattle.lisp_meaning.proofs.sums.MoveSums.{Moves, moves_then, moves_none, moves_one, moves_as}
use Rattle.lisp_meaning.proofs.layout.RunCopy.{step_frame, run_step, run_map, forwarded, gc_forward, at_else, at_new}

-- what the move of the first cells of a run has done, all of them from one class to another
pub record RunDone (W' : ℕ → Parts) (regions : ℕ → Class) (k : RoleMap) (s : Store) (from to left count start : ℕ) (name : ℕ → ℕ) (old new : Class) : Type 0 where
  pub map : RoleMap
  pub moving : Moving W' regions map s from to 0 count start name
  pub refines : Refines k.role map.role
  -- no word but those of the run and of its copy has another role
  pub elsewhere : (c : ℕ) → ((i : ℕ) → i < left → c ≡ from + i → ⊥) → ((i : ℕ) → i < left → c ≡ to + i → ⊥) → map.role c ≡ k.role c
  pub places : (m : ℕ) → (map.at m ≡ k.at m) ⊎ ((i : ℕ) × (i < left) × (m ≡ name i) × (map.at m ≡ to + i))
  pub moves : Moves regions k map s old new (3 * left) (2 * left)

module _ (W : ℕ → Parts) (regions : ℕ → Class) (k : RoleMap) (s : Store) (from to j count start : ℕ) (name : ℕ → ℕ) (old new : Class)
    (m : Moving W regions k s from to (suc j) count start name) (inside : suc j < count) (names : (n : ℕ) → in_use s n → n < length s.objects)
    (was_old : class_at regions (from + j) ≡ old) (is_new : class_at regions (to + j) ≡ new) where
  forward : (put_at W (from + j) (gc_forward (to + j)) (from + j)).content ≡ GcForward (to + j)
  forward = ap (λ (u : Parts). u.content) (put_at-same W (from + j) (gc_forward (to + j)) (from + j) refl)

  words : (a : ℕ) → (a ≡ from + j → ⊥) → put_at W (from + j) (gc_forward (to + j)) a ≡ W a
  words a ne = put_at-other W (from + j) (gc_forward (to + j)) a ne

  cell_role : k.role (from + j) ≡ Cell (name j) (start + j)
  cell_role = m.copied.cell j (omega arith)

  was : IsCell k s (from + j) (W (from + j)) (name j) (start + j)
  was = cell_fits W regions k s m.roled (name j) (from + j) (start + j) cell_role

  place_new : (run_map k from to j start name).at (name j) ≡ to + j
  place_new = put_at-same k.at (name j) (to + j) (name j) refl

  scratch : (i : ℕ) → i < 1 → k.role (to + j + i) ≡ Scratch
  scratch i l = ap k.role (let z : to + j + i ≡ to + j = omega arith in z) ∙ m.copied.copy j (omega arith)

  role_new : (run_map k from to j start name).role ((run_map k from to j start name).at (name j)) ≡ Cell (name j) (start + j)
  role_new = ap (run_map k from to j start name).role place_new ∙ at_new k (name j) (from + j) (to + j) (start + j) (ACell (start + j)) cell_role scratch

  one : Moves regions k (run_map k from to j start name) s old new 3 2
  one = moves_as regions k (run_map k from to j start name) s old new (object s (name j)).charge (if_true (is_cell ((run_map k from to j start name).role ((run_map k from to j start name).at (name j)))) 2) 3 2
      was.charge (ap (λ (r : Role). if_true (is_cell r) 2) role_new)
      (moves_one W regions k (run_map k from to j start name) s (name j) old new m.roled
      (step_frame W (put_at W (from + j) (gc_forward (to + j))) regions k s from to j count start name m inside forward words) (names (name j) was.used) was.used
      (λ p ne. put_at-other k.at (name j) (to + j) p ne) (ap (class_at regions) was.place ∙ was_old) (ap (class_at regions) place_new ∙ is_new))

  -- the first cells, once the others are done
  done : RunDone (forwarded (put_at W (from + j) (gc_forward (to + j))) from to j) regions (run_map k from to j start name) s from to j count start name old new
      → RunDone (forwarded (put_at W (from + j) (gc_forward (to + j))) from to j) regions k s from to (suc j) count start name old new
  done d = record {
    map = d.map;
    moving = d.moving;
    refines = λ kind a n e. d.refines kind a n
        ((step_frame W (put_at W (from + j) (gc_forward (to + j))) regions k s from to j count start name m inside forward words).refine kind a n e);
    elsewhere = λ c x y. d.elsewhere c (λ i l. x i (omega arith)) (λ i l. y i (omega arith))
        ∙ at_else k (name j) (from + j) (to + j) (start + j) (ACell (start + j)) cell_role scratch c (side c (y j (omega arith)) (cases_lt c (to + j))) (x j (omega arith));
    places = λ p. place p (d.places p) (cases_eq p (name j));
    moves = moves_as regions k d.map s old new (3 + 3 * j) (2 + 2 * j) (3 * suc j) (2 * suc j) (omega arith) (omega arith)
        (moves_then regions k (run_map k from to j start name) d.map s old new 3 2 (3 * j) (2 * j) one d.moves);
  }
    where
      side : (c : ℕ) → (c ≡ to + j → ⊥) → (c < to + j) ⊎ (to + j ≤ c) → (c < to + j) ⊎ (to + j + 1 ≤ c)
      side c ne (inl l) = inl l
      side c ne (inr l) = inr (omega arith)

      place : (p : ℕ) → (d.map.at p ≡ put_at k.at (name j) (to + j) p) ⊎ ((i : ℕ) × (i < j) × (p ≡ name i) × (d.map.at p ≡ to + i)) → (p ≡ name j) ⊎ (p ≡ name j → ⊥)
          → (d.map.at p ≡ k.at p) ⊎ ((i : ℕ) × (i < suc j) × (p ≡ name i) × (d.map.at p ≡ to + i))
      place p (inr x) t = let l = x.1 in inr (x.0, omega arith, x.2, x.3)
      place p (inl x) (inl z) = inr (j, omega arith, z, x ∙ put_at-same k.at (name j) (to + j) p z)
      place p (inl x) (inr ne) = inl (x ∙ put_at-other k.at (name j) (to + j) p ne)

-- all cells before the last word of the run
pub run_done : (left : ℕ) (W : ℕ → Parts) (regions : ℕ → Class) (k : RoleMap) (s : Store) (from to count start : ℕ) (name : ℕ → ℕ) (old new : Class) → left < count
    → ((n : ℕ) → in_use s n → n < length s.objects) → ((i : ℕ) → i < left → class_at regions (from + i) ≡ old) → ((i : ℕ) → i < left → class_at regions (to + i) ≡ new)
    → Moving W regions k s from to left count start name → RunDone (forwarded W from to left) regions k s from to left count start name old new
unfolding forwarded
run_done zero W regions k s from to count start name old new l names x y m = record {
  map = k;
  moving = m;
  refines = λ kind a n e. e;
  elsewhere = λ c x y. refl;
  places = λ p. inl refl;
  moves = moves_none regions k s old new;
}
run_done (suc j) W regions k s from to count start name old new l names x y m =
    done W regions k s from to j count start name old new m l names (x j (omega arith)) (y j (omega arith))
    (run_done j (put_at W (from + j) (gc_forward (to + j))) regions (run_map k from to j start name) s from to count start name old new (omega arith) names (λ i q. x i (omega arith)) (λ i q. y i (omega arith))
    (run_step W (put_at W (from + j) (gc_forward (to + j))) regions k s from to j count start name m l
    (forward W regions k s from to j count start name old new m l names (x j (omega arith)) (y j (omega arith))) (words W regions k s from to j count start name old new m l names (x j (omega arith)) (y j (omega arith)))))
