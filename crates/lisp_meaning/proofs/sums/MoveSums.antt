-- What moves do to the sums of charges and of the words that cells may need.
use Rattle.std.proofs.Common.{◌≡◌, ℕ, ◌+◌, ◌<◌, ◌⊎◌, inl, inr, Bool, true, false, ◌&&◌, ◌==◌, refl, sym, ◌∙◌, ap, subst, arith, length}
use Rattle.std.proofs.lemmas.Bool.{cases_Bool}
use Rattle.lisp_graph.specs.store_word.Words.{Parts}
use Rattle.lisp_graph.specs.Totals.{if_true}
use Rattle.lisp_graph.proofs.Totals.{total-cong}
use Rattle.lisp_meaning.specs.invariants.ChargesIn.{charges_in, spare_in, spares_in, is_cell}
use Rattle.lisp_meaning.specs.reading.Classes.{Class, class_at}
use Rattle.lisp_meaning.specs.invariants.Fits.{Roled}
use Rattle.lisp_meaning.specs.invariants.Roles.{Role, RoleMap, kind_of}
use Rattle.lisp_meaning.specs.machine.State.{Store, object, in_use, is_held}
use Rattle.lisp_meaning.proofs.maps.Frames.{Frame}
use Rattle.lisp_meaning.proofs.maps.Patches.{begins_owner}
use Rattle.lisp_meaning.proofs.sums.Accounts.{spares_changed}
use Rattle.lisp_meaning.proofs.sums.Charges.{charges_leave, charges_enter, charges_stay}

-- this much charge, and this many words that cells may need, moved from one class to another
pub record Moves (regions : ℕ → Class) (k k' : RoleMap) (s : Store) (old new : Class) (charge spare : ℕ) : Type 0 where
  pub leave : (passes : ℕ → Class → Bool) → ((m : ℕ) → passes m old ≡ true) → ((m : ℕ) → passes m new ≡ false) → charges_in s k'.at regions passes + charge ≡ charges_in s k.at regions passes
  pub enter : (passes : ℕ → Class → Bool) → ((m : ℕ) → passes m old ≡ false) → ((m : ℕ) → passes m new ≡ true) → charges_in s k'.at regions passes ≡ charges_in s k.at regions passes + charge
  pub stay : (passes : ℕ → Class → Bool) → ((m : ℕ) → passes m old ≡ passes m new) → charges_in s k'.at regions passes ≡ charges_in s k.at regions passes
  -- what is old has no part in the second sums
  pub spares_enter : (passes : ℕ → Class → Bool) → ((m : ℕ) → passes m old ≡ false) → ((m : ℕ) → passes m new ≡ true) → spares_in s k' regions passes ≡ spares_in s k regions passes + spare
  pub spares_stay : (passes : ℕ → Class → Bool) → ((m : ℕ) → passes m old ≡ false) → ((m : ℕ) → passes m new ≡ false) → spares_in s k' regions passes ≡ spares_in s k regions passes

pub moves_then : (regions : ℕ → Class) (k k1 k2 : RoleMap) (s : Store) (old new : Class) (charge spare charge' spare' : ℕ)
    → Moves regions k k1 s old new charge spare → Moves regions k1 k2 s old new charge' spare' → Moves regions k k2 s old new (charge + charge') (spare + spare')
moves_then regions k k1 k2 s old new charge spare charge' spare' f h = record {
  leave = λ passes x y. let a = f.leave passes x y in let b = h.leave passes x y in omega arith;
  enter = λ passes x y. let a = f.enter passes x y in let b = h.enter passes x y in omega arith;
  stay = λ passes x. h.stay passes x ∙ f.stay passes x;
  spares_enter = λ passes x y. let a = f.spares_enter passes x y in let b = h.spares_enter passes x y in omega arith;
  spares_stay = λ passes x y. h.spares_stay passes x y ∙ f.spares_stay passes x y;
}

-- no move
pub moves_none : (regions : ℕ → Class) (k : RoleMap) (s : Store) (old new : Class) → Moves regions k k s old new 0 0
moves_none regions k s old new = record {
  leave = λ passes x y. (let z : charges_in s k.at regions passes + 0 ≡ charges_in s k.at regions passes = omega arith in z);
  enter = λ passes x y. (let z : charges_in s k.at regions passes ≡ charges_in s k.at regions passes + 0 = omega arith in z);
  stay = λ passes x. refl;
  spares_enter = λ passes x y. (let z : spares_in s k regions passes ≡ spares_in s k regions passes + 0 = omega arith in z);
  spares_stay = λ passes x y. refl;
}

-- words that are only written move nothing
pub moves_written : (W : ℕ → Parts) (regions : ℕ → Class) (k k' : RoleMap) (s : Store) (old new : Class) → Roled W regions k s → Frame k k' s s (λ m. false) → ((m : ℕ) → k'.at m ≡ k.at m) → Moves regions k k' s old new 0 0
moves_written W regions k k' s old new R f at = record {
  leave = λ passes x y. (let z = same passes in omega arith);
  enter = λ passes x y. (let z = same passes in omega arith);
  stay = λ passes x. same passes;
  spares_enter = λ passes x y. (let z = spares passes in omega arith);
  spares_stay = λ passes x y. spares passes;
}
  where
    same : (passes : ℕ → Class → Bool) → charges_in s k'.at regions passes ≡ charges_in s k.at regions passes
    same passes = ap (λ (at : ℕ → ℕ). charges_in s at regions passes) (λ i m. at m i)

    each : (passes : ℕ → Class → Bool) (m : ℕ) → (is_held s m ≡ true) ⊎ (is_held s m ≡ false) → spare_in s k' regions passes m ≡ spare_in s k regions passes m
    each passes m (inr u) =
        ap (λ (b : Bool). if_true (b && (passes m (class_at regions (k'.at m)) && is_cell (k'.role (k'.at m)))) 2) u
        ∙ ap (λ (b : Bool). if_true (b && (passes m (class_at regions (k.at m)) && is_cell (k.role (k.at m)))) 2) (sym u)
    each passes m (inl u) =
        ap (λ (a : ℕ). if_true (is_held s m && (passes m (class_at regions a) && is_cell (k'.role a))) 2) (at m)
        ∙ ap (λ (r : Role). if_true (is_held s m && (passes m (class_at regions (k.at m)) && is_cell r)) 2)
        (f.parts (k.at m) m (begins_owner (kind_of (object s m).body) (k.role (k.at m)) m (R.begins m u)) refl)

    spares : (passes : ℕ → Class → Bool) → spares_in s k' regions passes ≡ spares_in s k regions passes
    spares passes = total-cong (spare_in s k' regions passes) (spare_in s k regions passes) (length s.objects) (λ m l. each passes m (cases_Bool (is_held s m)))

-- one object moves
module _ (W : ℕ → Parts) (regions : ℕ → Class) (k k' : RoleMap) (s : Store) (n : ℕ) (old new : Class) (R : Roled W regions k s) (f : Frame k k' s s (λ m. m == n))
    (below : n < length s.objects) (held : in_use s n) (place : (m : ℕ) → (m ≡ n → ⊥) → k'.at m ≡ k.at m)
    (was : class_at regions (k.at n) ≡ old) (is : class_at regions (k'.at n) ≡ new) where
  change : (passes : ℕ → Class → Bool) → spares_in s k' regions passes + spare_in s k regions passes n ≡ spares_in s k regions passes + spare_in s k' regions passes n
  change passes = spares_changed W regions k k' s s passes n R f below refl (λ m ne. refl)

  none : (t b : Bool) → if_true (t && (false && b)) 2 ≡ 0
  none true b = refl
  none false b = refl

  out : (m : RoleMap) (passes : ℕ → Class → Bool) (c : Class) → class_at regions (m.at n) ≡ c → passes n c ≡ false → spare_in s m regions passes n ≡ 0
  out m passes c z e =
      ap (λ (x : Bool). if_true (is_held s n && (x && is_cell (m.role (m.at n)))) 2) (ap (passes n) z ∙ e) ∙ none (is_held s n) (is_cell (m.role (m.at n)))

  here : (passes : ℕ → Class → Bool) → passes n new ≡ true → spare_in s k' regions passes n ≡ if_true (is_cell (k'.role (k'.at n))) 2
  here passes e =
      ap (λ (x : Bool). if_true (x && (passes n (class_at regions (k'.at n)) && is_cell (k'.role (k'.at n)))) 2) held
      ∙ ap (λ (x : Bool). if_true (true && (x && is_cell (k'.role (k'.at n)))) 2) (ap (passes n) is ∙ e)

  pub moves_one : Moves regions k k' s old new (object s n).charge (if_true (is_cell (k'.role (k'.at n))) 2)
  moves_one = record {
    leave = λ passes x y. charges_leave s k.at k'.at regions passes n below held place (ap (passes n) was ∙ x n) (ap (passes n) is ∙ y n);
    enter = λ passes x y. charges_enter s k.at k'.at regions passes n below held place (ap (passes n) was ∙ x n) (ap (passes n) is ∙ y n);
    stay = λ passes x. charges_stay s k.at k'.at regions passes n below held place (ap (passes n) was ∙ x n ∙ sym (ap (passes n) is));
    spares_enter = λ passes x y. (let a = change passes in let b = out k passes old was (x n) in let c = here passes (y n) in omega arith);
    spares_stay = λ passes x y. (let a = change passes in let b = out k passes old was (x n) in let c = out k' passes new is (y n) in omega arith);
  }

-- the same sums, by other numbers
pub moves_as : (regions : ℕ → Class) (k k' : RoleMap) (s : Store) (old new : Class) (charge spare charge' spare' : ℕ) → charge ≡ charge' → spare ≡ spare' → Moves regions k k' s old new charge spare → Moves regions k k' s old new charge' spare'
moves_as regions k k' s old new charge spare charge' spare' e f m =
    let P : ℕ → Type 0 = λ c. Moves regions k k' s old new c spare' in
    let Q : ℕ → Type 0 = λ p. Moves regions k k' s old new charge p in
    subst P e (subst Q f m)
