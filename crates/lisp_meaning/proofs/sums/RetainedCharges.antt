-- What areas are charged after a collection has ended.
use Rattle.std.proofs.Common.{◌≡◌, ℕ, suc, ◌+◌, ◌≤◌, ◌⊎◌, inl, inr, Bool, true, false, not, ◌&&◌, ◌||◌, nat_eq, refl, sym, ◌∙◌, ap, arith, List, length, Option, Some, None, is_some}
use Rattle.std.proofs.lemmas.Bool.{cases_Bool}
use Rattle.lisp_graph.specs.store_word.declared.space.Space.{Space}
use Rattle.lisp_graph.specs.declared.object.Object.{Object}
use Rattle.lisp_graph.specs.Graph.{object_at}
use Rattle.lisp_graph.specs.Totals.{total, if_true}
use Rattle.lisp_graph.proofs.Totals.{total-add, total-cong, total-le}
use Rattle.lisp_meaning.specs.machine.State.{Condemned, aim_of, Phase, State, survivor, object, is_held}
use Rattle.lisp_meaning.specs.machine.Charges.{charges, per_area}
use Rattle.lisp_meaning.specs.machine.Flip.{Settles}
use Rattle.lisp_meaning.specs.Laws.{gone_charges, kept_charges, Retains, Retention}

parts : (new old here : Bool) (charge : ℕ) → (old ≡ false → new ≡ false)
    → if_true (new && here) charge + if_true ((old && not new) && here) charge ≡ if_true (old && here) charge
parts true true true charge f = (let z : charge + 0 ≡ charge = omega arith in z)
parts true true false charge f = (let z : 0 + 0 ≡ 0 = omega arith in z)
parts true false here charge f = let x = f refl in cc
parts false true true charge f = (let z : 0 + charge ≡ charge = omega arith in z)
parts false true false charge f = (let z : 0 + 0 ≡ 0 = omega arith in z)
parts false false true charge f = (let z : 0 + 0 ≡ 0 = omega arith in z)
parts false false false charge f = (let z : 0 + 0 ≡ 0 = omega arith in z)

no_more : (new kept here : Bool) (charge : ℕ) → (new ≡ true → kept ≡ true) → if_true (new && here) charge ≤ if_true (kept && here) charge
no_more true true here charge f = omega arith
no_more true false here charge f = let x = f refl in cc
no_more false kept here charge f = omega arith

module _ (old : State) (aim : Condemned) (new : State) (h : Settles old aim new) where
  -- a name that is held was held
  was_held : (n : ℕ) → is_held old.store n ≡ false → is_held new.store n ≡ false
  was_held n e = go (old.store.held n) refl
    where
      go : (l : Option ℕ) → old.store.held n ≡ l → is_held new.store n ≡ false
      go None x = ap is_some (h.nothing_new n x)
      go (Some level) x = let y = ap is_some x in cc

  -- it wasn't condemned or is bound
  may_stay : (n : ℕ) → is_held new.store n ≡ true → (is_held old.store n && (not (aim.condemned n) || aim.bound n)) ≡ true
  may_stay n e = go (old.store.held n) refl (cases_Bool (aim.condemned n))
    where
      both : (a b c : Bool) → a ≡ true → (b ≡ false) ⊎ (c ≡ true) → (a && (not b || c)) ≡ true
      both a b c x (inl y) = cc
      both a true c x (inr y) = cc
      both a false c x (inr y) = cc

      go : (l : Option ℕ) → old.store.held n ≡ l → (aim.condemned n ≡ true) ⊎ (aim.condemned n ≡ false) → (is_held old.store n && (not (aim.condemned n) || aim.bound n)) ≡ true
      go None x c = let y = ap is_some (h.nothing_new n x) in cc
      go (Some level) x (inr c) = both (is_held old.store n) (aim.condemned n) (aim.bound n) (ap is_some x) (inl c)
      go (Some level) x (inl c) = stays (h.doomed n level c x)
        where
          stays : (new.store.held n ≡ None) ⊎ ((new.store.held n ≡ Some (survivor old.space.levels aim.what level)) × (aim.bound n ≡ true)) → (is_held old.store n && (not (aim.condemned n) || aim.bound n)) ≡ true
          stays (inl y) = let z = ap is_some y in cc
          stays (inr y) = both (is_held old.store n) (aim.condemned n) (aim.bound n) (ap is_some x) (inr y.1)

  module _ (area : ℕ) where
    -- the charges of the names that are held, over the unchanged objects
    abbrev held_charge : ℕ → ℕ
    held_charge n = if_true (is_held new.store n && per_area old.store area n) (object old.store n).charge

    new_charges : charges new.store (λ n. is_held new.store n && per_area new.store area n) ≡ total held_charge (length old.store.objects)
    new_charges = ap (λ (os : List Object). total (λ n. if_true (is_held new.store n && nat_eq (object_at os n).area area) (object_at os n).charge) (length os)) h.objects

    husks_same : total (new.store.husks area) (suc new.space.levels) ≡ total (old.store.husks area) (suc old.space.levels)
    husks_same = ap (λ (husks : ℕ → ℕ → ℕ). total (husks area) (suc new.space.levels)) h.husks ∙ ap (λ (s : Space). total (old.store.husks area) (suc s.levels)) h.space

    none_gone : (aim_of new.phase).gone area ≡ 0
    none_gone = ap (λ (p : Phase). (aim_of p).gone area) h.phase

    split : total held_charge (length old.store.objects) + gone_charges old.store new.store area ≡ charges old.store (λ n. is_held old.store n && per_area old.store area n)
    split =
        sym (total-add held_charge (λ n. if_true ((is_held old.store n && not (is_held new.store n)) && per_area old.store area n) (object old.store n).charge) (length old.store.objects))
        ∙ total-cong (λ n. held_charge n + if_true ((is_held old.store n && not (is_held new.store n)) && per_area old.store area n) (object old.store n).charge)
        (λ n. if_true (is_held old.store n && per_area old.store area n) (object old.store n).charge) (length old.store.objects)
        (λ n l. parts (is_held new.store n) (is_held old.store n) (per_area old.store area n) (object old.store n).charge (was_held n))

    few : total held_charge (length old.store.objects) ≤ kept_charges old.store aim area
    few = total-le held_charge (λ n. if_true ((is_held old.store n && (not (aim.condemned n) || aim.bound n)) && per_area old.store area n) (object old.store n).charge) (length old.store.objects)
        (λ n l. no_more (is_held new.store n) (is_held old.store n && (not (aim.condemned n) || aim.bound n)) (per_area old.store area n) (object old.store n).charge (may_stay n))

    retains : Retains old aim new area
    retains = record {
      freed = (let a = new_charges in let b = husks_same in let c = none_gone in let d = split in omega arith);
      at_most = (let a = new_charges in let b = husks_same in let c = none_gone in let d = few in omega arith);
    }

pub retention : Retention
retention = retains
