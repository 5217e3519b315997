-- The class of a region, and the chains.
use Rattle.std.proofs.Common.{◌≡◌, ℕ, ◌/◌, true, false, eqb, List, length, refl, ◌∙◌, ap, subst, inl, inr, Option, Some, None}
use Rattle.std.specs.Prelude.{Contains, ◌⊎◌}
use Rattle.std.specs.List.{list_any}
use Rattle.std.proofs.lemmas.Bool.{eqb-true, cases_Bool}
use Rattle.std.proofs.lemmas.Cmp.{nat_eq_equiv}
use Rattle.std.proofs.lemmas.Map.Views.{list_any-from_Contains, Contains-from_any}
use Rattle.area_space.specs.index_lists.Chains.{IsSound}
use Rattle.area_space.proofs.index_lists.ListUpdates.{list_in}
use Rattle.lisp_meaning.proofs.reading.NextUnits.{lowest-passes, lowest-none, none-lowest}
use Rattle.area_space.specs.Table.{Table, live, stale, chain, lists_of, IsUnclassed, IsLive, IsOld}
use Rattle.area_space.proofs.RegionStates.{half_cases}
use Rattle.lisp_ground.specs.Image.{class_with}

pub listed : (xs : List ℕ) (r : ℕ) → Contains xs r → list_any (eqb r) xs ≡ true
listed xs r m = list_any-from_Contains nat_eq_equiv r xs m

pub from_listed : (xs : List ℕ) (r : ℕ) → list_any (eqb r) xs ≡ true → Contains xs r
from_listed xs r e = Contains-from_any (λ x y. eqb-true x y) r xs e

-- the class that is found has the region
pub class_has : (t : Table) (r c : ℕ) → class_with t r ≡ Some c → Contains (chain t c) r
class_has t r c e = from_listed (chain t c) r (lowest-passes (λ class. list_any (eqb r) (chain t class)) (length t.chains) c e).1

-- no class is found if none has the region
pub free_class : (t : Table) (r : ℕ) → IsUnclassed t r → class_with t r ≡ None
free_class t r free = none-lowest (λ class. list_any (eqb r) (chain t class)) (length t.chains) (λ m l. not_listed m (cases_Bool (list_any (eqb r) (chain t m))))
  where
    not_listed : (m : ℕ) → (list_any (eqb r) (chain t m) ≡ true) ⊎ (list_any (eqb r) (chain t m) ≡ false) → list_any (eqb r) (chain t m) ≡ false
    not_listed m (inl e) = absurd (free m (from_listed (chain t m) r e))
    not_listed m (inr e) = e

-- if no class is found, the region is free
pub class_free : (t : Table) (r : ℕ) → class_with t r ≡ None → IsUnclassed t r
class_free t r e c m =
    let l = list_in (lists_of t) c r m in
    let no = lowest-none (λ class. list_any (eqb r) (chain t class)) (length t.chains) e c l in
    let yes = listed (chain t c) r m in
    absurd cc

-- a class that has the region is found
pub has_class : (t : Table) (r c : ℕ) → IsSound (lists_of t) → Contains (chain t c) r → class_with t r ≡ Some c
has_class t r c sound m = found (class_with t r) refl
  where
    found : (o : Option ℕ) → class_with t r ≡ o → class_with t r ≡ Some c
    found None e = absurd (class_free t r e c m)
    found (Some d) e = let same : d ≡ c = sound.one_list d c r (class_has t r d e) m in e ∙ ap (λ (k : ℕ). Some k) same

-- a region is free, or live, or old
pub region_cases : (t : Table) (r : ℕ) → IsUnclassed t r ⊎ (IsLive t r ⊎ IsOld t r)
region_cases t r = by_class (class_with t r) refl
  where
    by_half : (c : ℕ) → Contains (chain t c) r → (c ≡ live (c / 2)) ⊎ (c ≡ stale (c / 2)) → IsLive t r ⊎ IsOld t r
    by_half c m (inl e) = inl (c / 2, subst (λ (k : ℕ). Contains (chain t k) r) e m)
    by_half c m (inr e) = inr (c / 2, subst (λ (k : ℕ). Contains (chain t k) r) e m)

    by_class : (o : Option ℕ) → class_with t r ≡ o → IsUnclassed t r ⊎ (IsLive t r ⊎ IsOld t r)
    by_class None e = inl (class_free t r e)
    by_class (Some c) e = inr (by_half c (class_has t r c e) (half_cases c))

-- the class of a region depends on the chains alone
pub class_same : (t u : Table) (r : ℕ) → u.chains ≡ t.chains → class_with u r ≡ class_with t r
class_same t u r e = ap (λ (cs : List (List ℕ)). class_with (record t { chains = cs }) r) e
