-- What always holds of a table outlasts that a region is opened and that words are committed.
use Rattle.std.proofs.Common.{◌≡◌, ◌≢◌, ℕ, ◌/◌, ◌<◌, eqb, Some, List, [], ◌∷◌, ◌++◌, length, sym, ◌∙◌, ap, subst, arith, inl, inr}
use Rattle.std.specs.Prelude.{Contains, ◌⊎◌}
use Rattle.std.specs.List.{IsDistinct}
use Rattle.std.proofs.lemmas.Bool.{cases_eq}
use Rattle.index_lists.specs.Chains.{IsSound, last_of}
use Rattle.index_lists.proofs.ListUpdates.{Contains-push_back}
use Rattle.index_lists.proofs.Members.{contains_from_has, distinct_from_apart, apart_from_distinct, apart_push, lacks_from_not}
use Rattle.area_space.specs.declared.classes.Origin.{Origin}
use Rattle.area_space.specs.declared.classes.Origin.TheVariants.{New, Moved, Reserve}
use Rattle.area_space.specs.Charges.{charged_by, committed, discharged, AllowsOrigin}
use Rattle.area_space.specs.History.{AllowsOpening}
use Rattle.area_space.specs.Places.{IsEnd, opened, extended}
use Rattle.area_space.specs.Sound.{IsTable}
use Rattle.area_space.specs.Table.{Table, slots_of, slot_of, live, stale, chain, lists_of, used_of, IsUnclassed}
use Rattle.area_space.proofs.ChargeChanges.{area_below, charged_is, discharged_is, moved_fits}
use Rattle.area_space.proofs.WordCommits.{not_empty, allows_extended}
use Rattle.area_space.proofs.UsedEnds.{extended_is, end_in_chain}
use Rattle.area_space.proofs.TableFields.{noted_is}
use Rattle.area_space.proofs.NewRegions.{slot_below, chain_opened, chain_opened_other, opened_is}
use Rattle.area_space.proofs.Room.{fits_share}

-- A region is opened

-- what is in a chain afterwards was there, or is the region that was opened
was_or_opened : (t : Table) (class region c r : ℕ) → class < length t.chains → Contains (chain (opened t class region) c) r → Contains (chain t c) r ⊎ ((c ≡ class) × (r ≡ region))
was_or_opened t class region c r b m =
    elim (cases_eq c class) [
      | inl e ↦ elim (cases_eq r region) [
        | inl same ↦ inr (e, same)
        | inr ne ↦ inl (subst (λ (k : ℕ). Contains (chain t k) r) (sym e) (Contains-push_back r region (chain t class) (subst (λ (xs : List ℕ). Contains xs r) (ap (chain (opened t class region)) e ∙ chain_opened t class region b) m) ne))
      ]
      | inr ne ↦ inl (subst (λ (xs : List ℕ). Contains xs r) (chain_opened_other t class region c ne) m)
    ]

opened_sound : (t : Table) (class region : ℕ) → IsSound (lists_of t) → class < length t.chains → region < t.regions → IsUnclassed t region → IsSound (lists_of (opened t class region))
opened_sound t class region s b low free = record {
  within = λ l n m. elim (was_or_opened t class region l n b m) [
    | inl was ↦ s.within l n was
    | inr e ↦ subst (λ (k : ℕ). k < t.regions) (sym e.1) low
  ];
  one_list = λ l k n m p. elim (was_or_opened t class region l n b m) [
    | inl x ↦ elim (was_or_opened t class region k n b p) [
      | inl y ↦ s.one_list l k n x y
      | inr e ↦ absurd (free l (subst (Contains (chain t l)) e.1 x))
    ]
    | inr e ↦ elim (was_or_opened t class region k n b p) [
      | inl y ↦ absurd (free k (subst (Contains (chain t k)) e.1 y))
      | inr f ↦ e.0 ∙ sym f.0
    ]
  ];
  one_place = λ l. elim (cases_eq l class) [
    | inl e ↦ subst (IsDistinct eqb) (sym (ap (chain (opened t class region)) e ∙ chain_opened t class region b))
        (distinct_from_apart (chain t class ++ region ∷ []) (apart_push region (chain t class) (lacks_from_not region (chain t class) (λ h. free class (contains_from_has region (chain t class) h))) (apart_from_distinct (chain t class) (s.one_place class))))
    | inr ne ↦ subst (IsDistinct eqb) (sym (chain_opened_other t class region l ne)) (s.one_place l)
  ];
}

pub opening_lasts : (t : Table) (area level words region : ℕ) → AllowsOpening t area level words region → IsTable t → IsTable (opened t (live (slot_of t area level)) region)
opening_lasts t area level words region may v =
    let few = may.few in
    let within = may.within in
    let full : (r : ℕ) → last_of (chain t (live (slot_of t area level))) ≡ Some r → 2048 < used_of t r = λ r e. (let n = may.needed r e in omega arith) in
    let low = slot_below t area level may.area_in may.level_in in
    let size = v.chains_size in
    opened_is t area level region v may.area_in may.level_in may.free full (fits_share t area level v may.level_in full (omega arith))
    (opened_sound t (live (slot_of t area level)) region v.sound (omega arith) may.inside may.free)

-- Words are committed

charge_lasts : (t : Table) (slot charge : ℕ) (o : Origin) → IsTable t → slot < slots_of t → chain t (live slot) ≢ [] → AllowsOrigin t slot charge o → IsTable (charged_by t slot charge o)
charge_lasts t slot charge New v low some may = charged_is t slot charge v low some may
charge_lasts t slot charge (Moved from) v low some may =
    let class = stale (slot_of t from.area from.level) in
    let one = slot_below t from.area from.level (let area = may.1 in let below = area_below t slot low in omega arith) may.2 in
    charged_is (discharged t class charge) slot charge (discharged_is t class charge v (omega arith)) low some (moved_fits t slot charge from v low may)
charge_lasts t slot charge Reserve v low some may = v

pub commit_lasts : (t : Table) (slot at words charge : ℕ) (o : Origin) (pages : List ℕ) → IsEnd t slot at words → AllowsOrigin t slot charge o → IsTable t → IsTable (record (committed t slot at words charge o) { pages = pages })
commit_lasts t slot at words charge o pages end may v =
    let one = charge_lasts (extended t at words) slot charge o (extended_is t slot at words v end) end.inside (not_empty (chain t (live slot)) (at / 4096) (end_in_chain t slot at words end)) (allows_extended t at words t.pages slot charge o may) in
    noted_is (committed t slot at words charge o) (committed t slot at words charge o).aim (committed t slot at words charge o).last pages one
