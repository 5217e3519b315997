-- The scan has finished if and only if every register is scanned and the set of pages is empty.
use Rattle.std.proofs.Common.{◌≡◌, ℕ, ◌≤◌, inl, inr, Bool, true, false, not, length, sym, ap, Option, Some, None}
use Rattle.std.specs.Option.{is_some}
use Rattle.std.proofs.lemmas.Bool.{cases_Bool}
use Rattle.area_space.specs.index_lists.Chains.{first_of}
use Rattle.area_space.proofs.index_lists.ListUpdates.{Contains-first}
use Rattle.area_space.specs.Table.{Table}
use Rattle.scavenger.specs.Scan.{Scan}
use Rattle.scavenger.specs.Left.{IsPaged, is_none, next_of}
use Rattle.scavenger.proofs.NextUnits.{opened}
use Rattle.scavenger.proofs.OpenPages.{end-next, first-is, first-none, first-open, near-none}
use Rattle.scavenger.proofs.TidyScans.{none-is, none-next}

module _ (s : Scan) (t : Table) (size : length t.used ≡ t.regions) (x : IsPaged s t) where
  pub over-empty : s.registers ≤ s.scanned → first_of t.pages ≡ None → is_none (next_of (opened s) t) ≡ true
  over-empty done none = ap is_none (end-next s t size x (near-none s t size x (λ page is has. first-none t.pages page none has)) done none)

  pub going-on : (page : ℕ) → first_of t.pages ≡ Some page → is_none (next_of (opened s) t) ≡ false
  going-on page first = elim (cases_Bool (is_none (next_of (opened s) t))) [
    | inl over ↦
        let there = first-is s t size x page ((x.exact page).0 (Contains-first t.pages page first)) in
        let none = (none-next s t (none-is (next_of (opened s) t) over)).1 (first-open s t size x page) there.inside in
        let some = there.is in
        absurd cc
    | inr going ↦ going
  ]

  -- the same if the set gives its lowest page
  pub over-by-set : (o : Option ℕ) → o ≡ first_of t.pages → s.registers ≤ s.scanned → (over : Bool) → is_some o ≡ not over → over ≡ is_none (next_of (opened s) t)
  over-by-set None none done true e = sym (over-empty done (sym none))
  over-by-set None none done false e = cc
  over-by-set (Some page) first done true e = cc
  over-by-set (Some page) first done false e = sym (going-on page (sym first))
