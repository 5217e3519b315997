-- Words are committed: the charge, then the used end.
use Rattle.std.proofs.Common.{◌≡◌, ◌≢◌, ℕ, List, [], length, refl, ◌∙◌, ap, arith}
use Rattle.std.specs.Prelude.{Contains}
use Rattle.area_space.specs.declared.classes.Origin.{Origin}
use Rattle.area_space.specs.declared.classes.Origin.TheVariants.{New, Moved, Reserve}
use Rattle.area_space.specs.Charges.{charged_by, committed, AllowsOrigin}
use Rattle.area_space.specs.Places.{IsEnd, extended}
use Rattle.area_space.specs.Table.{Table, page_list}

pub not_empty : (xs : List ℕ) (x : ℕ) → Contains xs x → xs ≢ []
not_empty xs x m e = let z : length xs ≡ 0 = ap length e in absurd (omega (arith, m.1))

-- a charge moves no place
pub end_charged : (t : Table) (end at words slot charge : ℕ) (o : Origin) → IsEnd t end at words → IsEnd (charged_by t slot charge o) end at words
end_charged t end at words slot charge New e = record { inside = e.inside; last = e.last; end = e.end; fits = e.fits }
end_charged t end at words slot charge (Moved from) e = record { inside = e.inside; last = e.last; end = e.end; fits = e.fits }
end_charged t end at words slot charge Reserve e = e

-- and adds no page to be scanned
pub pages_charged : (t : Table) (slot charge : ℕ) (o : Origin) → page_list (charged_by t slot charge o) ≡ page_list t
pages_charged t slot charge New = refl
pages_charged t slot charge (Moved from) = refl
pages_charged t slot charge Reserve = refl

charged_first : (t : Table) (slot at words charge : ℕ) (pages : List ℕ) (o : Origin) → record (extended (charged_by t slot charge o) at words) { pages = pages } ≡ record (committed t slot at words charge o) { pages = pages }
charged_first t slot at words charge pages New = refl
charged_first t slot at words charge pages (Moved from) = refl
charged_first t slot at words charge pages Reserve = refl

pub commit_equation : (t m n : Table) (s slot at words charge : ℕ) (o : Origin) → s ≡ slot → m ≡ charged_by t s charge o → n ≡ record (extended m at words) { pages = n.pages }
    → n ≡ record (committed t slot at words charge o) { pages = n.pages }
commit_equation t m n s slot at words charge o e mid end =
    let charge_is : m ≡ charged_by t slot charge o = mid ∙ ap (λ (q : ℕ). charged_by t q charge o) e in
    end ∙ ap (λ (w : Table). (let u : Table = record (extended w at words) { pages = n.pages } in u)) charge_is ∙ charged_first t slot at words charge n.pages o

pub allows_extended : (t : Table) (at words : ℕ) (pages : List ℕ) (slot charge : ℕ) (o : Origin) → AllowsOrigin t slot charge o → AllowsOrigin (record (extended t at words) { pages = pages }) slot charge o
allows_extended t at words pages slot charge New h = h
allows_extended t at words pages slot charge (Moved from) h = h
allows_extended t at words pages slot charge Reserve h = h
