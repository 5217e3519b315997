-- The lowest number that passes, and the open words of a page.
use Rattle.std.proofs.Common.{◌≡◌, ℕ, zero, suc, ◌+◌, ◌*◌, ◌/◌, ◌%◌, ◌<◌, ◌≤◌, ◌⊎◌, inl, inr, Bool, true, false, ◌&&◌, nat_lt, nat_le, refl, sym, ◌∙◌, ap, arith, Option, Some, None, slice_index}
use Rattle.std.proofs.lemmas.Bool.{cases_eq, lt-ltb, le-ltb, le-leb, lt-leb}
use Rattle.area_space.specs.Table.{Table, used_of}
use Rattle.transporter.specs.lisp_meaning.Units.{lowest, lowest_or}
use Rattle.transporter.proofs.lisp_meaning.reading.NextUnits.{none-lowest}
use Rattle.scavenger.specs.Scan.{Scan}
use Rattle.scavenger.specs.Left.{is_open}

pub lowest-some : (p : ℕ → Bool) (n m : ℕ) → m < n → p m ≡ true → ((k : ℕ) → k < m → p k ≡ false) → lowest p n ≡ Some m
unfolding lowest
lowest-some p zero m l passes none = absurd (omega arith)
lowest-some p (suc n) m l passes none = at (cases_eq m n) (λ (q : m < n). lowest-some p n m q passes none)
  where
    at : (m ≡ n) ⊎ (m ≡ n → ⊥) → (m < n → lowest p n ≡ Some m) → lowest_or (lowest p n) n (p n) ≡ Some m
    at (inl e) before =
        let none_below : lowest p n ≡ None = none-lowest p n (λ k q. none k (omega arith)) in
        let here : p n ≡ true = ap p (sym e) ∙ passes in
        ap (λ (o : Option ℕ). lowest_or o n (p n)) none_below ∙ ap (lowest_or None n) here ∙ ap (λ (x : ℕ). Some x) (sym e)
    at (inr ne) before = ap (λ (o : Option ℕ). lowest_or o n (p n)) (before (omega arith))

pub and_second : (b c : Bool) → c ≡ false → (b && c) ≡ false
and_second true c e = e
and_second false c e = refl

pub and_both : (b c : Bool) → b ≡ true → c ≡ true → (b && c) ≡ true
and_both true c x y = y
and_both false c x y = cc

-- a used word after the first ones of its page is open
pub is-open : (s : Scan) (t : Table) (a : ℕ) → slice_index s.pages (a / 256) ≤ a % 256 → a % 4096 < used_of t (a / 4096) → is_open s t a ≡ true
is-open s t a behind used = and_both (nat_le (slice_index s.pages (a / 256)) (a % 256)) (nat_lt (a % 4096) (used_of t (a / 4096))) (le-leb (slice_index s.pages (a / 256)) (a % 256) behind) (lt-ltb (a % 4096) (used_of t (a / 4096)) used)

-- one that is among them isn't
pub not-behind : (s : Scan) (t : Table) (a : ℕ) → a % 256 < slice_index s.pages (a / 256) → is_open s t a ≡ false
not-behind s t a low = ap (λ (b : Bool). b && nat_lt (a % 4096) (used_of t (a / 4096))) (lt-leb (slice_index s.pages (a / 256)) (a % 256) low)

-- nor is one that isn't used
pub not-used : (s : Scan) (t : Table) (a : ℕ) → used_of t (a / 4096) ≤ a % 4096 → is_open s t a ≡ false
not-used s t a past = and_second (nat_le (slice_index s.pages (a / 256)) (a % 256)) (nat_lt (a % 4096) (used_of t (a / 4096))) (le-ltb (a % 4096) (used_of t (a / 4096)) past)

-- the first word of a page after those that are scanned
pub open-first : (s : Scan) (t : Table) (page first : ℕ) → slice_index s.pages page ≡ first → first < 256 → 256 * (page % 16) + first < used_of t (page / 16) → is_open s t (256 * page + first) ≡ true
open-first s t page first is low used =
    let on : (256 * page + first) / 256 ≡ page = omega arith in
    let in_page : (256 * page + first) % 256 ≡ first = omega arith in
    let region : (256 * page + first) / 4096 ≡ page / 16 = omega arith in
    let in_region : (256 * page + first) % 4096 ≡ 256 * (page % 16) + first = omega arith in
    let x : slice_index s.pages ((256 * page + first) / 256) ≡ first = ap (slice_index s.pages) on ∙ is in
    let y : used_of t ((256 * page + first) / 4096) ≡ used_of t (page / 16) = ap (used_of t) region in
    is-open s t (256 * page + first) (omega arith) (omega arith)
