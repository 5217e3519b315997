-- How many words are open: those that are used, except the first ones of each page that are scanned or aren't units.
use Rattle.std.proofs.Common.{◌≡◌, ℕ, zero, suc, ◌+◌, ◌-◌, ◌*◌, ◌/◌, ◌%◌, ◌<◌, ◌≤◌, inl, inr, nat_le, min, List, length, slice_index, slice_set, refl, ◌∙◌, ap, arith}
use Rattle.std.proofs.lemmas.Bool.{cases_lt, cases_eq, lt-leb, le-leb}
use Rattle.std.proofs.lemmas.List.{get_or-set_same, get_or-set_other}
use Rattle.lisp_graph.specs.Totals.{total, if_true}
use Rattle.lisp_graph.proofs.Totals.{total-zero, total-suc, total-at}
use Rattle.area_space.specs.Table.{Table, used_of}
use Rattle.scavenger.specs.Scan.{Scan}
use Rattle.scavenger.specs.Left.{is_open}
use Rattle.scavenger.specs.Scanning.{register_done, word_done}
use Rattle.scavenger.specs.Starting.{used_on}
use Rattle.scavenger.proofs.RemainingUnits.{open_units}
use Rattle.scavenger.proofs.Sums.{where-none, where-one}
use Rattle.scavenger.proofs.LowestNumbers.{is-open, not-behind, not-used}

-- how many of the first m words of a page are among its first n: the smaller number
abbrev low-of : ℕ → ℕ → ℕ
low-of m n = m - (m - n)

module _ (s : Scan) (t : Table) (page first used : ℕ) (is : slice_index s.pages page ≡ first) (end : used_of t (page / 16) ≡ 256 * (page % 16) + used) (order : first ≤ used) where
  -- among the first j words of the page
  open-among : (j : ℕ) → j ≤ 256 → total (λ a. if_true (is_open s t a) 1) (256 * page + j) + low-of first j ≡ total (λ a. if_true (is_open s t a) 1) (256 * page) + low-of used j
  open-among zero few =
      let e : 256 * page + 0 ≡ 256 * page = omega arith in
      let x = ap (total (λ a. if_true (is_open s t a) 1)) e in
      omega arith
  open-among (suc j) few =
      let e : 256 * page + suc j ≡ suc (256 * page + j) = omega arith in
      let step = ap (total (λ a. if_true (is_open s t a) 1)) e ∙ total-suc (λ a. if_true (is_open s t a) 1) (256 * page + j) in
      let before = open-among j (omega arith) in
      let on : (256 * page + j) / 256 ≡ page = omega arith in
      let in_page : (256 * page + j) % 256 ≡ j = omega arith in
      let region : (256 * page + j) / 4096 ≡ page / 16 = omega arith in
      let in_region : (256 * page + j) % 4096 ≡ 256 * (page % 16) + j = omega arith in
      let x : slice_index s.pages ((256 * page + j) / 256) ≡ first = ap (slice_index s.pages) on ∙ is in
      let y : used_of t ((256 * page + j) / 4096) ≡ 256 * (page % 16) + used = ap (used_of t) region ∙ end in
      elim (cases_lt j first) [
        | inl low ↦ let z = where-none (is_open s t (256 * page + j)) (not-behind s t (256 * page + j) (omega arith)) in omega arith
        | inr high ↦ elim (cases_lt j used) [
          | inl below ↦ let z = where-one (is_open s t (256 * page + j)) (is-open s t (256 * page + j) (omega arith) (omega arith)) in omega arith
          | inr past ↦ let z = where-none (is_open s t (256 * page + j)) (not-used s t (256 * page + j) (omega arith)) in omega arith
        ]
      ]

-- a page past the used end of its region has no open word
none-among : (s : Scan) (t : Table) (page : ℕ) → used_of t (page / 16) ≤ 256 * (page % 16) → (j : ℕ) → j ≤ 256 → total (λ a. if_true (is_open s t a) 1) (256 * page + j) ≡ total (λ a. if_true (is_open s t a) 1) (256 * page)
none-among s t page past zero few = let e : 256 * page + 0 ≡ 256 * page = omega arith in ap (total (λ a. if_true (is_open s t a) 1)) e
none-among s t page past (suc j) few =
    let e : 256 * page + suc j ≡ suc (256 * page + j) = omega arith in
    let step = ap (total (λ a. if_true (is_open s t a) 1)) e ∙ total-suc (λ a. if_true (is_open s t a) 1) (256 * page + j) in
    let before = none-among s t page past j (omega arith) in
    let region : (256 * page + j) / 4096 ≡ page / 16 = omega arith in
    let in_region : (256 * page + j) % 4096 ≡ 256 * (page % 16) + j = omega arith in
    let y : used_of t ((256 * page + j) / 4096) ≡ used_of t (page / 16) = ap (used_of t) region in
    let z = where-none (is_open s t (256 * page + j)) (not-used s t (256 * page + j) (omega arith)) in
    omega arith

-- over `n` pages: open words, and first words that are scanned or aren't units, are the used ones
pub open-pages : (s : Scan) (t : Table) → ((page : ℕ) → slice_index s.pages page ≤ used_on t page) → (n : ℕ) → total (λ a. if_true (is_open s t a) 1) (256 * n) + total (slice_index s.pages) n ≡ total (used_on t) n
open-pages s t few zero =
    let a = total-zero (λ a. if_true (is_open s t a) 1) in
    let b = total-zero (slice_index s.pages) in
    let c = total-zero (used_on t) in
    omega arith
open-pages s t few (suc n) =
    let before = open-pages s t few n in
    let b = total-suc (slice_index s.pages) n in
    let c = total-suc (used_on t) n in
    let e : 256 * suc n ≡ 256 * n + 256 = omega arith in
    let d = ap (total (λ a. if_true (is_open s t a) 1)) e in
    let f = few n in
    elim (cases_lt (256 * (n % 16)) (used_of t (n / 16))) [
      | inl low ↦
          let used : used_of t (n / 16) ≡ 256 * (n % 16) + (used_of t (n / 16) - 256 * (n % 16)) = omega arith in
          let all = open-among s t n (slice_index s.pages n) (used_of t (n / 16) - 256 * (n % 16)) refl used (omega arith) 256 (omega arith) in
          omega arith
      | inr past ↦ let all = none-among s t n past 256 (omega arith) in omega arith
    ]

-- the used words of the first `j` pages of a region
first-pages : (t : Table) (r j : ℕ) → j ≤ 16 → total (used_on t) (16 * r + j) ≡ total (used_on t) (16 * r) + min (256 * j) (used_of t r)
first-pages t r zero few = let e : 16 * r + 0 ≡ 16 * r = omega arith in let x = ap (total (used_on t)) e in omega arith
first-pages t r (suc j) few =
    let e : 16 * r + suc j ≡ suc (16 * r + j) = omega arith in
    let step = ap (total (used_on t)) e ∙ total-suc (used_on t) (16 * r + j) in
    let before = first-pages t r j (omega arith) in
    let region : (16 * r + j) / 16 ≡ r = omega arith in
    let in_region : (16 * r + j) % 16 ≡ j = omega arith in
    let y : used_of t ((16 * r + j) / 16) ≡ used_of t r = ap (used_of t) region in
    omega arith

-- the used words of all pages of `n` regions are those of the regions
pub used-pages : (t : Table) → ((r : ℕ) → used_of t r ≤ 4096) → (n : ℕ) → total (used_on t) (16 * n) ≡ total (used_of t) n
used-pages t full zero = let a = total-zero (used_on t) in let b = total-zero (used_of t) in omega arith
used-pages t full (suc n) =
    let before = used-pages t full n in
    let e : 16 * suc n ≡ 16 * n + 16 = omega arith in
    let x = ap (total (used_on t)) e in
    let all = first-pages t n 16 (omega arith) in
    let step = total-suc (used_of t) n in
    let f = full n in
    omega arith

-- registers that aren't scanned
registers-left : (scanned n : ℕ) → total (λ r. if_true (nat_le scanned r) 1) n + min scanned n ≡ n
registers-left scanned zero = let a = total-zero (λ r. if_true (nat_le scanned r) 1) in omega arith
registers-left scanned (suc n) =
    let step = total-suc (λ r. if_true (nat_le scanned r) 1) n in
    let before = registers-left scanned n in
    elim (cases_lt n scanned) [
      | inl low ↦ let x = where-none (nat_le scanned n) (lt-leb scanned n low) in omega arith
      | inr high ↦ let x = where-one (nat_le scanned n) (le-leb scanned n high) in omega arith
    ]

-- open units, and those that are scanned or aren't units, are the registers and the used words
pub units-sum : (s : Scan) (t : Table) → ((r : ℕ) → used_of t r ≤ 4096) → ((page : ℕ) → slice_index s.pages page ≤ used_on t page)
    → open_units s t + (total (slice_index s.pages) (16 * t.regions) + min s.scanned s.registers) ≡ s.registers + total (used_of t) t.regions
units-sum s t full few =
    let words = open-pages s t few (16 * t.regions) in
    let e : 256 * (16 * t.regions) ≡ 4096 * t.regions = omega arith in
    let x = ap (total (λ a. if_true (is_open s t a) 1)) e in
    let used = used-pages t full t.regions in
    let registers = registers-left s.scanned s.registers in
    omega arith

-- one number of a list is changed
total-set : (xs : List ℕ) (i v n : ℕ) → i < n → i < length xs → total (slice_index (slice_set xs i v)) n + slice_index xs i ≡ total (slice_index xs) n + v
total-set xs i v n low inside =
    let here : slice_index (slice_set xs i v) i ≡ v = get_or-set_same xs i v 0 inside in
    let sum = total-at (slice_index (slice_set xs i v)) (slice_index xs) i n low (λ m l ne. get_or-set_other xs i m v 0 ne) in
    omega arith

-- a register is scanned
pub register-fewer : (s : Scan) (t : Table) (r : ℕ) → ((i : ℕ) → used_of t i ≤ 4096) → ((page : ℕ) → slice_index s.pages page ≤ used_on t page) → r ≡ s.scanned → r < s.registers
    → open_units (register_done s r) t + 1 ≡ open_units s t
register-fewer s t r full few is low =
    let a = units-sum s t full few in
    let b = units-sum (register_done s r) t full few in
    omega arith

module _ (s : Scan) (t : Table) (at : ℕ) (full : (r : ℕ) → used_of t r ≤ 4096) (few : (page : ℕ) → slice_index s.pages page ≤ used_on t page)
    (first : slice_index s.pages (at / 256) ≡ at % 256) (used : at % 4096 < used_of t (at / 4096)) (inside : at / 256 < length s.pages) where
  -- the first words of a page are used when one more of them is scanned
  pub word-few : (page : ℕ) → slice_index (word_done s at).pages page ≤ used_on t page
  word-few page =
      let f = few page in
      elim (cases_eq page (at / 256)) [
        | inl e ↦
            let is : slice_index (word_done s at).pages page ≡ at % 256 + 1 = ap (slice_index (word_done s at).pages) e ∙ get_or-set_same s.pages (at / 256) (at % 256 + 1) 0 inside in
            let region : page / 16 ≡ at / 4096 = omega arith in
            let same : used_of t (page / 16) ≡ used_of t (at / 4096) = ap (used_of t) region in
            omega arith
        | inr ne ↦ let is : slice_index (word_done s at).pages page ≡ slice_index s.pages page = get_or-set_other s.pages (at / 256) page (at % 256 + 1) 0 ne in omega arith
      ]

  -- a word is scanned
  pub word-fewer : at / 256 < 16 * t.regions → open_units (word_done s at) t + 1 ≡ open_units s t
  word-fewer low =
      let a = units-sum s t full few in
      let b = units-sum (word_done s at) t full word-few in
      let c : total (slice_index (word_done s at).pages) (16 * t.regions) + slice_index s.pages (at / 256) ≡ total (slice_index s.pages) (16 * t.regions) + (at % 256 + 1) = total-set s.pages (at / 256) (at % 256 + 1) (16 * t.regions) low inside in
      omega arith

-- used ends rise
pub few-grown : (s : Scan) (t t' : Table) → ((r : ℕ) → used_of t r ≤ used_of t' r) → ((page : ℕ) → slice_index s.pages page ≤ used_on t page) → (page : ℕ) → slice_index s.pages page ≤ used_on t' page
few-grown s t t' used few page = let a = few page in let b = used (page / 16) in omega arith

-- what isn't used is past the first words of its page
pub few-ahead : (s : Scan) (t : Table) → ((page : ℕ) → slice_index s.pages page ≤ used_on t page) → (a : ℕ) → used_of t (a / 4096) ≤ a % 4096 → slice_index s.pages (a / 256) ≤ a % 256
few-ahead s t few a past =
    let f = few (a / 256) in
    let region : a / 256 / 16 ≡ a / 4096 = omega arith in
    let same : used_of t (a / 256 / 16) ≡ used_of t (a / 4096) = ap (used_of t) region in
    omega arith

-- words are placed: they remain to be scanned, and no others are added
pub units-grown : (s : Scan) (t t' : Table) → ((r : ℕ) → used_of t r ≤ 4096) → ((r : ℕ) → used_of t' r ≤ 4096) → ((r : ℕ) → used_of t r ≤ used_of t' r) → t'.regions ≡ t.regions
    → total (used_of t') t'.regions + t.placed ≡ total (used_of t) t.regions + t'.placed → ((page : ℕ) → slice_index s.pages page ≤ used_on t page) → open_units s t' + t.placed ≡ open_units s t + t'.placed
units-grown s t t' full full' used regions placed few =
    let a = units-sum s t full few in
    let b = units-sum s t' full' (few-grown s t t' used few) in
    let e : 16 * t'.regions ≡ 16 * t.regions = omega arith in
    let same = ap (total (slice_index s.pages)) e in
    omega arith
