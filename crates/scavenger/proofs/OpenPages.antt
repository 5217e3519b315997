-- The pages that have a word to be scanned, as the table's set has them.
use Rattle.std.proofs.Common.{◌≡◌, ◌≢◌, ℕ, ◌+◌, ◌*◌, ◌/◌, ◌%◌, ◌<◌, ◌≤◌, ◌⊎◌, inl, inr, true, false, ◌&&◌, ◌==◌, nat_lt, nat_le, List, length, [], ◌∷◌, slice_index, Option, Some, None, refl, sym, ◌∙◌, ap, subst, arith}
use Rattle.std.specs.Prelude.{Contains, Bool, IfSome, IfNone, not}
use Rattle.std.proofs.lemmas.Bool.{cases_lt, cases_eq, and_parts, and_right, leb-true, ltb-true, eq-eqb, ne_eqb, cases_Bool}
use Rattle.std.proofs.lemmas.List.{get_or-set_same, get_or-set_other, get_or_past}
use Rattle.area_space.specs.index_lists.Chains.{first_of}
use Rattle.area_space.proofs.index_lists.ListUpdates.{Contains-first}
use Rattle.area_space.specs.PageList.{IsAscending, Drops}
use Rattle.area_space.specs.Table.{Table, used_of, page_list}
use Rattle.area_space.specs.index_lists.Members.{Has}
use Rattle.area_space.proofs.index_lists.Members.{has_from_contains}
use Rattle.transporter.specs.lisp_meaning.Units.{lowest}
use Rattle.transporter.proofs.lisp_meaning.reading.NextUnits.{none-lowest}
use Rattle.transporter.specs.Preserving.{PagesGrow}
use Rattle.scavenger.specs.Scan.{Scan}
use Rattle.scavenger.specs.declared.scan_set.Unit.TheVariants.{Word}
use Rattle.scavenger.specs.Left.{is_open, register_left, word_left, is_page, HasOpen, IsPaged, unit_of, near_of, next_of}
use Rattle.scavenger.specs.Scanning.{word_done}
use Rattle.scavenger.proofs.RemainingUnits.{still-open}
use Rattle.scavenger.proofs.NextUnits.{opened, word-next}
use Rattle.scavenger.proofs.LowestNumbers.{is-open, not-behind, open-first, lowest-some, and_both, and_second}

-- Lists that ascend

ascending-first : (x : ℕ) (xs : List ℕ) → IsAscending (x ∷ xs) → (q : ℕ) → Has q (x ∷ xs) → x ≤ q
ascending-first x [] a q h = elim (cases_eq x q) [ inl e ↦ omega arith | inr ne ↦ absurd (h ne) ]
ascending-first x (y ∷ ys) a q h = elim (cases_eq x q) [ inl e ↦ omega arith | inr ne ↦ (let i = ascending-first y ys a.1 q (h ne) in let b = a.0 in omega arith) ]

pub first-least : (xs : List ℕ) (r q : ℕ) → IsAscending xs → first_of xs ≡ Some r → Contains xs q → q < r → ⊥
first-least [] r q a e m low = absurd (omega (arith, m.1))
first-least (x ∷ xs) r q a e m low = (let same : x ≡ r = cc in let l = ascending-first x xs a q (has_from_contains q (x ∷ xs) m.0 m.1 m.2) in omega arith)

pub first-none : (xs : List ℕ) (r : ℕ) → first_of xs ≡ None → Contains xs r → ⊥
first-none [] r e m = absurd (omega (arith, m.1))
first-none (x ∷ xs) r e m = absurd (cc)

open-parts : (s : Scan) (t : Table) (a : ℕ) → is_open s t a ≡ true → (slice_index s.pages (a / 256) ≤ a % 256) × (a % 4096 < used_of t (a / 4096))
open-parts s t a e =
    let parts = and_parts (nat_le (slice_index s.pages (a / 256)) (a % 256)) (nat_lt (a % 4096) (used_of t (a / 4096))) e in
    (leb-true (slice_index s.pages (a / 256)) (a % 256) parts.0, ltb-true (a % 4096) (used_of t (a / 4096)) parts.1)

-- Words are placed

pub paged-grown : (s : Scan) (t t' : Table) → ((a : ℕ) → used_of t (a / 4096) ≤ a % 4096 → slice_index s.pages (a / 256) ≤ a % 256) → ((r : ℕ) → used_of t r ≤ used_of t' r)
    → PagesGrow t t' → IsPaged s t → IsPaged s t'
paged-grown s t t' ahead used grow x = record {
  ascending = grow.ascending x.ascending;
  exact = λ page. (
    (λ has. elim ((grow.members page).0 has) [
      | inl was ↦
          let o = (x.exact page).0 was in
          let p = open-parts s t o.0 o.2 in
          let behind = p.0 in
          let low = p.1 in
          (o.0, o.1, is-open s t' o.0 behind (let u = used (o.0 / 4096) in omega arith))
      | inr new ↦
          let past = new.2 in
          (new.0, new.1, is-open s t' new.0 (ahead new.0 past) new.3)
    ]),
    (λ o.
        let p = open-parts s t' o.0 o.2 in
        let behind = p.0 in
        let low = p.1 in
        elim (cases_lt (o.0 % 4096) (used_of t (o.0 / 4096))) [
          | inl before ↦ (grow.members page).1 (inl ((x.exact page).1 (o.0, o.1, is-open s t o.0 behind before)))
          | inr past ↦ (grow.members page).1 (inr (o.0, o.1, past, low))
        ]),
  );
}

-- A word is scanned, the first of its page that is open

module _ (s : Scan) (t : Table) (at : ℕ) (first : slice_index s.pages (at / 256) ≡ at % 256) (inside : at / 256 < length s.pages) (x : IsPaged s t) where
  done-here : (a : ℕ) → a / 256 ≡ at / 256 → slice_index (word_done s at).pages (a / 256) ≡ at % 256 + 1
  done-here a e = ap (slice_index (word_done s at).pages) e ∙ get_or-set_same s.pages (at / 256) (at % 256 + 1) 0 inside

  done-there : (a : ℕ) → a / 256 ≢ at / 256 → slice_index (word_done s at).pages (a / 256) ≡ slice_index s.pages (a / 256)
  done-there a ne = get_or-set_other s.pages (at / 256) (a / 256) (at % 256 + 1) 0 ne

  elsewhere : (page : ℕ) → page ≢ at / 256 → HasOpen s t page → HasOpen (word_done s at) t page
  elsewhere page ne o =
      let p = open-parts s t o.0 o.2 in
      let on = o.1 in
      let behind = p.0 in
      let same = done-there o.0 (λ e. ne (omega arith)) in
      (o.0, o.1, is-open (word_done s at) t o.0 (omega arith) p.1)

  -- if the next word of the page is used, the page remains in the set
  pub paged-on : at % 256 + 1 < 256 → at % 4096 + 1 < used_of t (at / 4096) → IsPaged (word_done s at) t
  paged-on few more = record {
    ascending = x.ascending;
    exact = λ page. (
      (λ has. elim (cases_eq page (at / 256)) [
        | inl e ↦
            let on : (at + 1) / 256 ≡ at / 256 = omega arith in
            let is = done-here (at + 1) on in
            let region : (at + 1) / 4096 ≡ at / 4096 = omega arith in
            let same : used_of t ((at + 1) / 4096) ≡ used_of t (at / 4096) = ap (used_of t) region in
            (at + 1, on ∙ sym e, is-open (word_done s at) t (at + 1) (omega arith) (omega arith))
        | inr ne ↦ elsewhere page ne ((x.exact page).0 has)
      ]),
      (λ o. (x.exact page).1 (o.0, o.1, still-open s t at first inside o.0 o.2)),
    );
  }

  -- if it isn't, the page is removed
  pub paged-dropped : (t' : Table) → t'.used ≡ t.used → Drops (page_list t) (page_list t') (at / 256) → (256 ≤ at % 256 + 1) ⊎ (used_of t (at / 4096) ≤ at % 4096 + 1) → IsPaged (word_done s at) t'
  paged-dropped t' used drops last = record {
    ascending = drops.ascending;
    exact = λ page. (
      (λ has.
          let m = (drops.members page).0 has in
          moved page (elsewhere page m.1 ((x.exact page).0 m.0))),
      (λ o.
          let p = open-parts (word_done s at) t' o.0 o.2 in
          let behind = p.0 in
          let same = same_end (o.0 / 4096) in
          let low : o.0 % 4096 < used_of t (o.0 / 4096) = (let l = p.1 in omega arith) in
          let gone : page ≡ at / 256 → ⊥ = λ e.
          let on : o.0 / 256 ≡ at / 256 = o.1 ∙ e in
          let is = done-here o.0 on in
          let region : o.0 / 4096 ≡ at / 4096 = omega arith in
          let end : used_of t (o.0 / 4096) ≡ used_of t (at / 4096) = ap (used_of t) region in
          elim last [ inl full ↦ omega arith | inr past ↦ omega arith ] in
          let before : is_open s t o.0 ≡ true = still-open s t at first inside o.0 (is-open (word_done s at) t o.0 behind low) in
          (drops.members page).1 ((x.exact page).1 (o.0, o.1, before), gone)),
    );
  }
    where
      same_end : (r : ℕ) → used_of t' r ≡ used_of t r
      same_end r = ap (λ (us : List ℕ). slice_index us r) used

      moved : (page : ℕ) → HasOpen (word_done s at) t page → HasOpen (word_done s at) t' page
      moved page o =
          let p = open-parts (word_done s at) t o.0 o.2 in
          let same = same_end (o.0 / 4096) in
          (o.0, o.1, is-open (word_done s at) t' o.0 p.0 (let l = p.1 in omega arith))

-- What is next, by the set

module _ (s : Scan) (t : Table) (size : length t.used ≡ t.regions) (x : IsPaged s t) where
  -- the first open word of a page that has one
  abbrev pub first-open : ℕ → ℕ
  first-open page = 256 * page + slice_index s.pages page

  pub record FirstOf (page : ℕ) : Type 0 where
    pub inside : first-open page < 4096 * t.regions
    pub on : first-open page / 256 ≡ page
    pub is : is_open s t (first-open page) ≡ true

  pub first-is : (page : ℕ) → HasOpen s t page → FirstOf page
  first-is page o =
      let p = open-parts s t o.0 o.2 in
      let on = o.1 in
      let behind : slice_index s.pages page ≤ o.0 % 256 = subst (λ (q : ℕ). slice_index s.pages q ≤ o.0 % 256) on p.0 in
      let low = p.1 in
      let region : o.0 / 4096 ≡ page / 16 = omega arith in
      let end : used_of t (o.0 / 4096) ≡ used_of t (page / 16) = ap (used_of t) region in
      let within : page / 16 < t.regions = elim (cases_lt (page / 16) (length t.used)) [ inl l ↦ omega arith | inr h ↦ absurd (let z = get_or_past t.used (page / 16) 0 h in omega arith) ] in
      record {
        inside = omega arith;
        on = omega arith;
        is = open-first s t page (slice_index s.pages page) refl (omega arith) (omega arith);
      }

  before-first : (page a : ℕ) → a / 256 ≡ page → a < first-open page → is_open s t a ≡ false
  before-first page a on low =
      let same : slice_index s.pages (a / 256) ≡ slice_index s.pages page = ap (slice_index s.pages) on in
      not-behind s t a (omega arith)

  shut-page : (page a : ℕ) → (Contains t.pages (a / 256) → ⊥) → is_open s t a ≡ false
  shut-page page a none = elim (cases_Bool (is_open s t a)) [
    | inl here ↦ absurd (none ((x.exact (a / 256)).1 (a, refl, here)))
    | inr not_here ↦ not_here
  ]

  -- the lowest open word is the first of the lowest page
  pub lowest-by-page : (page : ℕ) → first_of t.pages ≡ Some page → lowest (is_open s t) (4096 * t.regions) ≡ Some (first-open page)
  lowest-by-page page first =
      let f = first-is page ((x.exact page).0 (Contains-first t.pages page first)) in
      let on = f.on in
      lowest-some (is_open s t) (4096 * t.regions) (first-open page) f.inside f.is
      (λ a low. elim (cases_lt (a / 256) page) [
        | inl l ↦ shut-page page a (λ has. first-least t.pages page (a / 256) x.ascending first has l)
        | inr h ↦ before-first page a (omega arith) low
      ])

  pub none-by-page : first_of t.pages ≡ None → lowest (is_open s t) (4096 * t.regions) ≡ None
  none-by-page none = none-lowest (is_open s t) (4096 * t.regions) (λ a low. shut-page 0 a (first-none t.pages (a / 256) none))

  -- on the page of the latest transport
  pub near-by-page : (page : ℕ) → Contains t.pages page → lowest (λ a. is_open s t a && (a / 256 == page)) (4096 * t.regions) ≡ Some (first-open page)
  near-by-page page has =
      let f = first-is page ((x.exact page).0 has) in
      let on = f.on in
      lowest-some (λ a. is_open s t a && (a / 256 == page)) (4096 * t.regions) (first-open page) f.inside
      (and_both (is_open s t (first-open page)) (first-open page / 256 == page) f.is (eq-eqb (first-open page / 256) page on))
      (λ a low. elim (cases_eq (a / 256) page) [
        | inl e ↦ ap (λ (b : Bool). b && (a / 256 == page)) (before-first page a e low)
        | inr ne ↦ and_second (is_open s t a) (a / 256 == page) (ne_eqb (a / 256) page ne)
      ])

  pub far-by-page : (page : ℕ) → (Contains t.pages page → ⊥) → lowest (λ a. is_open s t a && (a / 256 == page)) (4096 * t.regions) ≡ None
  far-by-page page none = none-lowest (λ a. is_open s t a && (a / 256 == page)) (4096 * t.regions)
      (λ a low. elim (cases_eq (a / 256) page) [
        | inl e ↦ ap (λ (b : Bool). b && (a / 256 == page)) (shut-page page a (λ has. none (subst (Contains t.pages) e has)))
        | inr ne ↦ and_second (is_open s t a) (a / 256 == page) (ne_eqb (a / 256) page ne)
      ])

  -- the next unit by the set
  pub near-none : ((page : ℕ) → t.last ≡ Some page → Contains t.pages page → ⊥) → near_of (opened s) t ≡ None
  near-none none = go t.last refl
    where
      go : (o : Option ℕ) → t.last ≡ o → near_of (opened s) t ≡ None
      go None e =
          ap (λ (l : Option ℕ). lowest (λ a. is_open s t a && is_page l (a / 256)) (4096 * t.regions)) e
          ∙ none-lowest (λ a. is_open s t a && false) (4096 * t.regions) (λ a low. and_second (is_open s t a) false refl)
      go (Some last) e =
          ap (λ (l : Option ℕ). lowest (λ a. is_open s t a && is_page l (a / 256)) (4096 * t.regions)) e
          ∙ far-by-page last (none last e)

  pub near-next : (page : ℕ) → t.last ≡ Some page → Contains t.pages page → next_of (opened s) t ≡ Some (Word (first-open page))
  near-next page e has =
      ap (λ (o : Option ℕ). unit_of o (lowest (register_left (opened s)) s.registers) (lowest (word_left (opened s) t) (4096 * t.regions)))
      (ap (λ (l : Option ℕ). lowest (λ a. is_open s t a && is_page l (a / 256)) (4096 * t.regions)) e ∙ near-by-page page has)

  pub far-next : (page : ℕ) → near_of (opened s) t ≡ None → s.registers ≤ s.scanned → first_of t.pages ≡ Some page → next_of (opened s) t ≡ Some (Word (first-open page))
  far-next page near done first = word-next s t done near ∙ ap (λ (o : Option ℕ). unit_of None None o) (lowest-by-page page first)

  pub end-next : near_of (opened s) t ≡ None → s.registers ≤ s.scanned → first_of t.pages ≡ None → next_of (opened s) t ≡ None
  end-next near done none = word-next s t done near ∙ ap (λ (o : Option ℕ). unit_of None None o) (none-by-page none)

-- a page of the set is one of the table
pub page-inside : (s : Scan) (t : Table) → length t.used ≡ t.regions → IsPaged s t → (page : ℕ) → Contains t.pages page → page < 16 * t.regions
page-inside s t size x page has =
    let f = first-is s t size x page ((x.exact page).0 has) in
    let low = f.inside in
    let on = f.on in
    omega arith

-- the lowest page of the set is the lowest with an open word
pub lowest-page : (s : Scan) (t : Table) → IsPaged s t → (page : ℕ) → first_of t.pages ≡ Some page → HasOpen s t page × ((other : ℕ) → other < page → HasOpen s t other → ⊥)
lowest-page s t x page first = ((x.exact page).0 (Contains-first t.pages page first), λ other low o. first-least t.pages page other x.ascending first ((x.exact other).1 o) low)

-- if the set is empty no word is open
pub no-page : (s : Scan) (t : Table) → IsPaged s t → first_of t.pages ≡ None → (a : ℕ) → is_open s t a ≡ false
no-page s t x none a = elim (cases_Bool (is_open s t a)) [
  | inl here ↦ absurd (first-none t.pages (a / 256) none ((x.exact (a / 256)).1 (a, refl, here)))
  | inr not_here ↦ not_here
]

-- the same for any answer of the set
pub lowest-is : (s : Scan) (t : Table) → IsPaged s t → (lowest : Option ℕ) → lowest ≡ first_of t.pages → IfSome lowest (λ page. HasOpen s t page × ((other : ℕ) → other < page → HasOpen s t other → ⊥))
lowest-is s t x None e = tt
lowest-is s t x (Some page) e = lowest-page s t x page (sym e)

pub none-left : (s : Scan) (t : Table) → IsPaged s t → (lowest : Option ℕ) → lowest ≡ first_of t.pages → IfNone lowest ((a : ℕ) → word_left s t a ≡ false)
none-left s t x None e = λ a. and_right (not s.over) (is_open s t a) (no-page s t x (sym e) a)
none-left s t x (Some page) e = tt
