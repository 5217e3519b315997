-- A word was scanned and nothing else changed: if another word of its page remains, the following word is next.
use Rattle.std.proofs.Common.{◌≡◌, ℕ, ◌+◌, ◌*◌, ◌/◌, ◌%◌, ◌<◌, inl, inr, Bool, true, false, not, ◌&&◌, nat_le, length, slice_index, refl, sym, ◌∙◌, ap, subst, arith, Option, Some, None}
use Rattle.std.proofs.lemmas.Bool.{cases_Bool, cases_lt, and_parts, leb-false}
use Rattle.std.proofs.lemmas.List.{get_or-set_same}
use Rattle.area_space.specs.Table.{Table, used_of}
use Rattle.transporter.specs.lisp_meaning.Units.{lowest}
use Rattle.transporter.proofs.lisp_meaning.reading.NextUnits.{none-lowest, lowest-none, lowest-passes}
use Rattle.scavenger.specs.declared.scan_set.Unit.TheVariants.{Word}
use Rattle.scavenger.specs.Scan.{Scan}
use Rattle.scavenger.specs.Left.{is_open, is_page, near_of, next_of, register_left, unit_of, word_left}
use Rattle.scavenger.specs.Scanning.{page_done, word_done}
use Rattle.scavenger.proofs.LowestNumbers.{and_both, and_second, lowest-some, not-behind, open-first}
use Rattle.scavenger.proofs.NextUnits.{lowest-least, next-first, next-word}
use Rattle.scavenger.proofs.PageEnds.{or_none}
use Rattle.scavenger.proofs.RemainingUnits.{still-open}

-- a number that doesn't pass one test doesn't pass a stronger one
stays-false : (b c : Bool) → (c ≡ true → b ≡ true) → b ≡ false → c ≡ false
stays-false b c stronger failed = elim (cases_Bool c) [
  | inl passes ↦ (let yes = stronger passes in absurd cc)
  | inr fails ↦ fails
]

-- the lowest number that passes a stronger test, which the lowest one of the weaker test doesn't pass and the number after it passes
lowest-after : (p q : ℕ → Bool) (n a : ℕ) → lowest p n ≡ Some a → ((k : ℕ) → q k ≡ true → p k ≡ true) → q a ≡ false → a + 1 < n → q (a + 1) ≡ true → lowest q n ≡ Some (a + 1)
lowest-after p q n a is stronger gone low after = lowest-some q n (a + 1) low after (λ k l. elim (cases_lt k a) [
  | inl before ↦ stays-false (p k) (q k) (stronger k) (lowest-least p n a is k before)
  | inr h ↦ (let e : k ≡ a = omega arith in ap q e ∙ gone)
])

none-after : (p q : ℕ → Bool) (n : ℕ) → lowest p n ≡ None → ((k : ℕ) → q k ≡ true → p k ≡ true) → lowest q n ≡ None
none-after p q n none stronger = none-lowest q n (λ k l. stays-false (p k) (q k) (stronger k) (lowest-none p n none k l))

-- the next word is found by the same search as the word before it
follows : (near near' register far far' : Option ℕ) (a b : ℕ) → unit_of near register far ≡ Some (Word a) → (near ≡ Some a → near' ≡ Some b) → (near ≡ None → near' ≡ None) → (far ≡ Some a → far' ≡ Some b)
    → unit_of near' register far' ≡ Some (Word b)
follows (Some x) near' register far far' a b e on none off = (let there : near' ≡ Some b = on (cc) in ap (λ (o : Option ℕ). unit_of o register far') there)
follows None near' (Some r) far far' a b e on none off = cc
follows None near' None (Some x) far' a b e on none off = (let there : far' ≡ Some b = off (cc) in ap (λ (o : Option ℕ). unit_of o None far') (none refl) ∙ ap (λ (o : Option ℕ). unit_of None None o) there)
follows None near' None None far' a b e on none off = cc

module _ (s : Scan) (t : Table) (at : ℕ) (is : next_of s t ≡ Some (Word at)) (inside : at / 256 < length s.pages) (left : page_done (word_done s at) t (at / 256) ≡ false) where
  abbrev done : Scan
  done = word_done s at

  here : slice_index done.pages (at / 256) ≡ at % 256 + 1
  here = get_or-set_same s.pages (at / 256) (at % 256 + 1) 0 inside

  parts : (nat_le 256 (slice_index done.pages (at / 256)) ≡ false) × (nat_le (used_of t (at / 256 / 16)) (256 * (at / 256 % 16) + slice_index done.pages (at / 256)) ≡ false)
  parts = or_none (nat_le 256 (slice_index done.pages (at / 256))) (nat_le (used_of t (at / 256 / 16)) (256 * (at / 256 % 16) + slice_index done.pages (at / 256))) left

  low : at % 256 + 1 < 256
  low = (let a = leb-false 256 (slice_index done.pages (at / 256)) parts.0 in let h = here in omega arith)

  used : 256 * (at / 256 % 16) + (at % 256 + 1) < used_of t (at / 256 / 16)
  used = (let a = leb-false (used_of t (at / 256 / 16)) (256 * (at / 256 % 16) + slice_index done.pages (at / 256)) parts.1 in let h = here in omega arith)

  after-open : is_open done t (at + 1) ≡ true
  after-open =
      let l = low in
      let same : 256 * (at / 256) + (at % 256 + 1) ≡ at + 1 = omega arith in
      subst (λ (a : ℕ). is_open done t a ≡ true) same (open-first done t (at / 256) (at % 256 + 1) here low used)

  -- which words remain after it
  still-left : (a : ℕ) → word_left done t a ≡ true → word_left s t a ≡ true
  still-left a e =
      let both = and_parts (not s.over) (is_open done t a) e in
      and_both (not s.over) (is_open s t a) both.0 (still-open s t at (next-first s t at (next-word s t at is)).0 inside a both.1)

  gone : word_left done t at ≡ false
  gone = (let h = here in and_second (not s.over) (is_open done t at) (not-behind done t at (omega arith)))

  after-left : word_left done t (at + 1) ≡ true
  after-left = and_both (not s.over) (is_open done t (at + 1)) (ap not (next-word s t at is).going) after-open

  within : at + 1 < 4096 * t.regions
  within = (let l = low in let n = (next-word s t at is).low in omega arith)

  abbrev on-page : Scan → ℕ → Bool
  on-page r a = word_left r t a && is_page t.last (a / 256)

  near-left : (a : ℕ) → on-page done a ≡ true → on-page s a ≡ true
  near-left a e =
      let both = and_parts (word_left done t a) (is_page t.last (a / 256)) e in
      and_both (word_left s t a) (is_page t.last (a / 256)) (still-left a both.0) both.1

  pub following-next : next_of (word_done s at) t ≡ Some (Word (at + 1))
  following-next = follows (near_of s t) (near_of done t) (lowest (register_left s) s.registers) (lowest (word_left s t) (4096 * t.regions)) (lowest (word_left done t) (4096 * t.regions)) at (at + 1) is
      (λ near.
      let l = low in
      let page : at / 256 ≡ (at + 1) / 256 = omega arith in
      let passes = (lowest-passes (on-page s) (4096 * t.regions) at near).1 in
      let last = (and_parts (word_left s t at) (is_page t.last (at / 256)) passes).1 in
      lowest-after (on-page s) (on-page done) (4096 * t.regions) at near near-left (ap (λ (b : Bool). b && is_page t.last (at / 256)) gone) within
      (and_both (word_left done t (at + 1)) (is_page t.last ((at + 1) / 256)) after-left (ap (is_page t.last) (sym page) ∙ last)))
      (λ none. none-after (on-page s) (on-page done) (4096 * t.regions) none near-left)
      (λ far. lowest-after (word_left s t) (word_left done t) (4096 * t.regions) at far still-left gone within after-left)
