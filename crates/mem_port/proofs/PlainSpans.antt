-- What the calls that write many words of one page keep of a plain memory.
use Rattle.std.proofs.Common.{IsTrue, ◌↔◌, ℕ, ◌≡◌, ◌<◌, ◌≤◌, ◌+◌, ◌-◌, ◌*◌, ◌/◌, ◌%◌, List, Some, Bool, length, slice_get, slice_set, slice_range, get_or, refl, arith, ap, ◌∙◌, sym, length-set, ◌||◌, nat_lt, unwrap_or, ◌⊎◌, inl, inr, subst}
use Rattle.std.proofs.lemmas.Bool.{cases_eq, cases_lt, cases_Bool}
use Rattle.std.proofs.lemmas.Option.{slice_get-get_or, slice_get_within, unwrap_or-slice_get}
use Rattle.store_word.specs.Words.{Parts, null_word}
use Rattle.mem_port.proofs.SpanStores.{found_read, tagged_over, tagged_alike}
use Rattle.mem_port.proofs.PlainLaws.{tag_at-set_same, tag_at-set_other}
use Rattle.mem_port.specs.Store.{level_of_word, Overwrites, Covers}
use Rattle.mem_port.specs.Tags.{HasEphemeral, HasYoung}
use Rattle.mem_port.specs.Plain.{Plain, IsPlain, plain_store, tag_at}

-- many words of one page are written, which is tagged if it was or one of them has an address of level 1 or more
pub record CoversPlain (p : Plain) (words : List Parts) (at count : ℕ) (word : ℕ → Parts) (tag : Bool) : Type 0 where
  pub some : 0 < count
  pub inside : at + count ≤ length p.words
  pub page : at % 256 + count ≤ 256
  pub written : Overwrites p.words words at count word
  pub tagged : IsTrue tag ↔ (IsTrue (tag_at p.tags (at / 256)) ⊎ HasYoung p.levels count word)

-- the result of that
abbrev pub covered : Plain → List Parts → ℕ → Bool → ℕ → Plain
covered p words at tag taken = record { words = words; levels = p.levels; tags = slice_set p.tags (at / 256) tag; top = p.top; taken = taken }

-- a word elsewhere was there before
was_found : (p : Plain) (words : List Parts) (at count : ℕ) (word : ℕ → Parts) (place : ℕ) (other : Parts) → Overwrites p.words words at count word → slice_get words place ≡ Some other → ((at ≤ place) × (place < at + count) → ⊥) → slice_get p.words place ≡ Some other
was_found p words at count word place other w found out =
    let low : place < length p.words = omega (arith, slice_get_within words place other found, w.size) in
    slice_get-get_or p.words place null_word low ∙ ap (λ (v : Parts). Some v) (sym (w.others place out) ∙ found_read words place other found)

-- a word is one of those that were written, or it was there before
cases_found : (p : Plain) (words : List Parts) (at count : ℕ) (word : ℕ → Parts) (place : ℕ) (other : Parts) → Overwrites p.words words at count word → slice_get words place ≡ Some other
    → ((i : ℕ) × ((i < count) × (at + i ≡ place) × (word i ≡ other))) ⊎ (slice_get p.words place ≡ Some other)
cases_found p words at count word place other w found =
    elim (cases_lt place at) [
      | inl below ↦ inr (was_found p words at count word place other w found (λ x. let l = x.0 in omega arith))
      | inr from ↦
          elim (cases_lt place (at + count)) [
            | inl in_span ↦
                let low : place - at < count = omega arith in
                let same : at + (place - at) ≡ place = omega arith in
                inl (place - at, (low, same, sym (w.here (place - at) low) ∙ ap (λ n. get_or words n null_word) same ∙ found_read words place other found))
            | inr above ↦ inr (was_found p words at count word place other w found (λ x. let l = x.1 in omega arith))
          ]
    ]

-- what always holds is kept
pub covered_plain : (p : Plain) (words : List Parts) (at count : ℕ) (word : ℕ → Parts) (tag : Bool) (taken : ℕ) → IsPlain p → CoversPlain p words at count word tag → IsPlain (covered p words at tag taken)
covered_plain p words at count word tag taken h c =
    let size : length p.words ≡ 256 * length p.tags = h.size in
    let inside : at / 256 < length p.tags = (let a = c.inside in let b = c.some in omega arith) in
    record {
      size = omega (arith, h.size, c.written.size, length-set p.tags (at / 256) tag);
      regions = omega (arith, h.regions, length-set p.tags (at / 256) tag);
      few = h.few;
      low = h.low;
      deep = h.deep;
      tagged = λ place other found more.
          elim (cases_eq (place / 256) (at / 256)) [
            | inl same ↦ tag_at-set_same p.tags (at / 256) (place / 256) tag inside same ∙
                elim (cases_found p words at count word place other c.written found) [
                  | inl new ↦ c.tagged.1 (inr (new.0, (new.1.0, rw new.1.2 more)))
                  | inr before ↦ c.tagged.1 (inl (rw (← same) (h.tagged place other before more)))
                ]
            | inr ne ↦ tag_at-set_other p.tags (at / 256) (place / 256) tag ne ∙
                elim (cases_found p words at count word place other c.written found) [
                  | inl new ↦ absurd (let low = new.1.0 in let there = new.1.1 in let page = c.page in ne (omega arith))
                  | inr before ↦ h.tagged place other before more
                ]
          ];
    }

-- the words are stored, and only their page is tagged
pub covered_store : (p : Plain) (words : List Parts) (at count : ℕ) (word : ℕ → Parts) (tag : Bool) (taken : ℕ) → IsPlain p → CoversPlain p words at count word tag → Covers (plain_store p) (plain_store (covered p words at tag taken)) at count word
covered_store p words at count word tag taken h c =
    let size : length p.words ≡ 256 * length p.tags = h.size in
    let inside : at / 256 < length p.tags = (let a = c.inside in let b = c.some in omega arith) in
    record {
      words = c.written;
      levels = refl;
      top = refl;
      unmarked = λ page none old.
          elim (cases_eq page (at / 256)) [
            | inl e ↦ rw (tag_at-set_same p.tags (at / 256) page tag inside e) (elim (cases_Bool tag) [
              | inl on ↦ elim (c.tagged.0 on) [
                | inl was ↦ rw (on ∙ sym was, ← e) none
                | inr young ↦ absurd (let l = old e young.0 young.1.0 in let m = young.1.1 in omega arith)
              ]
              | inr off ↦ rw off refl
            ])
            | inr ne ↦ rw (tag_at-set_other p.tags (at / 256) page tag ne) none
          ];
    }

-- one word at each place
pub filled_over : (old new : List Parts) (at count : ℕ) (word : Parts) → at + count ≤ length old → length new ≡ length old → ((k : ℕ) → k < at → slice_get new k ≡ slice_get old k) → ((k : ℕ) → at ≤ k → k < at + count → slice_get new k ≡ Some word)
    → ((k : ℕ) → at + count ≤ k → slice_get new k ≡ slice_get old k) → Overwrites old new at count (λ _. word)
filled_over old new at count word inside size below filled above = record {
  size = size;
  here = λ i low. found_read new (at + i) word (filled (at + i) (omega arith) (omega arith));
  others = λ a out.
      elim (cases_lt a at) [
        | inl l ↦ read_same a (below a l)
        | inr from ↦
            elim (cases_lt a (at + count)) [
              | inl l ↦ absurd (out (from, l))
              | inr l ↦ read_same a (above a l)
            ]
      ];
}
  where
    read_same : (a : ℕ) → slice_get new a ≡ slice_get old a → get_or new a null_word ≡ get_or old a null_word
    read_same a e = sym (unwrap_or-slice_get new a null_word) ∙ ap (λ o. unwrap_or o null_word) e ∙ unwrap_or-slice_get old a null_word

-- many words are copied, and then the tag is set
pub plain_copied : (p : Plain) (before words after : List Parts) (levels : List ℕ) (was tag : Bool) (from to count : ℕ) → before ≡ p.words → after ≡ words → levels ≡ p.levels → tag_at p.tags (to / 256) ≡ was
    → 0 < count → to + count ≤ length p.words → to % 256 + count ≤ 256 → Overwrites before words to count (λ i. get_or before (from + i) null_word)
    → IsTrue tag ↔ (IsTrue was ⊎ HasEphemeral (slice_range after to (to + count)) levels) → CoversPlain p words to count (λ i. get_or p.words (from + i) null_word) tag
plain_copied p before words after levels was tag from to count before_is after_is levels_are was_is some inside page written is =
    let now : Overwrites p.words words to count (λ i. get_or p.words (from + i) null_word) = subst (λ (xs : List Parts). Overwrites xs words to count (λ i. get_or xs (from + i) null_word)) before_is written in
    let here : IsTrue tag ↔ (IsTrue was ⊎ HasEphemeral (slice_range words to (to + count)) p.levels) = subst (λ (xs : List Parts). IsTrue tag ↔ (IsTrue was ⊎ HasEphemeral (slice_range xs to (to + count)) p.levels)) after_is
    (subst (λ (ls : List ℕ). IsTrue tag ↔ (IsTrue was ⊎ HasEphemeral (slice_range after to (to + count)) ls)) levels_are is) in
    let young : IsTrue tag ↔ (IsTrue was ⊎ HasYoung p.levels count (λ i. get_or p.words (from + i) null_word)) = tagged_over was tag words p.levels to count (λ i. get_or p.words (from + i) null_word) (omega (arith, now.size)) now.here here in
    record {
      some = some;
      inside = inside;
      page = page;
      written = now;
      tagged = subst (λ (b : Bool). IsTrue tag ↔ (IsTrue b ⊎ HasYoung p.levels count (λ i. get_or p.words (from + i) null_word))) (sym was_is) young;
    }

-- one word is written many times, with the tag that was made before
pub plain_filled : (p : Plain) (before words : List Parts) (levels : List ℕ) (was tag : Bool) (at count : ℕ) (word : Parts) → before ≡ p.words → levels ≡ p.levels → tag_at p.tags (at / 256) ≡ was
    → 0 < count → at + count ≤ length p.words → at % 256 + count ≤ 256 → Overwrites before words at count (λ _. word) → tag ≡ (was || nat_lt 0 (level_of_word levels word)) → CoversPlain p words at count (λ _. word) tag
plain_filled p before words levels was tag at count word before_is levels_are was_is some inside page written is = record {
  some = some;
  inside = inside;
  page = page;
  written = subst (λ (xs : List Parts). Overwrites xs words at count (λ _. word)) before_is written;
  tagged = subst (λ (b : Bool). IsTrue tag ↔ (IsTrue b ⊎ HasYoung p.levels count (λ _. word))) (sym was_is)
      (tagged_alike was tag p.levels count word some (is ∙ ap (λ (ls : List ℕ). was || nat_lt 0 (level_of_word ls word)) levels_are));
}
