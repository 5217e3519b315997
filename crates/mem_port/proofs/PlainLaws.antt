-- What the calls of a plain memory keep.
use Rattle.std.proofs.Common.{IsTrue, ◌↔◌, ℕ, ◌≡◌, ◌≢◌, ◌<◌, ◌≤◌, ◌+◌, ◌-◌, ◌*◌, ◌/◌, List, Some, Bool, true, false, length, slice_get, slice_set, slice_range, drop, length-take, get_or, refl, arith, ap, ◌∙◌, sym, length-set, ◌||◌, nat_lt, unwrap_or, ◌⊎◌, inl, inr}
use Rattle.std.proofs.lemmas.Bool.{cases_eq, cases_Bool}
use Rattle.std.proofs.lemmas.Bool.Decides.{nat_tests}
use Rattle.std.proofs.lemmas.Option.{slice_get_read, slice_get_within}
use Rattle.store_word.proofs.SetLaws.{has_low}
use Rattle.store_word.specs.Words.{Parts, address_of}
use Rattle.mem_port.proofs.StoreLaws.{address_low}
use Rattle.mem_port.proofs.Lookups.{get-set_same, get-set_other, get-slice_range}
use Rattle.mem_port.specs.Store.{level_of_word, IsMemory, IsSound, Stores, Remarks}
use Rattle.mem_port.specs.Tags.{HasEphemeral}
use Rattle.mem_port.specs.Plain.{Plain, IsPlain, plain_store, tag_at}

-- a plain memory is sound
pub plain_sound : (p : Plain) (pages : ℕ) → IsPlain p → pages ≡ length p.tags → IsSound (plain_store p) pages
plain_sound p pages h count = record {
  size = rw count h.size;
  few = omega (arith, h.regions, h.few, count);
  regions = rw count h.regions;
  low = h.low;
  deep = h.deep;
  marked = λ at word found ephemeral.
      let low : level_of_word p.levels word ≤ p.top = address_low p.levels p.top h.low (address_of word.content) in
      rw (h.tagged at word found ephemeral) ((has_low p.top (level_of_word p.levels word) ephemeral).1 low);
}

-- and of a memory, whatever its count of accesses
pub plain_memory : (p : Plain) → IsPlain p → IsMemory (plain_store p)
plain_memory p h = let size = h.size in plain_sound p (length p.words / 256) h (omega arith)

-- the tag of the page that was written
pub tag_at-set_same : (tags : List Bool) (page other : ℕ) (tag : Bool) → page < length tags → other ≡ page → tag_at (slice_set tags page tag) other ≡ tag
tag_at-set_same tags page other tag h e = rw e (ap (λ o. unwrap_or o false) (get-set_same tags page tag h))

-- the tag of any other page
pub tag_at-set_other : (tags : List Bool) (page other : ℕ) (tag : Bool) → other ≢ page → tag_at (slice_set tags page tag) other ≡ tag_at tags other
tag_at-set_other tags page other tag ne = ap (λ o. unwrap_or o false) (get-set_other tags page other tag ne)

-- the result of a store to a plain memory
abbrev pub stored : Plain → ℕ → Parts → Bool → ℕ → Plain
stored p at word tag taken = record { words = slice_set p.words at word; levels = p.levels; tags = slice_set p.tags (at / 256) tag; top = p.top; taken = taken }

-- the word at a place after a store is the stored one, or it was there before
found_after : (words : List Parts) (at place : ℕ) (word other : Parts) → at < length words → slice_get (slice_set words at word) place ≡ Some other → ((place ≡ at) × (word ≡ other)) ⊎ (slice_get words place ≡ Some other)
found_after words at place word other within found =
    elim (cases_eq place at) [
      | inl e ↦ let there : slice_get (slice_set words at word) place ≡ Some word = rw e (get-set_same words at word within) in inl (e, cc)
      | inr ne ↦ inr (sym (get-set_other words at place word ne) ∙ found)
    ]

-- a word with an address of level 1 or more tags its page
or_ephemeral : (tag : Bool) (level : ℕ) → 0 < level → (tag || nat_lt 0 level) ≡ true
or_ephemeral true level h = refl
or_ephemeral false level h = grind (arith, nat_tests)

-- another word doesn't change the tag
or_zero : (tag : Bool) (level : ℕ) → level ≡ 0 → (tag || nat_lt 0 level) ≡ tag
or_zero true level h = refl
or_zero false level h = grind (arith, nat_tests)

-- a word of a page is at one of its 256 places
page_place : (words : List Parts) (page k : ℕ) (word : Parts) → slice_get (slice_range words (256 * page) (256 * page + 256)) k ≡ Some word → k < 256
page_place words page k word found = omega (arith, slice_get_within (slice_range words (256 * page) (256 * page + 256)) k word found, length-take (256 * page + 256 - 256 * page) (drop (256 * page) words))

-- an element that was read is the tag
pub tag_at_read : (tags : List Bool) (page : ℕ) (tag : Bool) → page < length tags → tag ≡ get_or tags page tag → tag_at tags page ≡ tag
tag_at_read tags page tag within is = ap (λ o. unwrap_or o false) (slice_get_read tags (length tags) page tag refl within is)

-- a store keeps what always holds
pub plain_write : (p : Plain) (at : ℕ) (word : Parts) (tag : Bool) (taken : ℕ) → IsPlain p → at < length p.words → tag ≡ (tag_at p.tags (at / 256) || nat_lt 0 (level_of_word p.levels word)) → IsPlain (stored p at word tag taken)
plain_write p at word tag taken h within is =
    let ephemeral : 0 < level_of_word p.levels word → tag ≡ true = λ more. is ∙ or_ephemeral (tag_at p.tags (at / 256)) (level_of_word p.levels word) more in
    let kept : tag_at p.tags (at / 256) ≡ true → tag ≡ true = λ was. rw was at is in
    record {
      size = omega (arith, h.size, length-set p.words at word, length-set p.tags (at / 256) tag);
      regions = omega (arith, h.regions, length-set p.tags (at / 256) tag);
      few = h.few;
      low = h.low;
      deep = h.deep;
      tagged = λ place other found more.
          let size : length p.words ≡ 256 * length p.tags = h.size in
          let inside : at / 256 < length p.tags = omega arith in
          elim (cases_eq (place / 256) (at / 256)) [
            | inl same ↦ tag_at-set_same p.tags (at / 256) (place / 256) tag inside same ∙
                elim (found_after p.words at place word other within found) [
                  | inl both ↦ ephemeral (rw both.1 more)
                  | inr before ↦ kept (rw (← same) (h.tagged place other before more))
                ]
            | inr ne ↦ tag_at-set_other p.tags (at / 256) (place / 256) tag ne ∙
                elim (found_after p.words at place word other within found) [
                  | inl both ↦ absurd (ne (ap (λ n. n / 256) both.0))
                  | inr before ↦ h.tagged place other before more
                ]
          ];
    }

-- a store stores one word, and tags its page alone
pub plain_stores : (p : Plain) (at : ℕ) (word : Parts) (tag : Bool) (taken : ℕ) → IsPlain p → at < length p.words → tag ≡ (tag_at p.tags (at / 256) || nat_lt 0 (level_of_word p.levels word)) → Stores (plain_store p) (plain_store (stored p at word tag taken)) at word
plain_stores p at word tag taken h within is =
    let same : level_of_word p.levels word ≡ 0 → tag ≡ tag_at p.tags (at / 256) = λ none. is ∙ or_zero (tag_at p.tags (at / 256)) (level_of_word p.levels word) none in
    record {
      words = refl;
      levels = refl;
      top = refl;
      unmarked = λ page none zero_level.
          let size : length p.words ≡ 256 * length p.tags = h.size in
          let inside : at / 256 < length p.tags = omega arith in
          let as_before : tag_at (slice_set p.tags (at / 256) tag) page ≡ tag_at p.tags page =
          elim (cases_eq page (at / 256)) [
            | inl e ↦ tag_at-set_same p.tags (at / 256) page tag inside e ∙ same (zero_level e) ∙ ap (tag_at p.tags) (sym e)
            | inr ne ↦ tag_at-set_other p.tags (at / 256) page tag ne
          ] in
          rw as_before none;
    }

-- the words of a page
abbrev pub page_words : List Parts → ℕ → List Parts
page_words words page = slice_range words (256 * page) (256 * page + 256)

-- a tag that stays if and only if a word of the page has an address of level 1 or more remarks the page
pub plain_remark : (p : Plain) (page : ℕ) (tag : Bool) → page < length p.tags → (IsTrue tag ↔ (IsTrue (tag_at p.tags page) × HasEphemeral (page_words p.words page) p.levels)) → Remarks (plain_store p) (plain_store (record p { tags = slice_set p.tags page tag })) page
plain_remark p page tag inside is = record {
  words = refl;
  levels = refl;
  top = refl;
  exact = λ clean.
      elim (cases_Bool tag) [
        | inl on ↦ absurd (let ephemeral : HasEphemeral (page_words p.words page) p.levels = (is.0 on).1 in
            let low : ephemeral.0 < 256 = page_place p.words page ephemeral.0 ephemeral.1 ephemeral.2.0 in
            let there : slice_get p.words (256 * page + ephemeral.0) ≡ Some ephemeral.1 = sym (get-slice_range p.words (256 * page) (256 * page + 256) ephemeral.0 (omega arith)) ∙ ephemeral.2.0 in
            let none : level_of_word p.levels ephemeral.1 ≡ 0 = clean (256 * page + ephemeral.0) ephemeral.1 (omega arith) there in
            omega (arith, none, ephemeral.2.1))
        | inr off ↦ rw (tag_at-set_same p.tags page page tag inside refl, off) refl
      ];
  unmarked = λ none.
      elim (cases_Bool tag) [
        | inl on ↦ rw (tag_at-set_same p.tags page page tag inside refl ∙ on ∙ sym (is.0 on).0) none
        | inr off ↦ rw (tag_at-set_same p.tags page page tag inside refl, off) refl
      ];
  others = λ other ne. rw (tag_at-set_other p.tags page other tag ne) refl;
}

-- and keeps what always holds
pub plain_remarked : (p : Plain) (page : ℕ) (tag : Bool) → IsPlain p → page < length p.tags → (IsTrue tag ↔ (IsTrue (tag_at p.tags page) × HasEphemeral (page_words p.words page) p.levels)) → IsPlain (record p { tags = slice_set p.tags page tag })
plain_remarked p page tag h inside is = record {
  size = omega (arith, h.size, length-set p.tags page tag);
  regions = omega (arith, h.regions, length-set p.tags page tag);
  few = h.few;
  low = h.low;
  deep = h.deep;
  tagged = λ at word found ephemeral.
      elim (cases_eq (at / 256) page) [
        | inl here ↦
            let place : 256 * page + (at - 256 * page) ≡ at = omega arith in
            let there : slice_get (page_words p.words page) (at - 256 * page) ≡ Some word = get-slice_range p.words (256 * page) (256 * page + 256) (at - 256 * page) (omega arith) ∙ rw place found in
            tag_at-set_same p.tags page (at / 256) tag inside here ∙ is.1 (rw here at (h.tagged at word found ephemeral), (at - 256 * page, word, (there, ephemeral)))
        | inr apart ↦ tag_at-set_other p.tags page (at / 256) tag apart ∙ h.tagged at word found ephemeral
      ];
}
