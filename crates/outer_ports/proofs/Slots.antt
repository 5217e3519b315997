-- The words of pages in slots.
use Rattle.std.proofs.Common.{ℕ, ◌≡◌, ◌≢◌, ◌+◌, ◌-◌, ◌*◌, ◌/◌, ◌%◌, ◌<◌, ◌≤◌, cond, List, [], ◌++◌, Option, Some, None, length, slice_get, get_or, set, replicate, refl, sym, ap, ◌∙◌, arith, inl, inr, length-append, length-set}
use Rattle.std.specs.Prelude.{is_some, count_by}
use Rattle.std.proofs.lemmas.Bool.{cases_eq, cases_lt}
use Rattle.std.proofs.lemmas.Option.{slice_get-get_or, slice_get_past, unwrap_or-slice_get}
use Rattle.std.proofs.lemmas.List.{length-replicate, get_or-replicate, get_or_past, get_or_default, get_or-append_right, get_or_append_left, get_or-set_same, get_or-set_other}
use Rattle.std.proofs.lemmas.List.FromFn.{length-map-range_with_len, get_or-map-range_with_len, fill_by_all}
use Rattle.std.proofs.lemmas.List.Sums.{sum_by-set, count_by-le-length}
use Rattle.std.specs.Prelude.{unwrap_or}
use Rattle.store_word.specs.Words.{Parts, null_word}
use Rattle.outer_ports.specs.Pages.{Fills}
use Rattle.outer_ports.specs.Slots.{IsSlotted, slot_of, slots_used, word_in, words_of}

pub words_size : (slots : List (Option ℕ)) (words : List Parts) → length (words_of slots words) ≡ 256 * length slots
words_size slots words = length-map-range_with_len (λ at. word_in words (slot_of slots (at / 256)) (at % 256)) 0 (256 * length slots)

pub page_inside : (slots : List (Option ℕ)) (words : List Parts) (page : ℕ) → 256 * page + 256 ≤ length (words_of slots words) → page < length slots
page_inside slots words page low = omega (arith, low, words_size slots words)

pub address_inside : (slots : List (Option ℕ)) (words : List Parts) (at : ℕ) → at < length (words_of slots words) → at / 256 < length slots
address_inside slots words at low = let n : at < 256 * length slots = omega (arith, low, words_size slots words) in omega arith

pub slot_inside : {slots : List (Option ℕ)} {words : List Parts} (page slot : ℕ) → IsSlotted slots words → slot_of slots page ≡ Some slot → 256 * slot + 256 ≤ length words
slot_inside page slot i e = omega (arith, i.size, i.inside page slot e)

-- the slot that was read for a page
pub has_slot : (slots : List (Option ℕ)) (page : ℕ) (read slot : Option ℕ) → page < length slots → read ≡ get_or slots page read → read ≡ slot → slot_of slots page ≡ slot
has_slot slots page read slot inside at is = get_or_default slots page None read inside ∙ sym at ∙ is

-- the word at an address, and the words of a page
pub words_at : (slots : List (Option ℕ)) (words : List Parts) (at : ℕ) → at < length (words_of slots words) → slice_get (words_of slots words) at ≡ Some (word_in words (slot_of slots (at / 256)) (at % 256))
words_at slots words at low =
    slice_get-get_or (words_of slots words) at null_word low
    ∙ ap (λ (w : Parts). Some w) (get_or-map-range_with_len (λ n. word_in words (slot_of slots (n / 256)) (n % 256)) 0 (256 * length slots) at at null_word (omega (arith, low, words_size slots words)) (omega arith))

pub words_on : (slots : List (Option ℕ)) (words : List Parts) (page k : ℕ) → page < length slots → k < 256 → slice_get (words_of slots words) (256 * page + k) ≡ Some (word_in words (slot_of slots page) k)
words_on slots words page k inside low =
    let q : (256 * page + k) / 256 ≡ page = omega arith in
    let m : (256 * page + k) % 256 ≡ k = omega arith in
    words_at slots words (256 * page + k) (omega (arith, words_size slots words))
    ∙ ap (λ n. Some (word_in words (slot_of slots n) ((256 * page + k) % 256))) q ∙ ap (λ n. Some (word_in words (slot_of slots page) n)) m

-- the words of a page with a slot, and of one without
pub words_there : {slots : List (Option ℕ)} {words : List Parts} (page slot k : ℕ) → IsSlotted slots words → page < length slots → slot_of slots page ≡ Some slot → k < 256
    → slice_get (words_of slots words) (256 * page + k) ≡ slice_get words (256 * slot + k)
words_there {slots} {words} page slot k i inside has low =
    words_on slots words page k inside low ∙ ap (λ (o : Option ℕ). Some (word_in words o k)) has ∙ sym (slice_get-get_or words (256 * slot + k) null_word (omega (arith, slot_inside page slot i has, low)))

pub words_null : (slots : List (Option ℕ)) (words : List Parts) (page k : ℕ) → page < length slots → slot_of slots page ≡ None → k < 256 → slice_get (words_of slots words) (256 * page + k) ≡ Some null_word
words_null slots words page k inside none low = words_on slots words page k inside low ∙ ap (λ (o : Option ℕ). Some (word_in words o k)) none

-- pages without slots have NULL words
same_at : {X : Type 0} (n i : ℕ) (x : X) → get_or (replicate n x) i x ≡ x
same_at n i x = elim (cases_lt i n) [ inl low ↦ get_or-replicate n i x x low | inr high ↦ get_or_past (replicate n x) i x (rw length-replicate high) ]

pub words_fresh : (n : ℕ) → words_of (replicate n None) [] ≡ replicate (256 * n) null_word
words_fresh n =
    let size : length (replicate {A = Option ℕ} n None) ≡ n = length-replicate n None in
    sym (fill_by_all (λ at. word_in [] (slot_of (replicate n None) (at / 256)) (at % 256)) (replicate (256 * n) null_word) (256 * length (replicate {A = Option ℕ} n None)) null_word
    (length-replicate (256 * n) null_word ∙ ap (λ i. 256 * i) (sym size))
    (λ k low. same_at (256 * n) k null_word ∙ ap (λ (o : Option ℕ). word_in [] o (k % 256)) (sym (same_at n (k / 256) None))))

-- one page gets other contents
fills : (slots slots' : List (Option ℕ)) (words words' from : List Parts) (page : ℕ) → length slots' ≡ length slots → page < length slots → length from ≡ 256
    → ((k : ℕ) → k < 256 → word_in words' (slot_of slots' page) k ≡ get_or from k null_word)
    → ((other k : ℕ) → k < 256 → other ≢ page → word_in words' (slot_of slots' other) k ≡ word_in words (slot_of slots other) k)
    → Fills (words_of slots words) (words_of slots' words') page from
fills slots slots' words words' from page same inside size here others =
    let was = words_size slots words in
    let now = words_size slots' words' in
    let length_same : length (words_of slots' words') ≡ length (words_of slots words) = omega (arith, was, now, same) in
    let apart : (i : ℕ) → i / 256 ≢ page → slice_get (words_of slots' words') i ≡ slice_get (words_of slots words) i =
    λ i out. elim (cases_lt i (length (words_of slots words))) [
      | inl low ↦
          words_at slots' words' i (omega (arith, low, length_same)) ∙ ap (λ (w : Parts). Some w) (others (i / 256) (i % 256) (omega arith) out) ∙ sym (words_at slots words i low)
      | inr high ↦ slice_get_past (words_of slots' words') i (omega (arith, high, length_same)) ∙ sym (slice_get_past (words_of slots words) i high)
    ]
    in
    record {
      size = length_same;
      here = λ k low. words_on slots' words' page k (omega (arith, same, inside)) low ∙ ap (λ (w : Parts). Some w) (here k low) ∙ sym (slice_get-get_or from k null_word (omega (arith, size, low)));
      below = λ i low. apart i (let n : i / 256 < page = omega (arith, low) in λ e. omega (arith, n, e));
      above = λ i high. apart i (let n : page < i / 256 = omega (arith, high) in λ e. omega (arith, n, e));
    }

-- a word at the same position in both lists
same_word : (xs ys : List Parts) (i : ℕ) → slice_get xs i ≡ slice_get ys i → get_or xs i null_word ≡ get_or ys i null_word
same_word xs ys i e = sym (unwrap_or-slice_get xs i null_word) ∙ ap (λ o. unwrap_or o null_word) e ∙ unwrap_or-slice_get ys i null_word

-- a write to a page that has a slot
kept_word : (words words' from : List Parts) (slot k : ℕ) (o : Option ℕ) → Fills words words' slot from → k < 256 → o ≢ Some slot → word_in words' o k ≡ word_in words o k
kept_word words words' from slot k None f low out = refl
kept_word words words' from slot k (Some other) f low out =
    same_word words' words (256 * other + k) (elim (cases_lt other slot) [
      | inl less ↦ f.below (256 * other + k) (omega (arith, less, low))
      | inr more ↦ elim (cases_eq other slot) [ inl e ↦ absurd (out (ap (λ (n : ℕ). Some n) e)) | inr ne ↦ f.above (256 * other + k) (omega (arith, more, ne, low)) ]
    ])

pub fills_again : (slots : List (Option ℕ)) (words words' from : List Parts) (page slot : ℕ) → IsSlotted slots words → slot_of slots page ≡ Some slot → page < length slots → length from ≡ 256
    → Fills words words' slot from → Fills (words_of slots words) (words_of slots words') page from
fills_again slots words words' from page slot i has inside size f =
    fills slots slots words words' from page refl inside size
    (λ k low. ap (λ (o : Option ℕ). word_in words' o k) has ∙ (sym (unwrap_or-slice_get words' (256 * slot + k) null_word) ∙ ap (λ o. unwrap_or o null_word) (f.here k low) ∙ unwrap_or-slice_get from k null_word))
    (λ other k low ne. kept_word words words' from slot k (slot_of slots other) f low (λ e. ne (i.own other page slot e has)))

-- a write to a page that had no slot
slot_here : (slots : List (Option ℕ)) (page slot : ℕ) → page < length slots → slot_of (set slots page (Some slot)) page ≡ Some slot
slot_here slots page slot inside = get_or-set_same slots page (Some slot) None inside

slot_there : (slots : List (Option ℕ)) (page slot other : ℕ) → other ≢ page → slot_of (set slots page (Some slot)) other ≡ slot_of slots other
slot_there slots page slot other ne = get_or-set_other slots page other (Some slot) None ne

pub used_more : (slots : List (Option ℕ)) (page slot : ℕ) → page < length slots → slot_of slots page ≡ None → count_by is_some (set slots page (Some slot)) ≡ count_by is_some slots + 1
used_more slots page slot inside none =
    let e = sum_by-set (λ x. cond (is_some x) 1 0) slots page (Some slot) None inside in
    let z : ◌≡◌ {A = ℕ} (cond (is_some (get_or slots page None)) 1 0) 0 = ap (λ (o : Option ℕ). cond (is_some o) 1 0) none in
    omega (arith, e, z)

pub has_room : (slots : List (Option ℕ)) (words : List Parts) (page : ℕ) → IsSlotted slots words → page < length slots → slot_of slots page ≡ None → length words + 256 ≤ 256 * length slots
has_room slots words page i inside none =
    let more = used_more slots page 0 inside none in
    let few = count_by-le-length is_some (set slots page (Some 0)) in
    omega (arith, more, few, length-set slots page (Some 0), i.size)

front_word : (words from : List Parts) (used k : ℕ) (o : Option ℕ) → length words ≡ 256 * used → k < 256 → ((slot : ℕ) → o ≡ Some slot → slot < used) → word_in (words ++ from) o k ≡ word_in words o k
front_word words from used k None size low inside = refl
front_word words from used k (Some slot) size low inside = get_or_append_left words from null_word (256 * slot + k) (omega (arith, size, low, inside slot refl))

pub fills_first : (slots : List (Option ℕ)) (words from : List Parts) (page slot : ℕ) → IsSlotted slots words → slot_of slots page ≡ None → page < length slots → length from ≡ 256
    → 256 * slot ≡ length words → Fills (words_of slots words) (words_of (set slots page (Some slot)) (words ++ from)) page from
fills_first slots words from page slot i none inside size next =
    fills slots (set slots page (Some slot)) words (words ++ from) from page (length-set slots page (Some slot)) inside size
    (λ k low. ap (λ (o : Option ℕ). word_in (words ++ from) o k) (slot_here slots page slot inside)
    ∙ get_or-append_right words from (256 * slot) (256 * slot + k) null_word (sym next) (omega arith)
    ∙ ap (λ n. get_or from n null_word) (let e : 256 * slot + k - 256 * slot ≡ k = omega arith in e))
    (λ other k low ne. ap (λ (o : Option ℕ). word_in (words ++ from) o k) (slot_there slots page slot other ne)
    ∙ front_word words from (slots_used slots) k (slot_of slots other) i.size low (λ n e. i.inside other n e))

pub slotted_first : (slots : List (Option ℕ)) (words from : List Parts) (page slot : ℕ) → IsSlotted slots words → slot_of slots page ≡ None → page < length slots → length from ≡ 256
    → 256 * slot ≡ length words → IsSlotted (set slots page (Some slot)) (words ++ from)
slotted_first slots words from page slot i none inside size next =
    let more = used_more slots page slot inside none in
    let last : slot ≡ slots_used slots = omega (arith, next, i.size) in
    let old : (other n : ℕ) → other ≢ page → slot_of (set slots page (Some slot)) other ≡ Some n → slot_of slots other ≡ Some n = λ other n ne e. sym (slot_there slots page slot other ne) ∙ e in
    let here : (n : ℕ) → slot_of (set slots page (Some slot)) page ≡ Some n → n ≡ slot = λ n e. (let f : Some n ≡ Some slot = sym e ∙ slot_here slots page slot inside in cc) in
    record {
      few = rw (length-set slots page (Some slot)) i.few;
      size = omega (arith, length-append words from, i.size, size, more);
      inside = λ other n e. elim (cases_eq other page) [
        | inl same ↦ (let f = here n (ap (slot_of (set slots page (Some slot))) (sym same) ∙ e) in omega (arith, f, last, more))
        | inr ne ↦ (let f = i.inside other n (old other n ne e) in omega (arith, f, more))
      ];
      own = λ one two n e f. elim (cases_eq one page) [
        | inl a ↦ elim (cases_eq two page) [
          | inl b ↦ a ∙ sym b
          | inr b ↦ absurd (let g = here n (ap (slot_of (set slots page (Some slot))) (sym a) ∙ e) in let h = i.inside two n (old two n b f) in omega (arith, g, h, last))
        ]
        | inr a ↦ elim (cases_eq two page) [
          | inl b ↦ absurd (let g = here n (ap (slot_of (set slots page (Some slot))) (sym b) ∙ f) in let h = i.inside one n (old one n a e) in omega (arith, g, h, last))
          | inr b ↦ i.own one two n (old one n a e) (old two n b f)
        ]
      ];
    }
