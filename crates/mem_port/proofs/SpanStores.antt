-- Words of one page that are stored together.
use Rattle.std.proofs.Common.{IsTrue, ◌↔◌, ℕ, ◌≡◌, ◌<◌, ◌≤◌, ◌+◌, ◌-◌, List, Some, Bool, true, false, length, slice_get, slice_range, drop, length-take, get_or, refl, arith, ap, ◌∙◌, sym, ◌||◌, nat_lt, unwrap_or, ◌⊎◌, inl, inr}
use Rattle.std.proofs.lemmas.Bool.Decides.{nat_tests}
use Rattle.std.proofs.lemmas.Option.{slice_get-get_or, slice_get_within, unwrap_or-slice_get}
use Rattle.store_word.specs.Words.{Parts, null_word}
use Rattle.mem_port.proofs.Lookups.{get-slice_range}
use Rattle.mem_port.specs.Store.{Store, level_of_word, StoresNothing, Covers}
use Rattle.mem_port.specs.Tags.{HasEphemeral, HasYoung}

-- a word that is found is the one that is read
pub found_read : (words : List Parts) (at : ℕ) (word : Parts) → slice_get words at ≡ Some word → get_or words at null_word ≡ word
found_read words at word found = sym (unwrap_or-slice_get words at null_word) ∙ ap (λ o. unwrap_or o null_word) found

-- a word of a part is at one of its places
part_place : (words : List Parts) (from to count k : ℕ) (word : Parts) → to ≡ from + count → slice_get (slice_range words from to) k ≡ Some word → k < count
part_place words from to count k word is found = omega (arith, slice_get_within (slice_range words from to) k word found, length-take (to - from) (drop from words))

-- the tag over the words that were written
pub tagged_over : (was tag : Bool) (words : List Parts) (levels : List ℕ) (at count : ℕ) (word : ℕ → Parts) → at + count ≤ length words → ((i : ℕ) → i < count → get_or words (at + i) null_word ≡ word i)
    → IsTrue tag ↔ (IsTrue was ⊎ HasEphemeral (slice_range words at (at + count)) levels) → IsTrue tag ↔ (IsTrue was ⊎ HasYoung levels count word)
tagged_over was tag words levels at count word inside here is = (
  (λ on. elim (is.0 on) [ inl old ↦ inl old | inr e ↦ inr (forth e) ]),
  (λ d. is.1 (elim d [ inl old ↦ inl old | inr y ↦ inr (back y) ])),
)
  where
    forth : HasEphemeral (slice_range words at (at + count)) levels → HasYoung levels count word
    forth e =
        let low : e.0 < count = part_place words at (at + count) count e.0 e.1 (omega arith) e.2.0 in
        let there : slice_get words (at + e.0) ≡ Some e.1 = sym (get-slice_range words at (at + count) e.0 (omega arith)) ∙ e.2.0 in
        (e.0, (low, rw (sym (here e.0 low) ∙ found_read words (at + e.0) e.1 there) e.2.1))

    back : HasYoung levels count word → HasEphemeral (slice_range words at (at + count)) levels
    back y =
        let low : y.0 < count = y.1.0 in
        (y.0, word y.0, (get-slice_range words at (at + count) y.0 (omega arith) ∙ slice_get-get_or words (at + y.0) null_word (omega arith) ∙ ap (λ (v : Parts). Some v) (here y.0 low), y.1.1))

-- the tag once a word is stored at each place
pub tagged_alike : (was tag : Bool) (levels : List ℕ) (count : ℕ) (word : Parts) → 0 < count → tag ≡ (was || nat_lt 0 (level_of_word levels word)) → IsTrue tag ↔ (IsTrue was ⊎ HasYoung levels count (λ _. word))
tagged_alike true tag levels count word some is = ((λ _. inl refl), (λ _. is))
tagged_alike false tag levels count word some is = (
  (λ on. let test : nat_lt 0 (level_of_word levels word) ≡ true = sym is ∙ on in inr (0, (some, grind (arith, nat_tests)))),
  (λ d. is ∙ elim d [ inl bad ↦ absurd (cc) | inr y ↦ (let more : 0 < level_of_word levels word = y.1.1 in grind (arith, nat_tests)) ]),
)

-- a call before stores nothing
pub covers_after : (a b c : Store) (at count : ℕ) (word : ℕ → Parts) → StoresNothing a b → Covers b c at count word → Covers a c at count word
covers_after a b c at count word x y = record {
  words = record {
    size = y.words.size ∙ ap length x.words;
    here = y.words.here;
    others = λ other out. y.words.others other out ∙ ap (λ (ws : List Parts). get_or ws other null_word) x.words;
  };
  levels = y.levels ∙ x.levels;
  top = y.top ∙ x.top;
  unmarked = λ page none old. y.unmarked page (x.unmarked page none) (λ e i low. ap (λ (ls : List ℕ). level_of_word ls (word i)) x.levels ∙ old e i low);
}

-- the same words, stated otherwise
pub covers_alike : (a b : Store) (at count : ℕ) (word word' : ℕ → Parts) → ((i : ℕ) → i < count → word i ≡ word' i) → Covers a b at count word → Covers a b at count word'
covers_alike a b at count word word' same x = record {
  words = record { size = x.words.size; here = λ i low. x.words.here i low ∙ same i low; others = x.words.others };
  levels = x.levels;
  top = x.top;
  unmarked = λ page none old. x.unmarked page none (λ e i low. ap (level_of_word a.levels) (same i low) ∙ old e i low);
}
