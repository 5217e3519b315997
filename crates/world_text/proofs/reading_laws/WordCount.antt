-- Counting the words of a text from its front.
use Rattle.std.proofs.Common.{◌≡◌, ℕ, suc, ◌+◌, List, [], ◌∷◌, length, Bool, true, false, Option, Some, None, refl, ap, sym, ◌∙◌, arith}
use Rattle.std.specs.Prelude.{◌&&◌, if◌then◌else◌}
use Rattle.std.specs.List.{list_all, onto_first}
use Rattle.std.proofs.lemmas.Bool.Decides.{nat_tests}
use Rattle.world_text.specs.reading.Words.{ends_in_word, is_graphic, is_space, is_well_formed, is_word, words_of}

-- how many words there are in the end, if this many have begun; `in_word` says whether the last of them goes on
abbrev pub counted : Bool → ℕ → List ℕ → Option ℕ
counted in_word count [] = if in_word then Some count else None
counted in_word count (byte ∷ bytes) =
    if is_space byte then (if in_word then counted false count bytes else None)
    else if is_graphic byte then counted true (if in_word then count else count + 1) bytes
    else None

-- the count of these words and this many more, if all are words and the text ends in one
abbrev pub tally : ℕ → List (List ℕ) → Bool → Option ℕ
tally count words ends = if list_all is_word words && ends then Some (count + length words) else None

abbrev pub with_words : ℕ → List ℕ → Option ℕ
with_words count text = tally count (words_of text) (ends_in_word text)

-- One byte more before a text

graphic_full : (byte : ℕ) → is_graphic byte ≡ true → is_space byte ≡ false
graphic_full byte graphic = grind (arith, nat_tests)

words_blank : (byte : ℕ) (text : List ℕ) → is_space byte ≡ true → words_of (byte ∷ text) ≡ [] ∷ words_of text
unfolding words_of
words_blank byte text blank = rw blank refl

words_full : (byte : ℕ) (text : List ℕ) → is_space byte ≡ false → words_of (byte ∷ text) ≡ onto_first byte (words_of text)
unfolding words_of
words_full byte text full = rw full refl

tally_word : (count byte : ℕ) (words : List (List ℕ)) (ends : Bool) → is_graphic byte ≡ true → tally count ((byte ∷ []) ∷ words) ends ≡ tally (count + 1) words ends
tally_word count byte words ends graphic =
    let e : count + suc (length words) ≡ count + 1 + length words = omega arith in
    rw (graphic, e) refl

tally_onto : (count byte next : ℕ) (words : List (List ℕ)) (ends : Bool) → is_graphic byte ≡ true → tally count (onto_first byte (onto_first next words)) ends ≡ tally count (onto_first next words) ends
tally_onto count byte next [] ends graphic = rw graphic refl
tally_onto count byte next (word ∷ words) ends graphic = rw graphic refl

tally_bad : (count next : ℕ) (words : List (List ℕ)) (ends : Bool) → is_graphic next ≡ false → tally count (onto_first next words) ends ≡ None
tally_bad count next [] ends bad = rw bad refl
tally_bad count next (word ∷ words) ends bad = rw bad refl

tally_bad_behind : (count byte next : ℕ) (words : List (List ℕ)) (ends : Bool) → is_graphic byte ≡ true → is_graphic next ≡ false → tally count (onto_first byte (onto_first next words)) ends ≡ None
tally_bad_behind count byte next words ends graphic bad = tally_onto count byte next words ends graphic ∙ tally_bad count next words ends bad

-- Counting from the front and cutting from the back have the same result.
pub record Counts (text : List ℕ) : Type 0 where
  pub outside : (count : ℕ) → counted false count text ≡ with_words count text
  pub inside : (count byte : ℕ) → is_graphic byte ≡ true → counted true (count + 1) text ≡ with_words count (byte ∷ text)

counts_end : Counts []
unfolding words_of
counts_end = record {
  outside = λ count. refl;
  inside = λ count byte graphic. rw (words_full byte [] (graphic_full byte graphic), graphic_full byte graphic, graphic) refl;
}

ends_blank : (count byte space : ℕ) (text : List ℕ) → is_space space ≡ true → tally count (words_of text) (ends_in_word (byte ∷ space ∷ text)) ≡ with_words count text
unfolding words_of
ends_blank count byte space [] blank = rw blank refl
ends_blank count byte space (next ∷ rest) blank = refl

counts_blank : (space : ℕ) (text : List ℕ) → is_space space ≡ true → Counts text → Counts (space ∷ text)
counts_blank space text blank rest = record {
  outside = λ count. rw (words_blank space text blank, blank) refl;
  inside = λ count byte graphic.
      rw (words_full byte (space ∷ text) (graphic_full byte graphic), words_blank space text blank, blank)
      (rest.outside (count + 1) ∙ sym (tally_word count byte (words_of text) (ends_in_word (byte ∷ space ∷ text)) graphic ∙ ends_blank (count + 1) byte space text blank));
}

counts_graphic : (next : ℕ) (text : List ℕ) → is_graphic next ≡ true → Counts text → Counts (next ∷ text)
counts_graphic next text graphic rest = record {
  outside = λ count. rw (graphic_full next graphic, graphic) (rest.inside count next graphic);
  inside = λ count byte before.
      rw (words_full byte (next ∷ text) (graphic_full byte before), words_full next text (graphic_full next graphic), graphic_full next graphic, graphic)
      (rest.inside count next graphic ∙ ap (λ words. tally count words (ends_in_word (next ∷ text))) (words_full next text (graphic_full next graphic))
      ∙ sym (tally_onto count byte next (words_of text) (ends_in_word (next ∷ text)) before));
}

counts_bad : (next : ℕ) (text : List ℕ) → is_space next ≡ false → is_graphic next ≡ false → Counts (next ∷ text)
counts_bad next text full bad = record {
  outside = λ count. rw (words_full next text full, full, bad) (sym (tally_bad count next (words_of text) (ends_in_word (next ∷ text)) bad));
  inside = λ count byte before. rw (words_full byte (next ∷ text) (graphic_full byte before), words_full next text full, full, bad)
      (sym (tally_bad_behind count byte next (words_of text) (ends_in_word (byte ∷ next ∷ text)) before bad));
}

counts_more : (byte : ℕ) (bytes : List ℕ) → Counts bytes → (blank graphic : Bool) → is_space byte ≡ blank → is_graphic byte ≡ graphic → Counts (byte ∷ bytes)
counts_more byte bytes rest true graphic e f = counts_blank byte bytes e rest
counts_more byte bytes rest false true e f = counts_graphic byte bytes f rest
counts_more byte bytes rest false false e f = counts_bad byte bytes e f

counts : (text : List ℕ) → Counts text
counts [] = counts_end
counts (byte ∷ bytes) = counts_more byte bytes (counts bytes) (is_space byte) (is_graphic byte) refl refl

-- the result of counting from the front
pub counted_is : (text : List ℕ) → counted false 0 text ≡ (if is_well_formed text then Some (length (words_of text)) else None)
unfolding is_well_formed
counted_is text =
    let e : 0 + length (words_of text) ≡ length (words_of text) = omega arith in
    (counts text).outside 0 ∙ ap (λ n. if list_all is_word (words_of text) && ends_in_word text then Some n else None) e
