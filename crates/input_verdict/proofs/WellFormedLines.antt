-- A well-formed line contains no line feed.
use Rattle.std.proofs.Common.{◌≡◌, ℕ, List, [], ◌∷◌, ◌++◌, true, false, refl, ap, ◌∙◌, arith}
use Rattle.std.specs.Prelude.{◌==◌}
use Rattle.std.specs.List.{list_all}
use Rattle.std.proofs.lemmas.Bool.Decides.{nat_tests}
use Rattle.world_text.specs.Words.{is_graphic, is_well_formed, is_word, words_of}
use Rattle.world_text.specs.Spelling.{line_of as row_of, spaced}
use Rattle.world_text.proofs.reading_laws.Rows.{both, formed_row}
use Rattle.line_input.specs.Reader.{no_feed}
use Rattle.line_input.proofs.LineFeeds.{no_feed-append}

graphic_byte : (x : ℕ) → is_graphic x ≡ true → x == 10 ≡ false
graphic_byte x graphic = grind (arith, nat_tests)

graphic_feed : (bytes : List ℕ) → list_all is_graphic bytes ≡ true → no_feed bytes ≡ true
graphic_feed [] graphic = refl
graphic_feed (x ∷ xs) graphic = let b = both (is_graphic x) (list_all is_graphic xs) graphic in rw (graphic_byte x b.0, graphic_feed xs b.1) refl

word_feed : (word : List ℕ) → is_word word ≡ true → no_feed word ≡ true
word_feed [] good = absurd (cc (good))
word_feed (x ∷ xs) good = graphic_feed (x ∷ xs) good

join_feed : (xs ys : List ℕ) → no_feed xs ≡ true → no_feed ys ≡ true → no_feed (xs ++ ys) ≡ true
join_feed xs ys one two = no_feed-append xs ys ∙ rw (one, two) refl

spaced_feed : (words : List (List ℕ)) → list_all is_word words ≡ true → no_feed (spaced words) ≡ true
spaced_feed [] good = refl
spaced_feed (word ∷ words) good =
    let b = both (is_word word) (list_all is_word words) good in
    join_feed (32 ∷ word) (spaced words) (word_feed word b.0) (spaced_feed words b.1)

row_feed : (words : List (List ℕ)) → list_all is_word words ≡ true → no_feed (row_of words) ≡ true
row_feed [] good = refl
row_feed (word ∷ words) good =
    let b = both (is_word word) (list_all is_word words) good in
    join_feed word (spaced words) (word_feed word b.0) (spaced_feed words b.1)

pub formed_feed : (text : List ℕ) → is_well_formed text ≡ true → no_feed text ≡ true
formed_feed text formed = let row = formed_row text formed in ap no_feed row.0 ∙ row_feed (words_of text) row.1
