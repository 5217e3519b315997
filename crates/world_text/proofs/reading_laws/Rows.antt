-- Words in a row: to cut a line gives back the words that were put together, and to join the words of a line gives back the line.
use Rattle.std.proofs.Common.{◌≡◌, ℕ, ◌<◌, List, [], ◌∷◌, ◌++◌, length, Bool, true, false, refl, ap, sym, ◌∙◌, arith, subst}
use Rattle.std.specs.Prelude.{◌&&◌}
use Rattle.std.specs.List.{list_all, onto_first}
use Rattle.std.proofs.lemmas.Bool.Decides.{nat_tests}
use Rattle.std.proofs.lemmas.List.{append-nil}
use Rattle.world_text.specs.reading.Words.{ends_in_word, is_graphic, is_space, is_well_formed, is_word, words_of}
use Rattle.world_text.specs.writing.Spelling.{line_of}

-- Tests

pub both : (a b : Bool) → (a && b) ≡ true → (a ≡ true) × (b ≡ true)
both true true is = (refl, refl)
both true false is = absurd (cc)
both false b is = absurd (cc)

pub graphic_full : (byte : ℕ) → is_graphic byte ≡ true → is_space byte ≡ false
graphic_full byte graphic = grind (arith, nat_tests)

pub words_blank : (byte : ℕ) (text : List ℕ) → is_space byte ≡ true → words_of (byte ∷ text) ≡ [] ∷ words_of text
unfolding words_of
words_blank byte text blank = rw blank refl

pub words_full : (byte : ℕ) (text : List ℕ) → is_space byte ≡ false → words_of (byte ∷ text) ≡ onto_first byte (words_of text)
unfolding words_of
words_full byte text full = rw full refl

words_nil : words_of [] ≡ []
unfolding words_of
words_nil = refl

-- Words that are put together

-- a word followed by a space and more text
word_cut : (word text : List ℕ) → list_all is_graphic word ≡ true → words_of (word ++ 32 ∷ text) ≡ word ∷ words_of text
word_cut [] text graphic = words_blank 32 text refl
word_cut (byte ∷ bytes) text graphic =
    let b = both (is_graphic byte) (list_all is_graphic bytes) graphic in
    words_full byte (bytes ++ 32 ∷ text) (graphic_full byte b.0) ∙ ap (onto_first byte) (word_cut bytes text b.1)

-- a word alone
word_alone : (byte : ℕ) (bytes : List ℕ) → list_all is_graphic (byte ∷ bytes) ≡ true → words_of (byte ∷ bytes) ≡ (byte ∷ bytes) ∷ []
word_alone byte [] graphic = words_full byte [] (graphic_full byte (both (is_graphic byte) true graphic).0) ∙ ap (onto_first byte) words_nil
word_alone byte (next ∷ bytes) graphic =
    let b = both (is_graphic byte) (list_all is_graphic (next ∷ bytes)) graphic in
    words_full byte (next ∷ bytes) (graphic_full byte b.0) ∙ ap (onto_first byte) (word_alone next bytes b.1)

ends_alone : (byte : ℕ) (bytes : List ℕ) → list_all is_graphic (byte ∷ bytes) ≡ true → ends_in_word (byte ∷ bytes) ≡ true
ends_alone byte [] graphic = rw (graphic_full byte (both (is_graphic byte) true graphic).0) refl
ends_alone byte (next ∷ bytes) graphic = ends_alone next bytes (both (is_graphic byte) (list_all is_graphic (next ∷ bytes)) graphic).1

ends_behind : (word : List ℕ) (byte : ℕ) (bytes : List ℕ) → ends_in_word (word ++ byte ∷ bytes) ≡ ends_in_word (byte ∷ bytes)
ends_behind [] byte bytes = refl
ends_behind (first ∷ []) byte bytes = refl
ends_behind (first ∷ next ∷ word) byte bytes = ends_behind (next ∷ word) byte bytes

-- words that were put together, as they are cut again
pub record Cut (words : List (List ℕ)) : Type 0 where
  pub again : words_of (line_of words) ≡ words
  pub ends : ends_in_word (line_of words) ≡ true

line_cut : (word : List ℕ) (words : List (List ℕ)) → list_all is_word (word ∷ words) ≡ true → Cut (word ∷ words)
line_cut [] words good = absurd (cc)
line_cut (byte ∷ bytes) [] good =
    let graphic = (both (is_word (byte ∷ bytes)) true good).0 in
    let e : (byte ∷ bytes) ++ [] ≡ byte ∷ bytes = append-nil (byte ∷ bytes) in
    record {
      again = ap words_of e ∙ word_alone byte bytes graphic;
      ends = ap ends_in_word e ∙ ends_alone byte bytes graphic;
    }
line_cut (byte ∷ bytes) ([] ∷ words) good = let b = both (is_word (byte ∷ bytes)) false good in absurd (cc (b.1))
line_cut (byte ∷ bytes) ((next ∷ word) ∷ words) good =
    let b = both (is_word (byte ∷ bytes)) (list_all is_word ((next ∷ word) ∷ words)) good in
    let rest = line_cut (next ∷ word) words b.1 in
    record {
      again = word_cut (byte ∷ bytes) (line_of ((next ∷ word) ∷ words)) b.0 ∙ ap (λ others. (byte ∷ bytes) ∷ others) rest.again;
      ends = ends_behind (byte ∷ bytes) 32 (line_of ((next ∷ word) ∷ words)) ∙ rest.ends;
    }

-- words that are put together are a well-formed line with these words
pub line_formed : (word : List ℕ) (words : List (List ℕ)) → list_all is_word (word ∷ words) ≡ true
    → (is_well_formed (line_of (word ∷ words)) ≡ true) × (words_of (line_of (word ∷ words)) ≡ word ∷ words)
unfolding is_well_formed
line_formed word words good =
    let cut = line_cut word words good in
    (rw (cut.again, cut.ends, good) refl, cut.again)

-- A line that is cut

-- a text is these words in a row, provided that they are words and the text ends in one
abbrev IsRow : List ℕ → List (List ℕ) → Type 0
IsRow text words = list_all is_word words ≡ true → ends_in_word text ≡ true → text ≡ line_of words

at_words : (text : List ℕ) (words : List (List ℕ)) → words_of text ≡ words → IsRow text words → IsRow text (words_of text)
at_words text words is row = let P : List (List ℕ) → Type 0 = λ ws. IsRow text ws in subst P (sym is) row

onto_row : (byte : ℕ) (text : List ℕ) (words : List (List ℕ)) → text ≡ line_of words → 0 < length text → byte ∷ text ≡ line_of (onto_first byte words)
onto_row byte text [] row some = absurd (omega (arith, ap length row))
onto_row byte text (word ∷ words) row some = ap (λ bytes. byte ∷ bytes) row

behind_blank : (byte blank : ℕ) (text : List ℕ) (words : List (List ℕ)) → blank ≡ 32 → text ≡ line_of words → 0 < length text → byte ∷ blank ∷ text ≡ line_of ((byte ∷ []) ∷ words)
behind_blank byte blank text [] is row some = absurd (omega (arith, ap length row))
behind_blank byte blank text (word ∷ words) is row some = rw (is, row) refl

good_behind : (byte next : ℕ) (words : List (List ℕ)) → list_all is_word (onto_first byte (onto_first next words)) ≡ true → list_all is_word (onto_first next words) ≡ true
good_behind byte next [] good =
    let g = both (is_graphic byte) (is_graphic next && true) (both (is_word (byte ∷ next ∷ [])) true good).0 in
    rw (both (is_graphic next) true g.1).0 refl
good_behind byte next (word ∷ words) good =
    let g = both (is_word (byte ∷ next ∷ word)) (list_all is_word words) good in
    let h = both (is_graphic byte) (list_all is_graphic (next ∷ word)) g.0 in
    rw (h.1, g.1) refl

-- the second byte is a space
row_blank : (byte blank : ℕ) (rest : List ℕ) (words : List (List ℕ)) → is_space blank ≡ true → IsRow rest words → IsRow (byte ∷ blank ∷ rest) ((byte ∷ []) ∷ words)
row_blank byte blank [] words is row good ends = absurd (cc (ends, is))
row_blank byte blank (third ∷ rest) words is row good ends =
    let space : blank ≡ 32 = grind (arith, nat_tests) in
    behind_blank byte blank (third ∷ rest) words space (row (both (is_word (byte ∷ [])) (list_all is_word words) good).1 ends) (omega arith)

row_more : (byte next : ℕ) (rest : List ℕ) → IsRow rest (words_of rest) → IsRow (next ∷ rest) (words_of (next ∷ rest))
    → (b d : Bool) → is_space byte ≡ b → is_space next ≡ d → IsRow (byte ∷ next ∷ rest) (words_of (byte ∷ next ∷ rest))
row_more byte next rest row rows true d is further =
    at_words (byte ∷ next ∷ rest) ([] ∷ words_of (next ∷ rest)) (words_blank byte (next ∷ rest) is) (λ good ends. absurd (cc (good)))
row_more byte next rest row rows false true is further =
    at_words (byte ∷ next ∷ rest) ((byte ∷ []) ∷ words_of rest) (words_full byte (next ∷ rest) is ∙ ap (onto_first byte) (words_blank next rest further))
    (row_blank byte next rest (words_of rest) further row)
row_more byte next rest row rows false false is further =
    let e : words_of (next ∷ rest) ≡ onto_first next (words_of rest) = words_full next rest further in
    let P : List (List ℕ) → Type 0 = λ ws. IsRow (next ∷ rest) ws in
    let row' : IsRow (next ∷ rest) (onto_first next (words_of rest)) = subst P e rows in
    at_words (byte ∷ next ∷ rest) (onto_first byte (onto_first next (words_of rest))) (words_full byte (next ∷ rest) is ∙ ap (onto_first byte) e)
    (λ good ends. onto_row byte (next ∷ rest) (onto_first next (words_of rest)) (row' (good_behind byte next (words_of rest) good) ends) (omega arith))

row_one : (byte : ℕ) (b : Bool) → is_space byte ≡ b → IsRow (byte ∷ []) (words_of (byte ∷ []))
row_one byte true is = at_words (byte ∷ []) ([] ∷ []) (words_blank byte [] is ∙ ap (λ words. [] ∷ words) words_nil) (λ good ends. absurd (cc (good)))
row_one byte false is = at_words (byte ∷ []) ((byte ∷ []) ∷ []) (words_full byte [] is ∙ ap (onto_first byte) words_nil) (λ good ends. refl)

row_of : (text : List ℕ) → IsRow text (words_of text)
row_of [] = λ good ends. absurd (cc (ends))
row_of (byte ∷ []) = row_one byte (is_space byte) refl
row_of (byte ∷ next ∷ rest) = row_more byte next rest (row_of rest) (row_of (next ∷ rest)) (is_space byte) (is_space next) refl refl

-- a well-formed text is its words in a row
pub formed_row : (text : List ℕ) → is_well_formed text ≡ true → (text ≡ line_of (words_of text)) × (list_all is_word (words_of text) ≡ true)
unfolding is_well_formed
formed_row text formed =
    let b = both (list_all is_word (words_of text)) (ends_in_word text) formed in
    (row_of text b.0 b.1, b.0)
