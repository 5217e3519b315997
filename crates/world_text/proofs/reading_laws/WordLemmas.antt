-- The words of a text, from its front.
use Rattle.std.proofs.Common.{◌≡◌, ℕ, suc, ◌+◌, ◌<◌, ◌≤◌, List, [], ◌∷◌, length, take, drop, Bool, true, false, Some, None, refl, ap, sym, ◌∙◌, arith}
use Rattle.std.specs.Prelude.{nat_lt, if◌then◌else◌, position}
use Rattle.std.specs.List.{onto_first, position_or_len, before_first, after_first}
use Rattle.std.proofs.lemmas.Bool.Decides.{nat_tests}
use Rattle.std.proofs.lemmas.Grind.{common_steps}
use Rattle.world_text.specs.reading.Words.{first_word, is_space, words_of}

-- The first word, and those after it

take_more : (n byte : ℕ) (bytes : List ℕ) → take (1 + n) (byte ∷ bytes) ≡ byte ∷ take n bytes
take_more n byte bytes = let e : 1 + n ≡ suc n = omega arith in rw e refl

drop_more : (n byte : ℕ) (bytes : List ℕ) → drop (1 + n + 1) (byte ∷ bytes) ≡ drop (n + 1) bytes
drop_more n byte bytes = let e : 1 + n + 1 ≡ suc (n + 1) = omega arith in rw e refl

before_more : (byte : ℕ) (bytes : List ℕ) → is_space byte ≡ false → before_first is_space (byte ∷ bytes) ≡ byte ∷ before_first is_space bytes
before_more byte bytes is = rw is (take_more (position_or_len is_space bytes) byte bytes)

after_more : (byte : ℕ) (bytes : List ℕ) → is_space byte ≡ false → after_first is_space (byte ∷ bytes) ≡ after_first is_space bytes
after_more byte bytes is = rw is (drop_more (position_or_len is_space bytes) byte bytes)

cut_at : (byte : ℕ) (bytes : List ℕ) → (0 < length bytes → words_of bytes ≡ before_first is_space bytes ∷ words_of (after_first is_space bytes))
    → (b : Bool) → is_space byte ≡ b → words_of (byte ∷ bytes) ≡ before_first is_space (byte ∷ bytes) ∷ words_of (after_first is_space (byte ∷ bytes))
unfolding words_of
cut_at byte bytes later true is = rw is refl
cut_at byte [] later false is = rw is refl
cut_at byte (next ∷ rest) later false is =
    let split : words_of (byte ∷ next ∷ rest) ≡ onto_first byte (words_of (next ∷ rest)) = rw is refl in
    split ∙ ap (onto_first byte) (later (omega arith))
    ∙ ap (λ word. word ∷ words_of (after_first is_space (next ∷ rest))) (sym (before_more byte (next ∷ rest) is))
    ∙ ap (λ bytes. before_first is_space (byte ∷ next ∷ rest) ∷ words_of bytes) (sym (after_more byte (next ∷ rest) is))

pub words_cut : (text : List ℕ) → 0 < length text → words_of text ≡ before_first is_space text ∷ words_of (after_first is_space text)
words_cut [] some = absurd (omega arith)
words_cut (byte ∷ bytes) some = cut_at byte bytes (words_cut bytes) (is_space byte) refl

-- A text that is cut at its first space
pub some_is : (b : Bool) (place end : ℕ) → (if b then Some place else None) ≡ Some end → (b ≡ true) × (place ≡ end)
some_is true place end is = (refl, cc)
some_is false place end is = absurd (cc)

no_place : (b : Bool) (place : ℕ) → (if b then Some place else None) ≡ None → b ≡ false
no_place true place is = absurd (cc)
no_place false place is = refl

pub words_at : (text : List ℕ) (end : ℕ) → position is_space text ≡ Some end → words_of text ≡ take end text ∷ words_of (drop (end + 1) text)
words_at text end is =
    let found = some_is (nat_lt (position_or_len is_space text) (length text)) (position_or_len is_space text) end is in
    let some : 0 < length text = grind (arith, nat_tests, found.0) in
    words_cut text some ∙ ap (λ n. take n text ∷ words_of (drop (n + 1) text)) found.1

whole_of : (text : List ℕ) (place : ℕ) → length text ≤ place → take place text ∷ words_of (drop (place + 1) text) ≡ text ∷ []
unfolding words_of
whole_of text place past =
    let e : take place text ≡ text = grind (arith, common_steps) in
    let f : drop (place + 1) text ≡ [] = grind (arith, common_steps) in
    rw (e, f) refl

-- a text without a space
pub words_last : (text : List ℕ) → position is_space text ≡ None → (first_word (words_of text) ≡ text) × (drop 1 (words_of text) ≡ [])
unfolding words_of
words_last [] is = (refl, refl)
words_last (byte ∷ bytes) is =
    let text : List ℕ = byte ∷ bytes in
    let none = no_place (nat_lt (position_or_len is_space text) (length text)) (position_or_len is_space text) is in
    let past : length text ≤ position_or_len is_space text = grind (arith, nat_tests, none) in
    let e : words_of text ≡ text ∷ [] = words_cut text (omega arith) ∙ whole_of text (position_or_len is_space text) past in
    (ap first_word e, ap (drop 1) e)

-- no text has no words
pub words_none : (text : List ℕ) → length text ≤ 0 → words_of text ≡ []
unfolding words_of
words_none [] none = refl
words_none (byte ∷ bytes) none = absurd (omega arith)

-- a text has words
pub words_some : (text : List ℕ) → 0 < length text → 0 < length (words_of text)
words_some text some = omega (arith, ap length (words_cut text some))
