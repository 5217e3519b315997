-- Lines, put together again.
use Rattle.std.proofs.Common.{◌≡◌, ◌⊎◌, inl, inr, ℕ, List, [], ◌∷◌, ◌++◌, true, false, ◌==◌, cond, refl, sym, ap, ◌∙◌}
use Rattle.std.specs.Bool.{⊤}
use Rattle.std.proofs.lemmas.Bool.{cases_Bool}
use Rattle.world_text.proofs.reading_laws.ReadLaws.{eq_number}
use Rattle.line_input.specs.Lines.{Line, lines_of, onto}
use Rattle.line_input.specs.Reader.{no_feed}

-- the line feed of a line, if it has one
abbrev pub feed_of : Line → List ℕ
feed_of line = cond line.whole (10 ∷ []) []

-- the bytes of lines
abbrev pub bytes_of : List Line → List ℕ
bytes_of [] = []
bytes_of (line ∷ lines) = line.text ++ (feed_of line ++ bytes_of lines)

-- no line contains a line feed in its text, and each except the last is followed by one
abbrev pub AreCut : List Line → Type 0
AreCut [] = ⊤
AreCut (line ∷ lines) = (no_feed line.text ≡ true) × ((line.whole ≡ true) ⊎ (lines ≡ [])) × AreCut lines

onto_bytes : (x : ℕ) (lines : List Line) → bytes_of (onto x lines) ≡ x ∷ bytes_of lines
onto_bytes x [] = refl
onto_bytes x (line ∷ lines) = refl

onto_cut : (x : ℕ) (lines : List Line) → x == 10 ≡ false → AreCut lines → AreCut (onto x lines)
onto_cut x [] other cut = (rw other refl, inr refl, tt)
onto_cut x (line ∷ lines) other cut = (rw (other, cut.0) refl, cut.1, cut.2)

-- the lines of the bytes are cut, and joined again they are the bytes
pub record Again (bytes : List ℕ) : Type 0 where
  pub is : bytes_of (lines_of bytes) ≡ bytes
  pub cut : AreCut (lines_of bytes)

pub lines_again : (bytes : List ℕ) → Again bytes
lines_again [] = record { is = refl; cut = tt }
lines_again (x ∷ xs) = go (cases_Bool (x == 10)) (lines_again xs)
  where
    go : (x == 10 ≡ true) ⊎ (x == 10 ≡ false) → Again xs → Again (x ∷ xs)
    go (inl is) rest = record {
      is = rw is (ap (λ ys. 10 ∷ ys) rest.is ∙ ap (λ y. y ∷ xs) (sym (eq_number x 10 is)));
      cut = rw is (refl, inl refl, rest.cut);
    }
    go (inr is) rest = record {
      is = rw is (onto_bytes x (lines_of xs) ∙ ap (λ ys. x ∷ ys) rest.is);
      cut = rw is (onto_cut x (lines_of xs) is rest.cut);
    }

-- Lines that end in a line feed

-- there are lines, and each has its line feed
abbrev pub AreWhole : List Line → Type 0
AreWhole [] = ⊤
AreWhole (line ∷ lines) = (line.whole ≡ true) × AreWhole lines

-- bytes that end in a line feed
pub record Whole (front : List ℕ) : Type 0 where
  pub whole : AreWhole (lines_of (front ++ 10 ∷ []))
  pub some : (line : Line) × (lines : List Line) × (lines_of (front ++ 10 ∷ []) ≡ line ∷ lines)
  pub then : (more : List ℕ) → lines_of (front ++ 10 ∷ more) ≡ lines_of (front ++ 10 ∷ []) ++ lines_of more

onto_whole : (x : ℕ) (lines : List Line) (line : Line) (rest : List Line) → lines ≡ line ∷ rest → AreWhole lines → AreWhole (onto x lines)
onto_whole x [] line rest is whole = absurd (cc (is))
onto_whole x (one ∷ lines) line rest is whole = (whole.0, whole.1)

onto_then : (x : ℕ) (lines more : List Line) (line : Line) (rest : List Line) → lines ≡ line ∷ rest → onto x (lines ++ more) ≡ onto x lines ++ more
onto_then x [] more line rest is = absurd (cc (is))
onto_then x (one ∷ lines) more line rest is = refl

onto_has : (x : ℕ) (lines : List Line) → (line : Line) × (rest : List Line) × (onto x lines ≡ line ∷ rest)
onto_has x [] = (record { text = x ∷ []; whole = false }, [], refl)
onto_has x (line ∷ lines) = (record { text = x ∷ line.text; whole = line.whole }, lines, refl)

pub whole_lines_at : (front : List ℕ) → Whole front
whole_lines_at [] = record { whole = (refl, tt); some = (record { text = []; whole = true }, [], refl); then = λ more. refl }
whole_lines_at (x ∷ xs) = go (cases_Bool (x == 10)) (whole_lines_at xs)
  where
    go : (x == 10 ≡ true) ⊎ (x == 10 ≡ false) → Whole xs → Whole (x ∷ xs)
    go (inl is) rest = record {
      whole = rw is (refl, rest.whole);
      some = (record { text = []; whole = true }, lines_of (xs ++ 10 ∷ []), rw is refl);
      then = λ more. rw is (ap (λ ls. record { text = []; whole = true } ∷ ls) (rest.then more));
    }
    go (inr is) rest = record {
      whole = rw is (onto_whole x (lines_of (xs ++ 10 ∷ [])) rest.some.0 rest.some.1 rest.some.2 rest.whole);
      some = rw is (onto_has x (lines_of (xs ++ 10 ∷ [])));
      then = λ more. rw is (ap (onto x) (rest.then more) ∙ onto_then x (lines_of (xs ++ 10 ∷ [])) (lines_of more) rest.some.0 rest.some.1 rest.some.2);
    }
