-- Counts of lines, as bytes arrive.
use Rattle.std.proofs.Common.{◌≡◌, ℕ, suc, ◌+◌, ◌-◌, ◌^◌, ◌<◌, ◌≤◌, ◌≢◌, min, List, [], ◌∷◌, ◌++◌, length, take, drop, get_or, Bool, true, false, refl, sym, ap, ◌∙◌, arith, append_assoc, cond, inl, inr}
use Rattle.std.proofs.Math.Seq.{take-append-add}
use Rattle.std.proofs.lemmas.List.{append-nil, take_all, take-append-le, take-take, length-take, length-take-le, length-append, length_push, get_or-take}
use Rattle.std.proofs.lemmas.List.Sums.{sum_by-append, fold-append, split_at_first, passes_at_first, fails_before_first}
use Rattle.std.proofs.lemmas.Bool.{cases_Bool, cases_lt}
use Rattle.std.specs.Prelude.{fold, ◌==◌, codes, count_by, if◌then◌else◌}
use Rattle.std.specs.List.{position_or_len, before_first, after_first}
use Rattle.outer_ports.specs.declared.sinks.tally.Tally.{Tally}
use Rattle.outer_ports.specs.Ports.{Gained}
use Rattle.outer_ports.specs.Lines.{parts_of, whole_lines, begun_line, begins_with, line_count, tally_of, Counted, counted_of}
use Rattle.outer_ports.specs.Counting.{next_count_if, with_exhausted, with_line, with_end, with_rest}
use Rattle.outer_ports.proofs.Cuts.{Cuts, cuts, whole_lines-is, begun_line-is}
use Rattle.outer_ports.proofs.FirstWords.{begins_with-take}

-- a count after one more line
next_count_if-min : (holds : Bool) (before now : ℕ) → now ≡ before + cond holds 1 0 → min now (2 ^ 64 - 1) ≡ next_count_if holds (min before (2 ^ 64 - 1))
next_count_if-min true before now is = omega (arith, is)
next_count_if-min false before now is = omega (arith, is)

line_count-push : (test : List ℕ → Bool) (lines : List (List ℕ)) (line : List ℕ) (holds : Bool) → holds ≡ test line → line_count test (lines ++ line ∷ []) ≡ next_count_if holds (line_count test lines)
line_count-push test lines line holds is = rw is (next_count_if-min (test line) (count_by test lines) (count_by test (lines ++ line ∷ [])) (omega (arith, sum_by-append (λ l. cond (test l) 1 0) lines (line ∷ []))))

tally_of-push : (lines : List (List ℕ)) (line begun : List ℕ) → begun ≡ take 11 line → tally_of (lines ++ line ∷ []) ≡ with_line (tally_of lines) begun
tally_of-push lines line begun is =
    let replies : min (length (lines ++ line ∷ [])) (2 ^ 64 - 1) ≡ next_count_if true (min (length lines) (2 ^ 64 - 1)) = next_count_if-min true (length lines) (length (lines ++ line ∷ [])) (length_push lines line) in
    let at : (word : List ℕ) → length word < 11 → line_count (begins_with word) (lines ++ line ∷ []) ≡ next_count_if (begins_with word begun) (line_count (begins_with word) lines) =
    λ word below. line_count-push (begins_with word) lines line (begins_with word begun) (ap (begins_with word) is ∙ begins_with-take 11 line word below) in
    let exhausted = at (codes "exhausted") (omega arith) in
    let wrong_type = at (codes "wrong-type") (omega arith) in
    let reclaimed = at (codes "reclaimed") (omega arith) in
    let fault = at (codes "fault") (omega arith) in
    λ i. record { replies = replies i; exhausted = exhausted i; wrong_type = wrong_type i; reclaimed = reclaimed i; fault = fault i }

-- bytes after the first bytes of a line
take-front : (n : ℕ) (line bytes : List ℕ) → take n (line ++ bytes) ≡ take n (take n line ++ bytes)
take-front n line bytes = elim (cases_lt n (length line)) [
  | inl below ↦ take-append-le n line bytes (omega (arith, below)) ∙ sym (take-append-le n (take n line) bytes (omega (arith, below, length-take-le n line (omega (arith, below)))) ∙ take-take n n line (omega arith))
  | inr above ↦ ap (λ l. take n (l ++ bytes)) (sym (take_all n line above))
]

abbrev pub counted : Tally → List ℕ → Counted
counted tally begun = record { tally = tally; begun = begun }

pub counted-same : {tally tally' : Tally} {begun begun' : List ℕ} → tally ≡ tally' → begun ≡ begun' → counted tally begun ≡ counted tally' begun'
counted-same e f = λ i. record { tally = e i; begun = f i }

-- the state after the line feed of the line that has begun
abbrev pub ended : Counted → Counted
ended c = counted (with_line c.tally c.begun) []

-- the state after one more byte
abbrev pub with_byte : Counted → ℕ → Counted
with_byte c byte = if byte == 10 then ended c else with_rest c (byte ∷ [])

-- one more byte at the end of a text
counted-more : (text : List ℕ) (byte : ℕ) → counted_of (text ++ byte ∷ []) ≡ with_byte (counted_of text) byte
counted-more text byte =
    let feed : ℕ → Bool = λ b. b == 10 in
    let c : Cuts feed text = cuts feed text in
    let more : List ℕ = text ++ byte ∷ [] in
    let whole : whole_lines text ≡ c.whole = whole_lines-is text c.whole c.begun c.parts in
    let begun : begun_line text ≡ c.begun = begun_line-is text c.whole c.begun c.parts in
    elim (cases_Bool (byte == 10)) [
      | inl e ↦
          let cut : parts_of more ≡ (c.whole ++ c.begun ∷ []) ++ [] ∷ [] = c.ends byte e ∙ sym (append_assoc c.whole (c.begun ∷ []) ([] ∷ [])) in
          rw e (counted-same (
          ap tally_of (whole_lines-is more (c.whole ++ c.begun ∷ []) [] cut) ∙ tally_of-push c.whole c.begun (take 11 (begun_line text)) (ap (take 11) begun) ∙ ap (λ lines. with_line (tally_of lines) (take 11 (begun_line text))) (sym whole)
          ) (ap (take 11) (begun_line-is more (c.whole ++ c.begun ∷ []) [] cut)))
      | inr e ↦
          let cut : parts_of more ≡ c.whole ++ (c.begun ++ byte ∷ []) ∷ [] = c.goes byte e in
          rw e (counted-same (ap tally_of (whole_lines-is more c.whole (c.begun ++ byte ∷ []) cut ∙ sym whole)) (
          ap (take 11) (begun_line-is more c.whole (c.begun ++ byte ∷ []) cut) ∙ take-front 11 c.begun (byte ∷ []) ∙ ap (λ line. take 11 (take 11 line ++ byte ∷ [])) (sym begun)
          ))
    ]

-- and several more bytes
counted-append : (text bytes : List ℕ) → fold with_byte (counted_of text) bytes ≡ counted_of (text ++ bytes)
counted-append text [] = ap counted_of (sym (append-nil text))
counted-append text (byte ∷ bytes) = ap (λ c. fold with_byte c bytes) (sym (counted-more text byte)) ∙ counted-append (text ++ byte ∷ []) bytes ∙ ap counted_of (append_assoc text (byte ∷ []) bytes)

-- no byte of a line is a line feed
abbrev pub IsLine : List ℕ → Type 0
IsLine line = (k : ℕ) → k < length line → (get_or line k 0 == 10) ≡ false

-- bytes of a line, one by one
line-goes : (c : Counted) (line : List ℕ) → length c.begun ≤ 11 → IsLine line → fold with_byte c line ≡ with_rest c line
line-goes c [] short is = counted-same refl (sym (take_all 11 (c.begun ++ []) (omega (arith, length-append c.begun [], short)) ∙ append-nil c.begun))
line-goes c (byte ∷ line) short is =
    let same : (byte == 10) ≡ false = is 0 (omega arith) in
    let one : with_byte c byte ≡ with_rest c (byte ∷ []) = rw same refl in
    let rest : fold with_byte (with_rest c (byte ∷ [])) line ≡ with_rest (with_rest c (byte ∷ [])) line = line-goes (with_rest c (byte ∷ [])) line (omega (arith, length-take 11 (c.begun ++ byte ∷ []))) (λ k below. is (suc k) (omega (arith, below))) in
    ap (λ d. fold with_byte d line) one ∙ rest ∙ counted-same refl (sym (take-front 11 (c.begun ++ byte ∷ []) line) ∙ ap (take 11) (append_assoc c.begun (byte ∷ []) line))

abbrev pub feed : ℕ → Bool
feed byte = byte == 10

before_first-is : (bytes : List ℕ) → IsLine (before_first feed bytes)
before_first-is bytes k below =
    let inside : k < position_or_len feed bytes = omega (arith, below, length-take (position_or_len feed bytes) bytes) in
    rw (get_or-take (position_or_len feed bytes) bytes k 0 inside) (fails_before_first feed bytes k 0 inside)

-- the bytes up to the first line feed end the line that has begun
pub line-ends : (c : Counted) (bytes : List ℕ) → length c.begun ≤ 11 → position_or_len feed bytes < length bytes → fold with_byte c bytes ≡ fold with_byte (with_end c (before_first feed bytes)) (after_first feed bytes)
line-ends c bytes short has =
    let line : List ℕ = before_first feed bytes in
    let byte : ℕ = get_or bytes (position_or_len feed bytes) 0 in
    let same : (byte == 10) ≡ true = passes_at_first feed bytes 0 has in
    let one : with_byte (with_rest c line) byte ≡ with_end c line = rw same refl in
    ap (fold with_byte c) (split_at_first feed bytes 0 has)
    ∙ fold-append with_byte c line (byte ∷ after_first feed bytes)
    ∙ ap (λ d. fold with_byte (with_byte d byte) (after_first feed bytes)) (line-goes c line short (before_first-is bytes))
    ∙ ap (λ d. fold with_byte d (after_first feed bytes)) one

-- the same, for bytes that were split at the first line feed
pub line-taken : (c : Counted) (bytes line rest : List ℕ) (at : ℕ) → length c.begun ≤ 11 → at ≡ position_or_len feed bytes → at ≢ length bytes → at ≤ length bytes
    → line ≡ take at bytes → rest ≡ drop (at + 1) bytes → fold with_byte (with_end c line) rest ≡ fold with_byte c bytes
line-taken c bytes line rest at short is goes at_most l r =
    let has : position_or_len feed bytes < length bytes = omega (arith, is, goes, at_most) in rw (l, r, is) (sym (line-ends c bytes short has))

-- bytes without a line feed
pub line-begins : (c : Counted) (bytes : List ℕ) → length c.begun ≤ 11 → position_or_len feed bytes ≡ length bytes → fold with_byte c bytes ≡ with_rest c bytes
line-begins c bytes short none = line-goes c bytes short (λ k below. fails_before_first feed bytes k 0 (omega (arith, none, below)))

-- the counts after one more line, of which the first eleven bytes suffice
pub with_line-take : (tally : Tally) (line : List ℕ) → with_line tally (take 11 line) ≡ with_line tally line
with_line-take tally line =
    let at : (count : ℕ) (word : List ℕ) → length word < 11 → next_count_if (begins_with word (take 11 line)) count ≡ next_count_if (begins_with word line) count =
    λ count word below. ap (λ (b : Bool). next_count_if b count) (begins_with-take 11 line word below) in
    let exhausted = at tally.exhausted (codes "exhausted") (omega arith) in
    let wrong_type = at tally.wrong_type (codes "wrong-type") (omega arith) in
    let reclaimed = at tally.reclaimed (codes "reclaimed") (omega arith) in
    let fault = at tally.fault (codes "fault") (omega arith) in
    λ i. record { replies = next_count_if true tally.replies; exhausted = exhausted i; wrong_type = wrong_type i; reclaimed = reclaimed i; fault = fault i }

-- the counts after a line that begins with `exhausted` and a space
pub exhausted-counted : (tally : Tally) (line words : List ℕ) (count : ℕ) → line ≡ codes "exhausted " ++ words → with_exhausted tally ≡ with_line tally (take (10 + count) line)
exhausted-counted tally line words count is =
    let front : take (10 + count) (codes "exhausted " ++ words) ≡ codes "exhausted " ++ take count words = take-append-add (codes "exhausted ") words count in
    let whole : with_exhausted tally ≡ with_line tally (codes "exhausted " ++ take count words) = refl in
    rw (is, front) whole

-- a counting sink gained these bytes
pub counted_gained : {before now : Counted} (bytes : List ℕ) → now ≡ fold with_byte before bytes → Gained (λ text. before ≡ counted_of text) (λ text. now ≡ counted_of text) bytes
counted_gained bytes is = record { each = λ had at. is ∙ ap (λ c. fold with_byte c bytes) at ∙ counted-append had bytes }
