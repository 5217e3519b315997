-- Bytes, cut into lines.
use Rattle.std.proofs.Common.{◌≡◌, ℕ, ◌+◌, ◌<◌, ◌≤◌, List, [], ◌∷◌, ◌++◌, length, take, drop, get_or, Bool, true, false, not, ◌&&◌, ◌==◌, cond, refl, sym, ap, ◌∙◌, arith}
use Rattle.std.proofs.lemmas.List.{append-nil, append_assoc, drop_more, take-append-drop, length-take-le, take_all, drop_all}
use Rattle.line_input.specs.Lines.{Line, lines_of, onto, size_of, whole_lines}
use Rattle.line_input.specs.Reader.{Buffered, no_feed, IsWholeLine, IsLastLine}
use Rattle.line_input.specs.declared.lines.found.LineSpan.{LineSpan}

pub both_true : (a b : Bool) → a && b ≡ true → (a ≡ true) × (b ≡ true)
both_true true b h = (refl, h)
both_true false b h = cc

pub not_true : (a : Bool) → not a ≡ true → a ≡ false
not_true true h = cc
not_true false h = refl

onto_at : (x : ℕ) (bytes : List ℕ) → x == 10 ≡ false → lines_of (x ∷ bytes) ≡ onto x (lines_of bytes)
onto_at x bytes h = rw h refl

no_feed_head : (x : ℕ) (xs : List ℕ) → no_feed (x ∷ xs) ≡ true → x == 10 ≡ false
no_feed_head x xs h = not_true (x == 10) (both_true (not (x == 10)) (no_feed xs) h).0

no_feed_tail : (x : ℕ) (xs : List ℕ) → no_feed (x ∷ xs) ≡ true → no_feed xs ≡ true
no_feed_tail x xs h = (both_true (not (x == 10)) (no_feed xs) h).1

-- a line feed ends the first line
pub lines_feed : (text rest : List ℕ) → no_feed text ≡ true → lines_of (text ++ 10 ∷ rest) ≡ record { text = text; whole = true } ∷ lines_of rest
lines_feed [] rest h = refl
lines_feed (x ∷ xs) rest h = onto_at x (xs ++ 10 ∷ rest) (no_feed_head x xs h) ∙ ap (onto x) (lines_feed xs rest (no_feed_tail x xs h))

-- a last line without a line feed
pub lines_last : (text : List ℕ) → 0 < length text → no_feed text ≡ true → lines_of text ≡ record { text = text; whole = false } ∷ []
lines_last [] some h = absurd (omega arith)
lines_last (x ∷ []) some h = onto_at x [] (no_feed_head x [] h)
lines_last (x ∷ y ∷ ys) some h = onto_at x (y ∷ ys) (no_feed_head x (y ∷ ys) h) ∙ ap (onto x) (lines_last (y ∷ ys) (omega arith) (no_feed_tail x (y ∷ ys) h))

-- the first line begins with bytes that contain no line feed
pub record Begins (bytes : List ℕ) (n : ℕ) : Type 0 where
  pub line : Line
  pub rest : List Line
  pub is : lines_of bytes ≡ line ∷ rest
  pub long : n ≤ length line.text

onto_longer : (x : ℕ) (lines : List Line) (n : ℕ) → ((line : Line) × (rest : List Line) × (lines ≡ line ∷ rest) × (n ≤ length line.text)) → (line : Line) × (rest : List Line) × (onto x lines ≡ line ∷ rest) × (n + 1 ≤ length line.text)
onto_longer x lines n p = (record { text = x ∷ p.0.text; whole = p.0.whole }, p.1, ap (onto x) p.2, omega (arith, p.3))

onto_some : (x : ℕ) (lines : List Line) → (line : Line) × (rest : List Line) × (onto x lines ≡ line ∷ rest) × (1 ≤ length line.text)
onto_some x [] = (record { text = x ∷ []; whole = false }, [], refl, omega arith)
onto_some x (line ∷ lines) = (record { text = x ∷ line.text; whole = line.whole }, lines, refl, omega arith)

lines_begin : (x : ℕ) (xs more : List ℕ) → no_feed (x ∷ xs) ≡ true → (line : Line) × (rest : List Line) × (lines_of (x ∷ xs ++ more) ≡ line ∷ rest) × (length xs + 1 ≤ length line.text)
lines_begin x [] more h =
    let p = onto_some x (lines_of more) in
    (p.0, p.1, onto_at x more (no_feed_head x [] h) ∙ p.2, omega (arith, p.3))
lines_begin x (y ∷ ys) more h =
    let p = onto_longer x (lines_of (y ∷ ys ++ more)) (length ys + 1) (lines_begin y ys more (no_feed_tail x (y ∷ ys) h)) in
    (p.0, p.1, onto_at x (y ∷ ys ++ more) (no_feed_head x (y ∷ ys) h) ∙ p.2, omega (arith, p.3))

pub lines_long : (text more : List ℕ) → 0 < length text → no_feed text ≡ true → Begins (text ++ more) (length text)
lines_long [] more some h = absurd (omega arith)
lines_long (x ∷ xs) more some h = let p = lines_begin x xs more h in record { line = p.0; rest = p.1; is = p.2; long = omega (arith, p.3) }

kept : (b : Bool) (line : Line) (xs ys : List Line) → cond b (line ∷ xs) xs ++ ys ≡ cond b (line ∷ xs ++ ys) (xs ++ ys)
kept true line xs ys = refl
kept false line xs ys = refl

pub whole_lines-append : (xs ys : List Line) → whole_lines (xs ++ ys) ≡ whole_lines xs ++ whole_lines ys
whole_lines-append [] ys = refl
whole_lines-append (line ∷ xs) ys = rw (whole_lines-append xs ys) (sym (kept line.whole line (whole_lines xs) (whole_lines ys)))

pub no_whole_lines : (text : List ℕ) → no_feed text ≡ true → whole_lines (lines_of text) ≡ []
no_whole_lines [] h = refl
no_whole_lines (x ∷ xs) h = ap whole_lines (lines_last (x ∷ xs) (omega arith) h)

-- The next line, and the lines after it.
pub record Passes (reader : Buffered) (found : LineSpan) : Type 0 where
  pub line : Line
  pub cuts : (more : List ℕ) → (reader.ended ≡ true → more ≡ []) → lines_of (reader.bytes ++ more) ≡ line ∷ lines_of (drop found.size reader.bytes ++ more)
  pub whole : reader.ended ≡ false → line.whole ≡ true
  pub text : line.text ≡ take found.length reader.bytes
  pub size : size_of line ≡ found.size
  pub within : found.size ≤ length reader.bytes
  pub some : 1 ≤ found.size
  pub close : found.size ≤ length line.text + 1

split_at : (bytes : List ℕ) (n : ℕ) → n < length bytes → get_or bytes n 0 ≡ 10 → bytes ≡ take n bytes ++ 10 ∷ drop (n + 1) bytes
split_at bytes n below is = sym (take-append-drop n bytes) ∙ ap (λ xs. take n bytes ++ xs) (drop_more bytes n 0 below ∙ ap (λ x. x ∷ drop (n + 1) bytes) is)

pub passes_whole : (reader : Buffered) (found : LineSpan) → IsWholeLine reader found → Passes reader found
passes_whole reader found h =
    let n : ℕ = found.length in
    let l : length (take n reader.bytes) ≡ n = length-take-le n reader.bytes (omega (arith, h.below)) in
    record {
      line = record { text = take n reader.bytes; whole = true };
      cuts = λ more _.
          ap (λ xs. lines_of (xs ++ more)) (split_at reader.bytes n h.below h.feed)
          ∙ ap lines_of (append_assoc (take n reader.bytes) (10 ∷ drop (n + 1) reader.bytes) more)
          ∙ lines_feed (take n reader.bytes) (drop (n + 1) reader.bytes ++ more) h.first
          ∙ ap (λ k. record { text = take n reader.bytes; whole = true } ∷ lines_of (drop k reader.bytes ++ more)) (sym h.size);
      whole = λ _. refl;
      text = refl;
      size = ap (λ k. k + 1) l ∙ sym h.size;
      within = omega (arith, h.below, h.size);
      some = omega (arith, h.size);
      close = omega (arith, h.size, l);
    }

pub passes_last : (reader : Buffered) (found : LineSpan) → IsLastLine reader found → Passes reader found
passes_last reader found (h, ended) = record {
  line = record { text = reader.bytes; whole = false };
  cuts = λ more none.
      ap (λ xs. lines_of (reader.bytes ++ xs)) (none ended)
      ∙ ap lines_of (append-nil reader.bytes)
      ∙ lines_last reader.bytes h.some h.none
      ∙ ap (λ xs. record { text = reader.bytes; whole = false } ∷ lines_of xs) (sym (ap (λ xs. drop found.size reader.bytes ++ xs) (none ended) ∙ append-nil _ ∙ drop_all found.size reader.bytes (omega (arith, h.size))));
  whole = λ going. cc (ended, going);
  text = sym (take_all found.length reader.bytes (omega (arith, h.all)));
  size = omega (arith, h.size);
  within = omega (arith, h.size);
  some = omega (arith, h.size, h.some);
  close = omega (arith, h.size);
}
