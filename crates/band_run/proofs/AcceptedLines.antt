-- The line that spells a command or `end` is accepted, if it isn't part of a file.
use Rattle.std.proofs.Common.{◌≡◌, ℕ, ◌≤◌, List, [], ◌∷◌, ◌++◌, length, Bool, true, false, ◌==◌, ◌||◌, codes, cond, Ok, refl, sym, ap, ◌∙◌, arith}
use Rattle.std.specs.Prelude.{nat_lt}
use Rattle.std.specs.List.{list_all}
use Rattle.std.proofs.lemmas.Bool.Decides.{nat_tests}
use Rattle.std.proofs.lemmas.List.{append-nil}
use Rattle.lisp_graph.specs.Name.{is_letter, is_name, is_name_byte}
use Rattle.world_text.specs.Words.{is_graphic, is_word}
use Rattle.world_text.specs.Spelling.{line_of}
use Rattle.world_text.proofs.reading_laws.Rows.{both, line_formed}
use Rattle.world_text.proofs.reading_laws.ValueLaws.{name_word}
use Rattle.line_input.specs.Reader.{no_feed}
use Rattle.band_run.specs.declared.reading.line.BandLine.{BandLine}
use Rattle.band_run.specs.declared.reading.line.BandLine.TheVariants as L
use Rattle.band_run.specs.Lines.{IsNamed, band_line, line_in, name_in}
use Rattle.band_run.proofs.LineLaws.{line_text}

-- Names

graphic_byte : (x : ℕ) → is_graphic x ≡ true → x == 10 ≡ false
graphic_byte x graphic = grind (arith, nat_tests)

graphic_feed : (bytes : List ℕ) → list_all is_graphic bytes ≡ true → no_feed bytes ≡ true
graphic_feed [] graphic = refl
graphic_feed (x ∷ xs) graphic = let b = both (is_graphic x) (list_all is_graphic xs) graphic in rw (graphic_byte x b.0, graphic_feed xs b.1) refl

word_feed : (word : List ℕ) → is_word word ≡ true → no_feed word ≡ true
word_feed [] good = absurd (cc (good))
word_feed (x ∷ xs) good = graphic_feed (x ∷ xs) good

short_at : (none long letter all : Bool) → cond (none || long) false (cond letter all false) ≡ true → long ≡ false
short_at true long letter all is = absurd (cc (is))
short_at false true letter all is = absurd (cc (is))
short_at false false letter all is = refl

name_short : (name : List ℕ) → is_name name ≡ true → length name ≤ 16
name_short [] is = omega arith
name_short (byte ∷ bytes) is =
    let name : List ℕ = byte ∷ bytes in
    let s : nat_lt 16 (length name) ≡ false = short_at (length name == 0) (nat_lt 16 (length name)) (is_letter byte) (list_all is_name_byte name) is in
    grind (arith, nat_tests, s)

-- Lines

name_read : (name : List ℕ) → is_name name ≡ true → name_in 2 (name ∷ []) ≡ Ok name
name_read name named = rw named refl

named_good : (head name : List ℕ) → is_word head ≡ true → is_name name ≡ true → list_all is_word (head ∷ name ∷ []) ≡ true
named_good head name good named = rw (good, name_word name named) refl

-- the text of a line means that line
pub line_taken : (line : BandLine) → IsNamed line → band_line (line_text line) ≡ Ok line
unfolding line_in
line_taken L.Open named = let f = line_formed (codes "open") [] (refl {a = true}) in rw (f.0, f.1) (refl {a = Ok L.Open})
line_taken L.List named = let f = line_formed (codes "list") [] (refl {a = true}) in rw (f.0, f.1) (refl {a = Ok L.List})
line_taken L.End named = let f = line_formed (codes "end") [] (refl {a = true}) in rw (f.0, f.1) (refl {a = Ok L.End})
line_taken (L.Save name) named =
    let f = line_formed (codes "save") (name ∷ []) (named_good (codes "save") name (refl {a = true}) named) in
    let e : line_text (L.Save name) ≡ line_of (codes "save" ∷ name ∷ []) = ap (λ n. codes "save " ++ n) (sym (append-nil name)) in
    let r = name_read name named in
    ap band_line e ∙ rw (f.0, f.1, r) (refl {a = Ok (L.Save name)})
line_taken (L.Load name) named =
    let f = line_formed (codes "load") (name ∷ []) (named_good (codes "load") name (refl {a = true}) named) in
    let e : line_text (L.Load name) ≡ line_of (codes "load" ∷ name ∷ []) = ap (λ n. codes "load " ++ n) (sym (append-nil name)) in
    let r = name_read name named in
    ap band_line e ∙ rw (f.0, f.1, r) (refl {a = Ok (L.Load name)})

pub line_feed : (line : BandLine) → IsNamed line → no_feed (line_text line) ≡ true
line_feed L.Open named = refl
line_feed L.List named = refl
line_feed L.End named = refl
line_feed (L.Save name) named = word_feed name (name_word name named)
line_feed (L.Load name) named = word_feed name (name_word name named)

pub line_short : (line : BandLine) → IsNamed line → length (line_text line) ≤ 32768
line_short L.Open named = omega arith
line_short L.List named = omega arith
line_short L.End named = omega arith
line_short (L.Save name) named = omega (arith, name_short name named)
line_short (L.Load name) named = omega (arith, name_short name named)
