-- Lines that are read have no line feed in them.
use Rattle.std.proofs.Common.{◌≡◌, ℕ, ◌≤◌, List, [], ◌∷◌, Bool, true, false, Ok, Err, inl, inr, refl, ap, arith}
use Rattle.std.specs.Prelude.{◌&&◌, if◌then◌else◌, bytes_eq, codes, nat_le}
use Rattle.std.specs.List.{All, list_all, onto_first}
use Rattle.std.proofs.lemmas.Bool.Decides.{nat_tests}
use Rattle.std.proofs.lemmas.List.Elements.{All-cons, All-nil, All-weaker}
use Rattle.std.proofs.lemmas.List.Sums.{AllPass-from_list_all}
use Rattle.trace_text.specs.world_text.declared.reading.reason.Reason.TheVariants.{NotAWorld, BadLine}
use Rattle.trace_text.specs.world_text.declared.fault.WorldFault.TheVariants.{Bad}
use Rattle.trace_text.specs.world_text.declared.fault.WorldStep.{WorldStep}
use Rattle.trace_text.specs.world_text.declared.reading.reader.WorldReader.{WorldReader}
use Rattle.trace_text.specs.world_text.Next.{◌>>=◌}
use Rattle.trace_text.specs.world_text.Reader.{Said}
use Rattle.trace_text.specs.world_text.Line.{is_opening, line_at}
use Rattle.trace_text.specs.world_text.Words.{ends_in_word, is_graphic, is_space, is_well_formed, is_word, words_of}
use Rattle.trace_text.proofs.world_text.reading_laws.LineLaws.{if_ok}
use Rattle.trace_text.proofs.world_text.reading_laws.ReadLaws.{guard_ok}
use Rattle.trace_text.proofs.world_text.reading_laws.ValueLaws.{same_bytes}
use Rattle.dump_laws.specs.Back.{read_from}

-- a byte out of 32 to 126
abbrev pub is_printable : ℕ → Bool
is_printable byte = nat_le 32 byte && nat_le byte 126

abbrev pub IsPrintable : List ℕ → Type 0
IsPrintable text = list_all is_printable text ≡ true

and_parts : (a b : Bool) → (a && b) ≡ true → (a ≡ true) × (b ≡ true)
and_parts true b is = (refl, is)
and_parts false b is = absurd (cc (is))

and_both : (a b : Bool) → a ≡ true → b ≡ true → (a && b) ≡ true
and_both true b first second = second
and_both false b first second = absurd (cc (first))

space_printable : (byte : ℕ) → is_space byte ≡ true → is_printable byte ≡ true
space_printable byte is = let e : byte ≡ 32 = grind (arith, nat_tests, is) in rw e refl

graphic_printable : (byte : ℕ) → is_graphic byte ≡ true → is_printable byte ≡ true
graphic_printable byte is =
    let parts = and_parts (nat_le 33 byte) (nat_le byte 126) is in
    let low : nat_le 32 byte ≡ true = grind (arith, nat_tests, parts.0) in
    and_both (nat_le 32 byte) (nat_le byte 126) low parts.1

-- words with graphic bytes alone
abbrev AreGraphic : List (List ℕ) → Type 0
AreGraphic words = list_all (λ word. list_all is_graphic word) words ≡ true

first_graphic : (byte : ℕ) (words : List (List ℕ)) → AreGraphic (onto_first byte words) → (is_graphic byte ≡ true) × AreGraphic words
first_graphic byte [] is = (let p = and_parts (list_all is_graphic (byte ∷ [])) true is in (and_parts (is_graphic byte) true p.0).0, refl)
first_graphic byte (word ∷ words) is =
    let p = and_parts (list_all is_graphic (byte ∷ word)) (list_all (λ w. list_all is_graphic w) words) is in
    let q = and_parts (is_graphic byte) (list_all is_graphic word) p.0 in
    (q.0, and_both (list_all is_graphic word) (list_all (λ w. list_all is_graphic w) words) q.1 p.1)

words_printable : (text : List ℕ) → AreGraphic (words_of text) → IsPrintable text
unfolding words_of
words_printable [] is = refl
words_printable (byte ∷ text) is = of_test (is_space byte) refl is (words_printable text)
  where
    of_test : (b : Bool) → is_space byte ≡ b → AreGraphic (if b then [] ∷ words_of text else onto_first byte (words_of text)) → (AreGraphic (words_of text) → IsPrintable text) → IsPrintable (byte ∷ text)
    of_test true space words rest = and_both (is_printable byte) (list_all is_printable text) (space_printable byte space) (rest words)
    of_test false other words rest =
        let p = first_graphic byte (words_of text) words in
        and_both (is_printable byte) (list_all is_printable text) (graphic_printable byte p.0) (rest p.1)

word_graphic : (word : List ℕ) → is_word word ≡ true → list_all is_graphic word ≡ true
word_graphic [] is = absurd (cc (is))
word_graphic (byte ∷ bytes) is = is

all_graphic : (words : List (List ℕ)) → list_all is_word words ≡ true → AreGraphic words
all_graphic [] is = refl
all_graphic (word ∷ words) is =
    let p = and_parts (is_word word) (list_all is_word words) is in
    and_both (list_all is_graphic word) (list_all (λ w. list_all is_graphic w) words) (word_graphic word p.0) (all_graphic words p.1)

formed_printable : (text : List ℕ) → is_well_formed text ≡ true → IsPrintable text
unfolding is_well_formed
formed_printable text is = words_printable text (all_graphic (words_of text) (and_parts (list_all is_word (words_of text)) (ends_in_word text) is).0)

-- Accepted lines

pub line_printable : (place : WorldReader) (text : List ℕ) (next : WorldStep × WorldReader) → line_at place text ≡ Ok next → IsPrintable text
line_printable place text next is =
    elim (if_ok (is_opening place.part) _ _ next is) [
      | inl opening ↦
          elim (if_ok (bytes_eq text (codes "lispm-world 1")) _ _ next opening.1) [
            | inl first ↦ ap (list_all is_printable) (same_bytes text (codes "lispm-world 1") first.0)
            | inr other ↦ let g = guard_ok (bytes_eq text (codes "lispm-world 2")) _ (Bad NotAWorld) next other.1 in ap (list_all is_printable) (same_bytes text (codes "lispm-world 2") g.0)
          ]
      | inr later ↦ formed_printable text (guard_ok (is_well_formed text) _ (Bad BadLine) next later.1).0
    ]

pub lines_printable : (place next : WorldReader) (lines : List (List ℕ)) → read_from place lines ≡ Ok next → All IsPrintable lines
unfolding read_from
lines_printable place next [] is = All-nil IsPrintable
lines_printable place next (line ∷ lines) is = of_said (line_at place line) refl is (λ after. lines_printable after next lines)
  where
    of_said : (said : Said) → line_at place line ≡ said → (said >>= (λ one. read_from one.1 lines)) ≡ Ok next → ((after : WorldReader) → read_from after lines ≡ Ok next → All IsPrintable lines) → All IsPrintable (line ∷ lines)
    of_said (Ok step) at rest more = All-cons IsPrintable line lines (line_printable place line step at) (more step.1 rest)
    of_said (Err fault) at rest more = absurd (cc (rest))

-- the bytes of a printable line
pub printable_bytes : (text : List ℕ) → IsPrintable text → All (λ byte. (32 ≤ byte) × (byte ≤ 126)) text
printable_bytes text is = All-weaker (λ byte. is_printable byte ≡ true) (λ byte. (32 ≤ byte) × (byte ≤ 126))
    (λ byte ok. let p = and_parts (nat_le 32 byte) (nat_le byte 126) ok in (grind (arith, nat_tests, p.0), grind (arith, nat_tests, p.1))) text (AllPass-from_list_all is_printable text is)
