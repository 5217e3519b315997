-- A cons line of a world file that is judged where it is buffered.
use Rattle.std.proofs.Common.{◌≡◌, ℕ, ◌+◌, ◌≤◌, ◌^◌, List, [], ◌∷◌, length, take, true, false, Option, Ok, refl, sym, ap, ◌∙◌, subst, arith}
use Rattle.std.specs.Prelude.{◌==◌}
use Rattle.std.specs.List.{list_all}
use Rattle.std.proofs.lemmas.Bool.Decides.{nat_tests}
use Rattle.std.proofs.lemmas.List.{length-take-le}
use Rattle.world_text.specs.declared.fault.WorldStep.TheVariants.{Next}
use Rattle.world_text.specs.declared.reading.reader.Section.TheVariants.{Objects}
use Rattle.world_text.specs.declared.reading.reader.WorldReader.{WorldReader}
use Rattle.world_text.specs.Words.{is_graphic, is_word, words_of}
use Rattle.world_text.specs.Spelling.{line_of as row_of, spaced}
use Rattle.world_text.specs.Reader.{is_closed}
use Rattle.world_text.specs.Line.{line_at}
use Rattle.world_text.specs.Fast.{IsLineBeforeFeed}
use Rattle.world_text.proofs.reading_laws.Rows.{both, formed_row}
use Rattle.line_input.specs.declared.judging.input.InputReader.{InputReader}
use Rattle.line_input.specs.declared.world_file.WorldFile.{WorldFile}
use Rattle.line_input.specs.declared.lines.found.LineSpan.{LineSpan}
use Rattle.line_input.specs.Reader.{Buffered, FitsIn, IsWholeLine, no_feed}
use Rattle.line_input.specs.Verdict.{further, judged_as}
use Rattle.line_input.specs.WorldFile.{file_rules, next, start}
use Rattle.line_input.proofs.JudgedLines.{judged_here}
use Rattle.line_input.proofs.ReaderInvariant.{Going}
use Rattle.line_input.proofs.LineFeeds.{no_feed-append}

-- A well-formed line contains no line feed

graphic_byte : (x : ℕ) → is_graphic x ≡ true → x == 10 ≡ false
graphic_byte x graphic = grind (arith, nat_tests)

graphic_feed : (bytes : List ℕ) → list_all is_graphic bytes ≡ true → no_feed bytes ≡ true
graphic_feed [] graphic = refl
graphic_feed (x ∷ xs) graphic = let b = both (is_graphic x) (list_all is_graphic xs) graphic in rw (graphic_byte x b.0, graphic_feed xs b.1) refl

word_feed : (word : List ℕ) → is_word word ≡ true → no_feed word ≡ true
word_feed [] good = absurd (cc (good))
word_feed (x ∷ xs) good = graphic_feed (x ∷ xs) good

spaced_feed : (words : List (List ℕ)) → list_all is_word words ≡ true → no_feed (spaced words) ≡ true
spaced_feed [] good = refl
spaced_feed (word ∷ words) good =
    let b = both (is_word word) (list_all is_word words) good in
    no_feed-append (32 ∷ word) (spaced words) ∙ rw (word_feed word b.0, spaced_feed words b.1) refl

row_feed : (words : List (List ℕ)) → list_all is_word words ≡ true → no_feed (row_of words) ≡ true
row_feed [] good = refl
row_feed (word ∷ words) good =
    let b = both (is_word word) (list_all is_word words) good in
    no_feed-append word (spaced words) ∙ rw (word_feed word b.0, spaced_feed words b.1) refl

-- The line that was found

pub whole_fits : (held : Buffered) (found : LineSpan) → IsWholeLine held found → FitsIn held found
whole_fits held found line = record {
  some = omega (arith, line.size);
  close = omega (arith, line.size);
  text = omega (arith, line.below);
  all = omega (arith, line.size, line.below);
}

module _ (held : Buffered) (size : ℕ) (line : IsLineBeforeFeed held.bytes size) where
  pub whole_line : IsWholeLine held (record { length = size; size = size + 1 })
  whole_line =
      let row = formed_row (take size held.bytes) line.formed in
      record {
        below = line.within;
        first = ap no_feed row.0 ∙ row_feed (words_of (take size held.bytes)) row.1;
        feed = line.feed;
        size = refl;
      }

  -- it is accepted within the limits
  pub cons_judged : (place : InputReader WorldFile) (builder : WorldReader) → length held.bytes ≤ 32769 → place.bytes + 32769 ≤ 2 ^ 40 → place.judge.builder.part ≡ Objects → line_at place.judge.builder (take size held.bytes) ≡ Ok (Next, builder)
      → judged_as file_rules place (take size held.bytes) (size + 1) ≡ Ok (further (record place { judge = record { builder = builder } }) (size + 1))
  cons_judged place builder short room part says =
      let within = line.within in
      let long : length (take size held.bytes) ≡ size = length-take-le size held.bytes (omega arith) in
      judged_here file_rules place (record { builder = builder }) (take size held.bytes) (size + 1) (ap is_closed part) (omega arith) (omega arith) (ap (next (place.lines + 1) place.judge) says)

-- between two lines, after a call that changed nothing
pub going_same : {left left' : Option (List ℕ)} {old new : InputReader WorldFile} {reader : Buffered} → new ≡ old → Going file_rules start left left' old reader → Going file_rules start left left' new reader
going_same {left} {left'} {old} {new} {reader} same going = subst (λ (place : InputReader WorldFile). Going file_rules start left left' place reader) (sym same) going
