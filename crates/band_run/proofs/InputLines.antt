-- An accepted input consists of the lines of its commands, and `end`.
use Rattle.std.proofs.Common.{◌≡◌, ◌⊎◌, inl, inr, ℕ, ◌+◌, List, [], ◌∷◌, ◌++◌, length, Bool, true, false, cond, Ok, refl, sym, ap, ◌∙◌, subst, ◌≤◌, ◌^◌, arith}
use Rattle.std.specs.Prelude.{flat_map}
use Rattle.std.proofs.lemmas.Bool.{cases_Bool}
use Rattle.std.proofs.lemmas.List.{append-nil, append_assoc, length-append}
use Rattle.std.proofs.lemmas.List.Elements.{All-nil}
use Rattle.line_input.specs.declared.judging.input.InputReader.{InputReader}
use Rattle.line_input.specs.Lines.{Line, lines_of, size_of}
use Rattle.line_input.specs.Verdict as V
use Rattle.line_input.proofs.JudgedLines.{decided_parts, ended_parts, nothing_behind, passed}
use Rattle.band_run.specs.declared.reading.command.BandCommand.{BandCommand}
use Rattle.band_run.specs.declared.reading.input.BandInput.{BandInput}
use Rattle.band_run.specs.Verdict.{band_rules, start, verdict}
use Rattle.band_run.specs.Spelled.{IsAllowed, Spells, command_lines}
use Rattle.band_run.proofs.JoinedLines.{AreCut, bytes_of, feed_of, lines_again}
use Rattle.band_run.proofs.InputPrefixes.{Ends, Goes, Stands, last_goes, line_goes}

spells_end : (input : BandInput) (bytes text feed : List ℕ) → Ends input bytes text → (feed ≡ 10 ∷ []) ⊎ (feed ≡ []) → length (bytes ++ (text ++ feed)) ≤ 2 ^ 40 → Spells input.commands (bytes ++ (text ++ feed))
spells_end input bytes text feed ends last within = record {
  each = ends.each;
  within = within;
  feed = feed;
  last = last;
  is = ap (λ xs. xs ++ (text ++ feed)) ends.bytes_are ∙ ap (λ t. flat_map command_lines input.commands ++ (t ++ feed)) ends.text_is;
}

-- a line feed, or nothing
abbrev feed_if : Bool → List ℕ
feed_if b = cond b (10 ∷ []) []

either_feed : (b : Bool) → (feed_if b ≡ 10 ∷ []) ⊎ (feed_if b ≡ [])
either_feed true = inl refl
either_feed false = inr refl

feed_size : (b : Bool) → length (feed_if b) ≡ cond b 1 0
feed_size true = refl
feed_size false = refl

-- an accepted line ends within the limit
ends_within : (place next : InputReader BandInput) (line : Line) (bytes : List ℕ) → place.bytes ≡ length bytes → V.judged_as band_rules place line.text (size_of line) ≡ Ok next → length (bytes ++ (line.text ++ feed_of line)) ≤ 2 ^ 40
ends_within place next line bytes count is =
    let p = passed band_rules place line.text (size_of line) next is in
    let s : size_of line ≡ length line.text + length (feed_of line) = ap (λ n. length line.text + n) (sym (feed_size line.whole)) in
    let one = one_at line.whole in
    let a = length-append bytes (line.text ++ feed_of line) in
    let b = length-append line.text (feed_of line) in
    omega (arith, count, p.within, p.short, s, one, a, b)
  where
    one_at : (b : Bool) → length (feed_if b) ≤ 1
    one_at true = omega arith
    one_at false = omega arith

-- how many bytes there are after a whole line
more_count : (place next : InputReader BandInput) (text bytes : List ℕ) → place.bytes ≡ length bytes → V.judged_as band_rules place text (length text + 1) ≡ Ok next → next.bytes ≡ length (bytes ++ (text ++ 10 ∷ []))
more_count place next text bytes count is =
    let p = passed band_rules place text (length text + 1) next is in
    let a = length-append bytes (text ++ 10 ∷ []) in
    let b = length-append text (10 ∷ []) in
    omega (arith, count, p.bytes, a, b)

lines_spelled : (lines : List Line) (place after : InputReader BandInput) (bytes : List ℕ) → Stands place.judge place.bytes bytes → place.bytes ≡ length bytes → AreCut lines → V.judged band_rules place lines ≡ Ok after → after.judge.ended ≡ true → Spells after.judge.commands (bytes ++ bytes_of lines)
lines_spelled [] place after bytes stands count cut is over =
    let e : place ≡ after = cc (is) in
    let g = stands.going in
    let f : place.judge.ended ≡ true = ap (λ (p : InputReader BandInput). p.judge.ended) e ∙ over in
    absurd (cc (g, f))
lines_spelled (line ∷ lines) place after bytes stands count cut is over = go (cases_Bool line.whole) (λ next more on count is. lines_spelled lines next after more on count cut.2 is over)
  where
    Later : Type 0
    Later = (next : InputReader BandInput) (more : List ℕ) → Stands next.judge next.bytes more → next.bytes ≡ length more → V.judged band_rules next lines ≡ Ok after → Spells after.judge.commands (more ++ bytes_of lines)

    said : (next : InputReader BandInput) × (V.judged_as band_rules place line.text (size_of line) ≡ Ok next) × (V.judged band_rules next lines ≡ Ok after)
    said = decided_parts (V.judged_as band_rules place line.text (size_of line)) (λ behind. V.judged band_rules behind lines) after is

    ends_here : (next : InputReader BandInput) → Ends next.judge bytes line.text → next ≡ after → lines ≡ [] → Spells after.judge.commands (bytes ++ (line.text ++ (feed_of line ++ bytes_of lines)))
    ends_here next ends same none = (
        let feed : List ℕ = feed_of line in
        let last : (feed ≡ 10 ∷ []) ⊎ (feed ≡ []) = either_feed line.whole in
        let spelled : Spells after.judge.commands (bytes ++ (line.text ++ feed)) = subst (λ (p : InputReader BandInput). Spells p.judge.commands (bytes ++ (line.text ++ feed))) same (spells_end next.judge bytes line.text feed ends last (ends_within place said.0 line bytes count said.1)) in
        let e : bytes ++ (line.text ++ feed) ≡ bytes ++ (line.text ++ (feed ++ bytes_of lines)) = ap (λ xs. bytes ++ (line.text ++ xs)) (sym (append-nil feed) ∙ ap (λ ls. feed ++ bytes_of ls) (sym none)) in
        subst (λ (xs : List ℕ). Spells after.judge.commands xs) e spelled)

    goes_on : Later → line.whole ≡ true → V.judged_as band_rules place line.text (length line.text + 1) ≡ Ok said.0 → Goes said.0.judge said.0.bytes bytes line.text → Spells after.judge.commands (bytes ++ (line.text ++ (feed_of line ++ bytes_of lines)))
    goes_on later whole here (inl on) = (
        let rest = later said.0 (bytes ++ (line.text ++ 10 ∷ [])) on (more_count place said.0 line.text bytes count here) said.2 in
        let e : (bytes ++ (line.text ++ 10 ∷ [])) ++ bytes_of lines ≡ bytes ++ (line.text ++ (feed_of line ++ bytes_of lines)) =
        append_assoc bytes (line.text ++ 10 ∷ []) (bytes_of lines) ∙ ap (λ xs. bytes ++ xs) (append_assoc line.text (10 ∷ []) (bytes_of lines))
        ∙ ap (λ (b : Bool). bytes ++ (line.text ++ (feed_if b ++ bytes_of lines))) (sym whole) in
        subst (λ (xs : List ℕ). Spells after.judge.commands xs) e rest)
    goes_on later whole here (inr ends) = (let n = nothing_behind band_rules lines said.0 after ends.ended said.2 in ends_here said.0 ends n.1 n.0)

    ends_it : lines ≡ [] → Spells after.judge.commands (bytes ++ (line.text ++ (feed_of line ++ bytes_of lines)))
    ends_it none = (
        let same : said.0 ≡ after = let e : V.judged band_rules said.0 [] ≡ Ok after = ap (V.judged band_rules said.0) (sym none) ∙ said.2 in cc (e) in
        let ends = last_goes place said.0 bytes line.text (size_of line) stands said.1 (ap (λ (p : InputReader BandInput). p.judge.ended) same ∙ over) in
        ends_here said.0 ends same none)

    last_line : line.whole ≡ false → (line.whole ≡ true) ⊎ (lines ≡ []) → Spells after.judge.commands (bytes ++ (line.text ++ (feed_of line ++ bytes_of lines)))
    last_line part (inl whole) = absurd (cc (part, whole))
    last_line part (inr none) = ends_it none

    go : (line.whole ≡ true) ⊎ (line.whole ≡ false) → Later → Spells after.judge.commands (bytes ++ (line.text ++ (feed_of line ++ bytes_of lines)))
    go (inl whole) later = (
        let size : size_of line ≡ length line.text + 1 = ap (λ (b : Bool). length line.text + cond b 1 0) whole in
        let here : V.judged_as band_rules place line.text (length line.text + 1) ≡ Ok said.0 = ap (V.judged_as band_rules place line.text) (sym size) ∙ said.1 in
        goes_on later whole here (line_goes place said.0 bytes line.text stands cut.0 here))
    go (inr part) later = last_line part cut.1

stands_start : Stands start 0 []
stands_start = record { each = All-nil IsAllowed; file = tt; going = refl; is = refl }

pub spelled_only : (input : List ℕ) (commands : List BandCommand) → verdict input ≡ Ok commands → Spells commands input
spelled_only input commands is =
    let a = lines_again input in
    let p = ended_parts band_rules (V.judged band_rules (V.start start) (lines_of input)) commands is in
    let spelled = lines_spelled (lines_of input) (V.start start) p.0 [] stands_start refl a.cut p.1 p.2 in
    subst (λ (cs : List BandCommand). Spells cs input) p.3 (subst (λ (xs : List ℕ). Spells p.0.judge.commands xs) a.is spelled)
