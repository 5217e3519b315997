-- The lines of commands, followed by `end`, are an accepted input.
use Rattle.std.proofs.Common.{◌≡◌, ◌⊎◌, inl, inr, ℕ, ◌+◌, ◌≤◌, ◌^◌, List, [], ◌∷◌, ◌++◌, length, Bool, true, false, cond, codes, Some, None, Ok, Err, All, refl, sym, ap, ◌∙◌, subst, arith}
use Rattle.std.specs.Prelude.{flat_map}
use Rattle.std.proofs.lemmas.Bool.{cases_Bool}
use Rattle.std.proofs.lemmas.List.{append-nil, append_assoc, length-append}
use Rattle.std.proofs.lemmas.List.Elements.{All-head, All-tail}
use Rattle.world_text.specs.Line.{line_at}
use Rattle.world_text.specs.Reader.{Said as WorldSaid, is_closed}
use Rattle.world_text.specs.declared.fault.WorldStep.{WorldStep}
use Rattle.line_input.specs.declared.judging.input.InputReader.{InputReader}
use Rattle.line_input.specs.Lines.{Line, lines_of, size_of}
use Rattle.line_input.specs.Verdict as V
use Rattle.line_input.proofs.Cuts.{lines_feed}
use Rattle.line_input.proofs.JudgedLines.{decided_parts, ended_parts, judged_here, nothing_behind, passed}
use Rattle.line_input.specs.declared.world_file.WorldFile.{WorldFile}
use Rattle.line_input.specs.WorldFile as F
use Rattle.band_run.specs.declared.reading.command.BandCommand.{BandCommand}
use Rattle.band_run.specs.declared.reading.command.BandCommand.TheVariants as C
use Rattle.band_run.specs.declared.reading.input.BandFile.{BandFile}
use Rattle.band_run.specs.declared.reading.input.BandInput.{BandInput}
use Rattle.band_run.specs.declared.reading.line.BandLine.{BandLine}
use Rattle.band_run.specs.declared.reading.line.BandLine.TheVariants as L
use Rattle.band_run.specs.Lines.{IsNamed}
use Rattle.band_run.specs.Verdict.{band_rules, command_next, file_next, line_in, new_file, start, text_with, verdict, with_command}
use Rattle.band_run.specs.Spelled.{IsAllowed, IsWholeFile, Spells, command_lines}
use Rattle.band_run.proofs.JoinedLines.{AreWhole, bytes_of, lines_again, whole_lines_at}
use Rattle.band_run.proofs.LineLaws.{line_text}
use Rattle.band_run.proofs.AcceptedLines.{line_feed, line_short, line_taken}

-- One line

-- after one more line of this size
abbrev behind : InputReader BandInput → ℕ → BandInput → InputReader BandInput
behind place size input = record { judge = input; lines = place.lines + 1; bytes = place.bytes + size }

-- a line that isn't part of a file
line_judged : (place : InputReader BandInput) (after : BandInput) (line : BandLine) (size : ℕ) → IsNamed line → place.judge.file ≡ None → place.judge.ended ≡ false → place.bytes + size ≤ 2 ^ 40 → command_next (place.lines + 1) place.judge (Ok line) ≡ Ok after
    → V.judged_as band_rules place (line_text line) size ≡ Ok (behind place size after)
line_judged place after line size named none going within next =
    let number : ℕ = place.lines + 1 in
    judged_here band_rules place after (line_text line) size going (omega (arith, within)) (line_short line named)
    (ap (λ f. line_in number place.judge f (line_text line)) none ∙ ap (command_next number place.judge) (line_taken line named) ∙ next)

line_steps : (place : InputReader BandInput) (after : BandInput) (line : BandLine) (more : List ℕ) → IsNamed line → place.judge.file ≡ None → place.judge.ended ≡ false → place.bytes + (length (line_text line) + 1) ≤ 2 ^ 40
    → command_next (place.lines + 1) place.judge (Ok line) ≡ Ok after
    → V.judged band_rules place (lines_of (line_text line ++ 10 ∷ more)) ≡ V.judged band_rules (behind place (length (line_text line) + 1) after) (lines_of more)
line_steps place after line more named none going within next =
    ap (V.judged band_rules place) (lines_feed (line_text line) more (line_feed line named))
    ∙ ap (λ (s : V.Said BandInput). V.decided s (λ behind. V.judged band_rules behind (lines_of more))) (line_judged place after line (length (line_text line) + 1) named none going within next)

-- What is reached

-- after these commands and this many bytes, and not inside a file
pub record Reaches (commands : List BandCommand) (bytes : ℕ) (next : InputReader BandInput) : Type 0 where
  pub commands_are : next.judge.commands ≡ commands
  pub file : next.judge.file ≡ None
  pub going : next.judge.ended ≡ false
  pub bytes_are : next.bytes ≡ bytes

-- a command of one line
one_line : (place : InputReader BandInput) (line : BandLine) (command : BandCommand) (more : List ℕ) → IsNamed line → place.judge.file ≡ None → place.judge.ended ≡ false
    → command_lines command ≡ line_text line ++ 10 ∷ [] → command_next (place.lines + 1) place.judge (Ok line) ≡ Ok (with_command place.judge command) → place.bytes + length (command_lines command) ≤ 2 ^ 40
    → (next : InputReader BandInput) × (V.judged band_rules place (lines_of (command_lines command ++ more)) ≡ V.judged band_rules next (lines_of more)) × Reaches (place.judge.commands ++ command ∷ []) (place.bytes + length (command_lines command)) next
one_line place line command more named none going same step within =
    let l : length (command_lines command) ≡ length (line_text line) + 1 = ap length same ∙ length-append (line_text line) (10 ∷ []) in (
      behind place (length (line_text line) + 1) (with_command place.judge command),
      ap (λ xs. V.judged band_rules place (lines_of (xs ++ more))) same ∙ ap (λ xs. V.judged band_rules place (lines_of xs)) (append_assoc (line_text line) (10 ∷ []) more)
          ∙ line_steps place (with_command place.judge command) line more named none going (omega (arith, within, l)) step,
      record { commands_are = refl; file = none; going = going; bytes_are = ap (λ n. place.bytes + n) (sym l) },
    )

-- Files

file_step : (number : ℕ) (file after : WorldFile) (said : WorldSaid) → F.next number file said ≡ Ok after → (step : WorldStep) × (said ≡ Ok (step, after.builder))
file_step number file after (Ok (step, builder)) is =
    let e : record { builder = builder } ≡ after = cc (is) in
    (step, ap (λ (f : WorldFile). Ok (step, f.builder)) e)
file_step number file after (Err fault) is = absurd (cc (is))

-- what the lines of a file lead to
abbrev FileReads : List Line → InputReader BandInput → BandFile → List Line → Type 0
FileReads lines place file rest =
    (next : InputReader BandInput) × (V.judged band_rules place (lines ++ rest) ≡ V.judged band_rules next rest)
    × Reaches (place.judge.commands ++ C.Save file.name (file.text ++ bytes_of lines) ∷ []) (place.bytes + length (bytes_of lines)) next

file_taken : (lines : List Line) (fplace last : InputReader WorldFile) (place : InputReader BandInput) (file : BandFile) (rest : List Line) → V.judged F.file_rules fplace lines ≡ Ok last → is_closed last.judge.builder.part ≡ true → is_closed fplace.judge.builder.part ≡ false
    → place.judge.file ≡ Some file → fplace.judge.builder ≡ file.builder → AreWhole lines → place.judge.ended ≡ false → place.bytes + length (bytes_of lines) ≤ 2 ^ 40 → FileReads lines place file rest
file_taken [] fplace last place file rest is closed open_yet some builder whole going within =
    let e : fplace ≡ last = cc (is) in
    let f : is_closed fplace.judge.builder.part ≡ true = ap (λ (p : InputReader WorldFile). is_closed p.judge.builder.part) e ∙ closed in
    absurd (cc (open_yet, f))
file_taken (line ∷ lines) fplace last place file rest is closed open_yet some builder whole going within =
    go (cases_Bool (is_closed said.0.judge.builder.part))
    (λ on place' file' some same going within. file_taken lines said.0 last place' file' rest said.2 closed on some same whole.1 going within)
  where
    said : (next : InputReader WorldFile) × (V.judged_as F.file_rules fplace line.text (size_of line) ≡ Ok next) × (V.judged F.file_rules next lines ≡ Ok last)
    said = decided_parts (V.judged_as F.file_rules fplace line.text (size_of line)) (λ behind. V.judged F.file_rules behind lines) last is

    short : length line.text ≤ 32768
    short = (passed F.file_rules fplace line.text (size_of line) said.0 said.1).short

    step : (step : WorldStep) × (line_at fplace.judge.builder line.text ≡ Ok (step, said.0.judge.builder))
    step = file_step (fplace.lines + 1) fplace.judge said.0.judge (line_at fplace.judge.builder line.text) (passed F.file_rules fplace line.text (size_of line) said.0 said.1).says

    here : line_at file.builder line.text ≡ Ok (step.0, said.0.judge.builder)
    here = ap (λ b. line_at b line.text) (sym builder) ∙ step.1

    size : size_of line ≡ length line.text + 1
    size = ap (λ (b : Bool). length line.text + cond b 1 0) whole.0

    bytes_are : bytes_of (line ∷ lines) ≡ (line.text ++ 10 ∷ []) ++ bytes_of lines
    bytes_are = ap (λ (b : Bool). line.text ++ (cond b (10 ∷ []) [] ++ bytes_of lines)) whole.0 ∙ sym (append_assoc line.text (10 ∷ []) (bytes_of lines))

    long : length (bytes_of (line ∷ lines)) ≡ (length line.text + 1) + length (bytes_of lines)
    long = ap length bytes_are ∙ length-append (line.text ++ 10 ∷ []) (bytes_of lines) ∙ ap (λ n. n + length (bytes_of lines)) (length-append line.text (10 ∷ []))

    -- the line leads from the place to this one
    leads : (after : BandInput) → file_next (place.lines + 1) place.judge file line.text (Ok (step.0, said.0.judge.builder)) ≡ Ok after
        → V.judged band_rules place ((line ∷ lines) ++ rest) ≡ V.judged band_rules (behind place (size_of line) after) (lines ++ rest)
    leads after next = ap (λ (s : V.Said BandInput). V.decided s (λ behind. V.judged band_rules behind (lines ++ rest)))
        (judged_here band_rules place after line.text (size_of line) going (omega (arith, within, long, size)) short
        (ap (λ f. line_in (place.lines + 1) place.judge f line.text) some ∙ ap (file_next (place.lines + 1) place.judge file line.text) here ∙ next))

    Later : Type 0
    Later = is_closed said.0.judge.builder.part ≡ false → (place' : InputReader BandInput) (file' : BandFile) → place'.judge.file ≡ Some file' → said.0.judge.builder ≡ file'.builder → place'.judge.ended ≡ false → place'.bytes + length (bytes_of lines) ≤ 2 ^ 40
        → FileReads lines place' file' rest

    go : (is_closed said.0.judge.builder.part ≡ true) ⊎ (is_closed said.0.judge.builder.part ≡ false) → Later → FileReads (line ∷ lines) place file rest
    go (inl shut) later = (
        let after : BandInput = with_command (record place.judge { file = None }) (C.Save file.name (text_with file line.text)) in
        let none : lines ≡ [] = (nothing_behind F.file_rules lines said.0 last shut said.2).0 in
        let e : bytes_of (line ∷ lines) ≡ line.text ++ 10 ∷ [] = bytes_are ∙ ap (λ ls. (line.text ++ 10 ∷ []) ++ bytes_of ls) none ∙ append-nil (line.text ++ 10 ∷ []) in
        let l : size_of line ≡ length (bytes_of (line ∷ lines)) = size ∙ sym (length-append line.text (10 ∷ [])) ∙ ap length (sym e) in (
          behind place (size_of line) after,
          leads after (rw shut refl) ∙ ap (λ ls. V.judged band_rules (behind place (size_of line) after) (ls ++ rest)) none,
          record {
            commands_are = ap (λ t. place.judge.commands ++ C.Save file.name (file.text ++ t) ∷ []) (sym e);
            file = refl;
            going = going;
            bytes_are = ap (λ n. place.bytes + n) l;
          },
        ))
    go (inr on) later = (
        let more : BandFile = record file { text = text_with file line.text; builder = said.0.judge.builder } in
        let after : BandInput = record place.judge { file = Some more } in
        let next : InputReader BandInput = behind place (size_of line) after in
        let fits : next.bytes + length (bytes_of lines) ≤ 2 ^ 40 = omega (arith, within, long, size) in
        let rec = later on next more refl refl going fits in
        let e : text_with file line.text ++ bytes_of lines ≡ file.text ++ bytes_of (line ∷ lines) = append_assoc file.text (line.text ++ 10 ∷ []) (bytes_of lines) ∙ ap (λ xs. file.text ++ xs) (sym bytes_are) in
        let l : next.bytes + length (bytes_of lines) ≡ place.bytes + length (bytes_of (line ∷ lines)) = omega (arith, long, size) in (
          rec.0,
          leads after (rw on refl) ∙ rec.1,
          record {
            commands_are = rec.2.commands_are ∙ ap (λ t. place.judge.commands ++ C.Save file.name t ∷ []) e;
            file = rec.2.file;
            going = rec.2.going;
            bytes_are = rec.2.bytes_are ∙ l;
          },
        ))

-- a save with its file
save_taken : (place : InputReader BandInput) (name text more : List ℕ) → IsNamed (L.Save name) → IsWholeFile text → place.judge.file ≡ None → place.judge.ended ≡ false → place.bytes + length (command_lines (C.Save name text)) ≤ 2 ^ 40
    → (next : InputReader BandInput) × (V.judged band_rules place (lines_of (command_lines (C.Save name text) ++ more)) ≡ V.judged band_rules next (lines_of more)) × Reaches (place.judge.commands ++ C.Save name text ∷ []) (place.bytes + length (command_lines (C.Save name text))) next
save_taken place name text more named file none going within =
    let line : BandLine = L.Save name in
    let head : List ℕ = line_text line in
    let e : command_lines (C.Save name text) ++ more ≡ head ++ 10 ∷ (text ++ more) = ap (λ xs. codes "save " ++ xs) (append_assoc name (10 ∷ text) more) in
    let l : length (command_lines (C.Save name text)) ≡ (length head + 1) + length text = omega (arith, length-append name (10 ∷ text)) in
    let after : BandInput = record place.judge { file = Some (new_file name) } in
    let next : InputReader BandInput = behind place (length head + 1) after in
    let first = line_steps place after line (text ++ more) named none going (omega (arith, within, l)) refl in
    let w = whole_lines_at file.front in
    let same : lines_of (text ++ more) ≡ lines_of text ++ lines_of more =
    ap (λ t. lines_of (t ++ more)) file.feed ∙ ap lines_of (append_assoc file.front (10 ∷ []) more) ∙ w.then more ∙ ap (λ t. lines_of t ++ lines_of more) (sym file.feed) in
    let whole : AreWhole (lines_of text) = subst (λ (t : List ℕ). AreWhole (lines_of t)) (sym file.feed) w.whole in
    let again : bytes_of (lines_of text) ≡ text = (lines_again text).is in
    let f = ended_parts F.file_rules (V.judged F.file_rules (V.start F.start) (lines_of text)) file.world file.says in
    let fits : next.bytes + length (bytes_of (lines_of text)) ≤ 2 ^ 40 = omega (arith, within, l, ap length again) in
    let t = file_taken (lines_of text) (V.start F.start) f.0 next (new_file name) (lines_of more) f.1 f.2 refl refl refl whole going fits in (
      t.0,
      ap (λ xs. V.judged band_rules place (lines_of xs)) e ∙ first ∙ ap (V.judged band_rules next) same ∙ t.1,
      record {
        commands_are = t.2.commands_are ∙ ap (λ xs. place.judge.commands ++ C.Save name xs ∷ []) again;
        file = t.2.file;
        going = t.2.going;
        bytes_are = omega (arith, l, t.2.bytes_are, ap length again);
      },
    )

-- All commands

command_taken : (place : InputReader BandInput) (command : BandCommand) (more : List ℕ) → IsAllowed command → place.judge.file ≡ None → place.judge.ended ≡ false → place.bytes + length (command_lines command) ≤ 2 ^ 40
    → (next : InputReader BandInput) × (V.judged band_rules place (lines_of (command_lines command ++ more)) ≡ V.judged band_rules next (lines_of more)) × Reaches (place.judge.commands ++ command ∷ []) (place.bytes + length (command_lines command)) next
command_taken place C.Open more allowed none going within = one_line place L.Open C.Open more tt none going refl refl within
command_taken place C.List more allowed none going within = one_line place L.List C.List more tt none going refl refl within
command_taken place (C.Load name) more allowed none going within = one_line place (L.Load name) (C.Load name) more allowed none going refl refl within
command_taken place (C.Save name text) more allowed none going within = save_taken place name text more allowed.0 allowed.1 none going within

commands_taken : (commands : List BandCommand) (place : InputReader BandInput) (more : List ℕ) → All IsAllowed commands → place.judge.file ≡ None → place.judge.ended ≡ false → place.bytes + length (flat_map command_lines commands) ≤ 2 ^ 40
    → (next : InputReader BandInput) × (V.judged band_rules place (lines_of (flat_map command_lines commands ++ more)) ≡ V.judged band_rules next (lines_of more)) × Reaches (place.judge.commands ++ commands) (place.bytes + length (flat_map command_lines commands)) next
commands_taken [] place more allowed none going within = (place, refl, record { commands_are = sym (append-nil place.judge.commands); file = none; going = going; bytes_are = omega arith })
commands_taken (command ∷ commands) place more allowed none going within =
    let later : List ℕ = flat_map command_lines commands in
    let l : length (command_lines command ++ later) ≡ length (command_lines command) + length later = length-append (command_lines command) later in
    let one = command_taken place command (later ++ more) (All-head IsAllowed command commands allowed) none going (omega (arith, within, l)) in
    let others = commands_taken commands one.0 more (All-tail IsAllowed command commands allowed) one.2.file one.2.going (omega (arith, within, l, one.2.bytes_are)) in (
      others.0,
      ap (λ xs. V.judged band_rules place (lines_of xs)) (append_assoc (command_lines command) later more) ∙ one.1 ∙ others.1,
      record {
        commands_are = others.2.commands_are ∙ ap (λ cs. cs ++ commands) one.2.commands_are ∙ append_assoc place.judge.commands (command ∷ []) commands;
        file = others.2.file;
        going = others.2.going;
        bytes_are = omega (arith, l, one.2.bytes_are, others.2.bytes_are);
      },
    )

-- the line `end`
end_taken : (place : InputReader BandInput) (feed : List ℕ) → (feed ≡ 10 ∷ []) ⊎ (feed ≡ []) → place.judge.file ≡ None → place.judge.ended ≡ false → place.bytes + (3 + length feed) ≤ 2 ^ 40
    → V.ended band_rules (V.judged band_rules place (lines_of (codes "end" ++ feed))) ≡ Ok place.judge.commands
end_taken place feed (inl is) none going within =
    let w : place.bytes + 4 ≤ 2 ^ 40 = omega (arith, within, ap length is) in
    ap (λ f. V.ended band_rules (V.judged band_rules place (lines_of (codes "end" ++ f)))) is
    ∙ ap (λ (s : V.Said BandInput). V.ended band_rules (V.decided s (λ behind. V.judged band_rules behind []))) (line_judged place (record place.judge { ended = true }) L.End 4 tt none going w refl)
end_taken place feed (inr is) none going within =
    let w : place.bytes + 3 ≤ 2 ^ 40 = omega (arith, within, ap length is) in
    ap (λ f. V.ended band_rules (V.judged band_rules place (lines_of (codes "end" ++ f)))) is
    ∙ ap (λ (s : V.Said BandInput). V.ended band_rules (V.decided s (λ behind. V.judged band_rules behind []))) (line_judged place (record place.judge { ended = true }) L.End 3 tt none going w refl)

pub spelled_all : (input : List ℕ) (commands : List BandCommand) → Spells commands input → verdict input ≡ Ok commands
spelled_all input commands spells =
    let lines : List ℕ = flat_map command_lines commands in
    let l : length input ≡ length lines + (3 + length spells.feed) = ap length spells.is ∙ length-append lines (codes "end" ++ spells.feed) ∙ ap (λ n. length lines + n) (length-append (codes "end") spells.feed) in
    let t = commands_taken commands (V.start start) (codes "end" ++ spells.feed) spells.each refl refl (omega (arith, spells.within, l)) in
    let w : t.0.bytes + (3 + length spells.feed) ≤ 2 ^ 40 = omega (arith, spells.within, l, t.2.bytes_are) in
    ap verdict spells.is ∙ ap (V.ended band_rules) t.1 ∙ end_taken t.0 spells.feed spells.last t.2.file t.2.going w ∙ ap (λ (cs : List BandCommand). Ok cs) t.2.commands_are
