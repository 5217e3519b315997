-- What the lines so far amount to.
use Rattle.std.proofs.Common.{◌≡◌, ◌⊎◌, inl, inr, ℕ, ◌+◌, ◌≤◌, ◌^◌, min, List, [], ◌∷◌, ◌++◌, length, true, false, codes, Option, Some, None, Result, Ok, Err, All, refl, sym, ap, ◌∙◌, subst, arith}
use Rattle.std.specs.Prelude.{IfSome, flat_map}
use Rattle.std.proofs.lemmas.Bool.{cases_Bool}
use Rattle.std.proofs.lemmas.List.{append-nil, append_assoc, flat_map_more}
use Rattle.std.proofs.lemmas.List.Elements.{All-push}
use Rattle.lisp_graph.specs.Name.{is_name}
use Rattle.world_text.specs.Line.{line_at}
use Rattle.world_text.specs.Reader.{Said as WorldSaid, is_closed}
use Rattle.world_text.specs.declared.reading.reader.WorldReader.{WorldReader}
use Rattle.world_text.specs.declared.fault.WorldStep.{WorldStep}
use Rattle.world_text.specs.declared.reading.reason.Reason.{Reason}
use Rattle.line_input.specs.declared.judging.input.InputReader.{InputReader}
use Rattle.line_input.specs.Lines.{Line, lines_of}
use Rattle.line_input.specs.Reader.{no_feed}
use Rattle.line_input.specs.Verdict as V
use Rattle.line_input.proofs.Cuts.{lines_feed}
use Rattle.line_input.proofs.JudgedLines.{judged_here, passed}
use Rattle.line_input.specs.declared.world_file.WorldFile.{WorldFile}
use Rattle.line_input.specs.WorldFile as F
use Rattle.band_run.specs.declared.reading.command.BandCommand.{BandCommand}
use Rattle.band_run.specs.declared.reading.command.BandCommand.TheVariants as C
use Rattle.band_run.specs.declared.reading.input.BandFile.{BandFile}
use Rattle.band_run.specs.declared.reading.input.BandInput.{BandInput}
use Rattle.band_run.specs.declared.reading.line.BandLine.{BandLine}
use Rattle.band_run.specs.declared.reading.line.BandLine.TheVariants as L
use Rattle.band_run.specs.Lines.{band_line}
use Rattle.band_run.specs.Verdict.{band_rules, command_next, file_next, line_in, new_file, text_with, with_command}
use Rattle.band_run.specs.Spelled.{IsAllowed, IsWholeFile, command_lines}
use Rattle.band_run.proofs.LineLaws.{line_spelled}

-- The lines of a file so far, as a world file alone is judged. At most this many bytes were read before them.
pub record FileStands (file : BandFile) (bytes : ℕ) : Type 0 where
  pub name : is_name file.name ≡ true
  pub going : is_closed file.builder.part ≡ false
  pub place : InputReader WorldFile
  pub builder : place.judge.builder ≡ file.builder
  pub fewer : place.bytes ≤ bytes
  pub lines : List Line
  pub cuts : (more : List ℕ) → lines_of (file.text ++ more) ≡ lines ++ lines_of more
  pub judges : (rest : List Line) → V.judged F.file_rules (V.start F.start) (lines ++ rest) ≡ V.judged F.file_rules place rest

-- the lines of a save that isn't whole
abbrev pub begun : Option BandFile → List ℕ
begun None = []
begun (Some file) = codes "save " ++ (file.name ++ 10 ∷ file.text)

-- The bytes so far, `count` of them, are the lines of the commands, followed by those of a save that isn't whole.
pub record Stands (input : BandInput) (count : ℕ) (bytes : List ℕ) : Type 0 where
  pub each : All IsAllowed input.commands
  pub file : IfSome input.file (λ file. FileStands file count)
  pub going : input.ended ≡ false
  pub is : bytes ≡ flat_map command_lines input.commands ++ begun input.file

-- The line `end` follows the commands.
pub record Ends (input : BandInput) (bytes text : List ℕ) : Type 0 where
  pub each : All IsAllowed input.commands
  pub ended : input.ended ≡ true
  pub bytes_are : bytes ≡ flat_map command_lines input.commands
  pub text_is : text ≡ codes "end"

-- One more line of a file

abbrev whole_line : List ℕ → Line
whole_line text = record { text = text; whole = true }

-- what holds of the file after one more line
pub record FileGoes (file : BandFile) (text : List ℕ) (builder : WorldReader) (bytes : ℕ) : Type 0 where
  pub place : InputReader WorldFile
  pub builder_is : place.judge.builder ≡ builder
  pub fewer : place.bytes ≤ bytes + (length text + 1)
  pub lines : List Line
  pub cuts : (more : List ℕ) → lines_of (text_with file text ++ more) ≡ lines ++ lines_of more
  pub judges : (rest : List Line) → V.judged F.file_rules (V.start F.start) (lines ++ rest) ≡ V.judged F.file_rules place rest

file_goes : (file : BandFile) (bytes : ℕ) (text : List ℕ) (step : WorldStep) (builder : WorldReader) → FileStands file bytes → no_feed text ≡ true → bytes + min (length text + 1) 32769 ≤ 2 ^ 40 → length text ≤ 32768
    → line_at file.builder text ≡ Ok (step, builder) → FileGoes file text builder bytes
file_goes file bytes text step builder stands none within short said =
    let size : ℕ = length text + 1 in
    let number : ℕ = stands.place.lines + 1 in
    let behind : WorldFile = record { builder = builder } in
    let said_here : line_at stands.place.judge.builder text ≡ Ok (step, builder) = ap (λ b. line_at b text) stands.builder ∙ said in
    let going : is_closed stands.place.judge.builder.part ≡ false = ap (λ (b : WorldReader). is_closed b.part) stands.builder ∙ stands.going in
    let judged = judged_here F.file_rules stands.place behind text size going (omega (arith, within, stands.fewer)) short (ap (F.next number stands.place.judge) said_here) in
    record {
      place = record { judge = behind; lines = number; bytes = stands.place.bytes + size };
      builder_is = refl;
      fewer = omega (arith, stands.fewer);
      lines = stands.lines ++ whole_line text ∷ [];
      cuts = λ more.
          ap lines_of (append_assoc file.text (text ++ 10 ∷ []) more ∙ ap (λ xs. file.text ++ xs) (append_assoc text (10 ∷ []) more))
          ∙ stands.cuts (text ++ 10 ∷ more)
          ∙ ap (λ ls. stands.lines ++ ls) (lines_feed text more none)
          ∙ sym (append_assoc stands.lines (whole_line text ∷ []) (lines_of more));
      judges = λ rest.
          ap (V.judged F.file_rules (V.start F.start)) (append_assoc stands.lines (whole_line text ∷ []) rest)
          ∙ stands.judges (whole_line text ∷ rest)
          ∙ ap (λ (s : V.Said WorldFile). V.decided s (λ behind. V.judged F.file_rules behind rest)) judged;
    }

-- a file that its last line closes is a world file
file_whole : (file : BandFile) (text : List ℕ) (builder : WorldReader) (bytes : ℕ) → FileGoes file text builder bytes → is_closed builder.part ≡ true → IsWholeFile (text_with file text)
file_whole file text builder bytes goes closed =
    let lines : lines_of (text_with file text) ≡ goes.lines ++ [] = ap lines_of (sym (append-nil (text_with file text))) ∙ goes.cuts [] in
    let closed_there : is_closed goes.place.judge.builder.part ≡ true = ap (λ (b : WorldReader). is_closed b.part) goes.builder_is ∙ closed in
    let e : V.ended F.file_rules (Ok goes.place) ≡ Ok goes.place.judge.builder.world = rw closed_there refl in
    record {
      world = goes.place.judge.builder.world;
      says = ap (λ ls. V.ended F.file_rules (V.judged F.file_rules (V.start F.start) ls)) lines ∙ ap (V.ended F.file_rules) (goes.judges []) ∙ e;
      front = file.text ++ text;
      feed = sym (append_assoc file.text text (10 ∷ []));
    }

-- One more line

one_more : (commands : List BandCommand) (command : BandCommand) (bytes added : List ℕ) → bytes ≡ flat_map command_lines commands ++ [] → added ≡ command_lines command → bytes ++ added ≡ flat_map command_lines (commands ++ command ∷ []) ++ []
one_more commands command bytes added is same =
    ap (λ xs. xs ++ added) is
    ∙ ap (λ xs. (flat_map command_lines commands ++ []) ++ xs) same
    ∙ ap (λ xs. xs ++ command_lines command) (append-nil (flat_map command_lines commands))
    ∙ flat_map_more command_lines [] commands command
    ∙ sym (append-nil (flat_map command_lines (commands ++ command ∷ [])))

-- after a command of one line, if there are `more` bytes
stands_command : (input : BandInput) (count more : ℕ) (command : BandCommand) (bytes text : List ℕ) → Stands input count bytes → input.file ≡ None → IsAllowed command → text ++ 10 ∷ [] ≡ command_lines command
    → Stands (with_command input command) more (bytes ++ (text ++ 10 ∷ []))
stands_command input count more command bytes text stands none allowed same = record {
  each = All-push IsAllowed input.commands command stands.each allowed;
  file = (let P : Option BandFile → Type 0 = λ f. IfSome f (λ file. FileStands file more) in subst P (sym none) tt);
  going = stands.going;
  is =
      one_more input.commands command bytes (text ++ 10 ∷ []) (stands.is ∙ ap (λ f. flat_map command_lines input.commands ++ begun f) none) same
      ∙ ap (λ f. flat_map command_lines (input.commands ++ command ∷ []) ++ begun f) (sym none);
}

-- after the line that begins a save
stands_save : (input : BandInput) (count more : ℕ) (name bytes text : List ℕ) → Stands input count bytes → input.file ≡ None → is_name name ≡ true → text ≡ codes "save " ++ name
    → Stands (record input { file = Some (new_file name) }) more (bytes ++ (text ++ 10 ∷ []))
stands_save input count more name bytes text stands none named same = record {
  each = stands.each;
  file = record {
    name = named;
    going = refl;
    place = V.start F.start;
    builder = refl;
    fewer = omega arith;
    lines = [];
    cuts = λ more. refl;
    judges = λ rest. refl;
  };
  going = stands.going;
  is =
      ap (λ xs. xs ++ (text ++ 10 ∷ [])) (stands.is ∙ ap (λ f. flat_map command_lines input.commands ++ begun f) none ∙ append-nil (flat_map command_lines input.commands))
      ∙ ap (λ xs. flat_map command_lines input.commands ++ xs) (ap (λ t. t ++ 10 ∷ []) same ∙ append_assoc (codes "save ") name (10 ∷ []));
}

-- what holds after one more line
abbrev pub Goes : BandInput → ℕ → List ℕ → List ℕ → Type 0
Goes input count bytes text = Stands input count (bytes ++ (text ++ 10 ∷ [])) ⊎ Ends input bytes text

command_goes : (input after : BandInput) (number count more : ℕ) (bytes text : List ℕ) (said : Result BandLine Reason) → Stands input count bytes → input.file ≡ None → band_line text ≡ said → command_next number input said ≡ Ok after
    → Goes after more bytes text
command_goes input after number count more bytes text (Ok L.Open) stands none says is =
    let s = line_spelled text L.Open says in
    let e : with_command input C.Open ≡ after = cc (is) in
    inl (subst (λ (p : BandInput). Stands p more (bytes ++ (text ++ 10 ∷ []))) e (stands_command input count more C.Open bytes text stands none tt (ap (λ t. t ++ 10 ∷ []) s.0)))
command_goes input after number count more bytes text (Ok L.List) stands none says is =
    let s = line_spelled text L.List says in
    let e : with_command input C.List ≡ after = cc (is) in
    inl (subst (λ (p : BandInput). Stands p more (bytes ++ (text ++ 10 ∷ []))) e (stands_command input count more C.List bytes text stands none tt (ap (λ t. t ++ 10 ∷ []) s.0)))
command_goes input after number count more bytes text (Ok (L.Load name)) stands none says is =
    let s = line_spelled text (L.Load name) says in
    let e : with_command input (C.Load name) ≡ after = cc (is) in
    inl (subst (λ (p : BandInput). Stands p more (bytes ++ (text ++ 10 ∷ []))) e
    (stands_command input count more (C.Load name) bytes text stands none s.1 (ap (λ t. t ++ 10 ∷ []) s.0 ∙ append_assoc (codes "load ") name (10 ∷ []))))
command_goes input after number count more bytes text (Ok (L.Save name)) stands none says is =
    let s = line_spelled text (L.Save name) says in
    let e : record input { file = Some (new_file name) } ≡ after = cc (is) in
    inl (subst (λ (p : BandInput). Stands p more (bytes ++ (text ++ 10 ∷ []))) e (stands_save input count more name bytes text stands none s.1 s.0))
command_goes input after number count more bytes text (Ok L.End) stands none says is =
    let s = line_spelled text L.End says in
    let e : record input { ended = true } ≡ after = cc (is) in
    inr (subst (λ (p : BandInput). Ends p bytes text) e (record {
      each = stands.each;
      ended = refl;
      bytes_are = stands.is ∙ ap (λ f. flat_map command_lines input.commands ++ begun f) none ∙ append-nil (flat_map command_lines input.commands);
      text_is = s.0;
    }))
command_goes input after number count more bytes text (Err reason) stands none says is = absurd (cc (is))

save_more : (a s n t x : List ℕ) → (a ++ (s ++ (n ++ 10 ∷ t))) ++ x ≡ a ++ (s ++ (n ++ 10 ∷ (t ++ x)))
save_more a s n t x = append_assoc a (s ++ (n ++ 10 ∷ t)) x ∙ ap (λ xs. a ++ xs) (append_assoc s (n ++ 10 ∷ t) x ∙ ap (λ xs. s ++ xs) (append_assoc n (10 ∷ t) x))

file_goes_on : (input after : BandInput) (number count : ℕ) (file : BandFile) (bytes text : List ℕ) (said : WorldSaid) → Stands input count bytes → input.file ≡ Some file → no_feed text ≡ true → count + min (length text + 1) 32769 ≤ 2 ^ 40 → length text ≤ 32768
    → line_at file.builder text ≡ said → file_next number input file text said ≡ Ok after → Goes after (count + (length text + 1)) bytes text
file_goes_on input after number count file bytes text (Err fault) stands some none within short says is = absurd (cc (is))
file_goes_on input after number count file bytes text (Ok (step, builder)) stands some none within short says is = inl (go (cases_Bool (is_closed builder.part)))
  where
    more : ℕ
    more = count + (length text + 1)

    here : FileStands file count
    here = (let P : Option BandFile → Type 0 = λ f. IfSome f (λ file. FileStands file count) in subst P some stands.file)

    goes : FileGoes file text builder count
    goes = file_goes file count text step builder here none within short says

    were : bytes ++ (text ++ 10 ∷ []) ≡ flat_map command_lines input.commands ++ (codes "save " ++ (file.name ++ 10 ∷ text_with file text))
    were =
        ap (λ xs. xs ++ (text ++ 10 ∷ [])) (stands.is ∙ ap (λ f. flat_map command_lines input.commands ++ begun f) some)
        ∙ save_more (flat_map command_lines input.commands) (codes "save ") file.name file.text (text ++ 10 ∷ [])

    go : (is_closed builder.part ≡ true) ⊎ (is_closed builder.part ≡ false) → Stands after more (bytes ++ (text ++ 10 ∷ []))
    go (inl closed) = (
        let command : BandCommand = C.Save file.name (text_with file text) in
        let said : file_next number input file text (Ok (step, builder)) ≡ Ok (with_command (record input { file = None }) command) = rw closed refl in
        let e : with_command (record input { file = None }) command ≡ after = let same = sym said ∙ is in cc (same) in
        subst (λ (p : BandInput). Stands p more (bytes ++ (text ++ 10 ∷ []))) e (record {
          each = All-push IsAllowed input.commands command stands.each (here.name, file_whole file text builder count goes closed);
          file = tt;
          going = stands.going;
          is = were ∙ flat_map_more command_lines [] input.commands command ∙ sym (append-nil (flat_map command_lines (input.commands ++ command ∷ [])));
        }))
    go (inr stays) = (
        let longer : BandFile = record file { text = text_with file text; builder = builder } in
        let said : file_next number input file text (Ok (step, builder)) ≡ Ok (record input { file = Some longer }) = rw stays refl in
        let e : record input { file = Some longer } ≡ after = let same = sym said ∙ is in cc (same) in
        subst (λ (p : BandInput). Stands p more (bytes ++ (text ++ 10 ∷ []))) e (record {
          each = stands.each;
          file = record {
            name = here.name;
            going = stays;
            place = goes.place;
            builder = goes.builder_is;
            fewer = goes.fewer;
            lines = goes.lines;
            cuts = goes.cuts;
            judges = goes.judges;
          };
          going = stands.going;
          is = were;
        }))

-- a line of a file doesn't end the input
file_not_ended : (input after : BandInput) (number : ℕ) (file : BandFile) (text : List ℕ) (said : WorldSaid) → input.ended ≡ false → file_next number input file text said ≡ Ok after → after.ended ≡ false
file_not_ended input after number file text (Err fault) going is = absurd (cc (is))
file_not_ended input after number file text (Ok (step, builder)) going is = go (cases_Bool (is_closed builder.part))
  where
    go : (is_closed builder.part ≡ true) ⊎ (is_closed builder.part ≡ false) → after.ended ≡ false
    go (inl closed) = (
        let said : file_next number input file text (Ok (step, builder)) ≡ Ok (with_command (record input { file = None }) (C.Save file.name (text_with file text))) = rw closed refl in
        let e : with_command (record input { file = None }) (C.Save file.name (text_with file text)) ≡ after = let same = sym said ∙ is in cc (same) in
        ap (λ (p : BandInput). p.ended) (sym e) ∙ going)
    go (inr stays) = (
        let said : file_next number input file text (Ok (step, builder)) ≡ Ok (record input { file = Some (record file { text = text_with file text; builder = builder }) }) = rw stays refl in
        let e : record input { file = Some (record file { text = text_with file text; builder = builder }) } ≡ after = let same = sym said ∙ is in cc (same) in
        ap (λ (p : BandInput). p.ended) (sym e) ∙ going)

line_goes_in : (input after : BandInput) (number count : ℕ) (bytes text : List ℕ) (file : Option BandFile) → Stands input count bytes → input.file ≡ file → no_feed text ≡ true → count + min (length text + 1) 32769 ≤ 2 ^ 40 → length text ≤ 32768
    → line_in number input file text ≡ Ok after → Goes after (count + (length text + 1)) bytes text
line_goes_in input after number count bytes text None stands at none within short is = command_goes input after number count (count + (length text + 1)) bytes text (band_line text) stands at refl is
line_goes_in input after number count bytes text (Some file) stands at none within short is = file_goes_on input after number count file bytes text (line_at file.builder text) stands at none within short refl is

last_goes_in : (input after : BandInput) (number count : ℕ) (bytes text : List ℕ) (file : Option BandFile) → Stands input count bytes → input.file ≡ file → after.ended ≡ true → line_in number input file text ≡ Ok after → Ends after bytes text
last_goes_in input after number count bytes text None stands at ended is = go (command_goes input after number count count bytes text (band_line text) stands at refl is)
  where
    go : Goes after count bytes text → Ends after bytes text
    go (inl on) = (let g = on.going in absurd (cc (g, ended)))
    go (inr ends) = ends
last_goes_in input after number count bytes text (Some file) stands at ended is = let g = file_not_ended input after number file text (line_at file.builder text) stands.going is in absurd (cc (g, ended))

-- one more whole line
pub line_goes : (place after : InputReader BandInput) (bytes text : List ℕ) → Stands place.judge place.bytes bytes → no_feed text ≡ true → V.judged_as band_rules place text (length text + 1) ≡ Ok after → Goes after.judge after.bytes bytes text
line_goes place after bytes text stands none is =
    let p = passed band_rules place text (length text + 1) after is in
    subst (λ n. Goes after.judge n bytes text) (sym p.bytes) (line_goes_in place.judge after.judge (place.lines + 1) place.bytes bytes text place.judge.file stands refl none p.within p.short p.says)

-- the last line, which ends the input
pub last_goes : (place after : InputReader BandInput) (bytes text : List ℕ) (size : ℕ) → Stands place.judge place.bytes bytes → V.judged_as band_rules place text size ≡ Ok after → after.judge.ended ≡ true → Ends after.judge bytes text
last_goes place after bytes text size stands is ended =
    let p = passed band_rules place text size after is in
    last_goes_in place.judge after.judge (place.lines + 1) place.bytes bytes text place.judge.file stands refl ended p.says
