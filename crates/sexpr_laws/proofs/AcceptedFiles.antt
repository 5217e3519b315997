-- An accepted world file means its world, line by line.
use Rattle.std.proofs.Common.{◌≡◌, ℕ, ◌+◌, ◌⊎◌, inl, inr, List, [], ◌∷◌, Bool, true, false, Ok, Err, refl, sym, ap, ◌∙◌, subst, append-nil}
use Rattle.std.specs.Prelude.{if◌then◌else◌}
use Rattle.file_modes.specs.lisp_graph.declared.world.World.{World}
use Rattle.file_modes.specs.world_text.declared.fault.WorldStep.{WorldStep}
use Rattle.file_modes.specs.world_text.declared.fault.WorldStep.TheVariants.{WorldEnds, TraceBegins}
use Rattle.file_modes.specs.world_text.declared.reading.reader.Section.TheVariants.{Closed}
use Rattle.file_modes.specs.world_text.declared.reading.reader.WorldReader.{WorldReader}
use Rattle.file_modes.specs.world_text.Accepts.{IsAllowed, outcome}
use Rattle.file_modes.specs.world_text.Closing.{closing_word}
use Rattle.file_modes.specs.world_text.Limits.{IsReached}
use Rattle.file_modes.specs.world_text.Line.{line_at}
use Rattle.file_modes.specs.world_text.Reader.{Said as WorldSaid, is_closed}
use Rattle.file_modes.specs.world_text.Spelling.{WorldLine, FormatLine, SpaceLine, AreaLine, CapacityLine, ConsLine, BlockLine, RunLine, RootLine, ClosingLine, spelled}
use Rattle.file_modes.proofs.world_text.reading_laws.LineLaws.{accepted_only}
use Rattle.file_modes.proofs.world_text.reading_laws.PlaceInvariant.{judged_reached, known_at, opening_reached}
use Rattle.file_modes.specs.line_input.declared.judging.input.InputReader.{InputReader}
use Rattle.file_modes.specs.line_input.Lines.{Line, lines_of, size_of}
use Rattle.file_modes.specs.line_input.Verdict.{judged, judged_as}
use Rattle.file_modes.specs.line_input.Verdict as V
use Rattle.file_modes.proofs.line_input.JudgedLines.{decided_parts, ended_parts, nothing_behind, passed}
use Rattle.file_modes.specs.line_input.declared.world_file.WorldFile.{WorldFile}
use Rattle.file_modes.specs.line_input.WorldFile.{file_rules, next, start, verdict}
use Rattle.file_modes.specs.dump_laws.Back.{SayWorld, read_from}

-- One line

-- it leaves the world open, or it closes it
abbrev Goes : WorldReader → List ℕ → WorldStep → WorldReader → Type 0
Goes old text step new =
    ((is_closed new.part ≡ false) × (new.file ≡ true))
    ⊎ ((text ≡ closing_word true) × (step ≡ WorldEnds) × (new ≡ record old { part = Closed }))

-- a line that leads to another part
open_at : (old : WorldReader) (text : List ℕ) (step : WorldStep) (new : WorldReader) (said : WorldStep × WorldReader) → old.file ≡ true → said ≡ (step, new) → is_closed said.1.part ≡ false → said.1.file ≡ old.file → Goes old text step new
open_at old text step new said file brings unclosed same =
    let P : WorldStep × WorldReader → Type 0 = λ y. (is_closed y.1.part ≡ false) × (y.1.file ≡ true) in
    inl (subst P brings (unclosed, same ∙ file))

line_goes : (old : WorldReader) (text : List ℕ) (step : WorldStep) (new : WorldReader) → old.file ≡ true → (line : WorldLine) → IsAllowed old line → text ≡ spelled old.world.areas line → outcome old line ≡ (step, new) → Goes old text step new
line_goes old text step new file (FormatLine second) allowed is brings = open_at old text step new (outcome old (FormatLine second)) file brings refl refl
line_goes old text step new file (SpaceLine space) allowed is brings = open_at old text step new (outcome old (SpaceLine space)) file brings refl refl
line_goes old text step new file (AreaLine rule) allowed is brings = open_at old text step new (outcome old (AreaLine rule)) file brings refl refl
line_goes old text step new file (CapacityLine numbers) allowed is brings = open_at old text step new (outcome old (CapacityLine numbers)) file brings refl refl
line_goes old text step new file (ConsLine area car cdr) allowed is brings = open_at old text step new (outcome old (ConsLine area car cdr)) file brings refl refl
line_goes old text step new file (BlockLine area code fields) allowed is brings = open_at old text step new (outcome old (BlockLine area code fields)) file brings refl refl
line_goes old text step new file (RunLine area cars) allowed is brings = open_at old text step new (outcome old (RunLine area cars)) file brings refl refl
line_goes old text step new file (RootLine register value) allowed is brings = open_at old text step new (outcome old (RootLine register value)) file brings refl refl
line_goes old text step new file (ClosingLine kind) allowed is brings =
    let same : kind ≡ true = sym allowed.1 ∙ file in
    let word : text ≡ closing_word true = is ∙ append-nil (closing_word kind) ∙ ap closing_word same in
    let ends : (if kind then WorldEnds else TraceBegins) ≡ WorldEnds = ap (λ (b : Bool). if b then WorldEnds else TraceBegins) same in
    inr (word, sym (ap (λ (y : WorldStep × WorldReader). y.0) brings) ∙ ends, sym (ap (λ (y : WorldStep × WorldReader). y.1) brings))

-- Parts of what is judged

record Steps (file behind : WorldFile) (said : WorldSaid) : Type 0 where
  pub step : WorldStep
  pub is : said ≡ Ok (step, behind.builder)

next_parts : (number : ℕ) (file behind : WorldFile) (said : WorldSaid) → next number file said ≡ Ok behind → Steps file behind said
next_parts number file behind (Ok (step, builder)) is =
    let e : record { builder = builder } ≡ behind = cc (is) in
    record { step = step; is = ap (λ (f : WorldFile). Ok (step, f.builder)) e }
next_parts number file behind (Err fault) is = absurd (cc (is))

-- All lines

record Reads (place : WorldReader) (world : World) : Type 0 where
  pub texts : List (List ℕ)
  pub last : WorldReader
  pub read : read_from place texts ≡ Ok last
  pub closes : line_at last (closing_word true) ≡ Ok (WorldEnds, record last { part = Closed })
  pub is : last.world ≡ world

reads_none : (place : WorldReader) → read_from place [] ≡ Ok place
unfolding read_from
reads_none place = refl

reads_more : (place new : WorldReader) (step : WorldStep) (text : List ℕ) (texts : List (List ℕ)) → line_at place text ≡ Ok (step, new) → read_from place (text ∷ texts) ≡ read_from new texts
unfolding read_from
reads_more place new step text texts is = rw is refl

reads_of : (lines : List Line) (place last : InputReader WorldFile) → IsReached place.judge.builder → place.judge.builder.file ≡ true → is_closed place.judge.builder.part ≡ false → judged file_rules place lines ≡ Ok last → is_closed last.judge.builder.part ≡ true
    → Reads place.judge.builder last.judge.builder.world
reads_of [] place last reached file unclosed is closed =
    let same : place ≡ last = cc (is) in
    let t = ap (λ (p : InputReader WorldFile). is_closed p.judge.builder.part) same in absurd (cc (t, unclosed, closed))
reads_of (line ∷ lines) place last reached file unclosed is closed =
    let old : WorldReader = place.judge.builder in
    let parts = decided_parts (judged_as file_rules place line.text (size_of line)) (λ behind. judged file_rules behind lines) last is in
    let new : WorldReader = parts.0.judge.builder in
    let step = next_parts (place.lines + 1) place.judge parts.0.judge (line_at old line.text) (passed file_rules place line.text (size_of line) parts.0 parts.1).says in
    let says = accepted_only old line.text step.step new (known_at old reached) step.is in
    let later = judged_reached old new line.text (Ok step.step) reached step.is in
    go parts.0 step.step step.is parts.2 (line_goes old line.text step.step new file says.line says.allowed says.is says.brings)
    (λ file unclosed. reads_of lines parts.0 last later file unclosed parts.2 closed)
  where
    go : (behind : InputReader WorldFile) (step : WorldStep) → line_at place.judge.builder line.text ≡ Ok (step, behind.judge.builder) → judged file_rules behind lines ≡ Ok last → Goes place.judge.builder line.text step behind.judge.builder
        → (behind.judge.builder.file ≡ true → is_closed behind.judge.builder.part ≡ false → Reads behind.judge.builder last.judge.builder.world) → Reads place.judge.builder last.judge.builder.world
    go behind step at others (inl on) rest =
        let r = rest on.1 on.0 in
        record { texts = line.text ∷ r.texts; last = r.last; read = reads_more place.judge.builder behind.judge.builder step line.text r.texts at ∙ r.read; closes = r.closes; is = r.is }
    go behind step at others (inr ends) rest =
        let shut : is_closed behind.judge.builder.part ≡ true = ap (λ (p : WorldReader). is_closed p.part) ends.2 in
        let same = (nothing_behind file_rules lines behind last shut others).1 in
        record {
          texts = [];
          last = place.judge.builder;
          read = reads_none place.judge.builder;
          closes = ap (line_at place.judge.builder) (sym ends.0) ∙ at ∙ (λ i. Ok (ends.1 i, ends.2 i));
          is = ap (λ (p : WorldReader). p.world) (sym ends.2) ∙ ap (λ (p : InputReader WorldFile). p.judge.builder.world) same;
        }

pub accepted_says : (file : List ℕ) (world : World) → verdict file ≡ Ok world → (lines : List (List ℕ)) × SayWorld true lines world
accepted_says file world is =
    let last = ended_parts file_rules (judged file_rules (V.start start) (lines_of file)) world is in
    let reads = reads_of (lines_of file) (V.start start) last.0 (opening_reached true) refl refl last.1 last.2 in
    (reads.texts, record { place = reads.last; read = reads.read; closes = reads.closes; is = reads.is ∙ last.3 })
