-- The answer, and what is written.
use Rattle.std.proofs.Common.{◌≡◌, ◌≢◌, inl, inr, ℕ, List, Option, Result, Ok, Err, IfErr, refl, sym, ap, ◌∙◌, subst}
use Rattle.command_words.specs.declared.mode.FileMode.{FileMode}
use Rattle.lisp_graph.specs.declared.world.World.{World}
use Rattle.line_input.specs.declared.statuses.status.Status.{Status}
use Rattle.line_input.specs.declared.statuses.status.Status.TheVariants as S
use Rattle.line_input.specs.declared.statuses.status.RunError.{RunError}
use Rattle.line_input.specs.declared.statuses.status.RunError.TheVariants as T
use Rattle.line_input.specs.Statuses.{Closed}
use Rattle.sexpr_text.specs.declared.fault.SexprFault.TheVariants as F
use Rattle.file_modes.specs.declared.trouble.FileError.{FileError}
use Rattle.file_modes.specs.declared.trouble.FileError.TheVariants.{Input, Text}
use Rattle.file_modes.specs.Modes.{Answers}
use Rattle.file_modes.specs.Outcome.{IsOutcome, WasAnswered, outcome_status, outcome_text}
use Rattle.file_modes.specs.Reading.{IsWorldOf, Reads, WasRead}

trouble_outcome : (mode : FileMode) (i b : List ℕ) (trouble : FileError) → Reads mode i b (Err trouble) → IsOutcome mode i b (Err trouble)
trouble_outcome mode i b (Input (T.Line n reason)) reads = reads
trouble_outcome mode i b (Input (T.TooSmall n)) reads = reads
trouble_outcome mode i b (Input (T.Exhausted n area charged wanted quota)) reads = reads
trouble_outcome mode i b (Input T.Read) reads = reads
trouble_outcome mode i b (Input T.Memory) reads = tt
trouble_outcome mode i b (Input T.Swap) reads = reads
trouble_outcome mode i b (Input T.Usage) reads = reads
trouble_outcome mode i b (Input (T.NoObject object)) reads = absurd reads.0
trouble_outcome mode i b (Text fault) reads = reads

object_outcome : (mode : FileMode) (i b : List ℕ) (world : World) (trouble : RunError) → IsWorldOf mode i b world → Answers mode world (Err trouble) → IsOutcome mode i b (Err (Input trouble))
object_outcome mode i b world (T.NoObject object) of answers = (world, of, answers)
object_outcome mode i b world T.Memory of answers = tt
object_outcome mode i b world (T.Line n reason) of answers = absurd answers
object_outcome mode i b world (T.TooSmall n) of answers = absurd answers
object_outcome mode i b world (T.Exhausted n area charged wanted quota) of answers = absurd answers
object_outcome mode i b world T.Read of answers = absurd answers
object_outcome mode i b world T.Swap of answers = absurd answers
object_outcome mode i b world T.Usage of answers = absurd answers

pub answered_trouble : {left left' : Option (List ℕ)} (mode : FileMode) (trouble : FileError) (outcome : Result (List ℕ) FileError) → outcome ≡ Err trouble → WasRead mode left left' (Err trouble) → WasAnswered mode left left' outcome
answered_trouble mode trouble outcome is read = record {
  i = read.i;
  b = read.b;
  input = read.input;
  gave = read.gave;
  rest = read.rest;
  right = subst (λ (o : Result (List ℕ) FileError). IsOutcome mode read.i read.b o) (sym is) (trouble_outcome mode read.i read.b trouble read.reads);
}

pub answered_text : {left left' : Option (List ℕ)} (mode : FileMode) (world : World) (text : List ℕ) → WasRead mode left left' (Ok world) → Answers mode world (Ok text) → WasAnswered mode left left' (Ok text)
answered_text mode world text read answers = record {
  i = read.i;
  b = read.b;
  input = read.input;
  gave = read.gave;
  rest = read.rest;
  right = (world, read.reads, answers);
}

pub answered_object : {left left' : Option (List ℕ)} (mode : FileMode) (world : World) (trouble : RunError) → WasRead mode left left' (Ok world) → Answers mode world (Err trouble) → WasAnswered mode left left' (Err (Input trouble))
answered_object mode world trouble read answers = record {
  i = read.i;
  b = read.b;
  input = read.input;
  gave = read.gave;
  rest = read.rest;
  right = object_outcome mode read.i read.b world trouble read.reads answers;
}

-- a world is answered without reading
pub answers_read : (mode : FileMode) (world : World) (trouble : RunError) (P : Type 0) → Answers mode world (Err trouble) → Input trouble ≡ Input T.Read → P
answers_read mode world (T.NoObject object) P answers e = absurd (cc (e))
answers_read mode world T.Memory P answers e = absurd (cc (e))
answers_read mode world (T.Line n reason) P answers e = absurd answers
answers_read mode world (T.TooSmall n) P answers e = absurd answers
answers_read mode world (T.Exhausted n area charged wanted quota) P answers e = absurd answers
answers_read mode world T.Read P answers e = absurd answers
answers_read mode world T.Swap P answers e = absurd answers
answers_read mode world T.Usage P answers e = absurd answers

-- the status that reports that the source failed
status_read : (outcome : Result (List ℕ) FileError) (P : Type 0) → IfErr outcome (λ trouble. trouble ≡ Input T.Read → P) → outcome_status outcome ≡ S.ReadFailed → P
status_read (Ok text) P h e = absurd cc
status_read (Err (Input (T.Line n reason))) P h e = absurd cc
status_read (Err (Input (T.TooSmall n))) P h e = absurd cc
status_read (Err (Input (T.Exhausted n area charged wanted quota))) P h e = absurd cc
status_read (Err (Input T.Read)) P h e = h refl
status_read (Err (Input T.Memory)) P h e = absurd cc
status_read (Err (Input T.Swap)) P h e = absurd cc
status_read (Err (Input T.Usage)) P h e = absurd cc
status_read (Err (Input (T.NoObject object))) P h e = absurd cc
status_read (Err (Text (F.Bad line reason))) P h e = absurd cc
status_read (Err (Text (F.TooSmall line))) P h e = absurd cc
status_read (Err (Text F.NoMemory)) P h e = absurd cc

pub closed_read : {held held' : List ℕ → Type 0} (outcome : Result (List ℕ) FileError) (status : Status) (P : Type 0) → IfErr outcome (λ trouble. trouble ≡ Input T.Read → P) → Closed held held' (outcome_text outcome) (outcome_status outcome) status → status ≡ S.ReadFailed → P
closed_read outcome status P h (inl written) e = status_read outcome P h (sym written.0 ∙ e)
closed_read outcome status P h (inr failed) e = (let x = failed.0 in absurd cc)

-- no other status reports that
pub closed_quiet : {held held' : List ℕ → Type 0} (outcome : Result (List ℕ) FileError) (status : Status) (P : Type 0) → (outcome ≢ Err (Input T.Read) → P) → Closed held held' (outcome_text outcome) (outcome_status outcome) status
    → status ≢ S.ReadFailed → status ≢ S.WriteFailed → P
closed_quiet outcome status P h (inl written) other right = h (λ e. other (written.0 ∙ ap outcome_status e))
closed_quiet outcome status P h (inr failed) other right = absurd (right failed.0)
