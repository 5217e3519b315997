-- What is read of a world file.
use Rattle.std.proofs.Common.{◌≡◌, ℕ, List, Option, Ok, Err, refl, ap, ◌∙◌}
use Rattle.std.specs.Result.{result_map_both}
use Rattle.command_words.specs.declared.mode.FileMode.{FileMode}
use Rattle.command_words.specs.declared.mode.FileMode.TheVariants.{Why, Census, Print, Compile}
use Rattle.lisp_graph.specs.declared.world.World.{World}
use Rattle.line_input.specs.declared.statuses.status.RunError.{RunError}
use Rattle.line_input.specs.declared.statuses.status.RunError.TheVariants as T
use Rattle.line_input.specs.Verdict as lines
use Rattle.line_input.specs.WorldFile.{file_rules, start, verdict}
use Rattle.world_text.specs.Limits.{IsAccepted}
use Rattle.file_modes.specs.declared.trouble.FileError.TheVariants.{Input}
use Rattle.file_modes.specs.Modes.{IsFor}
use Rattle.file_modes.specs.Reading.{IsUndecided, Reads, WasRead, world_of}

-- the mode reads a world file
abbrev pub IsOfLines : FileMode → Type 0
IsOfLines mode = mode ≡ Compile → ⊥

says_lines : (mode : FileMode) (i : List ℕ) → IsOfLines mode → world_of mode i ≡ result_map_both (λ world. world) Input (verdict i)
says_lines (Why object) i of = refl
says_lines Census i of = refl
says_lines Print i of = refl
says_lines Compile i of = absurd (of refl)

refusal : (mode : FileMode) (i : List ℕ) (trouble : RunError) → IsOfLines mode → verdict i ≡ Err trouble → world_of mode i ≡ Err (Input trouble)
refusal mode i trouble of is = says_lines mode i of ∙ ap (result_map_both (λ world. world) Input) is

undecided : (mode : FileMode) (b : List ℕ) → IsOfLines mode → lines.IsUndecided file_rules start b → IsUndecided mode b
undecided (Why object) b of is = is
undecided Census b of is = is
undecided Print b of is = is
undecided Compile b of is = absurd (of refl)

trouble_reads : (mode : FileMode) (i b : List ℕ) (trouble : RunError) → IsOfLines mode → lines.Reads file_rules start i b (Err trouble) → Reads mode i b (Err (Input trouble))
trouble_reads mode i b (T.Line n reason) of reads = (tt, refusal mode i (T.Line n reason) of reads.1)
trouble_reads mode i b (T.TooSmall n) of reads = (tt, refusal mode i (T.TooSmall n) of reads.1)
trouble_reads mode i b (T.Exhausted n area charged wanted quota) of reads = (tt, refusal mode i (T.Exhausted n area charged wanted quota) of reads.1)
trouble_reads mode i b T.Read of reads = undecided mode b of reads
trouble_reads mode i b T.Memory of reads = tt
trouble_reads mode i b T.Swap of reads = absurd reads.0
trouble_reads mode i b T.Usage of reads = absurd reads.0
trouble_reads mode i b (T.NoObject object) of reads = absurd reads.0

pub read_trouble : {left left' : Option (List ℕ)} (mode : FileMode) (trouble : RunError) → IsOfLines mode → lines.WasRead file_rules start left left' (Err trouble) → WasRead mode left left' (Err (Input trouble))
read_trouble mode trouble of read = record {
  i = read.i;
  b = read.b;
  input = read.input;
  gave = read.gave;
  rest = read.rest;
  reads = trouble_reads mode read.i read.b trouble of read.reads;
}

pub read_lines : {left left' : Option (List ℕ)} (mode : FileMode) (world : World) → IsOfLines mode → lines.WasRead file_rules start left left' (Ok world) → WasRead mode left left' (Ok world)
read_lines mode world of read = record {
  i = read.i;
  b = read.b;
  input = read.input;
  gave = read.gave;
  rest = read.rest;
  reads = record { all = read.reads.0; says = says_lines mode read.i of ∙ ap (result_map_both (λ world. world) Input) read.reads.1 };
}

pub fits_lines : (mode : FileMode) (world : World) → IsOfLines mode → IsAccepted world → IsFor mode world
fits_lines (Why object) world of accepted = accepted
fits_lines Census world of accepted = accepted
fits_lines Print world of accepted = accepted
fits_lines Compile world of accepted = absurd (of refl)
