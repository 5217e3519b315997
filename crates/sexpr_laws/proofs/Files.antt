-- The worlds of world files: they are accepted, and their integers fit their types.
use Rattle.std.proofs.Common.{◌≡◌, ℕ, suc, ◌≤◌, List, [], ◌∷◌, ◌++◌, length, Bool, Ok, refl, subst, arith}
use Rattle.std.specs.Prelude.{pos, negsuc}
use Rattle.std.specs.List.{All}
use Rattle.std.proofs.lemmas.List.Elements.{All-append, All-cons, All-head, All-nil, All-replicate, All-set, All-tail, All-weaker}
use Rattle.file_modes.specs.lisp_graph.Effect.{cell_of, link, list_from, pair_of}
use Rattle.file_modes.specs.lisp_graph.declared.object.Value.{Value}
use Rattle.file_modes.specs.lisp_graph.declared.object.Value.TheVariants.{Fix, Nil, Ref}
use Rattle.file_modes.specs.lisp_graph.declared.object.Object.{Object}
use Rattle.file_modes.specs.lisp_graph.declared.world.World.{World}
use Rattle.file_modes.specs.lisp_graph.KeyedGraph.{keyed}
use Rattle.file_modes.specs.lisp_graph.World.{opening}
use Rattle.file_modes.specs.world_text.declared.fault.WorldStep.{WorldStep}
use Rattle.file_modes.specs.world_text.declared.reading.reader.Section.TheVariants.{Closed}
use Rattle.file_modes.specs.world_text.declared.reading.reader.WorldReader.{WorldReader}
use Rattle.file_modes.specs.world_text.Accepts.{IsAllowed, outcome}
use Rattle.file_modes.specs.world_text.Closing.{closing_word}
use Rattle.file_modes.specs.world_text.Dump.{IsDump}
use Rattle.file_modes.specs.world_text.Limits.{IsAccepted, IsReached}
use Rattle.file_modes.specs.world_text.Line.{line_at}
use Rattle.file_modes.specs.world_text.Objects.{block_with}
use Rattle.file_modes.specs.world_text.Reader.{opening_place}
use Rattle.file_modes.specs.world_text.Spelling.{IsWritten, WorldLine, FormatLine, SpaceLine, AreaLine, CapacityLine, ConsLine, BlockLine, RunLine, RootLine, ClosingLine}
use Rattle.file_modes.proofs.world_text.reading_laws.LineLaws.{accepted_only}
use Rattle.file_modes.proofs.world_text.reading_laws.ReadLaws.{step_parts}
use Rattle.file_modes.proofs.world_text.reading_laws.PlaceInvariant.{accepted_world, judged_reached, known_at, opening_reached}
use Rattle.file_modes.specs.dump_laws.Back.{SayWorld, read_from}
use Rattle.file_modes.specs.sexpr_print.Spelling.{IsPrint}
use Rattle.sexpr_laws.specs.Compiled.{FitsTypes, HasIntegers, IsCompiledBack, IsInteger}
use Rattle.sexpr_laws.proofs.RoundTrip.{compiled_back}

-- Values and objects

written_fits : (value : Value) → IsWritten value → IsInteger value
written_fits (Fix (pos i)) is = is
written_fits (Fix (negsuc i)) is = is
written_fits Nil is = tt
written_fits (Ref name) is = tt

pair_fits : (area : ℕ) (car cdr : Value) → IsWritten car → IsWritten cdr → HasIntegers (pair_of area car cdr)
pair_fits area car cdr first second = record {
  code = omega arith;
  parts_fit = All-cons IsInteger car (cdr ∷ []) (written_fits car first) (All-cons IsInteger cdr [] (written_fits cdr second) (All-nil IsInteger));
}

link_fits : (name : ℕ) (cars : List Value) → IsInteger (link name cars)
link_fits name [] = tt
link_fits name (car ∷ cars) = tt

run_fits : (area name : ℕ) (cars : List Value) → All IsWritten cars → All HasIntegers (list_from area name cars)
unfolding list_from
run_fits area name [] written = All-nil HasIntegers
run_fits area name (car ∷ cars) written =
    let one : HasIntegers (cell_of area car (link name cars)) = record {
      code = omega arith;
      parts_fit = All-cons IsInteger car (link name cars ∷ []) (written_fits car (All-head IsWritten car cars written)) (All-cons IsInteger (link name cars) [] (link_fits name cars) (All-nil IsInteger));
    } in
    All-cons HasIntegers (cell_of area car (link name cars)) (list_from area (suc name) cars) one (run_fits area (suc name) cars (All-tail IsWritten car cars written))

block_fits : (area code : ℕ) (fields : List Value) → code ≤ 65535 → All IsWritten fields → HasIntegers (block_with area code fields)
block_fits area code fields small written = record { code = small; parts_fit = All-weaker IsWritten IsInteger written_fits fields written }

-- Lines

more_fit : (place : WorldReader) (objects : List Object) → FitsTypes place.world → All HasIntegers objects → FitsTypes (record place.world { objects = place.world.objects ++ objects })
more_fit place objects fits new = record { roots = fits.roots; objects = All-append HasIntegers place.world.objects objects fits.objects new }

line_fits : (place : WorldReader) (line : WorldLine) → FitsTypes place.world → IsAllowed place line → FitsTypes (outcome place line).1.world
line_fits place (FormatLine second) fits may = fits
line_fits place (SpaceLine space) fits may = record { roots = All-replicate IsInteger space.registers Nil tt; objects = fits.objects }
line_fits place (AreaLine rule) fits may = record { roots = fits.roots; objects = fits.objects }
line_fits place (CapacityLine numbers) fits may = record { roots = fits.roots; objects = fits.objects }
line_fits place (ConsLine area car cdr) fits may = more_fit place (pair_of area car cdr ∷ []) fits (All-cons HasIntegers (pair_of area car cdr) [] (pair_fits area car cdr may.1 may.2) (All-nil HasIntegers))
line_fits place (BlockLine area code fields) fits may =
    more_fit place (block_with area code fields ∷ []) fits (All-cons HasIntegers (block_with area code fields) [] (block_fits area code fields may.1 may.3) (All-nil HasIntegers))
line_fits place (RunLine area cars) fits may = more_fit place (list_from area (length place.world.objects) cars) fits (run_fits area (length place.world.objects) cars may.4)
line_fits place (RootLine register value) fits may = record { roots = All-set IsInteger place.world.roots register value (written_fits value may.1.written) fits.roots; objects = fits.objects }
line_fits place (ClosingLine file) fits may = fits

-- what is known of the place after accepted lines
record IsGood (place : WorldReader) : Type 0 where
  reached : IsReached place
  fits : FitsTypes place.world

good_next : (place next : WorldReader) (text : List ℕ) (step : WorldStep) → IsGood place → line_at place text ≡ Ok (step, next) → IsGood next
good_next place next text step good is =
    let says = accepted_only place text step next (known_at place good.reached) is in
    let P : WorldStep × WorldReader → Type 0 = λ y. FitsTypes y.1.world in
    record { reached = judged_reached place next text (Ok step) good.reached is; fits = subst P says.brings (line_fits place says.line good.fits says.allowed) }

good_behind : (place last : WorldReader) (lines : List (List ℕ)) → IsGood place → read_from place lines ≡ Ok last → IsGood last
unfolding read_from
good_behind place last [] good is = let e : place ≡ last = cc (is) in subst IsGood e good
good_behind place last (line ∷ lines) good is =
    let parts = step_parts (line_at place line) (λ said. read_from said.1 lines) last is in
    good_behind parts.0.1 last lines (good_next place parts.0.1 line parts.0.0 good parts.1) parts.2

good_first : (file : Bool) → IsGood (opening_place file)
good_first file = record { reached = opening_reached file; fits = record { roots = All-nil IsInteger; objects = All-nil HasIntegers } }

pub file_back : (file : Bool) (lines : List (List ℕ)) (world : World) (text dump : List ℕ) → SayWorld file lines world → IsPrint world text → IsDump (keyed (opening world)) world.space world.areas dump → IsCompiledBack text dump
file_back file lines world text dump says print is =
    let good = good_behind (opening_place file) says.place lines (good_first file) says.read in
    let closed = good_next says.place (record says.place { part = Closed }) (closing_word file) _ good says.closes in
    let accepted : IsAccepted world = subst IsAccepted says.is (accepted_world (record says.place { part = Closed }) closed.reached refl) in
    compiled_back world text dump accepted (subst FitsTypes says.is good.fits) print is
