-- What is read of a text of S-expressions.
use Rattle.std.proofs.Common.{◌≡◌, inl, inr, ℕ, ◌+◌, ◌<◌, ◌^◌, List, [], ◌++◌, length, true, Option, Ok, Err, refl, sym, ap, ◌∙◌, subst, arith, Vec}
use Rattle.std.specs.Prelude.{nat_lt, unwrap_or, count_by}
use Rattle.std.specs.Result.{result_map_both}
use Rattle.std.proofs.lemmas.Bool.Decides.{nat_tests}
use Rattle.std.proofs.lemmas.List.{length-append, take-append-le}
use Rattle.command_words.specs.declared.mode.FileMode.TheVariants.{Compile}
use Rattle.lisp_graph.specs.declared.world.World.{World}
use Rattle.line_input.specs.declared.statuses.status.RunError.{RunError}
use Rattle.line_input.specs.declared.statuses.status.RunError.TheVariants as T
use Rattle.sexpr_text.specs.declared.fault.SexprFault.{SexprFault}
use Rattle.sexpr_text.specs.declared.fault.SexprFault.TheVariants.{Bad, TooSmall, NoMemory}
use Rattle.sexpr_text.specs.declared.fault.SexprReason.TheVariants.{InputTooLong}
use Rattle.sexpr_text.specs.Meaning.{line_of_byte, meaning}
use Rattle.sexpr_text.specs.Pieces.{is_feed}
use Rattle.sexpr_text.specs.Reading.{IsFault}
use Rattle.file_modes.specs.declared.trouble.FileError.{FileError}
use Rattle.file_modes.specs.declared.trouble.FileError.TheVariants.{Input}
use Rattle.file_modes.specs.Reading.{Reads, WasRead, trouble_of}
use Rattle.file_modes.specs.Taken.{IsEnough, Takes, WasTaken}

-- Texts that are too long

too_long : (text : List ℕ) → 2 ^ 40 < length text → meaning text ≡ Err (Bad (line_of_byte (2 ^ 40) text) InputTooLong)
too_long text long = let t : nat_lt (2 ^ 40) (length text) ≡ true = grind (arith, nat_tests) in rw t refl

-- a text that is too long means the same, whatever follows it
longer_same : (b rest : List ℕ) → 2 ^ 40 < length b → meaning (b ++ rest) ≡ meaning b
longer_same b rest long =
    too_long (b ++ rest) (omega (arith, long, length-append b rest))
    ∙ ap (λ (front : List ℕ). Err (Bad (1 + count_by is_feed front) InputTooLong)) (take-append-le (2 ^ 40) b rest (omega (arith, long)))
    ∙ sym (too_long b long)

-- what was taken means the same as all of the text
enough_says : (i b rest : List ℕ) → i ≡ b ++ rest → IsEnough (2 ^ 40) i b → meaning i ≡ meaning b
enough_says i b rest is (inl all) = ap meaning (sym all)
enough_says i b rest is (inr long) = ap meaning is ∙ longer_same b rest long

enough_world : (i b : List ℕ) (world : World) → IsEnough (2 ^ 40) i b → meaning b ≡ Ok world → b ≡ i
enough_world i b world (inl all) means = all
enough_world i b world (inr long) means = (let e = too_long b long in absurd (cc (e, means)))

-- What was read

fault_reads : (i b : List ℕ) (fault : SexprFault) → meaning i ≡ meaning b → IsFault fault (meaning b) → Reads Compile i b (Err (trouble_of fault))
fault_reads i b (Bad line reason) same is = (tt, ap (result_map_both (λ world. world) trouble_of) (same ∙ is))
fault_reads i b (TooSmall line) same is = (tt, ap (result_map_both (λ world. world) trouble_of) (same ∙ is))
fault_reads i b NoMemory same is = tt

pub read_fault : {G : Type 0} {left left' : Option (List ℕ)} (bytes : Vec ℕ G) (fault : SexprFault) (trouble : FileError) → WasTaken (2 ^ 40) left left' (Ok bytes) → IsFault fault (meaning bytes.items) → trouble ≡ trouble_of fault → WasRead Compile left left' (Err trouble)
read_fault {left' = left'} bytes fault trouble taken is of = record {
  i = taken.i;
  b = taken.b;
  input = taken.input;
  gave = taken.gave;
  rest = taken.rest;
  reads = subst (λ (t : FileError). Reads Compile taken.i taken.b (Err t)) (sym of)
      (fault_reads taken.i taken.b fault (enough_says taken.i taken.b (unwrap_or left' []) taken.rest taken.takes.1) (subst (λ (text : List ℕ). IsFault fault (meaning text)) taken.takes.0 is));
}

pub read_meant : {G : Type 0} {left left' : Option (List ℕ)} (bytes : Vec ℕ G) (world : World) → WasTaken (2 ^ 40) left left' (Ok bytes) → meaning bytes.items ≡ Ok world → WasRead Compile left left' (Ok world)
read_meant {left' = left'} bytes world taken means =
    let said : meaning taken.b ≡ Ok world = ap meaning (sym taken.takes.0) ∙ means in record {
      i = taken.i;
      b = taken.b;
      input = taken.input;
      gave = taken.gave;
      rest = taken.rest;
      reads = record {
        all = enough_world taken.i taken.b world taken.takes.1 said;
        says = ap (result_map_both (λ world. world) trouble_of) (enough_says taken.i taken.b (unwrap_or left' []) taken.rest taken.takes.1 ∙ said);
      };
    }

untaken : (G : Type 0) (i b : List ℕ) (trouble : RunError) → Takes {G = G} (2 ^ 40) i b (Err trouble) → Reads Compile i b (Err (Input trouble))
untaken G i b T.Read takes = takes
untaken G i b T.Memory takes = tt
untaken G i b (T.Line n reason) takes = absurd takes
untaken G i b (T.TooSmall n) takes = absurd takes
untaken G i b (T.Exhausted n area charged wanted quota) takes = absurd takes
untaken G i b T.Swap takes = absurd takes
untaken G i b T.Usage takes = absurd takes
untaken G i b (T.NoObject object) takes = absurd takes

pub read_untaken : {G : Type 0} {left left' : Option (List ℕ)} (trouble : RunError) → WasTaken {G = G} (2 ^ 40) left left' (Err trouble) → WasRead Compile left left' (Err (Input trouble))
read_untaken {G} trouble taken = record {
  i = taken.i;
  b = taken.b;
  input = taken.input;
  gave = taken.gave;
  rest = taken.rest;
  reads = untaken G taken.i taken.b trouble taken.takes;
}

-- the trouble with the meaning of a text isn't that the source failed
pub fault_read : (fault : SexprFault) (P : Type 0) → trouble_of fault ≡ Input T.Read → P
fault_read (Bad line reason) P e = absurd (cc (e))
fault_read (TooSmall line) P e = absurd (cc (e))
fault_read NoMemory P e = absurd (cc (e))
