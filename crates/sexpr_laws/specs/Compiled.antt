-- What the print of a world is compiled to.
use Rattle.std.specs.Prelude.{◌≡◌, ℕ, ◌<◌, ◌≤◌, ◌^◌, pos, negsuc, ⊤, Bool, List, Ok}
use Rattle.std.specs.List.{All}
use Rattle.file_modes.specs.lisp_graph.KeyedGraph.{code_of, keyed}
use Rattle.file_modes.specs.lisp_graph.World.{opening}
use Rattle.file_modes.specs.lisp_graph.declared.object.Object.{Object}
use Rattle.file_modes.specs.lisp_graph.declared.object.Value.{Value}
use Rattle.file_modes.specs.lisp_graph.declared.object.Value.TheVariants.{Fix, Nil, Ref}
use Rattle.file_modes.specs.lisp_graph.declared.world.World.{World}
use Rattle.file_modes.specs.world_text.Dump.{IsDump}
use Rattle.file_modes.specs.world_text.Limits.{IsAccepted}
use Rattle.file_modes.specs.dump_laws.Back.{SayWorld}
use Rattle.file_modes.specs.line_input.WorldFile.{verdict}
use Rattle.file_modes.specs.sexpr_text.Meaning.{meaning}
use Rattle.file_modes.specs.sexpr_print.Places.{parts}
use Rattle.file_modes.specs.sexpr_print.Spelling.{IsPrint}

-- an integer of 32 bits, or no integer
abbrev pub IsInteger : Value → Type 0
IsInteger (Fix (pos number)) = number < 2 ^ 31
IsInteger (Fix (negsuc number)) = number < 2 ^ 31
IsInteger Nil = ⊤
IsInteger (Ref name) = ⊤

-- the integers of an object fit their types: 16 bits of a code, and 32 of an integer
pub record HasIntegers (object : Object) : Type 0 where
  pub code : code_of object.body ≤ 65535
  pub parts_fit : All IsInteger (parts object.body)

-- so do those of a world
pub record FitsTypes (world : World) : Type 0 where
  pub roots : All IsInteger world.roots
  pub objects : All HasIntegers world.objects

-- The text means a world that has this dump, and no other.
pub record IsCompiledBack (text dump : List ℕ) : Type 0 where
  pub back : World
  pub means : meaning text ≡ Ok back
  pub same : IsDump (keyed (opening back)) back.space back.areas dump
  pub only : (other : List ℕ) → IsDump (keyed (opening back)) back.space back.areas other → other ≡ dump

-- A print of this world is compiled to a world that has the same dump.
abbrev pub PrintsAreCompiledBack : World → Type 0
PrintsAreCompiledBack world = (text dump : List ℕ) → IsPrint world text → IsDump (keyed (opening world)) world.space world.areas dump → IsCompiledBack text dump

-- A print is compiled back to its world if the world is what the lines of a world file, or those of an input before `trace`, mean; if a world file that is accepted means it; or if it is an accepted world whose integers fit their types.
pub record EachPrintIsCompiledBack : Type 0 where
  pub files : (file : Bool) (lines : List (List ℕ)) (world : World) → SayWorld file lines world → PrintsAreCompiledBack world
  pub accepted : (file : List ℕ) (world : World) → verdict file ≡ Ok world → PrintsAreCompiledBack world
  pub worlds : (world : World) → IsAccepted world → FitsTypes world → PrintsAreCompiledBack world
