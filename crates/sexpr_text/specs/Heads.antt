-- The header of a text, as the reader keeps it.
use Rattle.std.specs.Prelude.{◌≡◌, true}
use Rattle.lisp_graph.specs.declared.world.World.{World}
use Rattle.world_text.specs.declared.reading.reader.WorldReader.{WorldReader}
use Rattle.world_text.specs.Limits.{IsReached, has_objects}
use Rattle.sexpr_text.specs.declared.header.Header.{Header}
use Rattle.sexpr_text.specs.Meaning.{Head}

abbrev pub head_of : Header → Head
head_of header = record { world = header.world; line = header.line; rest = header.rest.now }

-- the world is what the lines of a header mean
pub record IsHead (world : World) : Type 0 where
  pub place : WorldReader
  pub reached : IsReached place
  pub whole : has_objects place.part ≡ true
  pub is : place.world ≡ world
