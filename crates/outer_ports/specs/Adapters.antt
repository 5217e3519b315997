-- Sources and sinks over readers and writers.
use Rattle.std.specs.Prelude.{ℕ, List, Bool, Option}

-- what remains to be read of a reader, if it reports that; how many calls failed, and the length of the latest piece
pub record Adapted : Type 0 where
  pub told : Option (List ℕ)
  pub faults : ℕ
  pub last : ℕ

-- what a writer was given, if it reports that; how many calls failed, and whether the latest did
pub record AdaptedSink : Type 0 where
  pub told : Option (List ℕ)
  pub faults : ℕ
  pub failed : Bool
