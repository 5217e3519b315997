-- Which failed calls of its sink, its source and the swap device the result of a call reports.
use Rattle.std.specs.Prelude.{◌≡◌, ◌≤◌, ◌<◌, ℕ, Bool}
use Rattle.outer_ports.specs.Ports.{FailedLast, Rose}

-- If the call reports that the sink failed, exactly one of the sink's calls did, and that was the latest. Otherwise the count of failed calls is unchanged.
pub record ReportsSink (reported : Type 0) (before now : ℕ) (failed : Bool) : Type 0 where
  pub rose : reported → Rose before now
  pub last : reported → FailedLast before now failed
  pub later : before ≤ now
  pub quiet : (reported → ⊥) → now ≡ before

-- If the call reports that the source failed, the count of its failed calls rose. Otherwise it is unchanged.
pub record ReportsSource (reported : Type 0) (before now : ℕ) : Type 0 where
  pub rose : reported → Rose before now
  pub later : before ≤ now
  pub quiet : (reported → ⊥) → now ≡ before

-- If the call reports that the swap device failed, the count of its failed calls rose. It never falls.
pub record ReportsSwap (reported : Type 0) (before now : ℕ) : Type 0 where
  pub rose : reported → before < now
  pub later : before ≤ now
