-- Why a call of a walk may fail.
use Rattle.std.specs.Prelude.{◌≡◌, ℕ, ◌<◌, ◌≤◌, Result, OnOk, OnErr}

-- The count of swap errors never falls; it rose if the call failed, and it is unchanged if the call succeeded.
pub record HasCause {T E : Type 0} (before now : ℕ) (result : Result T E) : Type 0 where
  pub later : before ≤ now
  pub failed : OnErr result (before < now)
  pub quiet : OnOk result (now ≡ before)
