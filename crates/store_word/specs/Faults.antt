-- What a call promises about a count of swap errors.
use Rattle.std.specs.Prelude.{◌≡◌, ℕ, ◌<◌, ◌≤◌, Result, OnOk, OnErr}

-- a call reports each error that is counted: the count doesn't fall, it rose if the call failed, and it is unchanged if the call succeeded
pub record TellsFaults {T E : Type 0} (before now : ℕ) (result : Result T E) : Type 0 where
  pub later : before ≤ now
  pub failed : OnErr result (before < now)
  pub quiet : OnOk result (now ≡ before)
