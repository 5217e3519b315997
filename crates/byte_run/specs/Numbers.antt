-- The statuses that a session returns, as numbers.
use Rattle.std.specs.Prelude.{ℕ}
use Rattle.line_input.specs.declared.statuses.status.Status.TheVariants.{Done}
use Rattle.line_input.specs.Statuses.{code}
use Rattle.replay_run.specs.declared.session.SessionState.{SessionState}
use Rattle.replay_run.specs.declared.session.SessionState.TheVariants.{Open, Ended}

-- 0 while the session is open, and then the status with which it ended
abbrev pub number_of : SessionState → ℕ
number_of Open = 0
number_of (Ended status) = code status

-- the status of a call on a session that has ended: 12 if its input was whole
abbrev pub late_number : SessionState → ℕ
late_number Open = 0
late_number (Ended Done) = 12
late_number (Ended status) = code status
