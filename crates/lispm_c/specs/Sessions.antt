-- What a call on a session hands to C.
use Rattle.std.specs.Prelude.{◌≡◌, ◌≢◌, ℕ, List, [], ◌++◌, Option, Some, None}
use Rattle.line_input.specs.declared.statuses.status.Status.TheVariants.{Done, ReadFailed, WriteFailed}
use Rattle.replay_run.specs.declared.session.SessionState.{SessionState}
use Rattle.replay_run.specs.declared.session.SessionState.TheVariants.{Open, Ended}
use Rattle.replay_run.specs.Session.{Does, Seen, fed_of}
use Rattle.byte_run.specs.declared.session.ByteSession.{ByteSession}
use Rattle.byte_run.specs.Numbers.{late_number, number_of}
use Rattle.lispm_c.specs.Handed.{IsHanded}

-- a new session, which was fed nothing; or memory ran out, and the seat is empty
abbrev pub IsOpened : Option ByteSession → ℕ → Type 0
IsOpened (Some s) result = Does [] [] s.session × (s.session.state ≡ Open) × (s.session.answer ≡ []) × (result ≡ 0)
IsOpened None result = result ≡ 5

-- A line was fed: what the session has done is now what it had done before, followed by this line; its answer is handed out with its status.
pub record IsFed (old new : Seen) (text room room' : List ℕ) (needed result : ℕ) : Type 0 where
  pub does : (fed written : List ℕ) → Does fed written old → Does (fed ++ fed_of text) (written ++ new.answer) new
  pub on : new.state ≢ Ended Done
  pub read : new.state ≢ Ended ReadFailed
  pub write : new.state ≢ Ended WriteFailed
  pub handed : IsHanded room room' needed result new.answer (number_of new.state)

-- The input ended here, so the session has ended.
pub record IsEnded (old new : Seen) (room room' : List ℕ) (needed result : ℕ) : Type 0 where
  pub does : (fed written : List ℕ) → Does fed written old → Does fed (written ++ new.answer) new
  pub over : new.state ≢ Open
  pub read : new.state ≢ Ended ReadFailed
  pub write : new.state ≢ Ended WriteFailed
  pub handed : IsHanded room room' needed result new.answer (number_of new.state)

-- a call on a session that has ended changes nothing: the answer is empty, and the status is that of a late call
abbrev pub IsLate : Seen → Seen → List ℕ → List ℕ → ℕ → ℕ → Type 0
IsLate old new room room' needed result = (new ≡ old) × IsHanded room room' needed result [] (late_number old.state)

-- what a line does, by the session's state. (Eight parameters: the state, the session before and after, the line, the buffer before and after, and the two numbers that C gets.)
abbrev pub Feeds : SessionState → Seen → Seen → List ℕ → List ℕ → List ℕ → ℕ → ℕ → Type 0
Feeds Open old new text room room' needed result = IsFed old new text room room' needed result
Feeds (Ended status) old new text room room' needed result = IsLate old new room room' needed result

-- what the end of the input does. (Seven parameters: the state, the session before and after, the buffer before and after, and the two numbers that C gets.)
abbrev pub Ends : SessionState → Seen → Seen → List ℕ → List ℕ → ℕ → ℕ → Type 0
Ends Open old new room room' needed result = IsEnded old new room room' needed result
Ends (Ended status) old new room room' needed result = IsLate old new room room' needed result
