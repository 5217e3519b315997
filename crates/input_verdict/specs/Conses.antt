-- Lines that were passed, one after another, and that request nothing.
use Rattle.std.specs.Prelude.{◌≡◌, ℕ, zero, suc, take, drop, Ok}
use Rattle.line_input.specs.declared.lines.found.LineSpan.{LineSpan}
use Rattle.line_input.specs.Reader.{Buffered, IsWholeLine}
use Rattle.input_verdict.specs.Input.{JudgedInput}
use Rattle.input_verdict.specs.Events.{Nothing}
use Rattle.input_verdict.specs.Places.{IsPlace}
use Rattle.input_verdict.specs.Verdict.{judged_as}

-- one line, which was buffered with its line feed
pub record PassedLine (place place' : JudgedInput) (held held' : Buffered) : Type 0 where
  pub sound : IsPlace place
  pub found : LineSpan
  pub here : IsWholeLine held found
  pub accepted : judged_as place (take found.length held.bytes) found.size ≡ Ok (record { event = Nothing; place = place' })
  pub rest : held'.bytes ≡ drop found.size held.bytes
  pub ended : held'.ended ≡ held.ended

-- n lines
abbrev pub Passed : ℕ → JudgedInput → JudgedInput → Buffered → Buffered → Type 0
Passed zero place place' held held' = (place' ≡ place) × (held' ≡ held)
Passed (suc n) place place' held held' = (mid : JudgedInput) × (rest : Buffered) × Passed n place mid held rest × PassedLine mid place' rest held'
