-- What the call that judges the next line does, from what its parts do. The first part doesn't change the place.
use Rattle.std.proofs.Common.{◌≡◌, ◌≢◌, ℕ, List, false, Ok, Err, refl, ap, ◌∙◌, subst}
use Rattle.std.specs.Prelude.{take}
use Rattle.world_text.specs.declared.fault.WorldFault.{WorldFault}
use Rattle.line_input.specs.declared.statuses.status.Status.TheVariants.{Refused}
use Rattle.line_input.specs.declared.statuses.status.RunError.{RunError}
use Rattle.line_input.specs.declared.statuses.status.RunStop.{RunStop}
use Rattle.line_input.specs.declared.statuses.status.RunStop.TheVariants.{Tell}
use Rattle.line_input.specs.declared.lines.found.LineSpan.{LineSpan}
use Rattle.line_input.specs.Reader.{Buffered, IsFound}
use Rattle.line_input.specs.Statuses.{status_of}
use Rattle.input_verdict.specs.Input.{JudgedInput}
use Rattle.input_verdict.specs.Events.{Event, trouble_at}
use Rattle.input_verdict.specs.Places.{Judged}
use Rattle.input_verdict.specs.Verdict.{enough, in_trace, judged_as}
use Rattle.input_verdict.proofs.AcceptedLines.{none_open}
use Rattle.replay_run.specs.declared.halt.LoopExit.{LoopExit}
use Rattle.replay_run.specs.OneLine.{NextAccepted, NextMissing, NextRefused}
use Rattle.replay_run.specs.Steps.{Fetched, stop_of}

pub next_missing : {place after : JudgedInput} {held : Buffered} {pending : List ℕ} {count : ℕ} {stop : RunStop} (halt : LoopExit) → after ≡ place → count ≡ enough after → stop ≡ stop_of halt → Fetched held count pending (Err halt) → NextMissing place held pending stop
next_missing {place} {after} {held} {pending} {count} {stop} halt same many stops fetched =
    subst (λ (p : JudgedInput). NextMissing p held pending stop) same (record { halt = halt; stops = stops; fetched = subst (λ (n : ℕ). Fetched held n pending (Err halt)) many fetched })

pub next_accepted : {place after place' : JudgedInput} {held : Buffered} {count : ℕ} {event : Event} (found : LineSpan) → after ≡ place → count ≡ enough after → IsFound held count found
    → judged_as after (take found.length held.bytes) found.size ≡ Ok (record { event = event; place = place' }) → NextAccepted place place' held found.size event
next_accepted {place} {after} {place'} {held} {count} {event} found same many here accepted =
    subst (λ (p : JudgedInput). NextAccepted p place' held found.size event) same (record { found = found; here = subst (λ (n : ℕ). IsFound held n found) many here; all = refl; accepted = accepted })

pub next_refused : {place after place' : JudgedInput} {held : Buffered} {count : ℕ} {error : RunError} (fault : WorldFault) (found : LineSpan) → after ≡ place → count ≡ enough after → IsFound held count found
    → Judged after place' (Err (trouble_at after fault)) (judged_as after (take found.length held.bytes) found.size) → place' ≡ after → error ≡ trouble_at place' fault
    → (status_of (trouble_at after fault) ≢ Refused → in_trace after ≡ false) → NextRefused place held (Tell error)
next_refused {place} {after} {place'} {held} {count} {error} fault found same many here judged unchanged value early =
    subst (λ (p : JudgedInput). NextRefused p held (Tell error)) same (record {
      found = found;
      here = subst (λ (n : ℕ). IsFound held n found) many here;
      refused = record {
        trouble = trouble_at after fault;
        stops = ap Tell (value ∙ ap (λ (p : JudgedInput). trouble_at p fault) unchanged);
        place' = place';
        judged = judged;
        early = λ other. none_open after (early other);
        still = tt;
      };
    })
