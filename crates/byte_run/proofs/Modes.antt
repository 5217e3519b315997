-- The effect of a run, by its mode.
use Rattle.std.proofs.Common.{◌≡◌, ◌≢◌, ◌⊎◌, ◌∙◌, ap, subst, inl, inr, ℕ, List, [], Option, Some, None, refl}
use Rattle.std.specs.Prelude.{is_some}
use Rattle.outer_ports.specs.Ports.{Rose}
use Rattle.paged_machine.specs.Holding.{Holding, HasReading}
use Rattle.line_input.specs.declared.statuses.status.Status.{Status}
use Rattle.line_input.specs.declared.statuses.status.Status.TheVariants.{NoMemory, Usage as UsageStatus}
use Rattle.line_input.specs.declared.statuses.status.RunError.TheVariants.{Memory, Usage}
use Rattle.line_input.specs.Statuses.{Closed, code, trouble_line}
use Rattle.command_words.specs.declared.mode.Mode.{Mode}
use Rattle.command_words.specs.declared.mode.Mode.TheVariants as M
use Rattle.command_words.specs.declared.mode.FileMode.{FileMode}
use Rattle.file_modes.specs.Outcome as files
use Rattle.replay_run.specs.Outcome.{Ran}
use Rattle.replay_run.proofs.Observations.{observes}
use Rattle.replay_run.specs.Exercise.{Exercised}
use Rattle.replay_run.specs.Top.{Refused}
use Rattle.inside_run.specs.Outcome.{Shows}
use Rattle.byte_run.specs.Answered.{Does, ShowsFor}

pub does_of : (mode : Option Mode) {input written left old : List ℕ} {last : ℕ} (machine : Holding) (rose number : ℕ) → old ≡ []
    → (mode ≡ Some M.Replay → (status : Status) × (number ≡ code status) × (i b w : List ℕ) × Ran (Some input) (Some left) (λ had. old ≡ had) (λ had. written ≡ had) (observes i b last w (HasReading machine.heap) (is_some machine.heap) (Rose 0 0) rose) status)
    → ((seed count : ℕ) → mode ≡ Some (M.Exercise seed count) → (status : Status) × (number ≡ code status) × Exercised seed count (λ had. old ≡ had) (λ had. written ≡ had) (HasReading machine.heap) (is_some machine.heap) rose status)
    → ((asked : FileMode) → mode ≡ Some (M.OfFile asked) → (status : Status) × (number ≡ code status) × files.Ran asked (Some input) (Some left) (λ had. old ≡ had) (λ had. written ≡ had) (Rose 0 0) status)
    → (mode ≡ None → (status : Status) × (number ≡ code status) × Refused (λ had. old ≡ had) (λ had. written ≡ had) status)
    → (status : Status) × (number ≡ code status) × Does mode input written status
does_of (Some M.Replay) {input} {written} {left} {last = last} machine rose number none ran exercised asked usage =
    let r = ran refl in
    (r.0, r.1, (left, machine, rose, last, r.2, r.3, r.4, subst (λ o. Ran (Some input) (Some left) (λ had. o ≡ had) (λ had. written ≡ had) (observes r.2 r.3 last r.4 (HasReading machine.heap) (is_some machine.heap) (Rose 0 0) rose) r.0) none r.5))
does_of (Some (M.Exercise seed count)) {written = written} machine rose number none ran exercised asked usage =
    let r = exercised seed count refl in
    (r.0, r.1, (machine, rose, subst (λ o. Exercised seed count (λ had. o ≡ had) (λ had. written ≡ had) (HasReading machine.heap) (is_some machine.heap) rose r.0) none r.2))
does_of (Some (M.OfFile mode)) {input} {written} {left} machine rose number none ran exercised asked usage =
    let r = asked mode refl in
    (r.0, r.1, (left, subst (λ o. files.Ran mode (Some input) (Some left) (λ had. o ≡ had) (λ had. written ≡ had) (Rose 0 0) r.0) none r.2))
does_of None {written = written} machine rose number none ran exercised asked usage =
    let r = usage refl in
    (r.0, r.1, subst (λ o. Refused (λ had. o ≡ had) (λ had. written ≡ had) r.0) none r.2)

pub shows_of : (fail : Option ℕ) {input written left old : List ℕ} {last : ℕ} (machine : Holding) (rose number : ℕ) → old ≡ []
    → ((n : ℕ) → fail ≡ Some n → (status : Status) × (number ≡ code status) × Shows (Some input) (Some left) last (λ had. old ≡ had) (λ had. written ≡ had) machine.heap (Rose 0 0) rose status)
    → (fail ≡ None → (status : Status) × (number ≡ code status) × Closed (λ had. old ≡ had) (λ had. written ≡ had) (trouble_line Usage) UsageStatus status)
    → (status : Status) × (number ≡ code status) × ShowsFor fail input written status
shows_of (Some n) {input} {written} {left} {last = last} machine rose number none ran usage =
    let r = ran n refl in
    (r.0, r.1, (left, machine, rose, last, subst (λ o. Shows (Some input) (Some left) last (λ had. o ≡ had) (λ had. written ≡ had) machine.heap (Rose 0 0) rose r.0) none r.2))
shows_of None {written = written} machine rose number none ran usage =
    let r = usage refl in
    (r.0, r.1, inl (subst (λ o. Closed (λ had. o ≡ had) (λ had. written ≡ had) (trouble_line Usage) UsageStatus r.0) none r.2))

-- refused arguments were reported
pub refused_of : {old written : List ℕ} {status : Status} → old ≡ [] → Closed (λ had. old ≡ had) (λ had. written ≡ had) (trouble_line Usage) UsageStatus status → Refused (λ had. [] ≡ had) (λ had. written ≡ had) status
refused_of {written = written} {status = status} none closed = inl (subst (λ o. Closed (λ had. o ≡ had) (λ had. written ≡ had) (trouble_line Usage) UsageStatus status) none closed)

-- the error line for memory was written, or nothing
pub ran_out : {old written : List ℕ} {status : Status} (number : ℕ) → old ≡ [] → Closed (λ had. old ≡ had) (λ had. written ≡ had) (trouble_line Memory) NoMemory status → number ≡ code status → number ≢ 1 → (number ≡ 5) × ((written ≡ []) ⊎ (written ≡ trouble_line Memory))
ran_out number none (inl told) is other = (is ∙ ap code told.0, inr (told.1.each [] none))
ran_out number none (inr cut) is other = absurd (other (is ∙ ap code cut.0))
