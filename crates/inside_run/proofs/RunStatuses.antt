-- What follows from a run that shows its machine, by its status.
use Rattle.std.proofs.Common.{◌≡◌, ◌⊎◌, inl, inr, ℕ, ◌-◌, ◌<◌, ◌≤◌, List, ◌++◌, Option, Some, sym, ap, ◌∙◌, subst}
use Rattle.std.specs.Prelude.{is_some}
use Rattle.std.specs.List.{All}
use Rattle.std.proofs.lemmas.List.{append-nil}
use Rattle.outer_ports.proofs.Gains.{gained_as}
use Rattle.paged_machine.specs.lisp_heap.HeapView.{HeapView}
use Rattle.line_input.specs.declared.statuses.status.Status.{Status}
use Rattle.line_input.specs.declared.statuses.status.Status.TheVariants.{NoMemory, Usage}
use Rattle.line_input.specs.declared.statuses.status.RunError.{RunError}
use Rattle.line_input.proofs.StatusCodes.{same_status}
use Rattle.line_input.specs.Statuses.{code, status_of}
use Rattle.input_verdict.specs.Verdict.{Broken, Whole, verdict}
use Rattle.paged_machine.specs.Holding.{HasReading}
use Rattle.replay_run.specs.Outcome.{IsEarly, Observed, Wrote}
use Rattle.replay_run.proofs.NoDumps.{IsOther}
use Rattle.replay_run.proofs.Observations.{HasRun, observes}
use Rattle.replay_run.proofs.CompleteRuns.{breaks_off, completes, runs_out_early}
use Rattle.inside_run.specs.Outcome.{Shows, shown}

-- a sink that represents nothing
abbrev Nothing : List ℕ → Type 0
Nothing bytes = ⊥

-- the run whose replies are shown
replied : {left left' : Option (List ℕ)} {last : ℕ} {held held' : List ℕ → Type 0} {heap : Option HeapView} {source_rose : Type 0} {rose : ℕ} {status : Status}
    → (s : Shows left left' last held held' heap source_rose rose status) → HasRun left left' last Nothing Nothing (HasReading heap) (is_some heap) source_rose rose s.ended
replied s = (s.i, s.b, s.replies, record { input = s.input; gave = s.gave; rest = s.rest; gained = record { each = λ had is. absurd is }; wrote = s.wrote })

-- no run has the status of refused arguments
not_usage : (status : Status) (o : Observed) → status ≡ Usage → Wrote status o → ⊥
not_usage status o is wrote = (subst (λ x. Wrote x o) is wrote).demands

-- the swap device had failed this often before the run
pub shows_from : {left left' : Option (List ℕ)} {last : ℕ} {held held' : List ℕ → Type 0} {heap : Option HeapView} {source_rose : Type 0} {status : Status} (before before' now : ℕ)
    → before ≡ before' → Shows left left' last held held' heap source_rose (now - before) status → Shows left left' last held held' heap source_rose (now - before') status
shows_from {left} {left'} {last} {held} {held'} {heap} {source_rose} {status} before before' now is s = subst (λ n. Shows left left' last held held' heap source_rose (now - n) status) is s

pub never_usage : {left left' : Option (List ℕ)} {last : ℕ} {held held' : List ℕ → Type 0} {heap : Option HeapView} {source_rose : Type 0} {rose : ℕ} (result : ℕ) (status : Status)
    → result ≡ code status → Shows left left' last held held' heap source_rose rose status → result ≡ 7 → ⊥
never_usage {last = last} {heap = heap} {source_rose = source_rose} {rose = rose} result status is s seven = elim s.told [
  | inl f ↦ not_usage s.ended (observes s.i s.b last s.replies (HasReading heap) (is_some heap) source_rose rose) (sym f.0 ∙ same_status status Usage (sym is ∙ seven)) s.wrote
  | inr f ↦ let e = f.0 in let u = same_status status Usage (sym is ∙ seven) in cc (e, u)
]

module _ {read_rose write_rose : Type 0} {before now : ℕ} (result : ℕ) (none_read : read_rose → ⊥) (none_write : write_rose → ⊥) (none_swap : now ≤ before)
    (read : result ≡ 3 → read_rose) (write : result ≡ 1 → write_rose) (swap : result ≡ 6 → before < now) where
  pub completes_shown : {source_rose : Type 0} (left left' : Option (List ℕ)) (last : ℕ) {held held' : List ℕ → Type 0} (heap : Option HeapView) (rose : ℕ) (status : Status) (i : List ℕ)
      → result ≡ code status → Shows left left' last held held' heap source_rose rose status → left ≡ Some i → (verdict i).ending ≡ Whole → (result ≡ 0) ⊎ (result ≡ 5)
  completes_shown left left' last heap rose status i is s tells whole = elim s.told [
    | inl f ↦ completes result none_read none_write none_swap read write swap left left' last (HasReading heap) rose s.ended i (is ∙ ap code f.0) (replied s) tells whole
    | inr f ↦ absurd (none_write (write (is ∙ ap code f.0)))
  ]

  pub breaks_off_shown : {source_rose : Type 0} (left left' : Option (List ℕ)) (last : ℕ) {held held' : List ℕ → Type 0} (heap : Option HeapView) (rose : ℕ) (status : Status) (i : List ℕ) (trouble : RunError)
      → result ≡ code status → Shows left left' last held held' heap source_rose rose status → left ≡ Some i → (verdict i).ending ≡ Broken trouble → (result ≡ code (status_of trouble)) ⊎ (result ≡ 5)
  breaks_off_shown left left' last heap rose status i trouble is s tells breaks = elim s.told [
    | inl f ↦ breaks_off result none_read none_write none_swap read write swap left left' last (HasReading heap) rose s.ended i trouble (is ∙ ap code f.0) (replied s) tells breaks
    | inr f ↦ absurd (none_write (write (is ∙ ap code f.0)))
  ]

-- if memory ran out, the replies and the error line are all that was written
without_memory : {left left' : Option (List ℕ)} {last : ℕ} {held held' : List ℕ → Type 0} {heap : Option HeapView} {source_rose : Type 0} {rose : ℕ} (status : Status)
    → status ≡ NoMemory → Shows left left' last held held' heap source_rose rose status → HasRun left left' last held held' (HasReading heap) (is_some heap) source_rose rose NoMemory
without_memory {left} {left'} {last} {held} {held'} {heap} {source_rose} {rose} status is s = elim s.told [
  | inl f ↦
      let ended : s.ended ≡ NoMemory = sym f.0 ∙ is in (
        s.i,
        s.b,
        s.replies,
        record {
          input = s.input;
          gave = s.gave;
          rest = s.rest;
          gained = gained_as (ap (λ text. s.replies ++ text) (ap (λ x. shown x heap) ended) ∙ append-nil s.replies) f.1;
          wrote = subst (λ x. Wrote x (observes s.i s.b last s.replies (HasReading heap) (is_some heap) source_rose rose)) ended s.wrote;
        },
      )
  | inr f ↦ absurd (let e = f.0 in cc (e, is))
]

pub early_shown : {source_rose : Type 0} (left left' : Option (List ℕ)) (last : ℕ) {held held' : List ℕ → Type 0} (heap : Option HeapView) (rose result : ℕ) (status : Status) (i : List ℕ)
    → result ≡ code status → Shows left left' last held held' heap source_rose rose status → left ≡ Some i → All IsOther (verdict i).read.commands → result ≡ 5 → IsEarly i left' last held held' (is_some heap)
early_shown left left' last heap rose result status i is s tells others five =
    runs_out_early left left' last (HasReading heap) rose result NoMemory i five (without_memory status (same_status status NoMemory (sym is ∙ five)) s) tells others five
