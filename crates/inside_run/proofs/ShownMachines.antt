-- A run that shows its machine, built from a run up to its last line.
use Rattle.std.proofs.Common.{◌≡◌, inl, inr, ℕ, ◌-◌, List, [], ◌++◌, Option, Ok, Err, refl, sym, ap, ◌∙◌, subst, arith, false}
use Rattle.std.specs.Prelude.{is_some}
use Rattle.std.proofs.lemmas.List.{append-nil, append_assoc}
use Rattle.outer_ports.specs.Ports.{Gained}
use Rattle.outer_ports.proofs.Gains.{gained_as, gained_more}
use Rattle.paged_machine.specs.lisp_heap.HeapView.{HeapView}
use Rattle.line_input.specs.declared.statuses.status.Status.{Status}
use Rattle.line_input.specs.declared.statuses.status.Status.TheVariants.{Done, WriteFailed, Refused, ReadFailed, NoSpace, NoMemory, SwapFailed, Usage, NoObject}
use Rattle.line_input.specs.declared.statuses.status.RunStop.{RunStop}
use Rattle.line_input.specs.declared.statuses.status.RunStop.TheVariants.{Tell, Write}
use Rattle.line_input.specs.declared.statuses.status.RunError.{RunError}
use Rattle.line_input.specs.declared.statuses.status.RunError.TheVariants as trouble
use Rattle.line_input.specs.Statuses.{Closed, Finished, status_of, trouble_line}
use Rattle.paged_machine.specs.Holding.{HasReading, StandsFor}
use Rattle.replay_run.proofs.LastLine.{ran_finish, ran_nothing, split_cut}
use Rattle.replay_run.proofs.Observations.{HasRun, HasStopped}
use Rattle.replay_run.proofs.RepresentedStates.{means_for, ran_as, wrote_as}
use Rattle.inside_run.specs.Outcome.{Shows, machine_text, shown}

-- no trouble has the status of the end
told_not_done : (t : RunError) → status_of t ≡ Done → ⊥
told_not_done trouble.Read is = cc (is)
told_not_done trouble.Swap is = cc (is)
told_not_done trouble.Memory is = cc (is)
told_not_done trouble.Usage is = cc (is)
told_not_done (trouble.NoObject object) is = cc (is)
told_not_done (trouble.Line n reason) is = cc (is)
told_not_done (trouble.TooSmall n) is = cc (is)
told_not_done (trouble.Exhausted n area charged wanted quota) is = cc (is)

not_done : (held held' : List ℕ → Type 0) (pending : List ℕ) (stop : RunStop) (status : Status) → Finished held held' pending (Err stop) status → status ≡ Done → ⊥
not_done held held' pending Write status f is = let e = f.0 in cc (e, is)
not_done held held' pending (Tell t) status (inl f) is = told_not_done t (sym f.0 ∙ is)
not_done held held' pending (Tell t) status (inr f) is = let e = f.0 in cc (e, is)

-- if the status isn't that of the end, nothing is shown
none_shown : (status : Status) (heap : Option HeapView) → (status ≡ Done → ⊥) → shown status heap ≡ []
none_shown Done heap other = absurd (other refl)
none_shown WriteFailed heap other = refl
none_shown Refused heap other = refl
none_shown ReadFailed heap other = refl
none_shown NoSpace heap other = refl
none_shown NoMemory heap other = refl
none_shown SwapFailed heap other = refl
none_shown Usage heap other = refl
none_shown NoObject heap other = refl

-- a run that stopped shows nothing
pub shows_stopped : {left left' : Option (List ℕ)} {last : ℕ} {held : List ℕ → Type 0} (held' held'' : List ℕ → Type 0) (heap : Option HeapView) {source_rose : Type 0} (rose : ℕ) (pending : List ℕ) (stop : RunStop) (status : Status)
    → Finished held' held'' pending (Err stop) status → HasRun left left' last held held'' (StandsFor heap) (is_some heap) source_rose rose status → Shows left left' last held held'' heap source_rose rose status
shows_stopped {left} {left'} {last} {held} held' held'' heap {source_rose} rose pending stop status f ran =
    let r = ran_as (StandsFor heap) (HasReading heap) (means_for heap) (is_some heap) rose left left' last held held'' status ran in
    let none : shown status heap ≡ [] = none_shown status heap (not_done held' held'' pending stop status f) in
    record {
      i = r.0;
      b = r.1;
      replies = r.2;
      ended = status;
      input = r.3.input;
      gave = r.3.gave;
      rest = r.3.rest;
      wrote = r.3.wrote;
      told = inl (refl, subst (λ text. Gained held held'' (r.2 ++ text)) (sym none) (gained_as (sym (append-nil r.2)) r.3.gained));
    }

-- a run that reached its end shows its machine, if the sink took the replies
pub shows_whole : {left left' : Option (List ℕ)} {last : ℕ} {held held' held'' : List ℕ → Type 0} (heap : Option HeapView) {source_rose : Type 0} (rose : ℕ) (pending : List ℕ) (x : Unit {0}) (status : Status)
    → HasStopped left left' last held held' (StandsFor heap) (is_some heap) source_rose rose pending (Ok x) → Closed held' held'' (pending ++ machine_text heap) Done status → Shows left left' last held held'' heap source_rose rose status
shows_whole {left} {left'} {last} {held} {held'} {held''} heap {source_rose} rose pending x status r (inl f) =
    let s = r.3.stopped in
    record {
      i = r.0;
      b = r.1;
      replies = r.2 ++ pending;
      ended = Done;
      input = r.3.input;
      gave = r.3.gave;
      rest = r.3.rest;
      wrote = wrote_as (StandsFor heap) (HasReading heap) (means_for heap) (is_some heap) rose source_rose Done r.0 r.1 last (r.2 ++ pending) (record { read = s.read; replies = r.2 ++ pending; line = []; demands = s.demands; answered = s.answered; written = sym (append-nil (r.2 ++ pending)); ahead = s.far; untouched = s.untouched });
      told = inl (f.0, gained_as (sym (append_assoc r.2 pending (machine_text heap))) (gained_more r.3.gained f.1));
    }
shows_whole {left} {left'} {last} {held} {held'} {held''} heap {source_rose} rose pending x status r (inr f) =
    let s = r.3.stopped in
    elim (split_cut pending (machine_text heap) f.1.0 f.1.1) [
      | inl p ↦ record {
        i = r.0;
        b = r.1;
        replies = r.2 ++ f.1.0;
        ended = WriteFailed;
        input = r.3.input;
        gave = r.3.gave;
        rest = r.3.rest;
        wrote = wrote_as (StandsFor heap) (HasReading heap) (means_for heap) (is_some heap) rose source_rose WriteFailed r.0 r.1 last (r.2 ++ f.1.0) (inl (s.cut f.1.0 p.0 p.2 p.1));
        told = inl (f.0, gained_as (sym (append-nil (r.2 ++ f.1.0))) (gained_more r.3.gained f.1.2));
      }
      | inr p ↦ record {
        i = r.0;
        b = r.1;
        replies = r.2 ++ pending;
        ended = Done;
        input = r.3.input;
        gave = r.3.gave;
        rest = r.3.rest;
        wrote = wrote_as (StandsFor heap) (HasReading heap) (means_for heap) (is_some heap) rose source_rose Done r.0 r.1 last (r.2 ++ pending) (record { read = s.read; replies = r.2 ++ pending; line = []; demands = s.demands; answered = s.answered; written = sym (append-nil (r.2 ++ pending)); ahead = s.far; untouched = s.untouched });
        told = inr (f.0, (p.0, p.1, gained_as (ap (λ xs. r.2 ++ xs) p.2 ∙ sym (append_assoc r.2 pending p.0)) (gained_more r.3.gained f.1.2)));
      }
    ]

-- if there was no memory at the beginning, nothing was read
pub shows_nothing : (left : Option (List ℕ)) {last : ℕ} {held held' : List ℕ → Type 0} (heap : Option HeapView) {source_rose : Type 0} (faults : ℕ) (status : Status) → is_some heap ≡ false → Closed held held' (trouble_line trouble.Memory) NoMemory status → Shows left left last held held' heap source_rose (faults - faults) status
shows_nothing left {held} {held'} heap faults status unloaded f =
    shows_stopped held held' heap (faults - faults) [] (Tell trouble.Memory) status f
    (ran_finish faults faults (Err (Tell trouble.Memory)) status (λ e. absurd (cc (e))) (λ e. absurd (cc (e))) (ran_nothing left (StandsFor heap) (faults - faults) (omega arith) unloaded) f)
