-- Runs of commands, one after another.
use Rattle.std.proofs.Common.{◌≡◌, ℕ, zero, suc, ◌<◌, List, [], ◌∷◌, ◌++◌, length, refl, sym, subst, ap, arith}
use Rattle.std.specs.Prelude.{IfSome, slice_get}
use Rattle.lisp_graph.specs.declared.command.Command.{Command}
use Rattle.paged_machine.specs.lisp_meaning.State.{State}
use Rattle.paged_machine.specs.lisp_meaning.Step.{Answer}
use Rattle.paged_machine.specs.lisp_meaning.Run.{Does, Run}
use Rattle.paged_machine.specs.lisp_meaning.Sound.{IsAllowed, IsSound}
use Rattle.paged_machine.proofs.lisp_meaning.closure.Limits.{limits_allowed}
use Rattle.paged_machine.proofs.lisp_meaning.closure.Transitions.{does_sound, some_run}
use Rattle.input_verdict.proofs.VerdictInvariant.{AreInLimits}

pub run_then : (old mid new : State) (a : List Command) (ra : List Answer) (b : List Command) (rb : List Answer) → Run old a ra mid → Run mid b rb new → Run old (a ++ b) (ra ++ rb) new
run_then old mid new [] [] b rb run more = subst (λ state. Run state b rb new) run more
run_then old mid new [] (r ∷ rs) b rb run more = absurd run
run_then old mid new (c ∷ cs) [] b rb run more = absurd run
run_then old mid new (c ∷ cs) (r ∷ rs) b rb run more = (run.0, run.1, run_then run.0 mid new cs rs b rb run.2 more)

-- one more command
pub run_more : (old mid new : State) (commands : List Command) (answers : List Answer) (command : Command) (answer : Answer) → Run old commands answers mid → Does mid command answer new → Run old (commands ++ command ∷ []) (answers ++ answer ∷ []) new
run_more old mid new commands answers command answer run does = run_then old mid new commands answers (command ∷ []) (answer ∷ []) run (new, does, refl)

pub run_length : (old new : State) (commands : List Command) (answers : List Answer) → Run old commands answers new → length answers ≡ length commands
run_length old new [] [] run = refl
run_length old new [] (r ∷ rs) run = absurd run
run_length old new (c ∷ cs) [] run = absurd run
run_length old new (c ∷ cs) (r ∷ rs) run = ap suc (run_length run.0 new cs rs run.2)

pub run_sound : (old new : State) (commands : List Command) (answers : List Answer) → AreInLimits commands → IsSound old → Run old commands answers new → IsSound new
run_sound old new [] [] all s run = subst IsSound (sym run) s
run_sound old new [] (r ∷ rs) all s run = absurd run
run_sound old new (c ∷ cs) [] all s run = absurd run
run_sound old new (c ∷ cs) (r ∷ rs) all s run = run_sound run.0 new cs rs all.1 (does_sound old c r run.0 (limits_allowed c all.0) s run.1) run.2

allowed_each : (commands : List Command) → AreInLimits commands → (i : ℕ) → i < length commands → IfSome (slice_get commands i) IsAllowed
allowed_each [] all i l = absurd (omega arith)
allowed_each (c ∷ cs) all zero l = limits_allowed c all.0
allowed_each (c ∷ cs) all (suc i) l = allowed_each cs all.1 i (omega arith)

-- allowed commands have a run from each sound state
pub run_some : (old : State) (commands : List Command) → AreInLimits commands → IsSound old → (answers : List Answer) × (new : State) × Run old commands answers new
run_some old commands all s = some_run old commands (allowed_each commands all) s

pub AreInLimits-append : (a b : List Command) → AreInLimits a → AreInLimits b → AreInLimits (a ++ b)
AreInLimits-append [] b x y = y
AreInLimits-append (c ∷ cs) b x y = (x.0, AreInLimits-append cs b x.1 y)
