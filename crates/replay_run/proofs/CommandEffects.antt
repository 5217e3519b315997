-- The effect of a command.
use Rattle.std.proofs.Common.{◌≡◌, ◌≢◌, inl, inr, ℕ, ◌<◌, List, Bool, true, false, refl, sym, ap, ◌∙◌, arith, Result}
use Rattle.std.specs.Prelude.{IfErr, nat_le}
use Rattle.std.proofs.lemmas.Bool.{leb-true}
use Rattle.outer_ports.specs.Buffers.{Gathers}
use Rattle.lisp_graph.specs.declared.command.Command.{Command}
use Rattle.lisp_graph.specs.declared.command.Command.TheVariants as C
use Rattle.lisp_graph.specs.declared.reply.Reply.{Reply}
use Rattle.lisp_graph.specs.declared.reply.Reply.TheVariants as R
use Rattle.lisp_graph.specs.declared.world.World.{World}
use Rattle.paged_machine.specs.lisp_meaning.State.{Phase, Idle, Running, is_over, State}
use Rattle.paged_machine.specs.lisp_meaning.Step.{Accounts, Contents, Replied, area_lines, is_paid, with_over_phase, world_of}
use Rattle.paged_machine.specs.lisp_meaning.Run.{Does}
use Rattle.paged_machine.specs.lisp_meaning.Sound.{IsOwing, IsSound}
use Rattle.trace_text.specs.Replies.{reply_text}
use Rattle.input_verdict.specs.dump_laws.Written.{dumped}
use Rattle.paged_machine.specs.Asks.{IsOf}
use Rattle.replay_run.specs.declared.halt.LoopExit.{LoopExit}
use Rattle.replay_run.specs.declared.halt.LoopExit.TheVariants.{Write}
use Rattle.replay_run.specs.Replies.{answer_text, is_fault}
use Rattle.replay_run.specs.Steps.{IsReached, Served}

only_fault : (reply : Reply) → is_fault (Replied reply) ≡ true → reply ≡ R.Fault
only_fault R.Fault h = refl
only_fault _ h = cc

not_fault : (reply : Reply) → is_fault (Replied reply) ≡ false → reply ≢ R.Fault
not_fault reply h is = cc (ap (λ (r : Reply). is_fault (Replied r)) is, h)

-- A dump in which a page call fails

same_phase : (p : Phase) → p ≡ with_over_phase (is_over p) p
same_phase Idle = refl
same_phase (Running c) = refl

owing_over : (over : Bool) (owed paid : ℕ) → (over ≡ false → paid < owed) → nat_le owed paid ≡ true → over ≡ true
owing_over true owed paid h is = refl
owing_over false owed paid h is = absurd (omega (arith, h refl, leb-true owed paid is))

paid_over : (p : Phase) → IsOwing p → is_paid p ≡ true → is_over p ≡ true
paid_over Idle owing is = absurd (cc (is))
paid_over (Running c) owing is = owing_over c.over c.owed c.paid owing is

dump_faults : (s : State) → IsSound s → Does s C.Dump (Replied R.Fault) s
dump_faults s h = (
  s,
  refl,
  inr (
    refl,
    (
      is_over s.phase,
      record { stays = λ e. e; only_by = λ off on. sym off ∙ on; at_last = λ e. paid_over s.phase h.owing e },
      refl,
      ap (λ p. record s { phase = p }) (same_phase s.phase),
    ),
  ),
)

-- Answers

module _ (world : World) {stood stands : State → Type 0} {faults faults' : ℕ} {held held' : List ℕ → Type 0} {had pending : List ℕ} {result : Result (Unit {0}) LoopExit} (write : IfErr result (λ halt. halt ≡ Write)) where
  pub served_reply : (command : Command) (reply : Reply) → ((old : State) → stood old → IsReached world old → ((new : State) × Does old command (Replied reply) new × stands new)) → (reply ≡ R.Fault → faults < faults') → (reply ≢ R.Fault → faults' ≡ faults)
      → Gathers held held' had pending (reply_text reply world.areas) result → Served world command stood stands faults faults' held held' had pending result
  served_reply command reply does cause same gathers = λ old is reached.
      let d = does old is reached in
      inl (record { answer = Replied reply; new = d.0; does = d.1; state = d.2; fault = λ f. cause (only_fault reply f); quiet = λ f. same (not_fault reply f); gathers = gathers; write = write })

  pub served_accounts : ((s : State) → stood s → stands s) → faults' ≡ faults → ((s : State) → stood s → IsReached world s → Gathers held held' had pending (answer_text world.areas (Accounts (area_lines s 0 s.areas))) result)
      → Served world C.Stats stood stands faults faults' held held' had pending result
  served_accounts stays same gathers = λ old is reached.
      inl (record { answer = Accounts (area_lines old 0 old.areas); new = old; does = (old, refl, inl (refl, refl)); state = stays old is; fault = λ f. absurd (cc (f)); quiet = λ _. same; gathers = gathers old is reached; write = write })

  pub served_dump : (text : List ℕ) → ((s : State) → stood s → IsOf world s → text ≡ dumped (world_of s)) → ((s : State) → stood s → stands s) → faults' ≡ faults
      → Gathers held held' had pending text result → Served world C.Dump stood stands faults faults' held held' had pending result
  served_dump text is_text stays same gathers = λ old is reached.
      inl (record { answer = Contents (world_of old); new = old; does = (old, refl, inl (refl, refl)); state = stays old is; fault = λ f. absurd (cc (f)); quiet = λ _. same; gathers = rw (is_text old is reached.of) at gathers; write = write })

  pub served_fault : ((s : State) → stood s → stands s) → faults < faults' → Gathers held held' had pending (reply_text R.Fault world.areas) result → Served world C.Dump stood stands faults faults' held held' had pending result
  served_fault stays rose gathers = served_reply C.Dump R.Fault (λ old is reached. (old, dump_faults old reached.sound, stays old is)) (λ _. rose) (λ other. absurd (other refl)) gathers
