use Rattle.std.proofs.Common.{◌≡◌, ◌∙◌, ℕ, true, ◌<◌, ◌++◌, [], List, length, sym, subst, ap, refl, arith, inl, inr}
use Rattle.std.proofs.lemmas.List.{append-nil}
use Rattle.line_input.specs.declared.statuses.status.RunStop.TheVariants.{Tell}
use Rattle.line_input.specs.declared.statuses.status.RunError.TheVariants.{Swap}
use Rattle.line_input.specs.Statuses.{trouble_line}
use Rattle.replay_run.specs.declared.session.SessionState.TheVariants.{Open}
use Rattle.replay_run.specs.Session.{Does, DoesIn, GoesOn, Seen, fed_of, trouble_of}
use Rattle.replay_run.proofs.Events.{is_in}
use Rattle.replay_run.proofs.SessionLines.{going_of, line_goes, line_halted, line_refused}
use Rattle.replay_run.proofs.session.Session.line.Goals as goal

-- what holds of an open session
goes_on : (fed written : List ℕ) (s seen : Seen) → seen ≡ s → s.state ≡ Open → Does fed written s → GoesOn fed written seen
goes_on fed written s seen view is does = subst (GoesOn fed written) (sym view) (subst (λ state. DoesIn state fed written s) is does)

pub answer_line-requires-clause-stands : goal.answer_line-requires-clause-stands
answer_line-requires-clause-stands g c =
    let old = c.self.invariant.1 (ap (λ (s : Seen). s.state) c.self.view_is ∙ c.requires.open) in
    let going = going_of old.2 [] true (omega arith) in
    is_in c.self.inside.place old.2.form going.tells going.limits

pub invariant_of-self : goal.invariant_of-self
invariant_of-self g c = (
  c.in-Ok.ensures.room ∙ ap (λ b. b.room) c.forget.ensures.after ∙ c.self.invariant.0,
  λ is.
      let old = c.self.invariant.1 is in (
        old.0 ++ fed_of c.args.text.now,
        old.1 ++ (c.answer_line.new.sink.bytes.items ++ c.answer_line.new.buffer.pending),
        line_goes old.2 c.args.text.now c.requires.at_least c.front_of-size.ensures.first c.front_of-size.ensures.size _ refl refl c.forget.ensures.bytes (ap (λ b. b.pending) c.forget.ensures.after) c.in-Ok.ensures.done c.in-Ok.ensures.stays_sound,
      ),
)

pub returns-in-Ok-clause-does : goal.returns-in-Ok-clause-does
returns-in-Ok-clause-does g c = λ fed written does.
    let is = ap (λ (s : Seen). s.state) c.self.view_is ∙ c.requires.open in
    let old = goes_on fed written c.args.self.now _ c.self.view_is c.requires.open does in
    let new = line_goes old c.args.text.now c.requires.at_least c.front_of-size.ensures.first c.front_of-size.ensures.size
    (record { place = c.answer_line.new.place; machine = c.answer_line.new.engine; state = c.self.inside.state; answer = c.answer_line.new.sink.bytes.items ++ c.answer_line.new.buffer.pending })
    refl refl c.forget.ensures.bytes (ap (λ b. b.pending) c.forget.ensures.after) c.in-Ok.ensures.done c.in-Ok.ensures.stays_sound in
    subst (λ state. DoesIn state (fed ++ fed_of c.args.text.now) (written ++ (c.answer_line.new.sink.bytes.items ++ c.answer_line.new.buffer.pending))
    (record { place = c.answer_line.new.place; machine = c.answer_line.new.engine; state = c.self.inside.state; answer = c.answer_line.new.sink.bytes.items ++ c.answer_line.new.buffer.pending })) (sym is) new

pub returns-in-Err-clause-does : goal.returns-in-Err-clause-does
returns-in-Err-clause-does g c = λ fed written does.
    let old = goes_on fed written c.args.self.now _ c.self.view_is c.requires.open does in
    let stop = c.in-Err.stop in
    let e = c.in-Err.ensures in
    let swap : stop ≡ Tell Swap → 0 < c.answer_line.new.engine.faults = λ is. omega (arith, e.swap.rose (cc (is))) in
    let few = ap (λ b. b.pending) c.forget.ensures.after in
    let answer : c.tell-status.new.room.bytes.items ++ c.tell-status.new.buffer.pending ≡ trouble_line (trouble_of stop) =
    ap (λ bytes. bytes ++ c.tell-status.new.buffer.pending) c.tell-status.ensures.bytes ∙ ap (λ b. trouble_line (trouble_of stop) ++ b.pending) c.tell-status.ensures.after ∙ append-nil _ in
    rw (c.tell-status.ensures.value, answer)
    (elim e.err [
      | inl r ↦
          let same = r.still.0 in
          rw same (line_refused old c.args.text.now c.requires.at_least c.front_of-size.ensures.first c.front_of-size.ensures.size stop e.read (λ is. rw (sym same) (swap is)) r c.idle_has_no_world.ensures)
      | inr h ↦
          line_halted old c.args.text.now c.requires.at_least c.front_of-size.ensures.first c.front_of-size.ensures.size c.answer_line.new.place c.answer_line.new.engine _ _ _ _ _ stop e.read swap
          (record { room = omega (arith, ap length few, ap (λ b. b.room) c.forget.ensures.after, c.self.invariant.0); few = omega (arith, c.forget.ensures.no_fault) }) h
    ])
