use Rattle.std.proofs.Common.{◌≡◌, ◌∙◌, ◌++◌, [], ℕ, List, sym, subst, ap}
use Rattle.std.proofs.lemmas.List.{append-nil}
use Rattle.line_input.specs.Statuses.{trouble_line}
use Rattle.replay_run.specs.declared.session.SessionState.TheVariants.{Open}
use Rattle.replay_run.specs.Session.{Does, DoesIn, GoesOn, Seen, trouble_of}
use Rattle.replay_run.proofs.SessionLines.{end_early, end_whole}
use Rattle.replay_run.proofs.session.Session.end.Goals.{in-Ok, in-Err}
use Rattle.replay_run.proofs.session.Session.end.Goals as goal

goes_on : (fed written : List ℕ) (s seen : Seen) → seen ≡ s → s.state ≡ Open → Does fed written s → GoesOn fed written seen
goes_on fed written s seen view is does = subst (GoesOn fed written) (sym view) (subst (λ state. DoesIn state fed written s) is does)

pub returns-clause-does : goal.returns-clause-does
returns-clause-does g c = λ fed written does.
    let old = goes_on fed written c.args.self.now _ c.self.view_is c.requires.open does in
    elim c.match-close.branch [
      | in-Ok w ↦
          let none : c.forget.new.room.bytes.items ++ c.forget.new.buffer.pending ≡ [] = ap (λ bytes. bytes ++ c.forget.new.buffer.pending) c.forget.ensures.bytes ∙ ap (λ b. b.pending) c.forget.ensures.after in
          rw (w.self-inside-is, w.status-is, none) (end_whole old (sym c.close.ensures ∙ w.in-Ok.is))
      | in-Err w ↦
          let answer : w.tell-status.new.room.bytes.items ++ w.tell-status.new.buffer.pending ≡ trouble_line (trouble_of w.in-Err.stop) =
          ap (λ bytes. bytes ++ w.tell-status.new.buffer.pending) w.tell-status.ensures.bytes ∙ ap (λ b. trouble_line (trouble_of w.in-Err.stop) ++ b.pending) w.tell-status.ensures.after ∙ append-nil _ in
          rw (w.self-inside-is, w.status-is, w.tell-status.ensures.value, answer) (end_early old w.in-Err.stop (sym c.close.ensures ∙ w.in-Err.is))
    ]
