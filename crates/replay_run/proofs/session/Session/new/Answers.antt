use Rattle.std.proofs.Common.{◌∙◌, [], ap}
use Rattle.line_input.specs.Verdict.{start}
use Rattle.replay_run.proofs.SessionLines.{goes_on_start}
use Rattle.replay_run.proofs.session.Session.new.Goals as goal

pub invariant_of-result : goal.invariant_of-result
invariant_of-result g c = (ap (λ b. b.room) c.in_ok-buffer.ensures, λ is. ([], [], goes_on_start _ (c.start.ensures ∙ ap start c.new-3.ensures) c.requires.idle c.requires.no_fault))

pub returns-clause-does : goal.returns-clause-does
returns-clause-does g c = goes_on_start _ (c.start.ensures ∙ ap start c.new-3.ensures) c.requires.idle c.requires.no_fault
