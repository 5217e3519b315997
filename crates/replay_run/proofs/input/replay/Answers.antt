use Rattle.std.proofs.Common.{◌∙◌, sym}
use Rattle.replay_run.proofs.LastLine.{failed_read}
use Rattle.replay_run.proofs.input.replay.Goals as goal

pub returns-clause-unread : goal.returns-clause-unread
returns-clause-unread g c = λ i b tells gave none is. c.answer_input.ensures.unread i b tells gave none (failed_read c.answer_input.result (sym c.code.ensures ∙ is))
