use Rattle.std.proofs.Common.{ap, ◌∙◌}
use Rattle.band_run.specs.declared.reply.Reply.TheVariants as R
use Rattle.band_run.specs.Replies.{list_text}
use Rattle.band_run.proofs.answers.list.Goals as goal

pub returns-clause-listed : goal.returns-clause-listed
returns-clause-listed c = λ held saves is_open. ap R.Listed (c.in_ok-lines.ensures ∙ ap list_text (c.directories_have_last_texts.ensures.listed c.args.store.now held saves is_open))
