use Rattle.band_run.proofs.reply.gather_reply.Goals as goal

pub returns-in-NotAStore-clause-gathers : goal.returns-in-NotAStore-clause-gathers
returns-in-NotAStore-clause-gathers g c = rw c.in-NotAStore.is c.gather.ensures.gathers
