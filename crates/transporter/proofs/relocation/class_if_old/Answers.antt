use Rattle.std.proofs.Common.{◌/◌}
use Rattle.transporter.proofs.Places.{old_not_free}
use Rattle.transporter.proofs.relocation.class_if_old.Goals as goal

pub returns-in-None-clause-none : goal.returns-in-None-clause-none
returns-in-None-clause-none c = λ old. old_not_free c.args.table.now (c.args.at / 4096) old c.in-None.ensures.none
