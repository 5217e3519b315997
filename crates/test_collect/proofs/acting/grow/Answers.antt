use Rattle.std.proofs.Common.{refl}
use Rattle.lisp_graph.specs.declared.command.Command.TheVariants as C
use Rattle.test_collect.proofs.PerformedCommands.{performed_after}
use Rattle.test_collect.proofs.acting.grow.Goals as goal

pub returns-in-Answered : goal.returns-in-Answered
returns-in-Answered g c = record { command = C.Grow c.args.target c.args.fields; reply = c.in-Answered.reply; allowed = tt; acts = λ s. (_, refl); performs = c.in-Answered.ensures.finds.performs }

pub returns-in-Wants : goal.returns-in-Wants
returns-in-Wants g c =
    let x = c.find_growing.ensures in
    performed_after (record { represented = x.represented; preserves = x.preserves; others = x.registers; stays_fresh = x.stays_fresh; marks = x.marks }) c.grow_found.ensures
