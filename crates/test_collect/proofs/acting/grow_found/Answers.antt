use Rattle.std.proofs.Common.{refl}
use Rattle.lisp_graph.specs.declared.command.Command.TheVariants as C
use Rattle.heap_state.specs.Reads.{reply_of}
use Rattle.test_collect.proofs.PerformedCommands.{same_store, unplayed}
use Rattle.test_collect.proofs.acting.grow_found.Goals as goal

pub returns-then-quota-account : goal.returns-then-quota-account
returns-then-quota-account g c = unplayed _ _ _ _ (same_store _)

pub returns : goal.returns
returns g c = record { command = C.Grow c.args.target c.args.fields; reply = reply_of c.grow.result; allowed = tt; acts = λ s. (_, refl); performs = c.grow.ensures.performs }
