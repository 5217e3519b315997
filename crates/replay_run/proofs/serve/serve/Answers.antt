use Rattle.std.proofs.Common.{refl}
use Rattle.replay_run.proofs.CommandEffects.{served_accounts, served_dump, served_fault, served_reply}
use Rattle.replay_run.proofs.serve.serve.Goals as goal

pub returns-in-Stats-clause-did : goal.returns-in-Stats-clause-did
returns-in-Stats-clause-did g c = rw (c.parts.ensures, c.in-Stats.is) (served_accounts c.args.world.now c.give_accounts.ensures.write (λ s stood. stood) refl c.give_accounts.ensures.gathers)

pub returns-in-Ok-clause-did : goal.returns-in-Ok-clause-did
returns-in-Ok-clause-did g c =
    rw (c.parts.ensures, c.in-Dump.is) (served_dump c.args.world.now c.gather.ensures.write c.in-Ok.text c.in-Ok.ensures.text c.in-Ok.ensures.stands c.in-Ok.ensures.cause.quiet (rw c.as_slice.ensures at c.gather.ensures.gathers))

pub returns-in-Err-Swap-clause-did : goal.returns-in-Err-Swap-clause-did
returns-in-Err-Swap-clause-did g c =
    rw (c.parts.ensures, c.in-Dump.is) (served_fault c.args.world.now c.give_reply.ensures.write c.in-Err-Swap.ensures.stands (rw c.in-Err-Swap.field-0-is at c.in-Err-Swap.ensures.cause.failed) c.give_reply.ensures.gathers)

pub returns-in_default-clause-did : goal.returns-in_default-clause-did
returns-in_default-clause-did g c =
    served_reply c.args.world.now c.give_reply-in_default.ensures.write c.args.command.now c.answer-reply.result (λ old stood reached. c.answer-reply.ensures.does old stood) c.answer-reply.ensures.fault c.answer-reply.ensures.no_fault c.give_reply-in_default.ensures.gathers
