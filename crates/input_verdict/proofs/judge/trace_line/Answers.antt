use Rattle.input_verdict.proofs.Places.{runnable}
use Rattle.input_verdict.proofs.judge.trace_line.Goals as goal

pub returns-in-Ok-Command-clause-allowed : goal.returns-in-Ok-Command-clause-allowed
returns-in-Ok-Command-clause-allowed c =
    runnable c.args.place.now.judge.builder.world c.args.text.now c.read_request.new.request (rw (c.world-world.ensures.value, c.in-Ok-Command.field-0-is) at c.in-Ok-Command.ensures.value)
    (rw (c.world-world.ensures.value, c.in-Ok-Command.field-0-is) at (c.in-Ok-Command.ensures.levels (c.world-world.ensures.accepted c.requires).named))
