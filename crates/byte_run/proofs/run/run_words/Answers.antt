use Rattle.std.proofs.Common.{◌-◌}
use Rattle.command_words.specs.Words.{mode_of}
use Rattle.byte_run.proofs.Modes.{does_of}
use Rattle.byte_run.proofs.run.run_words.Goals as goal

pub returns : goal.returns
returns c =
    let e = c.run_lispm.ensures in
    does_of (mode_of c.args.words.now) c.run_lispm.new.machine (c.run_lispm.new.machine.faults - c.idle-machine.result.faults) c.run_lispm.result
    c.requires e.ran e.exercised e.asked e.usage
