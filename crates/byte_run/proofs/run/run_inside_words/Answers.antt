use Rattle.std.proofs.Common.{◌-◌}
use Rattle.outer_ports.specs.Pages.{faults_of}
use Rattle.inside_run.specs.Outcome.{fail_of}
use Rattle.byte_run.proofs.Modes.{shows_of}
use Rattle.byte_run.proofs.run.run_inside_words.Goals as goal

pub returns : goal.returns
returns c =
    let e = c.run_inside.ensures in
    shows_of (fail_of c.args.words.now) c.run_inside.result.machine (c.run_inside.result.machine.faults - faults_of c.new-device.result) c.run_inside.result.status c.requires e.ran e.usage
