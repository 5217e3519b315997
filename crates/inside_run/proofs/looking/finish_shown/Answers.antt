use Rattle.inside_run.specs.Outcome.{machine_text}
use Rattle.inside_run.proofs.FinalText.{closed_behind}
use Rattle.inside_run.proofs.looking.finish_shown.Goals as goal

pub returns-clause-written : goal.returns-clause-written
returns-clause-written g c =
    let t = c.tell_machine-outcome in
    closed_behind c.args.buffer.now.pending t.new.buffer.pending (machine_text c.args.machine.now.heap) t.result c.finish.result t.ensures.gathers t.ensures.write c.finish.ensures.written
