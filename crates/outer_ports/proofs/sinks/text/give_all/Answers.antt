use Rattle.outer_ports.proofs.Gains.{wrote_front}
use Rattle.outer_ports.proofs.sinks.text.give_all.Goals as goal

pub returns-clause-written : goal.returns-clause-written
returns-clause-written g c = let e = c.give_front-outcome.ensures in wrote_front c.args.bytes.now e.fits e.written e.ok e.err
