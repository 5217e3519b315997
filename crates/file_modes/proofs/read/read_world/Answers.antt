use Rattle.line_input.specs.WorldFile.{file_rules, start}
use Rattle.line_input.proofs.ReaderInvariant.{was_read_nothing}
use Rattle.file_modes.proofs.read.read_world.Goals as goal

pub returns-in-Err-clause-judged : goal.returns-in-Err-clause-judged
returns-in-Err-clause-judged g c = was_read_nothing file_rules start (g.S.Source.left c.args.source.now)
