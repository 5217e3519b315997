use Rattle.std.proofs.Common.{[]}
use Rattle.outer_ports.proofs.Gains.{gave_nothing}
use Rattle.file_modes.proofs.TextPrefixes.{taken_memory}
use Rattle.file_modes.proofs.read_all.read_all.Goals as goal

pub returns-in-Err-clause-taken : goal.returns-in-Err-clause-taken
returns-in-Err-clause-taken g c = taken_memory c.args.limit [] (gave_nothing (g.S.Source.left c.args.source.now))
