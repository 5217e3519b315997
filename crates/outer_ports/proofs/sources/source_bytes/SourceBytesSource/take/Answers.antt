use Rattle.std.proofs.Common.{rules, ap, Some}
use Rattle.outer_ports.proofs.Copies.{drop-taken}
use Rattle.outer_ports.proofs.sources.source_bytes.SourceBytesSource.take.Goals as goal

pub returns-clause-given : goal.returns-clause-given
returns-clause-given c = rw (← c.self.view_is) (ap Some (drop-taken c.self.inside.bytes.items c.args.into.now c.copy_from_slice.new.self c.self.inside.at c.min-count.result (search rules) (search rules)))
