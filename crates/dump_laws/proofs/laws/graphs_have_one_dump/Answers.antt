use Rattle.dump_laws.proofs.RenamedGraphs.{dump_one, dump_renamed}
use Rattle.dump_laws.proofs.laws.graphs_have_one_dump.Goals as goal

pub returns : goal.returns
returns c = record { one = dump_one; renamed = dump_renamed }
