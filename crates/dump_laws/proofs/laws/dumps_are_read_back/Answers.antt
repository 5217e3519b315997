use Rattle.dump_laws.proofs.DumpLines.{dump_back}
use Rattle.dump_laws.proofs.laws.dumps_are_read_back.Goals as goal

pub returns : goal.returns
returns c = dump_back
