use Rattle.dump_laws.proofs.UniqueDump.{dump_is_function}
use Rattle.dump_laws.proofs.laws.dumps_are_functions.Goals as goal

pub returns : goal.returns
returns c world text dump = dump_is_function world text dump
