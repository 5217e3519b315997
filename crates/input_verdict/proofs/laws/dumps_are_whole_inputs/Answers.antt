use Rattle.input_verdict.proofs.DumpVerdicts.{dump_whole}
use Rattle.input_verdict.proofs.laws.dumps_are_whole_inputs.Goals as goal

pub returns : goal.returns
returns c = dump_whole
