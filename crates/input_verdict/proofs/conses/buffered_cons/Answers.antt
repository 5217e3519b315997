use Rattle.input_verdict.proofs.Buffered.{whole_line}
use Rattle.input_verdict.proofs.conses.buffered_cons.Goals as goal

pub returns-clause-found : goal.returns-clause-found
returns-clause-found c = whole_line c.args.reader.now c.in_ok-length.length (rw c.bytes.ensures.value at c.in_ok-length.ensures.found)
