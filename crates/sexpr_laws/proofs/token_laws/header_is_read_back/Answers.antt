use Rattle.sexpr_laws.proofs.Headers.{header_back}
use Rattle.sexpr_laws.proofs.token_laws.header_is_read_back.Goals as goal

pub returns : goal.returns
returns c = header_back
