use Rattle.sexpr_laws.proofs.TokenSizes.{lines_short}
use Rattle.sexpr_laws.proofs.Tokens.{tokens_back}
use Rattle.sexpr_laws.proofs.token_laws.tokens_are_read_back.Goals as goal

pub returns-clause-value : goal.returns-clause-value
returns-clause-value c = tokens_back

pub returns-clause-at_most : goal.returns-clause-at_most
returns-clause-at_most c = lines_short
