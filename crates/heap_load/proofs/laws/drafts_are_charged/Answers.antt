use Rattle.heap_load.proofs.AreaCharges.{account_more, account_most}
use Rattle.heap_load.proofs.laws.drafts_are_charged.Goals as goal

pub returns-clause-value : goal.returns-clause-value
returns-clause-value c = account_more

pub returns-clause-at_most : goal.returns-clause-at_most
returns-clause-at_most c = account_most
