use Rattle.heap_load.proofs.ConsGroups.{group_is}
use Rattle.heap_load.proofs.laws.groups_are_lists.Goals as goal

pub returns : goal.returns
returns c = group_is
