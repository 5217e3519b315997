use Rattle.std.proofs.Common.{arith}
use Rattle.ref_table.proofs.Removals.{rest_low, rest_here}
use Rattle.ref_table.proofs.tree.+rest.Goals as goal

pub returns-in-Some-left : goal.returns-in-Some-left
returns-in-Some-left t c = λ lo hi t'. rest_low c.args.sets.now c.args.branches.now _ _ _ _ _ _ _ c.args.depth lo hi _ t' c.in-Some.is c.branch_at-root.ensures c.in-Some-left.is (omega arith) c.rest-left.ensures c.balance.ensures

pub returns-in-None : goal.returns-in-None
returns-in-None t c = λ lo hi t'. rest_here c.args.sets.now c.args.branches.now _ _ c.args.depth lo hi _ t' c.in-Some.is c.branch_at-root.ensures c.in-None.is
