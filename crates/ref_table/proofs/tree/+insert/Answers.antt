use Rattle.std.proofs.Common.{arith}
use Rattle.ref_table.proofs.Insertions.{insert_low, insert_high}
use Rattle.ref_table.proofs.tree.+insert.Goals as goal

pub returns-then-page-top : goal.returns-then-page-top
returns-then-page-top t c = λ lo hi t'. insert_low c.args.sets.now c.args.branches.now _ _ _ _ _ _ c.args.page c.args.depth lo hi _ t' c.in-Some.is c.branch_at-root.ensures c.if-page-top.true (omega arith) c.insert-left.ensures c.balance.ensures

pub returns-then-top-page : goal.returns-then-top-page
returns-then-top-page t c = λ lo hi t'. insert_high c.args.sets.now c.args.branches.now _ _ _ _ _ _ c.args.page c.args.depth lo hi _ t' c.in-Some.is c.branch_at-root.ensures c.if-top-page.true (omega arith) c.insert-right.ensures c.balance-then-top-page.ensures
