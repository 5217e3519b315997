use Rattle.std.proofs.Common.{sym, ◌∙◌}
use Rattle.ref_table.proofs.Removals.{merge_some}
use Rattle.ref_table.proofs.tree.merge.Goals as goal

pub returns-in-Some : goal.returns-in-Some
returns-in-Some c = λ lo mid hi l r a b d e f g. merge_some c.args.sets.now c.args.branches.now _ _ _ _ _ _ _ c.args.depth lo mid hi l r (sym (c.first.ensures c.args.sets.now r b f.stands g) ∙ c.in-Some.is) c.rest-right.ensures c.balance.ensures a b d e f g
