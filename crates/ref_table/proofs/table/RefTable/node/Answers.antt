use Rattle.std.proofs.Common.{sym, ◌∙◌, arith}
use Rattle.std.proofs.lemmas.Bool.{cond-true, cond-false, not-true, not-false}
use Rattle.ref_table.proofs.TreeIndex.{node_is}
use Rattle.ref_table.proofs.Invariant.{kept_indexed, node_read}
use Rattle.ref_table.proofs.table.RefTable.node.Goals as goal

pub returns-then-not-has_row-clause-value : goal.returns-then-not-has_row-clause-value
returns-then-not-has_row-clause-value c =
    let low = rw (← c.self.view_is) at c.requires in
    let none = rw c.deref.ensures.value at (sym c.has_row.ensures ∙ c.if-not-has_row.true) in
    rw (← c.self.view_is) (sym (node_is c.self.inside.sets.items c.self.inside.branches.items c.self.inside.root c.args.page low ∙ cond-true _ _ _ (not-false _ none)))

pub returns-then-not-has_row-clause-sound : goal.returns-then-not-has_row-clause-sound
returns-then-not-has_row-clause-sound c = rw (← c.self.view_is) (kept_indexed _ _ _ _ c.self.invariant)

pub returns-clause-value : goal.returns-clause-value
returns-clause-value c =
    let low = rw (← c.self.view_is) at c.requires in
    let row = rw c.deref.ensures.value at (sym c.has_row.ensures ∙ c.if-not-has_row.false) in
    rw (← c.self.view_is) (sym (node_is c.self.inside.sets.items c.self.inside.branches.items c.self.inside.root c.args.page low ∙ cond-false _ _ _ (not-true _ row)
    ∙ node_read c.self.inside.sets.items c.self.inside.branches.items c.args.page c.index.result.now c.index-branch.result.now low (omega (arith, c.self.invariant.rows.1.same)) c.index.ensures c.index-branch.ensures))

pub returns-clause-sound : goal.returns-clause-sound
returns-clause-sound c = rw (← c.self.view_is) (kept_indexed _ _ _ _ c.self.invariant)
