use Rattle.std.proofs.Common.{sym, ap, ◌∙◌, arith}
use Rattle.ref_table.specs.Sets.{do_meet}
use Rattle.ref_table.proofs.SearchPaths.{find_here, find_past, find_above}
use Rattle.ref_table.proofs.search.+find_from.Goals as goal
use Rattle.ref_table.proofs.search.+find_from.Goals.{then-from-top+else-is_some+else-intersects, else-from-top}

pub returns-then-intersects : goal.returns-then-intersects
returns-then-intersects t c = λ t'.
    find_here c.args.sets.now c.args.branches.now _ _ _ c.args.from c.args.levels.0 c.args.depth _ t' c.in-Some.is c.branch_at-root.ensures (sym (c.intersects.ensures tt) ∙ c.if-not-intersects.false) c.if-from-top.true (omega arith)
    c.find_from-found.ensures (sym c.is_some.ensures ∙ c.if-is_some.false) (ap (λ n. do_meet n c.args.levels.0) (sym c.levels_at.ensures) ∙ sym (c.intersects-then-from-top.ensures tt) ∙ c.if-intersects.true)

pub returns : goal.returns
returns t c = λ t'.
    elim c.if-from-top.branch [
      | then-from-top+else-is_some+else-intersects w ↦
          find_past c.args.sets.now c.args.branches.now _ _ _ _ c.args.from c.args.levels.0 c.args.depth _ t' c.in-Some.is c.branch_at-root.ensures (sym (c.intersects.ensures tt) ∙ c.if-not-intersects.false) w.if-from-top.true (omega arith)
          w.find_from-found.ensures (sym w.is_some.ensures ∙ w.if-is_some.false) (ap (λ n. do_meet n c.args.levels.0) (sym w.levels_at.ensures) ∙ sym (w.intersects-then-from-top.ensures tt) ∙ w.if-intersects.false) c.find_from.ensures
      | else-from-top w ↦
          find_above c.args.sets.now c.args.branches.now _ _ _ c.args.from c.args.levels.0 c.args.depth _ t' c.in-Some.is c.branch_at-root.ensures (sym (c.intersects.ensures tt) ∙ c.if-not-intersects.false) w.if-from-top.false (omega arith) c.find_from.ensures
    ]
