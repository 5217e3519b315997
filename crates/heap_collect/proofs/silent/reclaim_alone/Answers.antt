use Rattle.std.proofs.Common.{inl, inr, sym, ◌∙◌}
use Rattle.area_space.specs.View.{view}
use Rattle.heap_collect.proofs.SilentSteps.{aim_gone, aim_none, aim_some, due_over, due_some, no_silent_reclaim, same_levels, same_totals, silent_reclaim}
use Rattle.heap_collect.proofs.silent.reclaim_alone.Goals as goal
use Rattle.heap_collect.proofs.silent.reclaim_alone.Goals.{else-is_over-via-then-is_over+else-is_some, else-is_over-via-else-is_over}

pub returns-then-is_some-clause-reclaims : goal.returns-then-is_some-clause-reclaims
returns-then-is_some-clause-reclaims g c =
    let over = sym c.is_over.ensures ∙ c.if-is_over.true in
    let ends = c.end_collection.ensures.reclaims in
    record {
      step = silent_reclaim ends (aim_some c.args.ground.now.table.aim c.condemned.result c.is_some.result c.condemned.ensures c.is_some.ensures c.if-is_some.true) over;
      frees = c.end_collection.ensures.at_most;
      idle = λ _. ends.end;
      going = λ going. absurd (cc);
      levels = same_levels _ _ ends.free;
      count = same_totals _ _ ends.free;
    }

pub returns-then-is_some-clause-unchanged : goal.returns-then-is_some-clause-unchanged
returns-then-is_some-clause-unchanged g c never =
    let t = c.args.ground.now.table in
    absurd (aim_some t.aim c.condemned.result c.is_some.result c.condemned.ensures c.is_some.ensures c.if-is_some.true (aim_gone c.args.scan.now.over t.aim (sym c.is_over.ensures ∙ c.if-is_over.true) never))

pub returns-else-is_over-clause-reclaims : goal.returns-else-is_over-clause-reclaims
returns-else-is_over-clause-reclaims g c = elim c.else-is_over.branch [
  | else-is_over-via-then-is_over+else-is_some w ↦ no_silent_reclaim (view c.args.ground.now) (inl (aim_none c.args.ground.now.table.aim w.condemned.result w.is_some.result w.condemned.ensures w.is_some.ensures w.if-is_some.false))
  | else-is_over-via-else-is_over w ↦ no_silent_reclaim (view c.args.ground.now) (inr (sym c.is_over.ensures ∙ w.if-is_over.false))
]

pub returns-else-is_over-clause-resident : goal.returns-else-is_over-clause-resident
returns-else-is_over-clause-resident g c due = elim c.else-is_over.branch [
  | else-is_over-via-then-is_over+else-is_some w ↦
      absurd (due_some c.args.scan.now.over c.args.ground.now.table.aim due (aim_none c.args.ground.now.table.aim w.condemned.result w.is_some.result w.condemned.ensures w.is_some.ensures w.if-is_some.false))
  | else-is_over-via-else-is_over w ↦ absurd (due_over c.args.scan.now.over c.args.ground.now.table.aim due (sym c.is_over.ensures ∙ w.if-is_over.false))
]
