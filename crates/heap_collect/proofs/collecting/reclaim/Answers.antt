use Rattle.std.proofs.Common.{sym, ◌∙◌}
use Rattle.heap_collect.proofs.FreedRegions.{frees_nothing}
use Rattle.heap_collect.proofs.Phases.{done, not_done_steps, not_flipped_steps, reclaim_steps, settled}
use Rattle.heap_collect.proofs.ScanSequences.{none_of, some_of}
use Rattle.heap_collect.proofs.collecting.reclaim.Goals as goal

pub end_collection-requires : goal.end_collection-requires
end_collection-requires g c = record {
  done = done _ _ _ c.requires.represented (some_of c.args.ground.now.table.aim c.condemned.result c.is_none.result c.condemned.ensures c.is_none.ensures c.if-is_none.false) (sym c.is_over.ensures ∙ c.if-not-is_over.false);
}

pub returns-clause-reclaims : goal.returns-clause-reclaims
returns-clause-reclaims g c = λ _. record {
  settles = settled c.end_collection.ensures.reclaims (some_of c.args.ground.now.table.aim c.condemned.result c.is_none.result c.condemned.ensures c.is_none.ensures c.if-is_none.false) (sym c.is_over.ensures ∙ c.if-not-is_over.false);
  ends = c.end_collection.ensures.reclaims;
}

pub returns-clause-step : goal.returns-clause-step
returns-clause-step g c registers k s x =
    let over = sym c.is_over.ensures ∙ c.if-not-is_over.false in
    reclaim_steps (g.M.Memory.seen c.args.ground.now.mem) c.args.ground.now.table c.args.scan.now (g.M.Memory.seen c.end_collection.new.ground.mem) c.end_collection.new.ground.table registers over k s x
    (settled c.end_collection.ensures.reclaims (some_of c.args.ground.now.table.aim c.condemned.result c.is_none.result c.condemned.ensures c.is_none.ensures c.if-is_none.false) over registers k s x)

pub returns-then-not-is_over-clause-step : goal.returns-then-not-is_over-clause-step
returns-then-not-is_over-clause-step g c registers k s x =
    not_done_steps (g.M.Memory.seen c.args.ground.now.mem) c.args.ground.now.table c.args.scan.now registers
    (some_of c.args.ground.now.table.aim c.condemned.result c.is_none.result c.condemned.ensures c.is_none.ensures c.if-is_none.false) (sym c.is_over.ensures ∙ c.if-not-is_over.true) k s x

pub returns-then-not-is_over-clause-at_most : goal.returns-then-not-is_over-clause-at_most
returns-then-not-is_over-clause-at_most g c = frees_nothing (g.M.Memory.seen c.args.ground.now.mem) c.args.ground.now.table

pub returns-then-is_none-clause-step : goal.returns-then-is_none-clause-step
returns-then-is_none-clause-step g c registers k s x =
    not_flipped_steps (g.M.Memory.seen c.args.ground.now.mem) c.args.ground.now.table c.args.scan.now registers (none_of c.args.ground.now.table.aim c.condemned.result c.is_none.result c.condemned.ensures c.is_none.ensures c.if-is_none.true) k s x

pub returns-then-is_none-clause-at_most : goal.returns-then-is_none-clause-at_most
returns-then-is_none-clause-at_most g c = frees_nothing (g.M.Memory.seen c.args.ground.now.mem) c.args.ground.now.table
