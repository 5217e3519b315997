use Rattle.std.proofs.Common.{ap}
use Rattle.lisp_graph.specs.declared.reply.Reply.TheVariants as R
use Rattle.heap_collect.proofs.Phases.{busy_steps, flip_steps, resting}
use Rattle.heap_collect.proofs.SilentSteps.{aim_none, aim_some}
use Rattle.heap_collect.proofs.collecting.flip.Goals as goal

pub begin_collection-pages-requires : goal.begin_collection-pages-requires
begin_collection-pages-requires g c = record {
  idle = resting _ _ _ c.requires.represented (aim_none c.args.ground.now.table.aim c.condemned.result c.is_some.result c.condemned.ensures c.is_some.ensures c.if-is_some.false);
}

pub returns-clause-step : goal.returns-clause-step
returns-clause-step g c =
    flip_steps c.begin_collection-pages.ensures.begins c.begin_collection-pages.ensures.pages (aim_none c.args.ground.now.table.aim c.condemned.result c.is_some.result c.condemned.ensures c.is_some.ensures c.if-is_some.false)

pub returns-clause-begins : goal.returns-clause-begins
returns-clause-begins g c = λ _. c.begin_collection-pages.ensures.begins

pub returns-clause-pages : goal.returns-clause-pages
returns-clause-pages g c = λ _. ap R.Flipped c.begin_collection-pages.ensures.pages

pub returns-clause-refused : goal.returns-clause-refused
returns-clause-refused g c = λ some. absurd (some (aim_none c.args.ground.now.table.aim c.condemned.result c.is_some.result c.condemned.ensures c.is_some.ensures c.if-is_some.false))

pub returns-then-is_some-clause-step : goal.returns-then-is_some-clause-step
returns-then-is_some-clause-step g c registers k s x count size =
    busy_steps (g.M.Memory.seen c.args.ground.now.mem) c.args.ground.now.table c.args.scan.now registers c.args.what (aim_some c.args.ground.now.table.aim c.condemned.result c.is_some.result c.condemned.ensures c.is_some.ensures c.if-is_some.true) k s x

pub returns-then-is_some-clause-begins : goal.returns-then-is_some-clause-begins
returns-then-is_some-clause-begins g c = λ none. absurd (aim_some c.args.ground.now.table.aim c.condemned.result c.is_some.result c.condemned.ensures c.is_some.ensures c.if-is_some.true none)

pub returns-then-is_some-clause-pages : goal.returns-then-is_some-clause-pages
returns-then-is_some-clause-pages g c = λ none. absurd (aim_some c.args.ground.now.table.aim c.condemned.result c.is_some.result c.condemned.ensures c.is_some.ensures c.if-is_some.true none)
