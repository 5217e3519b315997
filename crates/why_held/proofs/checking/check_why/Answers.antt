use Rattle.lisp_graph.specs.World.{opening}
use Rattle.why_held.proofs.Checks.{answered_held, graph_bounds, held_answered}
use Rattle.why_held.proofs.checking.check_why.Goals as goal

pub returns-then-not-are_bounds-clause-whole : goal.returns-then-not-are_bounds-clause-whole
returns-then-not-are_bounds-clause-whole c = λ w.
    let t = c.are_bounds.ensures.1 (graph_bounds (opening c.args.world.now) c.args.answer.now.depths c.requires.graph w.depths) in
    let f = c.if-not-are_bounds.true in
    absurd cc

pub returns-clause-sound : goal.returns-clause-sound
returns-clause-sound c = λ t.
    answered_held (opening c.args.world.now) c.args.answer.now.depths c.args.object c.args.answer.now.held (c.are_bounds.ensures.0 c.if-not-are_bounds.false) (c.is_answered.ensures.0 t)

pub returns-clause-whole : goal.returns-clause-whole
returns-clause-whole c = λ w.
    c.is_answered.ensures.1 (held_answered (opening c.args.world.now) c.args.answer.now.depths c.args.object c.args.answer.now.held (w.depths.right c.args.object c.requires.in_range) w.held)
