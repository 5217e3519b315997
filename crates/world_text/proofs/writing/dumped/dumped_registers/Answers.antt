use Rattle.std.proofs.Common.{◌≡◌, Some, slice_get, refl, sym, ap, ◌∙◌, arith}
use Rattle.lisp_graph.specs.KeyedGraph.{KeyedGraph}
use Rattle.world_text.proofs.writing_laws.Walks.{visited_next, visited_none}
use Rattle.world_text.proofs.writing.dumped.dumped_registers.Goals as goal

pub loop-register-init : goal.loop-register-init
loop-register-init g c = (refl, refl, rw c.new-registers.ensures (visited_none (g.W.Walk.graph c.args.walk.now) c.args.visits.now c.requires))

pub loop-register-preserved : goal.loop-register-preserved
loop-register-preserved g c =
    let G = g.W.Walk.graph c.args.walk.now in
    let first = c.loop-register.invariant.0 in
    let second = c.value_of_register.ensures.unchanged ∙ first in
    let at : slice_get G.registers c.loop-register.register ≡ Some c.in_ok-seen.seen =
    ap (λ (now : KeyedGraph). slice_get now.registers c.loop-register.register) (sym first) ∙ c.in_ok-seen.ensures.value in (
      c.visit.ensures.unchanged ∙ second,
      omega (arith, c.in_ok-value.ensures.cause.quiet, c.in_ok-seen.ensures.cause.quiet, c.loop-register.invariant.1),
      visited_next (g.W.Walk.graph c.loop-register.walk) (g.W.Walk.graph c.value_of_register.new.self) G G.registers c.args.visits.now c.loop-register.visits c.visit.new.visits c.loop-register.registers c.push.new.self c.loop-register.register c.in_ok-seen.seen c.in_ok-value.value
          first second at c.loop-register.invariant.2 c.in_ok-value.ensures.value c.in_ok-seen.ensures.shows c.in_ok-push.ensures.ok,
    )
