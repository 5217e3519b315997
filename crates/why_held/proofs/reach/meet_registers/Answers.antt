use Rattle.std.proofs.Common.{◌≡◌, ◌≤◌, ◌+◌, Some, ◌∙◌, ap, sym, refl, arith, length, take}
use Rattle.std.specs.Prelude.{slice_get}
use Rattle.std.proofs.lemmas.List.{take_all}
use Rattle.lisp_graph.specs.KeyedGraph.{KeyedGraph}
use Rattle.why_held.proofs.ReachedKeys.{meets_along, meets_more, registers_more}
use Rattle.why_held.proofs.reach.meet_registers.Goals as goal

pub loop-register-preserved : goal.loop-register-preserved
loop-register-preserved g c =
    let G = g.W.Walk.graph c.args.walk.now in
    let first = c.loop-register.invariant.0 in
    let shows = rw first at c.in_ok-value.ensures.shows in
    let is : slice_get G.registers c.loop-register.register ≡ Some c.in_ok-value.value =
    ap (λ (graph : KeyedGraph). slice_get graph.registers c.loop-register.register) (sym first) ∙ c.in_ok-value.ensures.value in (
      c.value_of_register.ensures.unchanged ∙ first,
      omega (arith, c.in_ok-value.ensures.cause.quiet, c.loop-register.invariant.1),
      c.in_ok-meet_value.ensures.stays_known G shows c.loop-register.invariant.2,
      meets_more (take c.loop-register.register G.registers) (take (c.loop-register.register + 1) G.registers) c.in_ok-value.value c.args.met.now c.loop-register.met c.meet_value.new.met
          (registers_more G.registers c.loop-register.register (c.loop-register.register + 1) c.in_ok-value.value is refl) c.loop-register.invariant.3 c.in_ok-meet_value.ensures.ok,
    )

pub returns-clause-ok : goal.returns-clause-ok
returns-clause-ok g c =
    let G = g.W.Walk.graph c.args.walk.now in
    let all : length G.registers ≤ c.loop-register.register = omega (arith, c.loop-register-test.false, c.registers-count.ensures) in
    meets_along (take c.loop-register.register G.registers) G.registers c.args.met.now c.loop-register.met (take_all c.loop-register.register G.registers all) c.loop-register.invariant.3
