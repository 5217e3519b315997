use Rattle.std.proofs.Common.{◌≡◌, ◌∙◌, List, Some, sym, subst, map, slice_get}
use Rattle.lisp_graph.specs.KeyedGraph.{keyed, keyed_value}
use Rattle.lisp_graph.specs.World.{opening}
use Rattle.lisp_graph.specs.declared.object.Body.{Body}
use Rattle.lisp_graph.specs.declared.walk.Seen.{Seen}
use Rattle.world_text.specs.Numbering.{AllVisited, done, step}
use Rattle.sexpr_print.specs.Places.{parts}
use Rattle.sexpr_print.proofs.ReachedObjects.{fields_are_parts}
use Rattle.sexpr_print.proofs.reaching.visit_objects.Goals as goal

pub loop-name-preserved : goal.loop-name-preserved
loop-name-preserved c =
    let world = c.args.world.now in
    let G = keyed (opening world) in
    let names = c.loop-name.reached.names in
    let name = c.in-Some.name in
    let at : slice_get names c.loop-name.place ≡ Some name = sym c.name.ensures.value ∙ c.in-Some.is in
    let P : Body → Type 0 = λ b. AllVisited G names (map (keyed_value world.objects) (parts b)) c.visit_parts.new.reached.names in
    let Q : List Seen → Type 0 = λ l. AllVisited G names l c.visit_parts.new.reached.names in
    let visited = subst Q (sym (fields_are_parts (opening world) name)) (subst P c.body.ensures c.in_ok-visit_parts.ensures.value) in (
      c.visit_parts.ensures.unchanged ∙ c.loop-name.invariant.0,
      λ all walked. c.loop-name.invariant.1 all (step names c.visit_parts.new.reached.names all c.loop-name.place name at visited walked),
    )

pub returns-clause-value : goal.returns-clause-value
returns-clause-value c = c.loop-name.invariant.1 c.loop-name.reached.names (done c.loop-name.reached.names c.loop-name.place c.in_default.ensures.none)
