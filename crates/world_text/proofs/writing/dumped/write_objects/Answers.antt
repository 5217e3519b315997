use Rattle.std.proofs.Common.{◌≡◌, ℕ, ◌+◌, ◌++◌, [], ◌∷◌, List, length, Some, refl, ◌∙◌, sym, arith, length-append}
use Rattle.std.specs.Prelude.{slice_get}
use Rattle.lisp_graph.specs.KeyedGraph.{KeyedGraph}
use Rattle.lisp_graph.specs.declared.world.AreaRule.{AreaRule}
use Rattle.lisp_graph.specs.declared.object.Object.{Object}
use Rattle.world_text.specs.declared.writing.object_writer.ObjectWriter.{ObjectWriter}
use Rattle.world_text.specs.declared.writing.visit.VisitedObjects.{VisitedObjects}
use Rattle.world_text.specs.writing.Visits.{IsDumped}
use Rattle.world_text.specs.writing.Waiting.{Adds, AreWritten}
use Rattle.world_text.proofs.writing_laws.Walks.{AreFirst, first_next, first_none, first_whole}
use Rattle.world_text.proofs.writing_laws.WaitingLaws.{written_more, written_none, written_whole}
use Rattle.world_text.proofs.writing.dumped.write_objects.Goals as goal

-- one more object was dumped and written
one_more : (walked graph : KeyedGraph) (start old new : VisitedObjects) (areas : List AreaRule) (text : List ℕ) (writer writer' : ObjectWriter) (number key : ℕ) (object : Object)
    → walked ≡ graph → slice_get old.keys number ≡ Some key → IsDumped walked key old new object → Adds areas object writer writer'
    → (objects : List Object) × AreFirst graph start old number objects × AreWritten areas text objects writer × (length objects ≡ number)
    → (objects : List Object) × AreFirst graph start new (number + 1) objects × AreWritten areas text objects writer' × (length objects ≡ number + 1)
one_more walked graph start old new areas text writer writer' number key object same at dumped adds before =
    let objects : List Object = before.0 ++ object ∷ [] in (
      objects,
      first_next walked graph start old new number key before.0 objects object same at before.1 dumped refl,
      written_more areas text before.0 objects object writer writer' before.2 adds refl,
      omega (arith, length-append before.0 (object ∷ []), before.3),
    )

pub loop-key-init : goal.loop-key-init
loop-key-init g c = (
  refl,
  refl,
  omega arith,
  c.requires.done,
  ([], first_none (g.W.Walk.graph c.args.walk.now) c.args.visits.now c.requires.visits, written_none c.args.areas.now c.args.writer.now c.requires.fresh c.requires.empty, refl),
)

pub dumped_object-requires-clause-agrees : goal.dumped_object-requires-clause-agrees
dumped_object-requires-clause-agrees g c = c.loop-key.invariant.3

pub add-requires : goal.add-requires
add-requires g c =
    let before = c.loop-key.invariant.4 in
    record { sound = record { waiting = before.2.waiting; few = omega (arith, before.2.next, before.3, c.loop-key.invariant.2) }; at_most = omega (arith, before.2.next, before.3, c.in-Some.ensures.in_range) }

pub write_all-requires : goal.write_all-requires
write_all-requires g c =
    let before = c.loop-key.invariant.4 in
    record { waiting = before.2.waiting; few = omega (arith, before.2.next, before.3, c.loop-key.invariant.2) }

pub loop-key-preserved : goal.loop-key-preserved
loop-key-preserved g c =
    let first = c.loop-key.invariant.0 in (
      c.dumped_object.ensures.unchanged ∙ first,
      omega (arith, c.in_ok-object.ensures.cause.quiet, c.loop-key.invariant.1),
      omega (arith, c.in-Some.ensures.in_range),
      c.in_ok-object.ensures.done,
      one_more (g.W.Walk.graph c.loop-key.walk) (g.W.Walk.graph c.args.walk.now) c.args.visits.now c.loop-key.visits c.dumped_object.new.visits c.args.areas.now c.args.writer.now.text c.loop-key.writer c.add.new.self c.loop-key.number c.in-Some.key c.in_ok-object.object
          first (sym c.key.ensures.value ∙ c.in-Some.is) c.in_ok-object.ensures.value c.in_ok-add.ensures c.loop-key.invariant.4,
    )

pub loop-key-preserved-in_ok-add : goal.loop-key-preserved-in_ok-add
loop-key-preserved-in_ok-add g c =
    let first = c.loop-key.invariant.0 in (
      c.dumped_object.ensures.unchanged ∙ first,
      omega (arith, c.in_ok-object.ensures.cause.quiet, c.loop-key.invariant.1),
      omega (arith, c.in-Some.ensures.in_range),
      c.in_ok-object.ensures.done,
      one_more (g.W.Walk.graph c.loop-key.walk) (g.W.Walk.graph c.args.walk.now) c.args.visits.now c.loop-key.visits c.dumped_object.new.visits c.args.areas.now c.args.writer.now.text c.loop-key.writer c.add.new.self c.loop-key.number c.in-Some.key c.in_ok-object.object
          first (sym c.key.ensures.value ∙ c.in-Some.is) c.in_ok-object.ensures.value c.in_ok-add.ensures c.loop-key.invariant.4,
    )

pub returns-clause-value : goal.returns-clause-value
returns-clause-value g c =
    let before = c.loop-key.invariant.4 in
    record {
      objects = before.0;
      dumped = first_whole (g.W.Walk.graph c.args.walk.now) c.args.visits.now c.loop-key.visits c.loop-key.number before.0 c.in_default.ensures.none before.1;
      text = written_whole c.args.areas.now c.args.writer.now.text before.0 c.loop-key.writer c.write_all.new.self before.2 c.in_ok-write_all.ensures;
    }
