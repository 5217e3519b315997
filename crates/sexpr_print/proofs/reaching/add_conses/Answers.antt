use Rattle.std.proofs.Common.{◌≡◌, ◌∙◌, ◌++◌, [], ◌∷◌, ℕ, List, Some, None, sym, ap, subst, length}
use Rattle.std.proofs.lemmas.List.Elements.{All-get_or}
use Rattle.lisp_graph.specs.Graph.{IsObject, PartsReferBelow, no_object, object_at}
use Rattle.lisp_graph.specs.KeyedGraph.{is_cons, keyed, keyed_value, part_of}
use Rattle.lisp_graph.specs.World.{opening}
use Rattle.lisp_graph.specs.declared.object.Body.{Body}
use Rattle.lisp_graph.specs.declared.object.Value.{Value}
use Rattle.world_text.specs.Numbering.{Chained, ends, goes, next_cons}
use Rattle.sexpr_print.proofs.reaching.add_conses.Goals as goal

pub next_cons-requires-clause-refers : goal.next_cons-requires-clause-refers
next_cons-requires-clause-refers c =
    let objects = c.args.world.now.objects in
    let sound = All-get_or (IsObject (length objects)) objects c.loop-cdr.name no_object c.loop-cdr.invariant.1 c.requires.graph.objects in
    let P : Body → Type 0 = λ b. PartsReferBelow (length objects) b in
    c.cdr_of-cdr.ensures.refers (length objects) (subst P (sym c.body.ensures) sound.refers)

pub returns-in-None-clause-value : goal.returns-in-None-clause-value
returns-in-None-clause-value c =
    let G = keyed (opening c.args.world.now) in
    let names = c.loop-cdr.reached.names in
    let name = c.loop-cdr.name in
    let cdr : c.cdr_of-cdr.result ≡ part_of (object_at c.args.world.now.objects name).body 1 =
    c.cdr_of-cdr.ensures.value (ap is_cons c.body.ensures ∙ c.loop-cdr.invariant.3) ∙ ap (λ (b : Body). part_of b 1) c.body.ensures in
    let last : next_cons (names ++ name ∷ []) (G.field name 1) ≡ None =
    ap (λ (v : Value). next_cons (names ++ name ∷ []) (keyed_value c.args.world.now.objects v)) (sym cdr)
    ∙ ap (λ (l : List ℕ). next_cons l (keyed_value c.args.world.now.objects c.cdr_of-cdr.result)) (sym c.in_ok-add.ensures.after)
    ∙ sym c.next_cons.ensures.value ∙ c.in-None.is in
    let P : List ℕ → Type 0 = λ l. Chained G names name l in
    c.loop-cdr.invariant.4 c.add.new.self.names (subst P (sym c.in_ok-add.ensures.after) (ends names name last))

pub loop-cdr-preserved : goal.loop-cdr-preserved
loop-cdr-preserved c =
    let G = keyed (opening c.args.world.now) in
    let names = c.loop-cdr.reached.names in
    let name = c.loop-cdr.name in
    let cdr : c.cdr_of-cdr.result ≡ part_of (object_at c.args.world.now.objects name).body 1 =
    c.cdr_of-cdr.ensures.value (ap is_cons c.body.ensures ∙ c.loop-cdr.invariant.3) ∙ ap (λ (b : Body). part_of b 1) c.body.ensures in
    let more : next_cons (names ++ name ∷ []) (G.field name 1) ≡ Some c.in-Some.next =
    ap (λ (v : Value). next_cons (names ++ name ∷ []) (keyed_value c.args.world.now.objects v)) (sym cdr)
    ∙ ap (λ (l : List ℕ). next_cons l (keyed_value c.args.world.now.objects c.cdr_of-cdr.result)) (sym c.in_ok-add.ensures.after)
    ∙ sym c.next_cons.ensures.value ∙ c.in-Some.is in (
      c.add.ensures.size ∙ c.loop-cdr.invariant.0,
      c.in-Some.ensures.in_range,
      c.in-Some.ensures.fresh,
      c.in-Some.ensures.cons,
      λ all chained.
          let P : List ℕ → Type 0 = λ l. Chained G l c.in-Some.next all in
          c.loop-cdr.invariant.4 all (goes names name c.in-Some.next all more (subst P c.in_ok-add.ensures.after chained)),
    )
