use Rattle.std.proofs.Common.{◌≡◌, ◌++◌, [], ◌∷◌, Option, Some, refl, sym, ◌∙◌, ap, arith}
use Rattle.lisp_graph.specs.declared.walk.SeenCons.{SeenCons}
use Rattle.world_text.specs.writing.Numbering.{next_cons}
use Rattle.world_text.proofs.writing_laws.Visits.{chain_ends, chain_goes, next_fresh, next_shows}
use Rattle.world_text.proofs.writing_laws.Walks.{cons_more}
use Rattle.world_text.proofs.writing.visit.chain.Goals as goal

pub returns-in-None-clause-ok : goal.returns-in-None-clause-ok
returns-in-None-clause-ok g c =
    chain_ends (g.W.Walk.graph c.loop-walk.walk) (g.W.Walk.graph c.args.walk.now) c.loop-walk.visits.keys c.add.new.self c.args.visits.now.keys c.loop-walk.key c.args.key c.in_ok-cons.cons.cdr
    c.loop-walk.invariant.0 c.in_ok-add.ensures.ok (ap (λ (cons : SeenCons). cons.cdr) c.in_ok-cons.ensures.value) (sym c.next_cons.ensures ∙ c.in-None.is) c.loop-walk.invariant.5

pub returns-in-None-clause-sound : goal.returns-in-None-clause-sound
returns-in-None-clause-sound g c =
    cons_more (g.W.Walk.graph c.loop-walk.walk) (g.W.Walk.graph c.args.walk.now) c.loop-walk.visits (record { keys = c.add.new.self; taken = c.loop-walk.visits.taken; waiting = c.push.new.self }) c.loop-walk.key c.in_ok-cons.cons
    c.loop-walk.invariant.0 c.loop-walk.invariant.4 c.loop-walk.invariant.2 c.in_ok-cons.ensures.value c.in_ok-cons.ensures.car c.in_ok-cons.ensures.cdr
    c.in_ok-add.ensures.ok (c.in_ok-push.ensures ∙ ap (λ (kept : Option SeenCons). c.loop-walk.visits.waiting ++ kept ∷ []) c.in_ok-kept.ensures) refl

pub loop-walk-preserved : goal.loop-walk-preserved
loop-walk-preserved g c =
    let G = g.W.Walk.graph c.args.walk.now in
    let same = c.loop-walk.invariant.0 in
    let e : next_cons c.add.new.self c.in_ok-cons.cons.cdr ≡ Some c.in-Some.next = sym c.next_cons.ensures ∙ c.in-Some.is in
    let shown = rw same at c.in_ok-cons.ensures.cdr in (
      c.cons_of.ensures.unchanged ∙ same,
      omega (arith, c.in_ok-cons.ensures.cause.quiet, c.loop-walk.invariant.1),
      next_shows G c.add.new.self c.in_ok-cons.cons.cdr c.in-Some.next e shown,
      next_fresh c.add.new.self c.in_ok-cons.cons.cdr c.in-Some.next e,
      cons_more (g.W.Walk.graph c.loop-walk.walk) G c.loop-walk.visits (record { keys = c.add.new.self; taken = c.loop-walk.visits.taken; waiting = c.push.new.self }) c.loop-walk.key c.in_ok-cons.cons
          same c.loop-walk.invariant.4 c.loop-walk.invariant.2 c.in_ok-cons.ensures.value c.in_ok-cons.ensures.car c.in_ok-cons.ensures.cdr
          c.in_ok-add.ensures.ok (c.in_ok-push.ensures ∙ ap (λ (kept : Option SeenCons). c.loop-walk.visits.waiting ++ kept ∷ []) c.in_ok-kept.ensures) refl,
      chain_goes (g.W.Walk.graph c.loop-walk.walk) G c.loop-walk.visits.keys c.add.new.self c.args.visits.now.keys c.loop-walk.key c.args.key c.in-Some.next c.in_ok-cons.cons.cdr
          same c.in_ok-add.ensures.ok (ap (λ (cons : SeenCons). cons.cdr) c.in_ok-cons.ensures.value) e c.loop-walk.invariant.5,
      c.loop-walk.invariant.6,
    )
