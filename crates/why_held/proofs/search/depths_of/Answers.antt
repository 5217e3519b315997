use Rattle.std.proofs.Common.{◌≡◌, ◌∙◌, ℕ, List, refl, ap, subst, arith, length, replicate, None}
use Rattle.lisp_graph.specs.declared.object.Value.{Value}
use Rattle.lisp_graph.specs.World.{opening}
use Rattle.why_held.specs.declared.search.Search.{Search}
use Rattle.why_held.specs.Search.{Finds}
use Rattle.why_held.proofs.Levels.{level_few, level_first, level_goes, level_last, level_within}
use Rattle.why_held.proofs.search.depths_of.Goals as goal

pub loop-start-init : goal.loop-start-init
loop-start-init c =
    let start : Search = record { depths = c.in_ok-depths.depths; found = c.new-found.result } in
    let none : c.in_ok-depths.depths ≡ replicate (length c.args.world.now.objects) None = c.in_ok-depths.ensures ∙ ap (λ (n : ℕ). replicate n None) c.len.ensures in
    let f : Finds 0 c.args.world.now.roots start c.find_all.new.search =
    (let P : List Value → Type 0 = λ vs. Finds 0 vs start c.find_all.new.search in subst P c.as_slice.ensures c.in_ok-find_all.ensures) in
    (refl, level_first (opening c.args.world.now) start c.find_all.new.search none c.new-found.ensures f)

pub find_next-requires-clause-order : goal.find_next-requires-clause-order
find_next-requires-clause-order c =
    let level = c.loop-start.invariant.1 in
    omega (arith, level.ahead, level.counts, c.loop-start-test.true, c.len-in-loop-start.ensures)

pub overflow_add-depth : goal.overflow_add-depth
overflow_add-depth c =
    let level = c.loop-start.invariant.1 in
    omega (arith, level.ahead, c.loop-start-test.true, c.len-in-loop-start.ensures, level_few (opening c.args.world.now) c.loop-start.depth c.loop-start.start c.loop-start.search level, c.requires.at_most)

pub find_next-requires-clause-in_range : goal.find_next-requires-clause-in_range
find_next-requires-clause-in_range c = λ k d l.
    let w = level_within (opening c.args.world.now) c.loop-start.depth c.loop-start.start c.loop-start.search c.loop-start.invariant.1 k d l in
    omega (arith, ap length c.loop-start.invariant.0, w)

pub loop-start-smaller : goal.loop-start-smaller
loop-start-smaller c =
    let level = c.loop-start.invariant.1 in
    let few = level_few (opening c.args.world.now) c.loop-start.depth c.loop-start.start c.loop-start.search level in
    omega (arith, ap length c.loop-start.invariant.0, few, c.loop-start-test.true, c.len-in-loop-start.ensures, c.len-end.ensures)

pub loop-start-preserved : goal.loop-start-preserved
loop-start-preserved c = (
  c.loop-start.invariant.0,
  level_goes (opening c.args.world.now) c.args.world.now.objects c.loop-start.depth c.loop-start.start _ c.len-end.result c.loop-start.search c.find_next.new.search c.loop-start.invariant.1
      c.loop-start.invariant.0 refl c.len-end.ensures (omega (arith, c.loop-start-test.true, c.len-in-loop-start.ensures, c.len-end.ensures)) c.in_ok-find_next.ensures,
)

pub returns : goal.returns
returns c =
    level_last (opening c.args.world.now) c.loop-start.depth c.loop-start.start c.loop-start.search c.loop-start.invariant.1 (omega (arith, c.len-in-loop-start.ensures, c.loop-start-test.false))
