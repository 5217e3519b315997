use Rattle.std.proofs.Common.{◌-◌, length, sym, ◌∙◌, arith, refl}
use Rattle.std.proofs.lemmas.Grind.{common_steps}
use Rattle.lisp_graph.specs.Graph.{value_at}
use Rattle.lisp_graph.proofs.Cells.{list_from_more, list_from_all}
use Rattle.lisp_graph.proofs.store.makers.push_cells.Goals as goal

pub loop-index-preserved : goal.loop-index-preserved
loop-index-preserved c =
    let ok = c.in_ok-push.ensures.ok in
    let left = length c.args.items.now - c.loop-index.index - 1 in
    record {
      old = grind (arith, common_steps);
      no_fewer = grind (arith, common_steps);
      whole = list_from_more c.args.area c.loop-index.index left _ _ c.args.items.now (value_at c.args.registers.now) c.loop-index-test.true refl (cc ok) ∙ c.loop-index.invariant.whole;
    }

pub returns-clause-ok : goal.returns-clause-ok
returns-clause-ok c = sym (list_from_all c.args.area c.loop-index.index _ c.args.items.now (value_at c.args.registers.now) c.loop-index-test.false) ∙ c.loop-index.invariant.whole
