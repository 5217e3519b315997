use Rattle.std.proofs.Common.{◌∙◌, arith}
use Rattle.lisp_graph.proofs.NumberedMaps.{take-pop}
use Rattle.lisp_graph.proofs.object_map.ObjectMap.truncate.Goals as goal

pub loop-self-preserved-in-loop-self : goal.loop-self-preserved-in-loop-self
loop-self-preserved-in-loop-self c =
    let p = take-pop c.args.count _ _ _ c.loop-self.invariant.numbered (omega arith) c.pop_last.ensures.removal c.pop_last.ensures.variant in
    record { numbered = p.0; same = p.1 ∙ c.loop-self.invariant.same }

pub loop-self-preserved-in-loop-self-2 : goal.loop-self-preserved-in-loop-self-2
loop-self-preserved-in-loop-self-2 c =
    let p = take-pop c.args.count _ _ _ c.loop-self.invariant.numbered (omega arith) c.pop_last.ensures.removal c.pop_last.ensures.variant in
    record { numbered = p.0; same = p.1 ∙ c.loop-self.invariant.same }
