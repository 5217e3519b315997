use Rattle.std.proofs.Common.{◌≡◌, ◌-◌, ◌^◌, ℕ, List, false, length}
use Rattle.lisp_graph.specs.KeyedGraph.{Shows}
use Rattle.lisp_graph.specs.declared.walk.Seen.TheVariants.{Cons}
use Rattle.world_text.specs.writing.Numbering.{Chained, is_numbered}
use Rattle.world_text.specs.writing.Visits.{AreVisits}
use Rattle.world_text.proofs.writing.visit.chain.Given as goal

abbrev pub invariant-loop-walk : goal.invariant-loop-walk
invariant-loop-walk g l =
    (g.W.Walk.graph l.walk ≡ g.W.Walk.graph l.fn.walk)
    × (g.W.Walk.faults l.walk ≡ g.W.Walk.faults l.fn.walk)
    × Shows (g.W.Walk.graph l.fn.walk) (Cons l.key)
    × (is_numbered l.visits.keys l.key ≡ false)
    × AreVisits (g.W.Walk.graph l.fn.walk) l.visits
    × ((all : List ℕ) → Chained (g.W.Walk.graph l.fn.walk) l.visits.keys l.key all → Chained (g.W.Walk.graph l.fn.walk) l.fn.visits.keys l.fn.key all)
    × (l.visits.taken ≡ l.fn.visits.taken)

abbrev pub decreases-loop-walk : goal.decreases-loop-walk
decreases-loop-walk g l = 2 ^ 32 - length l.visits.keys
