use Rattle.std.proofs.Common.{◌≡◌, take}
use Rattle.std.specs.BTreeMap.{values, btree_map_len}
use Rattle.lisp_graph.proofs.NumberedMaps.{IsNumbered}
use Rattle.lisp_graph.proofs.object_map.ObjectMap.truncate.Given as goal

abbrev pub invariant-loop-self : goal.invariant-loop-self
invariant-loop-self l = record {
  numbered : IsNumbered l.self-inside.map.entries;
  same : take l.count (values l.self-inside.map) ≡ take l.count (values l.initial.self-inside.map);
}

abbrev pub decreases-loop-self : goal.decreases-loop-self
decreases-loop-self l = btree_map_len l.self-inside.map
