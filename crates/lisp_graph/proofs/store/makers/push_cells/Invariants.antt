use Rattle.std.proofs.Common.{◌≡◌, ◌≤◌, ◌++◌, length, map, drop, take}
use Rattle.lisp_graph.specs.Graph.{value_at}
use Rattle.lisp_graph.specs.Effect.{list_from}
use Rattle.lisp_graph.proofs.store.makers.push_cells.Given as goal

-- the conses made so far and those that remain are the whole list, after the objects that were there
abbrev pub invariant-loop-index : goal.invariant-loop-index
invariant-loop-index l = record {
  old : take (length l.initial.objects) l.objects ≡ l.initial.objects;
  no_fewer : length l.initial.objects ≤ length l.objects;
  whole : l.objects ++ list_from l.area (length l.objects) (map (value_at l.registers) (drop l.index l.items))
      ≡ l.initial.objects ++ list_from l.area (length l.initial.objects) (map (value_at l.registers) l.items);
}
