use Rattle.std.proofs.Common.{◌≡◌, ◌≤◌, ◌*◌}
use Rattle.lisp_graph.specs.Totals.{total}
use Rattle.area_space.proofs.table.RegionTable.total.Given as goal
use Rattle.area_space.specs.Accounts.{debt}
use Rattle.area_space.specs.Table.{live, slot_of}

-- the sum of the areas so far
abbrev pub invariant-loop-area : goal.invariant-loop-area
invariant-loop-area l = record {
  is : l.sum ≡ total (λ a. debt l.self (live (slot_of l.self a l.level))) l.area;
  small : l.sum ≤ 1048576 * l.area;
}
