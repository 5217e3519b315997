use Rattle.std.proofs.Common.{◌≡◌, ◌<◌, ◌≤◌, ◌++◌, length, map, decimal}
use Rattle.std.specs.List.{All}
use Rattle.lisp_graph.specs.declared.command.Command.TheVariants as commands
use Rattle.world_text.specs.Spelling.{spaced}
use Rattle.trace_text.specs.Items.{items_of}
use Rattle.trace_text.proofs.fast.spaced_items.Given as goal

abbrev pub invariant-loop-item : goal.invariant-loop-item
invariant-loop-item l = record {
  list : l.command ≡ commands.List l.to l.area (items_of l.command);
  read : l.text ≡ spaced (map decimal (items_of l.command)) ++ l.rest;
  within : All (λ item. item < l.registers) (items_of l.command);
  count : l.count ≡ length (items_of l.command);
  few : length (items_of l.command) ≤ 1024;
}

abbrev pub decreases-loop-item : goal.decreases-loop-item
decreases-loop-item l = length l.rest
