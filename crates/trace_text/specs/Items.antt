-- The registers of a list.
use Rattle.std.specs.Prelude.{ℕ, List, []}
use Rattle.lisp_graph.specs.declared.command.Command.{Command}
use Rattle.lisp_graph.specs.declared.command.Command.TheVariants as commands

-- the registers of a command that is a list
abbrev pub items_of : Command → List ℕ
items_of (commands.List to area items) = items
items_of _ = []
