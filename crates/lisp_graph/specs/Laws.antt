-- What holds of the commands' effects, whoever runs them.
use Rattle.std.specs.Prelude.{◌≡◌, ◌↔◌, IsTrue, IfSome}
use Rattle.lisp_graph.specs.declared.object.Value.{Value}
use Rattle.lisp_graph.specs.declared.command.Command.{Command}
use Rattle.lisp_graph.specs.Graph.{Graph, IsGraph, Lasts, same_value}
use Rattle.lisp_graph.specs.Effect.{effect}
use Rattle.lisp_graph.specs.Commands.{InLimits}

-- No command of the program makes a reference dangle or removes an object, and `eq` reports whether values are equal.
pub record EffectsKeepGraphs : Type 0 where
  pub graph : (graph : Graph) (command : Command) → IsGraph graph → InLimits command → IfSome (effect graph command) (λ effect. IsGraph effect.graph)
  pub lasts : (graph : Graph) (command : Command) → IfSome (effect graph command) (λ effect. Lasts graph effect.graph)
  pub same : (this other : Value) → IsTrue (same_value this other) ↔ (this ≡ other)
