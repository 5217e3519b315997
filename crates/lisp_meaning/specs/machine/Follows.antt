-- A graph that is never moved or collected, and the runs that follow it.
use Rattle.std.specs.Prelude.{◌≡◌, ◌⊎◌, List, [], ◌∷◌, Option, Some, None}
use Rattle.lisp_graph.specs.declared.command.Command.{Command}
use Rattle.lisp_graph.specs.declared.reply.Reply.TheVariants as R
use Rattle.lisp_graph.specs.Graph.{Graph}
use Rattle.lisp_graph.specs.Effect.{Effect, effect}
use Rattle.lisp_meaning.specs.machine.Step.{Answer, Replied}

-- refused: the quota would be exceeded, or the swap device failed
abbrev pub IsRefusal : Answer → Type 0
IsRefusal (Replied (R.Exhausted area charged wanted quota)) = Unit {0}
IsRefusal (Replied R.Fault) = Unit {0}
IsRefusal _ = ⊥

abbrev pub FollowsBy : Graph → Option Effect → Answer → Graph → Type 0
FollowsBy graph None a new = new ≡ graph
FollowsBy graph (Some e) a new = ((a ≡ Replied e.reply) × (new ≡ e.graph)) ⊎ (IsRefusal a × (new ≡ graph))

-- The reply and the change are those of the command's effect on the graph; or the command is refused and changes nothing. A command without an effect on the graph changes nothing.
abbrev pub Follows : Graph → Command → Answer → Graph → Type 0
Follows graph c a new = FollowsBy graph (effect graph c) a new

-- the same of all commands, one after another
abbrev pub FollowsAll : Graph → List Command → List Answer → Graph → Type 0
FollowsAll graph [] [] new = new ≡ graph
FollowsAll graph (c ∷ cs) (a ∷ answers) new = (after : Graph) × Follows graph c a after × FollowsAll after cs answers new
FollowsAll graph [] (a ∷ answers) new = ⊥
FollowsAll graph (c ∷ cs) [] new = ⊥
