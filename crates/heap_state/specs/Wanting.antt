-- What a command with a given reply owes and pays.
use Rattle.std.specs.Prelude.{ℕ, ◌*◌, if◌then◌else◌, Option, Some, None}
use Rattle.lisp_graph.specs.declared.command.Command.{Command}
use Rattle.lisp_graph.specs.Effect.{Effect, Wanted}
use Rattle.transporter.specs.lisp_meaning.State.{State}
use Rattle.transporter.specs.lisp_meaning.Step.{exceeds, owed_by}

-- what it owes, and so may place: 2 for an `rplacd`, and the charge of an allocation that isn't refused
abbrev pub owed_wanting : State → Command → Effect → Option Wanted → ℕ
owed_wanting s c e None = owed_by c e.reply
owed_wanting s c e (Some w) = if exceeds s w then 0 else w.charge

-- what it pays
abbrev pub paid_wanting : State → Option Wanted → ℕ
paid_wanting s None = 0
paid_wanting s (Some w) = if exceeds s w then 0 else s.space.rate * w.charge
