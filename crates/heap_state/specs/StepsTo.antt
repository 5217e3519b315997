-- A transition of the definition.
use Rattle.std.specs.Prelude.{◌≡◌, ℕ, ◌*◌, false, List, Some}
use Rattle.store_word.specs.Words.{Parts}
use Rattle.lisp_graph.specs.declared.command.Command.{Command}
use Rattle.lisp_graph.specs.declared.reply.Reply.{Reply}
use Rattle.lisp_graph.specs.Effect.{Effect, Wanted, effect}
use Rattle.mem_port.specs.Store.{Store}
use Rattle.area_space.specs.Table.{Table}
use Rattle.transporter.specs.lisp_meaning.State.{State}
use Rattle.transporter.specs.lisp_meaning.Flip.{graph_of}
use Rattle.transporter.specs.lisp_meaning.Roles.{RoleMap}
use Rattle.transporter.specs.lisp_meaning.Step.{Replied, Step, exceeds}
use Rattle.scavenger.specs.Scan.{Scan}
use Rattle.heap_state.specs.Represents.{Represents}
use Rattle.heap_state.specs.Scans.{Scans}
use Rattle.heap_state.specs.Wanting.{paid_wanting}

-- a state after a transition with this reply is represented, and the scan is its scan. (Seven parameters: memory, table, scan and registers after the transition, the state before it, and its command and reply.)
pub record StepsTo (m : Store) (t : Table) (scan : Scan) (registers : List Parts) (s : State) (c : Command) (r : Reply) : Type 0 where
  pub next : State
  pub step : Step s c (Replied r) next
  pub map : RoleMap
  pub represents : Represents m t registers map next
  pub scans : Scans m t scan registers map next.store next.phase 0

-- the units scanned ahead are those that the command pays for
abbrev pub PaysAhead : State → Command → ℕ → Type 0
PaysAhead s c ahead = (e : Effect) → effect (graph_of s) c ≡ Some e → ahead ≡ paid_wanting s e.wanted

-- the command is an allocation that the quota allows, and the units scanned ahead are those that it pays for
pub record PaysFor (s : State) (c : Command) (ahead : ℕ) : Type 0 where
  pub effect_of : Effect
  pub is : effect (graph_of s) c ≡ Some effect_of
  pub wanted : Wanted
  pub wants : effect_of.wanted ≡ Some wanted
  pub fits : exceeds s wanted ≡ false
  pub ahead_is : ahead ≡ s.space.rate * wanted.charge
