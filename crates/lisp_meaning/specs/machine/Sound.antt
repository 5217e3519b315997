-- The states that a run can reach: what they refer to is held.
use Rattle.std.specs.Prelude.{◌≡◌, ℕ, ◌<◌, Bool, false, not, ◌&&◌, ◌||◌, List, length, IsTrue}
use Rattle.lisp_graph.specs.declared.object.Value.{Value}
use Rattle.lisp_graph.specs.declared.command.Command.{Command}
use Rattle.lisp_graph.specs.declared.command.Command.TheVariants as C
use Rattle.lisp_graph.specs.Graph.{is_ref}
use Rattle.lisp_meaning.specs.machine.State.{Condemned, Phase, Idle, Running, Store, State, is_held, in_use}
use Rattle.lisp_meaning.specs.machine.Reach.{Closed}
use Rattle.lisp_meaning.specs.machine.Flip.{graph_of}

-- the names that a collection certainly keeps: the bound ones, and the held ones that aren't condemned
abbrev pub is_kept : Store → Condemned → ℕ → Bool
is_kept s aim n = aim.bound n || (is_held s n && not (aim.condemned n))

-- while a collection runs, the condemned names and the bound names are held, and the names kept are closed
pub record Reaches (registers : List Value) (s : Store) (aim : Condemned) : Type 0 where
  pub condemned : (n : ℕ) → IsTrue (aim.condemned n) → in_use s n
  pub bound : (n : ℕ) → IsTrue (aim.bound n) → in_use s n
  pub closed : Closed (record { registers = registers; objects = s.objects }) (is_kept s aim)

abbrev pub Reach : State → Phase → Type 0
Reach s Idle = Unit {0}
Reach s (Running c) = Reaches s.registers s.store c.aim

-- a command introduces no name: `set` takes nil or a number, and `list` at least one register
abbrev pub IsAllowed : Command → Type 0
IsAllowed (C.Set to value) = (n : ℕ) → is_ref n value ≡ false
IsAllowed (C.List to area items) = 0 < length items
IsAllowed _ = Unit {0}

-- no reference of a register or of a held object dangles
pub record IsClosed (s : State) : Type 0 where
  -- each held name is that of an object
  pub names : (n : ℕ) → in_use s.store n → n < length s.store.objects
  pub closed : Closed (graph_of s) (is_held s.store)
  pub reach : Reach s s.phase

-- while a collection runs whose scan isn't finished, something is owed
abbrev pub IsOwing : Phase → Type 0
IsOwing Idle = Unit {0}
IsOwing (Running c) = c.over ≡ false → c.paid < c.owed

pub record IsSound (s : State) : Type 0 where
  pub registers : 0 < s.space.registers
  pub references : IsClosed s
  pub owing : IsOwing s.phase
