-- What an allocation requests.
use Rattle.std.specs.Prelude.{◌≡◌, ℕ, ◌+◌, ◌≤◌, Some, IsTrue}
use Rattle.lisp_graph.specs.declared.command.Command.{Command}
use Rattle.lisp_graph.specs.declared.reply.Reply.{Reply}
use Rattle.lisp_graph.specs.declared.reply.Reply.TheVariants as R
use Rattle.lisp_graph.specs.Effect.{Effect, effect}
use Rattle.area_space.specs.Accounts.{account_of}
use Rattle.area_space.specs.Table.{Table, quota_of}
use Rattle.heap_state.specs.lisp_meaning.State.{State}
use Rattle.heap_state.specs.lisp_meaning.Flip.{graph_of}
use Rattle.heap_state.specs.lisp_meaning.Roles.{RoleMap}
use Rattle.heap_state.specs.lisp_meaning.Step.{may_fault}
use Rattle.heap_state.specs.Views.{RepresentsAll, StepsTo}
use Rattle.heap_collect.specs.MachineView.{MachineView}

-- the command needs `charge` words of an area
pub record Wants (s : State) (c : Command) (area charge : ℕ) : Type 0 where
  pub effect_of : Effect
  pub is : effect (graph_of s) c ≡ Some effect_of
  pub wanted : effect_of.wanted ≡ Some (record { area = area; charge = charge })

-- the quota of an area allows `charge` more words
abbrev pub HasLeft : Table → ℕ → ℕ → Type 0
HasLeft t area charge = account_of t area + charge ≤ quota_of t area

-- the reply if it allows less
abbrev pub refusal : Table → ℕ → ℕ → Reply
refusal t area charge = R.Exhausted area (account_of t area) charge (quota_of t area)

-- for each command that may fail and needs `charge` words of an area, this reply is a transition
abbrev pub StepsByReply : MachineView → MachineView → ℕ → ℕ → Reply → Type 0
StepsByReply old new area charge reply = (c : Command) (k : RoleMap) (s : State) → IsTrue (may_fault c) → Wants s c area charge → RepresentsAll old.ground old.scan old.registers k s → StepsTo new.ground new.scan new.registers s c reply
