-- What an allocation finds on the parts of a heap: the silent steps were taken, its charge was admitted, and units were scanned.
use Rattle.std.specs.Prelude.{◌≡◌, ℕ, ◌*◌, false, true, List, length, IsTrue, None}
use Rattle.store_word.specs.Words.{Parts}
use Rattle.store_word.specs.declared.space.Space.{Space}
use Rattle.lisp_graph.specs.declared.command.Command.{Command}
use Rattle.lisp_graph.specs.declared.reply.Reply.{Reply}
use Rattle.lisp_graph.specs.declared.reply.Reply.TheVariants as R
use Rattle.mem_port.specs.View.{AccountsForFaultsIf}
use Rattle.area_space.specs.Fresh.{kinds_in}
use Rattle.area_space.specs.View.{GroundView}
use Rattle.word_graph.specs.lisp_meaning.Run.{allocates}
use Rattle.word_graph.specs.lisp_meaning.Sound.{IsAllowed}
use Rattle.word_graph.specs.lisp_meaning.State.{State, new_level, rule_of}
use Rattle.word_graph.specs.lisp_meaning.Step.{may_fault}
use Rattle.scavenger.specs.Scan.{Scan}
use Rattle.heap_collect.specs.Admitting.{HasLeft, Wants}
use Rattle.heap_collect.specs.Amounts.{ScansOn, ScansUnits}
use Rattle.heap_collect.specs.Silent.{flips_alone, reclaims_alone, resident_from}
use Rattle.heap_collect.specs.SilentSteps.{SilentSteps}
use Rattle.lisp_heap.specs.HeapView.{HeapView}
use Rattle.lisp_heap.specs.Costs.{CostsNothing, IsRefused}
use Rattle.lisp_heap.specs.Stands.{IsSound, Runs}

-- the silent steps were taken, with these resident pages before them: the ground and the scan after them
pub record Prepares (v : GroundView) (scan : Scan) (space : Space) (pages : List ℕ) : Type 0 where
  pub ground : GroundView
  pub begun : Scan
  pub silent : SilentSteps v ground scan begun space
  pub memory : reclaims_alone v.table scan space ≡ false → ground.mem.store ≡ v.mem.store
  pub rests : reclaims_alone v.table scan space ≡ false → flips_alone v.table scan space ≡ false → ground.table ≡ v.table
  pub resident : ground.mem.resident ≡ length (resident_from v.table scan space pages)

-- After the silent steps a charge was admitted, and units were scanned for it; a new object is made at this level.
pub record Admits (v v' : GroundView) (scan scan' : Scan) (registers registers' : List Parts) (space : Space) (pages : List ℕ) (area charge before after level : ℕ) : Type 0 where
  pub first : Prepares v scan space pages
  pub units : ScansUnits (record { ground = first.ground; scan = first.begun; registers = registers }) (record { ground = v'; scan = scan'; registers = registers' }) (space.rate * charge) before after
  pub on : ScansOn (record { ground = first.ground; scan = first.begun; registers = registers }) (record { ground = v'; scan = scan'; registers = registers' })
  pub left : HasLeft v'.table area charge
  pub level_is : (s : State) → v.table.kinds ≡ kinds_in s.areas → level ≡ new_level (rule_of s.areas area).kind
  pub idle : first.ground.table.aim ≡ None → (v' ≡ first.ground) × (scan' ≡ first.begun) × (registers' ≡ registers)
  pub tells : AccountsForFaultsIf first.ground.mem v'.mem before after false

-- A command, with these counts of memory accesses before and after it, ran on the heap and made nothing: its charge was refused, or a page call failed.
pub record Unmade (old new : HeapView) (before after : ℕ) (c : Command) (r : Reply) : Type 0 where
  pub sound : IsSound new
  pub runs : Runs old new before after c r
  pub refused : IsRefused r → CostsNothing old new before after
  pub unmade : r ≡ R.Fine → ⊥

-- the same for any command that needs `charge` words of the area
abbrev pub Refuses : HeapView → HeapView → ℕ → ℕ → ℕ → ℕ → Reply → Type 0
Refuses old new area charge before after r = (c : Command) → allocates c ≡ true → IsAllowed c → IsTrue (may_fault c) → ((s : State) → Wants s c area charge) → Unmade old new before after c r
