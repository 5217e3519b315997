-- What contracts see of a machine.
use Rattle.std.specs.Prelude.{List}
use Rattle.store_word.specs.Words.{Parts}
use Rattle.mem_port.specs.declared.memory.Memory.{Ghosts}
use Rattle.area_space.specs.View.{GroundView, view}
use Rattle.area_space.specs.declared.ground.Ground.{Ground}
use Rattle.scavenger.specs.Scan.{Scan}

-- its ground, what remains to be scanned, and the words of its registers
pub record MachineView : Type 0 where
  pub ground : GroundView
  pub scan : Scan
  pub registers : List Parts

module _ {M : Type 0} {g : Ghosts M} where
  abbrev pub machine : Ground M g → Scan → List Parts → MachineView
  machine it scan registers = record { ground = view it; scan = scan; registers = registers }
