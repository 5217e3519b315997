use Rattle.mem_port.proofs.PlainLaws.{plain_memory}
use Rattle.mem_port.proofs.plain.PlainMemoryMemory.hold.Goals as goal

pub returns-clause-sound : goal.returns-clause-sound
returns-clause-sound g c = plain_memory _ c.self.invariant
