-- The trouble with a refused line of the world.
use Rattle.std.proofs.Common.{ap, ◌+◌, Err}
use Rattle.world_text.specs.Reader.{IsRefusal, Said as WorldSaid}
use Rattle.world_text.specs.declared.fault.WorldFault.{WorldFault}
use Rattle.world_text.specs.declared.fault.WorldFault.TheVariants.{Bad, TooSmall, Exhausted, NoMemory}
use Rattle.line_input.specs.Statuses.{world_trouble}
use Rattle.input_verdict.specs.Input.{JudgedInput}
use Rattle.input_verdict.specs.Places.{Judged}
use Rattle.input_verdict.specs.Verdict.{world_next}

pub refused : (old new : JudgedInput) (fault : WorldFault) (said : WorldSaid) → IsRefusal fault said → Judged old new (Err (world_trouble (old.lines + 1) old.judge.builder.world.areas fault)) (world_next old said)
refused old new (Bad reason) said is = (tt, ap (world_next old) is)
refused old new TooSmall said is = (tt, ap (world_next old) is)
refused old new (Exhausted area charged wanted quota) said is = (tt, ap (world_next old) is)
refused old new NoMemory said is = tt
