use Rattle.store_word.proofs.SetLaws.{meets_at}
use Rattle.store_word.specs.Sets.{HasLevel}
use Rattle.mem_port.specs.Store.{level_of_word}
use Rattle.mem_port.proofs.memory.marks_tell_levels.Goals as goal

pub returns : goal.returns
returns c = λ s pages page set at word sound none on found more has.
    let marked : HasLevel (s.marks page) (level_of_word s.levels word) = rw (← on) (sound.marked at word found more) in
    none (meets_at (s.marks page) set (level_of_word s.levels word) marked has)
