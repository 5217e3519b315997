use Rattle.mem_port.specs.Plain.{plain_store}
use Rattle.one_area.specs.OneArea.{IsOneArea}
use Rattle.bench_parts.proofs.fills.put_blocks.Given as goal

abbrev pub invariant-loop : goal.invariant-loop
invariant-loop l = IsOneArea (plain_store l.area.ground.mem) l.area.ground.table l.area.live_words l.area.old_words l.area.moving
