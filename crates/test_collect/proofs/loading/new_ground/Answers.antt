use Rattle.std.proofs.Common.{arith}
use Rattle.mem_port.proofs.StoreLaws.{fresh_memory}
use Rattle.test_collect.proofs.SmallWorld.{small_represents}
use Rattle.test_collect.proofs.loading.new_ground.Goals as goal

pub returns : goal.returns
returns g c = small_represents _ _ c.args.world.now c.requires.at_most c.requires.fresh c.in-Ok.ensures c.regions-regions.ensures.sound

pub invariant_of-result : goal.invariant_of-result
invariant_of-result g c = record { sound = fresh_memory _ 16 1 (omega arith) (omega arith) c.requires.fresh }
