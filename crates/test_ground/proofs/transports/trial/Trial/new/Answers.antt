use Rattle.mem_port.proofs.StoreLaws.{fresh_memory}
use Rattle.std.proofs.Common.{ap}
use Rattle.store_word.specs.Words.{Parts}
use Rattle.test_ground.proofs.MachineFlip.{open-new}
use Rattle.test_ground.proofs.transports.trial.Trial.new.Goals as goal

pub returns : goal.returns
returns g c =
    let r = c.requires in
    open-new c.args.space.now c.args.areas.now r.fresh c.in_ok-table.ensures c.regions-regions.ensures.sound r.room r.areas (ap (λ (w : Parts). w.content) c.nil.ensures) (ap (λ (w : Parts). w.content) c.nil-2.ensures)

pub invariant_of-result : goal.invariant_of-result
invariant_of-result g c = record { sound = fresh_memory _ _ _ c.requires.regions.1 c.requires.levels c.requires.fresh }
