use Rattle.std.proofs.Common.{◌≡◌, Some, sym, ◌∙◌, ap, Option}
use Rattle.paged_machine.specs.Holding.{Holding, holding}
use Rattle.paged_machine.specs.declared.machine.MachineStage.{MachineStage}
use Rattle.paged_machine.specs.declared.machine.MachineStage.TheVariants.{Heap}
use Rattle.paged_machine.proofs.OpenableWorlds.{stands_on}
use Rattle.paged_machine.proofs.machine.MachineEngine.dump.Goals as goal

pub returns-clause-stands : goal.returns-clause-stands
returns-clause-stands g c =
    let stage : c.self.inside.stage ≡ Some (Heap c.in-Some-Heap.heap) = cc (c.take.ensures.value, c.in-Some-Heap.is) in
    rw c.put.ensures
    (stands_on c.args.self.now.heap c.in-Some-Heap.heap c.dump-heap.result.0
    (sym (ap (λ (h : Holding). h.heap) c.self.view_is) ∙ ap (λ (h : Option (MachineStage g.row.D.Denot)). (holding g.D.Swap.faults h).heap) stage) c.dump-heap.ensures.stands)
