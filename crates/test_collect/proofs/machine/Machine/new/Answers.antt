use Rattle.mem_port.proofs.StoreLaws.{fresh_memory}
use Rattle.test_collect.proofs.NewMachine.{opened_machine}
use Rattle.test_collect.proofs.machine.Machine.new.Goals as goal

pub invariant_of-result-2 : goal.invariant_of-result-2
invariant_of-result-2 g c =
    let r = c.requires in
    rw (c.in_ok-table.ensures, c.in_ok-scan.ensures, c.in_ok-registers.ensures)
    (opened_machine (g.M.Memory.seen c.args.mem) _ c.args.space.now c.args.areas r.sizes r.size r.rate r.rules r.room r.fresh (fresh_memory _ _ _ r.sizes.regions.1 r.sizes.levels.1 r.fresh))
