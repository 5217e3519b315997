use Rattle.heap_collect.proofs.ScanSequences.{some_of}
use Rattle.test_collect.proofs.Machines.{clean_of}
use Rattle.test_collect.proofs.machine.Machine.units_left.Goals as goal

pub units_left-requires : goal.units_left-requires
units_left-requires g c =
    let some = some_of c.self.inside.ground.table.aim c.condemned.result c.is_none.result c.condemned.ensures c.is_none.ensures c.if-is_none.false in
    rw (c.deref.ensures.value) (clean_of c.self.invariant some)
