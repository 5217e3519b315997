use Rattle.heap_collect.proofs.ScanSequences.{some_of}
use Rattle.test_collect.proofs.Machines.{clean_of}
use Rattle.test_collect.proofs.machine.Machine.lowest_page.Goals as goal

pub lowest_page-requires : goal.lowest_page-requires
lowest_page-requires g c going =
    let some = some_of c.self.inside.ground.table.aim c.condemned.result c.is_none.result c.condemned.ensures c.is_none.ensures c.if-is_none.false in
    (clean_of c.self.invariant some).paged
