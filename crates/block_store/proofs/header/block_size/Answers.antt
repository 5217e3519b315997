use Rattle.block_store.proofs.BlockReferences.{can_find, tells_length}
use Rattle.block_store.proofs.GrowthRoom.{live_head, tells_area}
use Rattle.block_store.proofs.HeaderReads.{told}
use Rattle.block_store.proofs.header.block_size.Goals as goal

pub find-requires : goal.find-requires
find-requires g c = can_find (g.M.Memory.seen c.args.ground.now.mem) c.args.ground.now.table c.args.of.content c.requires.represented

pub class_of_live-class-requires-clause-live : goal.class_of_live-class-requires-clause-live
class_of_live-class-requires-clause-live g c = live_head _ _ c.args.of c.requires.represented c.requires.fresh c.in_ok-head.head c.in_ok-head.ensures.value

pub returns-clause-area : goal.returns-clause-area
returns-clause-area g c = tells_area (g.M.Memory.seen c.args.ground.now.mem) c.args.ground.now.table c.args.of.content c.in_ok-head.head c.in_ok-head.ensures.value c.class_of_live-class.result c.class_of_live-class.ensures.value

pub returns-clause-size : goal.returns-clause-size
returns-clause-size g c = tells_length (g.M.Memory.seen c.args.ground.now.mem) c.args.ground.now.table c.args.of.content c.in_ok-head.head c.in_ok-head.ensures.value

pub returns-clause-costs : goal.returns-clause-costs
returns-clause-costs g c =
    let head = c.in_ok-head.ensures in
    told _ _ c.args.ground.now.table c.args.of _ _ _ head.unchanged (λ other. let e = head.refused.1 other in cc) head.accounted head.cost
