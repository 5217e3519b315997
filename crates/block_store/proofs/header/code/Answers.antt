use Rattle.std.proofs.Common.{rules}
use Rattle.block_store.proofs.BlockReferences.{can_find, tells_code}
use Rattle.block_store.proofs.HeaderReads.{looks, told}
use Rattle.block_store.proofs.header.code.Goals as goal

pub find-requires : goal.find-requires
find-requires g c = can_find (g.M.Memory.seen c.args.ground.now.mem) c.args.ground.now.table c.args.of.content c.requires

pub returns-clause-value : goal.returns-clause-value
returns-clause-value g c = tells_code (g.M.Memory.seen c.args.ground.now.mem) c.args.ground.now.table c.args.of.content c.in_ok-head.head c.in_ok-head.ensures.value

pub returns-clause-costs : goal.returns-clause-costs
returns-clause-costs g c =
    let head = c.in_ok-head.ensures in
    told _ _ c.args.ground.now.table c.args.of _ _ _ head.unchanged (λ other. let e = head.refused.1 other in cc) head.accounted head.cost

pub returns-in_err-head-clause-costs : goal.returns-in_err-head-clause-costs
returns-in_err-head-clause-costs g c =
    let head = c.in_err-head.ensures in
    looks _ _ c.args.ground.now.table c.args.of c.from_residual.result _ _ head.unchanged (search rules) (search rules) (search rules) head.cost
