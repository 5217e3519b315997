use Rattle.std.proofs.Common.{◌+◌, ◌≤◌, ap, arith}
use Rattle.store_word.specs.Words.{Parts}
use Rattle.area_space.specs.Table.{quota_of}
use Rattle.area_space.specs.Accounts.{account_of}
use Rattle.test_ground.proofs.NewObjects.{enough-room, reserved-inside, reserved-small, open-pair}
use Rattle.test_ground.proofs.transports.trial.Trial.cons.Goals as goal

pub reserve-at-requires-clause-in_range : goal.reserve-at-requires-clause-in_range
reserve-at-requires-clause-in_range g c =
    let a = c.account.ensures.value in
    let q = c.quota.ensures.value in
    let fits = c.if-account-quota.false in
    enough-room 2 2 c.requires (omega arith) (omega arith)

pub write_pair-requires-clause-in_range : goal.write_pair-requires-clause-in_range
write_pair-requires-clause-in_range g c = reserved-inside c.reserve-at.result 2 2 c.reserve-at.ensures

pub list_at-self-requires : goal.list_at-self-requires
list_at-self-requires g c = let small = reserved-small c.reserve-at.result 2 2 c.reserve-at.ensures in omega arith

pub returns : goal.returns
returns g c =
    let a = c.account.ensures.value in
    let q = c.quota.ensures.value in
    let fits = c.if-account-quota.false in
    let room : account_of c.args.self.now.ground.table 0 + 2 ≤ quota_of c.args.self.now.ground.table 0 = omega arith in
    open-pair c.reserve-at.result c.fixnum-car.result (ap (λ (w : Parts). w.content) c.fixnum-car.ensures) c.requires c.reserve-at.ensures c.in_ok-write_pair.ensures.written room (ap (λ (w : Parts). w.content) c.list_at-self.ensures)
