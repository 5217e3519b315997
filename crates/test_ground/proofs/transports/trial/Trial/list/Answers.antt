use Rattle.std.proofs.Common.{◌+◌, ◌*◌, ◌≤◌, ap, arith}
use Rattle.store_word.specs.Words.{Parts}
use Rattle.area_space.specs.Table.{quota_of}
use Rattle.area_space.specs.Accounts.{account_of}
use Rattle.test_ground.proofs.NewObjects.{enough-room, reserved-inside, reserved-small, open-cells}
use Rattle.test_ground.proofs.transports.trial.Trial.list.Goals as goal

pub reserve-at-requires-clause-in_range : goal.reserve-at-requires-clause-in_range
reserve-at-requires-clause-in_range g c =
    let a = c.account.ensures.value in
    let q = c.quota.ensures.value in
    let fits = c.if-account-cells.false in
    enough-room c.args.count (3 * c.args.count) c.requires.«open» (omega arith) (omega arith)

pub write_cells-requires-clause-in_range : goal.write_cells-requires-clause-in_range
write_cells-requires-clause-in_range g c = reserved-inside c.reserve-at.result c.args.count (3 * c.args.count) c.reserve-at.ensures

pub list_at-self-requires : goal.list_at-self-requires
list_at-self-requires g c = let small = reserved-small c.reserve-at.result c.args.count (3 * c.args.count) c.reserve-at.ensures in omega arith

pub list_at-self-requires-2 : goal.list_at-self-requires-2
list_at-self-requires-2 g c =
    let small = reserved-small c.reserve-at.result c.args.count (3 * c.args.count) c.reserve-at.ensures in
    let low = c.requires.in_range in
    omega arith

pub returns : goal.returns
returns g c =
    let a = c.account.ensures.value in
    let q = c.quota.ensures.value in
    let fits = c.if-account-cells.false in
    let room : account_of c.args.self.now.ground.table 0 + 3 * c.args.count ≤ quota_of c.args.self.now.ground.table 0 = omega arith in
    open-cells c.reserve-at.result c.args.count c.args.index c.requires.«open» c.reserve-at.ensures c.in_ok-write_cells.ensures.written room c.requires.at_most c.requires.in_range
    (ap (λ (w : Parts). w.content) c.list_at-self.ensures) (ap (λ (w : Parts). w.content) c.list_at-self-2.ensures)
