use Rattle.std.proofs.Common.{◌+◌, ◌≤◌, ap, arith}
use Rattle.store_word.specs.Words.{Parts}
use Rattle.area_space.specs.Table.{quota_of}
use Rattle.area_space.specs.Accounts.{account_of}
use Rattle.test_ground.proofs.NewObjects.{enough-room, reserved-inside, reserved-small, open-block}
use Rattle.test_ground.proofs.transports.trial.Trial.block.Goals as goal

pub reserve-at-requires-clause-in_range : goal.reserve-at-requires-clause-in_range
reserve-at-requires-clause-in_range g c =
    let a = c.account.ensures.value in
    let q = c.quota.ensures.value in
    let fits = c.if-account-words.false in
    enough-room (c.args.fields + 1) (c.args.fields + 1) c.requires.«open» (omega arith) (omega arith)

pub write_block-requires-clause-in_range : goal.write_block-requires-clause-in_range
write_block-requires-clause-in_range g c = let room = reserved-inside c.reserve-at.result (c.args.fields + 1) (c.args.fields + 1) c.reserve-at.ensures in omega arith

pub struct_at-self-requires : goal.struct_at-self-requires
struct_at-self-requires g c = let small = reserved-small c.reserve-at.result (c.args.fields + 1) (c.args.fields + 1) c.reserve-at.ensures in omega arith

pub returns : goal.returns
returns g c =
    let a = c.account.ensures.value in
    let q = c.quota.ensures.value in
    let fits = c.if-account-words.false in
    let room : account_of c.args.self.now.ground.table 0 + (c.args.fields + 1) ≤ quota_of c.args.self.now.ground.table 0 = omega arith in
    open-block c.reserve-at.result c.args.fields c.requires.«open» c.reserve-at.ensures c.in_ok-write_block.ensures.written room (ap (λ (w : Parts). w.content) c.struct_at-self.ensures)
