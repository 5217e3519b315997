use Rattle.std.proofs.Common.{refl, sym, ◌∙◌, ap, arith, List, length, slice_get}
use Rattle.store_word.specs.Words.{Parts}
use Rattle.transporter.proofs.MovedParcels.{opened-words}
use Rattle.test_ground.proofs.NewObjects.{open-same, enough-room, reserved-inside}
use Rattle.test_ground.proofs.Relocations.{cell-inside, open-cut}
use Rattle.test_ground.proofs.transports.trial.Trial.cut.Goals as goal

pub returns-then-not-is_cell : goal.returns-then-not-is_cell
returns-then-not-is_cell g c = open-same c.requires c.in_ok-car.ensures.unchanged

pub returns-then-account-quota : goal.returns-then-account-quota
returns-then-account-quota g c = open-same c.requires c.in_ok-car.ensures.unchanged

pub reserve-at-requires-clause-in_range : goal.reserve-at-requires-clause-in_range
reserve-at-requires-clause-in_range g c =
    let a = c.account.ensures.value in
    let q = c.quota.ensures.value in
    let fits = c.if-account-quota.false in
    enough-room 2 2 c.requires (omega arith) (omega arith)

pub reserve-at-requires-clause-ground : goal.reserve-at-requires-clause-ground
reserve-at-requires-clause-ground g c = (open-same c.requires c.in_ok-car.ensures.unchanged).on.ground

pub write_pair-requires-clause-in_range : goal.write_pair-requires-clause-in_range
write_pair-requires-clause-in_range g c = reserved-inside c.reserve-at.result 2 0 c.reserve-at.ensures

pub leave_husk-requires-clause-in_range : goal.leave_husk-requires-clause-in_range
leave_husk-requires-clause-in_range g c =
    let x = open-same c.requires c.in_ok-car.ensures.unchanged in
    let inside = cell-inside x c.in-List.cell (sym c.in-List.ensures.value) in
    let same = ap (λ (ws : List Parts). length ws) (opened-words c.reserve-at.ensures.region c.reserve-at.ensures.opens) in
    let size = c.in_ok-write_pair.ensures.size in
    omega arith

pub leave_husk-requires-clause-to : goal.leave_husk-requires-clause-to
leave_husk-requires-clause-to g c =
    let inside = reserved-inside c.reserve-at.result 2 0 c.reserve-at.ensures in
    let size = c.in_ok-write_pair.ensures.size in
    omega arith

pub returns : goal.returns
returns g c =
    let stays = c.in_ok-car.ensures.unchanged in
    let read = ap (λ (ws : List Parts). slice_get ws c.in-List.cell) stays.words ∙ c.in_ok-car.ensures.value in
    open-cut c.in-List.cell c.reserve-at.result c.in_ok-car.car c.nil.result (open-same c.requires stays) (sym c.in-List.ensures.value) read (c.if-not-is_cell.ensures.here refl) (c.if-not-is_cell.ensures.cell refl) (c.if-not-is_first_class.ensures refl)
    (ap (λ (w : Parts). w.content) c.nil.ensures) c.reserve-at.ensures c.in_ok-write_pair.ensures.written c.in_ok-leave_husk.ensures.written
