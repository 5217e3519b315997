use Rattle.std.proofs.Common.{◌+◌, ◌*◌, ◌≤◌, refl, sym, ap, subst, arith, List, length}
use Rattle.store_word.specs.Words.{Parts}
use Rattle.mem_port.specs.Store.{Store}
use Rattle.area_space.specs.Accounts.{account_of}
use Rattle.area_space.specs.Table.{quota_of, slot_of}
use Rattle.obj_layout.proofs.ForwardChains.{stores_nothing-twice}
use Rattle.transporter.proofs.MovedParcels.{opened-words}
use Rattle.test_ground.specs.Trials.{IsOpen}
use Rattle.test_ground.proofs.NewObjects.{open-same, enough-room, reserved-inside}
use Rattle.test_ground.proofs.Relocations.{block-final, front-block, block-inside, block-apart, in_live, husk-enough, open-grown}
use Rattle.test_ground.proofs.transports.trial.Trial.grow.Goals as goal

pub resolve-requires : goal.resolve-requires
resolve-requires g c = block-final c.requires c.in-Struct.front (sym c.in-Struct.ensures.value)

pub returns-in_default-content : goal.returns-in_default-content
returns-in_default-content g c = open-same c.requires (stores_nothing-twice c.in_ok-at.ensures.unchanged c.in_ok-header.ensures.unchanged)

pub returns-then-length-gt1023 : goal.returns-then-length-gt1023
returns-then-length-gt1023 g c = open-same c.requires (stores_nothing-twice c.in_ok-at.ensures.unchanged c.in_ok-header.ensures.unchanged)

pub returns-then-account-words : goal.returns-then-account-words
returns-then-account-words g c = open-same c.requires (stores_nothing-twice c.in_ok-at.ensures.unchanged c.in_ok-header.ensures.unchanged)

pub reserve-to-requires-clause-in_range : goal.reserve-to-requires-clause-in_range
reserve-to-requires-clause-in_range g c =
    let a = c.account.ensures.value in
    let q = c.quota.ensures.value in
    let fits = c.if-account-words.false in
    enough-room (2 * c.in-Header.length + 2) (2 * c.in-Header.length + 2) c.requires (omega arith) (omega arith)

pub reserve-to-requires-clause-ground : goal.reserve-to-requires-clause-ground
reserve-to-requires-clause-ground g c = (open-same c.requires (stores_nothing-twice c.in_ok-at.ensures.unchanged c.in_ok-header.ensures.unchanged)).on.ground

pub reserve-to-requires-clause-named : goal.reserve-to-requires-clause-named
reserve-to-requires-clause-named g c = (open-same c.requires (stores_nothing-twice c.in_ok-at.ensures.unchanged c.in_ok-header.ensures.unchanged)).on.named

pub write_wider-requires-clause-from : goal.write_wider-requires-clause-from
write_wider-requires-clause-from g c =
    let b = front-block c.in-Struct.front c.in_ok-at.at c.in-Header.code c.in-Header.length c.requires c.in-Struct.ensures.value c.in_ok-at.ensures.unchanged c.in_ok-header.ensures.unchanged c.in_ok-at.ensures.value c.in_ok-at.ensures.last c.in_ok-header.ensures.value c.in-Header.ensures.value in
    let inside = block-inside b in
    let same = ap (λ (ws : List Parts). length ws) (opened-words c.reserve-to.ensures.region c.reserve-to.ensures.opens) in
    omega arith

pub write_wider-requires-clause-to : goal.write_wider-requires-clause-to
write_wider-requires-clause-to g c =
    let inside = reserved-inside c.reserve-to.result (2 * c.in-Header.length + 2) (2 * c.in-Header.length + 2) c.reserve-to.ensures in
    omega arith

pub write_wider-requires-clause-apart : goal.write_wider-requires-clause-apart
write_wider-requires-clause-apart g c =
    let b = front-block c.in-Struct.front c.in_ok-at.at c.in-Header.code c.in-Header.length c.requires c.in-Struct.ensures.value c.in_ok-at.ensures.unchanged c.in_ok-header.ensures.unchanged c.in_ok-at.ensures.value c.in_ok-at.ensures.last c.in_ok-header.ensures.value c.in-Header.ensures.value in
    block-apart b c.reserve-to.result c.reserve-to.ensures

pub leave_husk-requires-clause-in_range : goal.leave_husk-requires-clause-in_range
leave_husk-requires-clause-in_range g c =
    let b = front-block c.in-Struct.front c.in_ok-at.at c.in-Header.code c.in-Header.length c.requires c.in-Struct.ensures.value c.in_ok-at.ensures.unchanged c.in_ok-header.ensures.unchanged c.in_ok-at.ensures.value c.in_ok-at.ensures.last c.in_ok-header.ensures.value c.in-Header.ensures.value in
    let inside = block-inside b in
    let same = ap (λ (ws : List Parts). length ws) (opened-words c.reserve-to.ensures.region c.reserve-to.ensures.opens) in
    let size = c.in_ok-write_wider.ensures.size in
    omega arith

pub leave_husk-requires-clause-to : goal.leave_husk-requires-clause-to
leave_husk-requires-clause-to g c =
    let inside = reserved-inside c.reserve-to.result (2 * c.in-Header.length + 2) (2 * c.in-Header.length + 2) c.reserve-to.ensures in
    let size = c.in_ok-write_wider.ensures.size in
    omega arith

pub note_husk-requires-clause-in_range : goal.note_husk-requires-clause-in_range
note_husk-requires-clause-in_range g c =
    let b = front-block c.in-Struct.front c.in_ok-at.at c.in-Header.code c.in-Header.length c.requires c.in-Struct.ensures.value c.in_ok-at.ensures.unchanged c.in_ok-header.ensures.unchanged c.in_ok-at.ensures.value c.in_ok-at.ensures.last c.in_ok-header.ensures.value c.in-Header.ensures.value in
    (slot_of c.reserve-to.ensures.room 0 0, in_live b c.reserve-to.result c.reserve-to.ensures c.if-length-gt1023.false (c.if-not-is_first_class.ensures refl))

pub note_husk-requires-clause-at_most : goal.note_husk-requires-clause-at_most
note_husk-requires-clause-at_most g c =
    let b = front-block c.in-Struct.front c.in_ok-at.at c.in-Header.code c.in-Header.length c.requires c.in-Struct.ensures.value c.in_ok-at.ensures.unchanged c.in_ok-header.ensures.unchanged c.in_ok-at.ensures.value c.in_ok-at.ensures.last c.in_ok-header.ensures.value c.in-Header.ensures.value in
    husk-enough b c.reserve-to.result c.reserve-to.ensures c.if-length-gt1023.false (c.if-not-is_first_class.ensures refl)

pub returns : goal.returns
returns g c =
    let b = front-block c.in-Struct.front c.in_ok-at.at c.in-Header.code c.in-Header.length c.requires c.in-Struct.ensures.value c.in_ok-at.ensures.unchanged c.in_ok-header.ensures.unchanged c.in_ok-at.ensures.value c.in_ok-at.ensures.last c.in_ok-header.ensures.value c.in-Header.ensures.value in
    let a = c.account.ensures.value in
    let q = c.quota.ensures.value in
    let fits = c.if-account-words.false in
    let t = c.args.self.now.ground.table in
    let room : account_of t 0 + (2 * c.in-Header.length + 2) ≤ quota_of t 0 = omega arith in
    let there = in_live b c.reserve-to.result c.reserve-to.ensures c.if-length-gt1023.false (c.if-not-is_first_class.ensures refl) in
    let memory = ap g.M.Memory.seen c.note_husk.ensures.memory in
    subst (λ (m : Store). IsOpen m c.note_husk.new.self.table c.args.self.now.front c.args.self.now.middle) (sym memory)
    (open-grown b c.reserve-to.result c.reserve-to.ensures c.if-length-gt1023.false (c.if-not-is_first_class.ensures refl) room c.in_ok-write_wider.ensures.written c.in_ok-leave_husk.ensures.written
    (c.note_husk.ensures.table (slot_of c.reserve-to.ensures.room 0 0) there) c.note_husk.ensures.sound)
