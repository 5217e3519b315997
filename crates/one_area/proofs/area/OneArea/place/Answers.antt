use Rattle.std.proofs.Common.{arith}
use Rattle.mem_port.specs.Plain.{plain_store}
use Rattle.one_area.proofs.OneAreas.{area_words, end_first, area_placed, quota_placed}
use Rattle.one_area.proofs.area.OneArea.place.Goals as goal

pub place-requires-clause-in_range : goal.place-requires-clause-in_range
place-requires-clause-in_range c =
    let now = c.args.self.now in
    let words = area_words (plain_store now.ground.mem) now.ground.table now.live_words now.old_words now.moving c.requires in
    let quota = c.quota-quota.ensures.value in
    let fits = c.if-self-words.false in
    omega arith

pub returns-clause-sound : goal.returns-clause-sound
returns-clause-sound c =
    let now = c.args.self.now in
    let made = c.place.new.self in
    let p = c.place.ensures in
    area_placed c.place.result.opened (plain_store now.ground.mem) (plain_store made.mem) now.ground.table made.table now.live_words now.old_words now.moving p.sound p.unchanged p.memory p.table p.opened p.free p.stays_ground c.requires

pub returns-clause-end : goal.returns-clause-end
returns-clause-end c = end_first c.args.self.now.ground.table c.place.new.self.table c.place.result.at c.args.words c.place.ensures.end

pub returns-clause-in_range : goal.returns-clause-in_range
returns-clause-in_range c =
    let same = quota_placed c.place.result.opened c.args.self.now.ground.table c.place.new.self.table c.place.ensures.unchanged c.place.ensures.table in
    let quota = c.quota-quota.ensures.value in
    let fits = c.if-self-words.false in
    omega arith
