use Rattle.std.proofs.Common.{ℕ, ◌+◌, ◌*◌, ◌<◌, ◌≤◌, sym, subst, arith}
use Rattle.area_space.specs.Table.{levels_of, quota_of}
use Rattle.area_space.specs.Room.{words_of_area}
use Rattle.transporter.proofs.Parcels.{pair-stays}
use Rattle.transporter.proofs.Places.{opens-words, same_area, can-put, survivor_in, opens-there, end-there, relocates, opens-only, on-err}
use Rattle.transporter.proofs.relocation.relocate.Goals as goal

pub place_for-placed-requires-clause-in_range : goal.place_for-placed-requires-clause-in_range
place_for-placed-requires-clause-in_range g c =
    let r = c.requires.can in
    let t = c.args.ground.now.table in
    let class = c.args.class in
    let words = c.new_words.ensures in
    let within : words_of_area t r.area + c.new_words.result ≤ 2 * quota_of t r.area = (let w = r.within in omega arith) in
    subst (λ (a : ℕ). words_of_area t a + c.new_words.result ≤ 2 * quota_of t a) (sym (same_area t _ _ _ _ _ c.survivor_level-level.ensures.sound c.requires.agrees.old r.old)) within

pub put-requires-clause-can : goal.put-requires-clause-can
put-requires-clause-can g c =
    let t = c.args.ground.now.table in
    let p = c.args.parcel.now in
    let class = c.args.class in
    let old = c.requires.agrees.old in
    let placed = c.place_for-placed in
    let low = survivor_in t class.level old.level_in in
    let s = g.M.Memory.seen c.args.ground.now.mem in
    let s' = g.M.Memory.seen placed.new.ground.mem in
    can-put s t p c.requires.can c.survivor_level-level.ensures.sound class old c.requires.agrees.stale_is low placed.result.at s' placed.new.ground.table placed.result.opened
    (opens-there s t p class old c.survivor_level-level.result c.new_words.result placed.result.at c.survivor_level-level.ensures.value c.new_words.ensures s' placed.new.ground.table placed.result.opened placed.ensures.opened placed.ensures.end placed.ensures.needed)
    (end-there s t p class old c.survivor_level-level.result c.new_words.result placed.result.at c.survivor_level-level.ensures.value c.new_words.ensures s' placed.new.ground.table placed.result.opened placed.ensures.opened placed.ensures.end placed.ensures.needed)

pub put-requires-clause-pair : goal.put-requires-clause-pair
put-requires-clause-pair g c = pair-stays c.args.parcel.now c.args.pair (opens-words c.place_for-placed.result.opened c.place_for-placed.ensures.opened) c.requires.pair

pub returns-in_err-put-clause-fault : goal.returns-in_err-put-clause-fault
returns-in_err-put-clause-fault g c =
    let t = c.args.ground.now.table in
    let p = c.args.parcel.now in
    let class = c.args.class in
    let old = c.requires.agrees.old in
    let placed = c.place_for-placed in
    let s = g.M.Memory.seen c.args.ground.now.mem in
    let s' = g.M.Memory.seen placed.new.ground.mem in
    let low : c.survivor_level-level.result < levels_of t = subst (λ (l : ℕ). l < levels_of t) (sym c.survivor_level-level.ensures.value) (survivor_in t class.level old.level_in) in
    on-err c.from_residual.result (opens-only s t p class old c.survivor_level-level.result c.new_words.result placed.result.at c.survivor_level-level.ensures.value c.new_words.ensures s' placed.new.ground.table placed.result.opened placed.ensures.opened placed.ensures.end placed.ensures.needed
    _ _ low c.in_err-put.ensures.unchanged c.in_err-put.ensures.table)

pub returns-clause-moved : goal.returns-clause-moved
returns-clause-moved g c =
    let t = c.args.ground.now.table in
    let p = c.args.parcel.now in
    let class = c.args.class in
    let old = c.requires.agrees.old in
    let placed = c.place_for-placed in
    let s = g.M.Memory.seen c.args.ground.now.mem in
    let s' = g.M.Memory.seen placed.new.ground.mem in
    relocates s t p class old c.survivor_level-level.result c.new_words.result placed.result.at c.survivor_level-level.ensures.value c.new_words.ensures s' placed.new.ground.table placed.result.opened placed.ensures.opened placed.ensures.end placed.ensures.needed
    _ _ c.in_ok-put.ensures.sound c.in_ok-put.ensures.moved c.in_ok-put.ensures.placed
