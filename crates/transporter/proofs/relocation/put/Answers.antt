use Rattle.std.proofs.Common.{ℕ, ◌≡◌, ◌*◌, ◌<◌, List, length, refl, sym, ap, subst, arith}
use Rattle.std.specs.Prelude.{IfSome}
use Rattle.store_word.specs.Words.{Parts}
use Rattle.mem_port.specs.Spans.{HoldsSpan}
use Rattle.area_space.specs.Table.{Table, slot_of}
use Rattle.area_space.specs.Places.{IsEnd}
use Rattle.area_space.specs.Flips.{survivor}
use Rattle.transporter.specs.Parcels.{word_count_of}
use Rattle.transporter.proofs.Parcels.{pair-stays}
use Rattle.transporter.proofs.Places.{end_inside, end_apart, some_words, origin_allowed, moves-after_read, commits-noted}
use Rattle.transporter.proofs.relocation.put.Goals as goal

pub hold_places-requires-clause-second_in_range : goal.hold_places-requires-clause-second_in_range
hold_places-requires-clause-second_in_range g c =
    let r = c.requires.can in
    let size = c.new_words-words.ensures in
    let room = end_inside c.args.ground.now.table (slot_of c.args.ground.now.table c.args.class.area (survivor c.args.ground.now.table c.args.class.level)) c.args.placed.now.at (word_count_of c.args.parcel.now) _ r.sound r.end r.size in
    omega arith

pub commit-requires-clause-allowed : goal.commit-requires-clause-allowed
commit-requires-clause-allowed g c = λ slot e.
    let r = c.requires.can in
    let t = c.args.ground.now.table in
    origin_allowed t slot c.args.class.area (survivor t c.args.class.level) c.args.parcel.now.at c.args.placed.now.at (word_count_of c.args.parcel.now) c.args.parcel.now.charge c.args.class r.sound r.stale_is r.old r.level_in r.charged r.end
    (subst (λ (n : ℕ). IsEnd t slot c.args.placed.now.at n) c.new_words-words.ensures e)

pub move_words-requires-clause-can : goal.move_words-requires-clause-can
move_words-requires-clause-can g c =
    let r = c.requires.can in
    let t = c.args.ground.now.table in
    let to = c.args.placed.now.at in
    let fits = r.fits in
    let a = fits.some in
    let b = fits.each in
    let room = end_inside c.args.ground.now.table (slot_of c.args.ground.now.table c.args.class.area (survivor c.args.ground.now.table c.args.class.level)) c.args.placed.now.at (word_count_of c.args.parcel.now) _ r.sound r.end r.size in
    let held = c.in_ok-hold_places.ensures in
    let words : length (g.M.Memory.seen c.hold_places.new.mem).words ≡ length (g.M.Memory.seen c.args.ground.now.mem).words = ap length held.unchanged.words in
    rw c.commit.ensures.memory (record {
      fits = r.fits;
      from_inside = (let within = r.inside in omega arith);
      to_inside = omega arith;
      rest_inside = subst (λ (ws : List Parts). IfSome c.args.parcel.now.rest (λ rest. rest < length ws)) (sym held.unchanged.words) r.rest_inside;
      apart = end_apart t _ to (word_count_of c.args.parcel.now) _ c.args.parcel.now.at c.args.parcel.now.words r.sound r.end r.old.region r.one_region (omega arith);
      from_held = held.first_held;
      to_held = subst (λ (n : ℕ). HoldsSpan (g.M.Memory.held c.hold_places.new.mem) (record { at = c.args.placed.now.at; words = n })) c.new_words-words.ensures held.second_held;
    })

pub move_words-requires-clause-pair : goal.move_words-requires-clause-pair
move_words-requires-clause-pair g c = rw c.commit.ensures.memory (pair-stays c.args.parcel.now c.args.pair c.in_ok-hold_places.ensures.unchanged.words c.requires.pair)

pub note_moved-requires : goal.note_moved-requires
note_moved-requires g c =
    let r = c.requires.can in
    let size = c.new_words-words.ensures in
    let few = some_words c.args.parcel.now r.fits in
    let room = end_inside c.args.ground.now.table (slot_of c.args.ground.now.table c.args.class.area (survivor c.args.ground.now.table c.args.class.level)) c.args.placed.now.at (word_count_of c.args.parcel.now) (4096 * c.args.ground.now.table.regions) r.sound r.end refl in
    let regions : c.commit.new.self.table.regions ≡ c.args.ground.now.table.regions = ap (λ (t : Table). t.regions) (c.commit.ensures.table (slot_of c.args.ground.now.table c.args.class.area (survivor c.args.ground.now.table c.args.class.level)) (subst (λ (n : ℕ). IsEnd c.args.ground.now.table (slot_of c.args.ground.now.table c.args.class.area (survivor c.args.ground.now.table c.args.class.level)) c.args.placed.now.at n) (sym size) r.end)) in
    omega arith

pub returns-clause-moved : goal.returns-clause-moved
returns-clause-moved g c =
    let moved = c.in_ok-move_words.ensures.moved in
    moves-after_read c.in_ok-hold_places.ensures.unchanged (rw (← c.commit.ensures.memory) moved)

pub returns-clause-placed : goal.returns-clause-placed
returns-clause-placed g c =
    let r = c.requires.can in
    let size = c.new_words-words.ensures in
    let t = c.args.ground.now.table in
    let is = c.commit.ensures.table (slot_of t c.args.class.area (survivor t c.args.class.level)) (subst (λ (n : ℕ). IsEnd t (slot_of t c.args.class.area (survivor t c.args.class.level)) c.args.placed.now.at n) (sym size) r.end) in
    commits-noted c.args.class (ap (λ b. record c.args.class { stale = b }) r.stale_is) (rw size at is) (rw size at c.commit.ensures.pages) (rw size at c.note_moved.ensures.after)
