use Rattle.std.proofs.Common.{◌≡◌, ◌<◌, ◌≤◌, ◌+◌, ℕ, Some, arith}
use Rattle.mem_port.proofs.StoreLaws.{level_memory}
use Rattle.area_space.proofs.Room.{some_free, fits_share}
use Rattle.area_space.proofs.NewRegionWords.{unused_from_free, opened_end, ground_opened, named_opened}
use Rattle.index_lists.specs.Chains.{last_of}
use Rattle.area_space.specs.Table.{Table, chain, live, slot_of, used_of}
use Rattle.area_space.proofs.ground.Ground.place.Goals as goal

-- if words don't fit after the used end of a region, it is more than half full
half_full : (t : Table) (area level words : ℕ) → words ≤ 2048 → ((r : ℕ) → last_of (chain t (live (slot_of t area level))) ≡ Some r → 4096 < used_of t r + words)
    → (r : ℕ) → last_of (chain t (live (slot_of t area level))) ≡ Some r → 2048 < used_of t r
half_full t area level words few full r is = let more = full r is in omega arith

pub lowest_free-region-requires : goal.lowest_free-region-requires
lowest_free-region-requires g c =
    let t = c.args.self.now.table in
    let v = c.in-None.ensures.sound in
    some_free t c.args.area v c.requires.room c.requires.area (fits_share t c.args.area c.args.level v c.requires.level (half_full c.args.self.now.table c.args.area c.args.level c.args.words c.requires.at_most c.in-None.ensures.none) (let few = c.requires.in_range in omega arith))

pub set_level-requires-clause-free : goal.set_level-requires-clause-free
set_level-requires-clause-free g c =
    unused_from_free (g.M.Memory.seen c.args.self.now.mem) c.args.self.now.table c.lowest_free-region.result c.in-None.ensures.sound c.requires.ground c.requires.named c.lowest_free-region.ensures.free

pub open-requires-clause-at_most : goal.open-requires-clause-at_most
open-requires-clause-at_most g c =
    fits_share c.args.self.now.table c.args.area c.args.level c.in-None.ensures.sound c.requires.level (half_full c.args.self.now.table c.args.area c.args.level c.args.words c.requires.at_most c.in-None.ensures.none) (let few = c.requires.in_range in omega arith)

pub overflow_mul-result : goal.overflow_mul-result
overflow_mul-result g c = let few = c.in-None.ensures.sound.few_regions in omega (arith, c.lowest_free-region.ensures.in_range)

pub returns-in-None-clause-end : goal.returns-in-None-clause-end
returns-in-None-clause-end g c =
    rw c.«open».ensures.table (opened_end c.args.self.now.table c.args.area c.args.level c.lowest_free-region.result c.args.words c.in-None.ensures.sound c.requires.area c.requires.level c.lowest_free-region.ensures.free c.requires.at_most)

pub returns-in-None-clause-stays_ground : goal.returns-in-None-clause-stays_ground
returns-in-None-clause-stays_ground g c =
    rw (c.«open».ensures.table, c.set_level.ensures.level) (ground_opened (g.M.Memory.seen c.args.self.now.mem) c.args.self.now.table c.args.area c.args.level c.lowest_free-region.result c.in-None.ensures.sound c.requires.ground c.requires.area c.requires.level c.lowest_free-region.ensures.in_range c.lowest_free-region.ensures.free)

pub returns-in-None-clause-stays_named : goal.returns-in-None-clause-stays_named
returns-in-None-clause-stays_named g c =
    rw (c.«open».ensures.table, c.set_level.ensures.level) (named_opened (g.M.Memory.seen c.args.self.now.mem) c.args.self.now.table c.args.area c.args.level c.lowest_free-region.result c.in-None.ensures.sound c.requires.area c.requires.level c.requires.named)

pub open-requires-clause-needed : goal.open-requires-clause-needed
open-requires-clause-needed g c = half_full c.args.self.now.table c.args.area c.args.level c.args.words c.requires.at_most c.in-None.ensures.none

pub invariant_of-self : goal.invariant_of-self
invariant_of-self g c =
    let m = g.M.Memory.seen c.args.self.now.mem in
    let t = c.args.self.now.table in
    let free = unused_from_free m t c.lowest_free-region.result c.in-None.ensures.sound c.requires.ground c.requires.named c.lowest_free-region.ensures.free in
    record { sound = rw (c.set_level.ensures.level) (level_memory m c.lowest_free-region.result c.args.level c.args.self.now.sound (omega (arith, c.requires.ground.levels_size, c.lowest_free-region.ensures.in_range)) (omega (arith, c.requires.ground.top, c.requires.level)) free) }
