use Rattle.std.proofs.Common.{ℕ, ◌≡◌, ◌<◌, slice_index, length}
use Rattle.area_space.proofs.table.RegionTable.mark_all.Given as goal
use Rattle.area_space.specs.Flips.{IsFlipMark}
use Rattle.area_space.specs.Sound.{IsTable}
use Rattle.area_space.specs.Table.{Table}

-- the marks so far are set
abbrev pub invariant-loop-region : goal.invariant-loop-region
invariant-loop-region l = record {
  same : l.self ≡ (let t : Table = record l.fn.self { marks = l.self.marks } in t);
  sound : IsTable l.self;
  size : length l.self.marks ≡ l.fn.self.regions;
  marks : (r : ℕ) → r < l.region → IsFlipMark l.fn.self r (slice_index l.self.marks r);
}
