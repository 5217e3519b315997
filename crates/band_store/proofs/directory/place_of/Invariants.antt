use Rattle.std.proofs.Common.{◌-◌}
use Rattle.band_store.proofs.Names.{IsNarrowed}
use Rattle.band_store.proofs.directory.place_of.Given as goal

abbrev pub invariant-loop-low : goal.invariant-loop-low
invariant-loop-low l = IsNarrowed l.bands l.name l.low l.high

abbrev pub decreases-loop-low : goal.decreases-loop-low
decreases-loop-low l = l.high - l.low
