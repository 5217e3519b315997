use Rattle.std.proofs.Common.{◌+◌, ◌-◌, ◌/◌, arith}
use Rattle.band_store.proofs.Names.{compared, narrow_equal, narrow_greater, narrow_less}
use Rattle.band_store.proofs.directory.place_of.Goals as goal

pub loop-low-preserved-in-Less : goal.loop-low-preserved-in-Less
loop-low-preserved-in-Less c =
    let l = c.loop-low in
    narrow_less c.args.bands.now c.args.name.now l.low l.high (l.low + (l.high - l.low) / 2) c.requires l.invariant (omega arith) (omega arith) (compared c.args.bands.now c.args.name.now (l.low + (l.high - l.low) / 2) c.index-bands-mid.result _ _ (omega (arith, l.invariant.within)) c.as_bytes.ensures.value c.in-Less.ensures)

pub returns-in-Equal : goal.returns-in-Equal
returns-in-Equal c =
    let l = c.loop-low in
    narrow_equal c.args.bands.now c.args.name.now (l.low + (l.high - l.low) / 2) c.requires (omega (arith, l.invariant.within)) (compared c.args.bands.now c.args.name.now (l.low + (l.high - l.low) / 2) c.index-bands-mid.result _ _ (omega (arith, l.invariant.within)) c.as_bytes.ensures.value c.in-Equal.ensures)

pub loop-low-preserved : goal.loop-low-preserved
loop-low-preserved c =
    let l = c.loop-low in
    narrow_greater c.args.bands.now c.args.name.now l.low l.high (l.low + (l.high - l.low) / 2) c.requires l.invariant (omega arith) (omega arith) (compared c.args.bands.now c.args.name.now (l.low + (l.high - l.low) / 2) c.index-bands-mid.result _ _ (omega (arith, l.invariant.within)) c.as_bytes.ensures.value c.in-Greater.ensures)
