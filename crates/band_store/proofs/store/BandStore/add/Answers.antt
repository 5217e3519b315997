use Rattle.std.proofs.Common.{◌+◌, ◌<◌, ◌^◌, length, ◌∙◌, ap, arith}
use Rattle.band_store.specs.declared.directory.Extent.{Extent}
use Rattle.band_store.specs.Directory.{is_ordered}
use Rattle.band_store.proofs.Records.{length-put, ordered_put}
use Rattle.band_store.proofs.store.BandStore.add.Goals as goal

-- at most one more name, at its position
pub invariant_of-self-2 : goal.invariant_of-self-2
invariant_of-self-2 c =
    let bands = c.self.inside.bands.items in
    let value : Extent = record { at = c.self.inside.gate + 6 + length c.as_bytes-bytes.result.now; size = c.args.size } in
    let puts = c.in_ok-put_name.ensures.ok in
    let longer = length-put c.args.name.now value bands in
    let grown : length c.put_name.new.bands.items < 2 ^ 32 = omega (arith, ap length puts, longer, c.self.inside.bands.ok.0) in (
      ap is_ordered puts ∙ ordered_put _ _ bands c.self.invariant.0,
      grown,
    )
