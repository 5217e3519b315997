use Rattle.std.proofs.Common.{Some, length, sym, ◌∙◌, ap, arith}
use Rattle.std.specs.Prelude.{slice_get}
use Rattle.band_store.specs.Directory.{sizes}
use Rattle.band_store.proofs.Texts.{size_here, size_past}
use Rattle.band_store.proofs.store.BandStore.band.Goals as goal

pub returns-then-index-count : goal.returns-then-index-count
returns-then-index-count c = sym (size_past c.args.self.now.bands c.args.index (omega (arith, c.if-index-count.true, c.count.ensures)))

-- the band that was read is the one at the position
pub returns : goal.returns
returns c =
    let read = c.index-band.result.now in
    let is_read = c.index-band.ensures in
    let name = c.copy.ensures ∙ ap (λ band. band.0) is_read in
    let bands = ap (λ s. s.bands) c.self.view_is in
    (λ i. Some (name i, (is_read i).1.size))
    ∙ sym (size_here c.self.inside.bands.items c.args.index read (omega (arith, c.if-index-count.false, c.count.ensures, ap length bands)))
    ∙ ap (λ l. slice_get (sizes l) c.args.index) bands
