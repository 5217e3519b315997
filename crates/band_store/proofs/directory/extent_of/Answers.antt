use Rattle.std.proofs.Common.{Some, sym, ◌∙◌, ap}
use Rattle.std.proofs.lemmas.List.{get_or_default}
use Rattle.band_store.proofs.Names.{named_at, named_gap}
use Rattle.band_store.proofs.directory.extent_of.Goals as goal

pub returns-in-Ok : goal.returns-in-Ok
returns-in-Ok c =
    ap (λ band. Some band.1) (get_or_default c.args.bands.now c.in-Ok.at _ _ c.in-Ok.ensures.within) ∙ sym (named_at c.args.bands.now c.args.name.now c.in-Ok.at c.in-Ok.ensures)

pub returns-in-Err : goal.returns-in-Err
returns-in-Err c = sym (named_gap c.args.bands.now c.args.name.now _ c.in-Err.ensures)
