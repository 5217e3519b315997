use Rattle.std.proofs.Common.{◌∙◌, ap, sym}
use Rattle.lisp_graph.specs.Objects.{body_copied}
use Rattle.heap_load.proofs.filling.fill_object.Goals as goal

pub fill_cons-requires : goal.fill_cons-requires
fill_cons-requires g c =
    let r = c.requires in
    record { loadable = r.loadable; places = r.places; in_range = r.in_range; agrees = sym c.body.ensures ∙ ap body_copied c.in-Cons.is; filled = r.filled; laid = r.laid }

pub fill_block-requires : goal.fill_block-requires
fill_block-requires g c =
    let r = c.requires in
    record {
      loadable = r.loadable;
      places = r.places;
      in_range = r.in_range;
      agrees = (c.in-Block.code, sym c.body.ensures ∙ ap body_copied c.in-Block.is);
      filled = r.filled;
      laid = r.laid;
    }
