use Rattle.std.proofs.Common.{sym}
use Rattle.std.proofs.lemmas.List.{take-map}
use Rattle.lisp_graph.specs.Objects.{object_in}
use Rattle.lisp_graph.proofs.objects.Objects.truncate.Goals as goal

pub returns : goal.returns
returns c = rw (c.truncate.ensures.items, ← c.self.view_is) (sym (take-map (object_in c.self.inside.blocks.items) c.args.count c.self.inside.cells.items))
