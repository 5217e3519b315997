use Rattle.std.proofs.Common.{◌∙◌}
use Rattle.std.specs.Prelude.{nat_eq}
use Rattle.indexmap.proofs.CallerLemmas.{insert_entry-new}
use Rattle.sexpr_text.proofs.labels.Labels.add.Goals as goal

pub returns : goal.returns
returns c =
    let fresh = rw (← c.self.view_is) at c.requires in
    rw (← c.self.view_is) (c.in_ok-insert.ensures.entries ∙ insert_entry-new nat_eq c.self.inside.names c.args.label c.args.name fresh)
