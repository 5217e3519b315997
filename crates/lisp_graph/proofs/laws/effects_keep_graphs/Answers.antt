use Rattle.lisp_graph.proofs.GraphInvariant.{effect_keeps}
use Rattle.lisp_graph.proofs.Persistence.{effect_lasts}
use Rattle.lisp_graph.proofs.SameValues.{same_value-equal}
use Rattle.lisp_graph.proofs.laws.effects_keep_graphs.Goals as goal

pub returns : goal.returns
returns c = record { graph = effect_keeps; lasts = effect_lasts; same = same_value-equal }
