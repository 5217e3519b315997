use Rattle.std.proofs.Common.{◌∙◌, ◌++◌, [], ◌∷◌, List, ap}
use Rattle.lisp_graph.specs.declared.world.AreaRule.{AreaRule}
use Rattle.one_area.proofs.OneAreas.{area_start}
use Rattle.one_area.proofs.area.OneArea.new.Goals as goal

pub returns : goal.returns
returns c = area_start _ _ c.args.regions _ c.args.rule c.in_ok-mem.ensures c.in_ok-table.ensures (c.in_ok-push.ensures.ok ∙ ap (λ (rules : List AreaRule). rules ++ c.args.rule ∷ []) c.new-areas.ensures) c.requires.area c.requires.at_most c.requires.size c.requires.room
