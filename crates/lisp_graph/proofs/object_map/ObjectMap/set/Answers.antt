use Rattle.std.proofs.Common.{List, set, ◌∙◌, ap}
use Rattle.lisp_graph.specs.declared.object.Object.{Object}
use Rattle.lisp_graph.specs.Graph.{no_object}
use Rattle.lisp_graph.proofs.NumberedMaps.{found-numbered, set_value-numbered}
use Rattle.lisp_graph.proofs.object_map.ObjectMap.set.Goals as goal

pub unwrap-requires : goal.unwrap-requires
unwrap-requires c = (found-numbered _ _ _ c.args.name no_object c.self.invariant c.self.view_is c.requires c.get_mut.ensures.value).0

pub invariant_of-self : goal.invariant_of-self
invariant_of-self c = (set_value-numbered _ _ c.args.name _ c.self.invariant (c.get_mut.follows.holds c.write_object.new.place).0).0

pub returns : goal.returns
returns c =
    (set_value-numbered _ _ c.args.name _ c.self.invariant (c.get_mut.follows.holds c.write_object.new.place).0).1
    ∙ ap (λ (objects : List Object). set objects c.args.name c.write_object.new.place) c.self.view_is
    ∙ ap (set c.args.self.now c.args.name) c.write_object.ensures
