use Rattle.std.proofs.Common.{List, set, ◌∙◌, ap}
use Rattle.lisp_graph.specs.declared.object.Object.{Object}
use Rattle.lisp_graph.specs.Graph.{no_object}
use Rattle.lisp_graph.specs.Fields.{with_field}
use Rattle.lisp_graph.proofs.NumberedMaps.{found-numbered, set_value-numbered}
use Rattle.lisp_graph.proofs.object_map.ObjectMap.set_field.Goals as goal

pub unwrap-requires : goal.unwrap-requires
unwrap-requires c = (found-numbered _ _ _ c.args.name no_object c.self.invariant c.self.view_is c.requires.name c.get_mut.ensures.value).0

pub write_field-requires : goal.write_field-requires
write_field-requires c =
    let is = (found-numbered _ _ _ c.args.name no_object c.self.invariant c.self.view_is c.requires.name c.get_mut.ensures.value).1 c.unwrap.result c.unwrap.ensures in
    rw is c.requires.in_range

pub invariant_of-self : goal.invariant_of-self
invariant_of-self c = (set_value-numbered _ _ c.args.name _ c.self.invariant (c.get_mut.follows.holds c.write_field.new.place).0).0

pub returns : goal.returns
returns c =
    let is = (found-numbered _ _ _ c.args.name no_object c.self.invariant c.self.view_is c.requires.name c.get_mut.ensures.value).1 c.unwrap.result c.unwrap.ensures in
    (set_value-numbered _ _ c.args.name _ c.self.invariant (c.get_mut.follows.holds c.write_field.new.place).0).1
    ∙ ap (λ (objects : List Object). set objects c.args.name c.write_field.new.place) c.self.view_is
    ∙ ap (set c.args.self.now c.args.name) (c.write_field.ensures ∙ ap (λ (object : Object). record object { body = with_field object.body c.args.index c.args.value }) is)
