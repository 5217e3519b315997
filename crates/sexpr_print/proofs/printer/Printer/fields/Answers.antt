use Rattle.std.proofs.Common.{◌≡◌, ◌∷◌, ◌++◌, ◌+◌, ◌<◌, [], ◌∙◌, append_assoc, Some, None, refl, sym, ap, subst, arith, length}
use Rattle.lisp_graph.specs.Graph.{object_at}
use Rattle.lisp_graph.specs.Objects.{object_copied}
use Rattle.lisp_graph.specs.declared.object.Object.{Object}
use Rattle.std.specs.Prelude.{slice_get}
use Rattle.sexpr_text.specs.declared.bracket.Bracket.TheVariants.{Curly}
use Rattle.sexpr_text.specs.declared.token.Token.TheVariants.{Close}
use Rattle.sexpr_print.specs.declared.task.PrintTask.TheVariants as K
use Rattle.sexpr_print.specs.Marks.{shared_in}
use Rattle.sexpr_print.specs.Writing.{Adds}
use Rattle.sexpr_print.specs.Tasks.{Steps, fields_in}
use Rattle.sexpr_print.proofs.TaskLaws.{fields_end, fields_go}
use Rattle.sexpr_print.proofs.Steps.{field_sound, object_sound, on_ok, steps_end, steps_level, two_sound, work_two}
use Rattle.sexpr_print.proofs.Writes.{adds_none}
use Rattle.sexpr_print.proofs.printer.Printer.fields.Goals as goal

pub returns-in_default : goal.returns-in_default
returns-in_default c =
    let world = c.args.world.now in
    let old = c.args.self.now in
    let at : object_copied c.at-object.result ≡ object_at world.objects c.args.name = c.at-object.ensures in
    let none : slice_get (fields_in (object_at world.objects c.args.name).body) c.args.index ≡ None =
    ap (λ (o : Object). slice_get (fields_in o.body) c.args.index) (sym at) ∙ sym c.field_at.ensures.value ∙ c.in_default.is in
    let new = record old { text = c.add.new.self } in
    on_ok c.add.result (Adds c.as_slice.result.now (Close Curly ∷ []) old.text c.add.new.self) (Steps world (K.Fields c.args.name c.args.index) old.tasks.items old new)
    (λ adds. steps_end world (K.Fields c.args.name c.args.index) old.tasks.items old new (Close Curly ∷ []) refl (rw c.as_slice.ensures at adds) refl
    (fields_end world.objects (shared_in old.printed.counts) c.args.name c.args.index old.printed.names none) (omega arith))
    c.add.ensures

pub returns : goal.returns
returns c =
    let world = c.args.world.now in
    let old = c.args.self.now in
    let at : object_copied c.at-object.result ≡ object_at world.objects c.args.name = c.at-object.ensures in
    let some : slice_get (fields_in (object_at world.objects c.args.name).body) c.args.index ≡ Some c.in-Some.value =
    ap (λ (o : Object). slice_get (fields_in o.body) c.args.index) (sym at) ∙ sym c.field_at.ensures.value ∙ c.in-Some.is in
    let sound = object_sound world c.args.name c.requires.graph c.requires.in_range in
    let within : c.args.index < length (fields_in (object_at world.objects c.args.name).body) =
    (let P : Object → Type 0 = λ o. c.args.index < length (fields_in o.body) in subst P at c.in-Some.ensures.in_range) in
    let last = K.Fields c.args.name (c.args.index + 1) in
    let next = K.Value c.in-Some.value in
    steps_level world (K.Fields c.args.name c.args.index) old.tasks.items (last ∷ next ∷ []) old (record old { tasks = c.push-2.new.self }) []
    (c.in_ok-push-2.ensures.items ∙ ap (λ ts. ts ++ next ∷ []) c.in_ok-push.ensures.items ∙ append_assoc old.tasks.items (last ∷ []) (next ∷ []))
    (adds_none world.areas old.text) refl
    (λ others after all. fields_go world.objects (shared_in old.printed.counts) c.args.name c.args.index c.in-Some.value old.printed.names after others some all)
    (two_sound (length world.objects) last next c.requires.in_range (field_sound (length world.objects) c.args.index (object_at world.objects c.args.name).body c.in-Some.value some sound.refers))
    (let a = work_two world.objects last next in omega (arith, a, within))
