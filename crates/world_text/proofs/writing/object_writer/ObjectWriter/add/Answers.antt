use Rattle.std.proofs.Common.{◌≡◌, ℕ, ◌+◌, [], ◌∷◌, None, false, length, refl, ap, sym, ◌∙◌, arith}
use Rattle.lisp_graph.specs.Graph.{is_ref}
use Rattle.lisp_graph.specs.Groups.{is_cell, to_tail}
use Rattle.world_text.specs.writing.Waiting.{next_number}
use Rattle.world_text.proofs.writing_laws.WaitingLaws.{alone_written, no_tail, written_all}
use Rattle.world_text.proofs.writing.object_writer.ObjectWriter.add.Goals as goal

pub returns : goal.returns
returns c =
    let areas = c.args.areas.now in
    let old = c.args.self.now in
    let object = c.args.object.now in
    let w = c.write_all.new.self in
    let all = c.in_ok-write_all.ensures in
    let size = old.cars.ok.0 in
    let at : old.first + c.len.result + 1 ≡ next_number old + 1 = omega (arith, size, c.len.ensures) in
    let ends = c.in_default.ensures.none in
    let links : is_cell object.area (is_ref (next_number old + 1)) object ≡ false = ap (λ (n : ℕ). is_cell object.area (is_ref n) object) (sym at) ∙ c.in_default-link_car.ensures.none in
    let none = ap length all.none in record {
      text = λ more.
          let here : to_tail object.area w.first (object ∷ more) ≡ None = ap (λ (n : ℕ). to_tail object.area n (object ∷ more)) all.next ∙ no_tail object.area (next_number old) object more ends links in
          alone_written areas w.first w.area w.area object w.cars.items w.text c.push_object.new.text more here all.none c.in_ok-push_object.ensures
          ∙ written_all areas old w.text w.first w.area [] (object ∷ more) all.text refl all.next (no_tail old.area (next_number old) object more ends links);
      next = omega (arith, none, all.next);
      waiting = omega (arith, none);
    }
