use Rattle.std.proofs.Common.{ℕ, [], ◌∷◌, length, length-append, refl, ap, ◌∙◌, arith}
use Rattle.world_text.specs.writing.Waiting.{link, next_number, text_with}
use Rattle.world_text.proofs.writing_laws.WaitingLaws.{link_waits}
use Rattle.world_text.proofs.writing.object_writer.ObjectWriter.add_link.Goals as goal

pub returns : goal.returns
returns c =
    let areas = c.args.areas.now in
    let old = c.args.self.now in
    let m = c.make_room.new.self in
    let room = c.in_ok-make_room.ensures in
    let pushed = c.in_ok-push_back.ensures.items in
    let size = ap length pushed ∙ length-append m.cars.items (c.args.car ∷ []) in record {
      text = λ more.
          link_waits areas m.area m.first m.cars.items c.push_back.new.self.items c.args.car m.text more pushed
          ∙ ap (λ (a : ℕ). text_with areas m (link a (next_number m) c.args.car ∷ more)) room.of_area
          ∙ ap (λ (n : ℕ). text_with areas m (link c.args.area n c.args.car ∷ more)) room.next
          ∙ room.text (link c.args.area (next_number old) c.args.car) more refl;
      next = omega (arith, size, room.next);
      waiting = omega (arith, size, room.waiting);
    }
