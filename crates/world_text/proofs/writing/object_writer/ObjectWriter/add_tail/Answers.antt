use Rattle.std.proofs.Common.{ℕ, [], ◌∷◌, length, length-append, refl, ap, ◌∙◌, arith}
use Rattle.world_text.specs.writing.Waiting.{text_with}
use Rattle.world_text.proofs.writing_laws.WaitingLaws.{ending, group_written}
use Rattle.world_text.proofs.writing.object_writer.ObjectWriter.add_tail.Goals as goal

pub write_group-requires : goal.write_group-requires
write_group-requires c =
    let m = c.make_room.new.self in
    let room = c.in_ok-make_room.ensures in
    let size = ap length c.in_ok-push_back.ensures.items ∙ length-append m.cars.items (c.args.car ∷ []) in
    record { waiting = omega (arith, size, room.waiting); few = omega (arith, size, room.next, c.requires.at_most) }

pub returns : goal.returns
returns c =
    let areas = c.args.areas.now in
    let m = c.make_room.new.self in
    let w = c.write_group.new.self in
    let room = c.in_ok-make_room.ensures in
    let pushed = c.in_ok-push_back.ensures.items in
    let wrote = c.in_ok-write_group.ensures in
    let size = ap length pushed ∙ length-append m.cars.items (c.args.car ∷ []) in
    let none = ap length wrote.empty in record {
      text = λ more.
          group_written areas m.area m.first m.cars.items c.push_back.new.self.items w.cars.items c.args.car m.text w.text w.first w.area more room.waiting pushed wrote.text wrote.empty wrote.count
          ∙ ap (λ (a : ℕ). text_with areas m (ending a c.args.car ∷ more)) room.of_area
          ∙ room.text (ending c.args.area c.args.car) more refl;
      next = omega (arith, size, none, wrote.count, room.next);
      waiting = omega (arith, none);
    }
