use Rattle.std.proofs.Common.{◌≡◌, ◌≤◌, ◌<◌, ◌∷◌, false, length, refl, ap, arith}
use Rattle.std.specs.Prelude.{◌==◌}
use Rattle.std.proofs.lemmas.Bool.Decides.{nat_tests}
use Rattle.world_text.specs.writing.Waiting.{next_number}
use Rattle.world_text.proofs.writing_laws.WaitingLaws.{first_written, other_area, written_all, written_first}
use Rattle.world_text.proofs.writing.object_writer.ObjectWriter.make_room.Goals as goal

pub returns-then-self-area : goal.returns-then-self-area
returns-then-self-area c =
    let old = c.args.self.now in
    let w = c.write_all.new.self in
    let all = c.in_ok-write_all.ensures in
    let size = ap length all.none in record {
      text = λ object more is.
          let apart : (object.area == old.area) ≡ false = grind (arith, nat_tests, is, c.if-self-area.true) in
          written_all c.args.areas.now old w.text w.first c.args.area w.cars.items (object ∷ more) all.text all.none all.next (other_area old.area (next_number old) object more apart);
      next = omega (arith, size, all.next);
      of_area = refl;
      waiting = omega (arith, size);
    }

pub returns : goal.returns
returns c =
    let old = c.args.self.now in
    let w = c.write_first.new.self in
    let wrote = c.in_ok-write_first.ensures in
    let size = old.cars.ok.0 in
    let long : 1024 ≤ length old.cars.items = omega (arith, size, c.len.ensures, c.if-len-lt1024.false) in
    let some : 0 < length old.cars.items = omega (arith, long) in
    let step = first_written c.args.areas.now old.area old.first old.cars.items w.cars.items old.text w.text w.first some wrote.after wrote.text wrote.count in record {
      text = λ object more is. written_first c.args.areas.now old w.text w.first w.area w.cars.items (object ∷ more) long wrote.after wrote.text wrote.count wrote.area;
      next = step.1;
      of_area = omega (arith, wrote.area, c.if-self-area.false);
      waiting = omega (arith, step.2, c.requires.waiting);
    }
