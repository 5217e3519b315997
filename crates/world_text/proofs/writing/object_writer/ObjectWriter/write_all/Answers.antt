use Rattle.std.proofs.Common.{◌<◌, ℕ, ◌++◌, length, ap, ◌∙◌, arith}
use Rattle.std.proofs.lemmas.Bool.Decides.{nat_tests}
use Rattle.world_text.specs.writing.File.{text_of}
use Rattle.world_text.specs.writing.Waiting.{link_lines}
use Rattle.world_text.proofs.writing_laws.WaitingLaws.{first_written}
use Rattle.world_text.proofs.writing.object_writer.ObjectWriter.write_all.Goals as goal

pub loop-self-smaller : goal.loop-self-smaller
loop-self-smaller c =
    let l = c.loop-self.self in
    let w = c.write_first.new.self in
    let wrote = c.in_ok-write_first.ensures in
    let long = c.loop-self.self.cars.ok.0 in
    let some : 0 < length l.cars.items = grind (arith, nat_tests, c.is_empty.ensures, c.loop-self-test.true, long) in
    (first_written c.args.areas.now l.area l.first l.cars.items w.cars.items l.text w.text w.first some wrote.after wrote.text wrote.count).2

pub loop-self-preserved : goal.loop-self-preserved
loop-self-preserved c =
    let l = c.loop-self.self in
    let w = c.write_first.new.self in
    let wrote = c.in_ok-write_first.ensures in
    let long = c.loop-self.self.cars.ok.0 in
    let some : 0 < length l.cars.items = grind (arith, nat_tests, c.is_empty.ensures, c.loop-self-test.true, long) in
    let step = first_written c.args.areas.now l.area l.first l.cars.items w.cars.items l.text w.text w.first some wrote.after wrote.text wrote.count in (
      ap (λ (a : ℕ). w.text ++ text_of c.args.areas.now (link_lines a w.first w.cars.items)) wrote.area ∙ step.0 ∙ c.loop-self.invariant.0,
      wrote.area ∙ c.loop-self.invariant.1,
      omega (arith, step.1, c.loop-self.invariant.2),
    )
