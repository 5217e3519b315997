use Rattle.std.proofs.Common.{length, [], ap, arith, inl, inr}
use Rattle.std.proofs.lemmas.List.{length-append}
use Rattle.replay_run.proofs.session.room.AnswerRoom.tell.Goals as goal

pub returns-clause-value : goal.returns-clause-value
returns-clause-value c = elim c.report.ensures.written [
  | inl told ↦ told.0
  | inr cut ↦
      let front = cut.1.0 in
      let held = cut.1.2.each [] c.requires.empty in
      let rest = cut.1.1 in
      absurd (omega (arith, c.error_lines_are_short.ensures, ap length rest.2, length-append front rest.0, ap length held, c.report.new.sink.full (omega (arith, c.report.ensures.write cut.0, c.requires.no_fault))))
]

pub returns-clause-bytes : goal.returns-clause-bytes
returns-clause-bytes c = elim c.report.ensures.written [
  | inl told ↦ told.1.each [] c.requires.empty
  | inr cut ↦
      let front = cut.1.0 in
      let held = cut.1.2.each [] c.requires.empty in
      let rest = cut.1.1 in
      absurd (omega (arith, c.error_lines_are_short.ensures, ap length rest.2, length-append front rest.0, ap length held, c.report.new.sink.full (omega (arith, c.report.ensures.write cut.0, c.requires.no_fault))))
]
