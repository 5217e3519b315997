use Rattle.file_modes.proofs.ModeAnswers.{closed_quiet, closed_read}
use Rattle.file_modes.proofs.run.run_mode.Goals as goal

pub returns-clause-ran : goal.returns-clause-ran
returns-clause-ran g c = let a = c.answer-answer.ensures.value in record {
  i = a.i;
  b = a.b;
  input = a.input;
  gave = a.gave;
  rest = a.rest;
  outcome = c.answer-answer.result;
  right = a.right;
  cause = c.answer-answer.ensures.read;
  wrote = c.write_answer.ensures.written;
}

pub returns-clause-read : goal.returns-clause-read
returns-clause-read g c = closed_read c.answer-answer.result c.write_answer.result _ c.answer-answer.ensures.read c.write_answer.ensures.written

pub returns-clause-source_no_fault : goal.returns-clause-source_no_fault
returns-clause-source_no_fault g c = closed_quiet c.answer-answer.result c.write_answer.result _ c.answer-answer.ensures.no_fault c.write_answer.ensures.written
