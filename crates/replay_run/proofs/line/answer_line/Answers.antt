use Rattle.std.proofs.Common.{◌∙◌, ap, inl, refl}
use Rattle.input_verdict.specs.Events.{event_of, trouble_at}
use Rattle.input_verdict.proofs.AcceptedLines.{goes_on, none_open}
use Rattle.replay_run.proofs.Events.{stands_command, takes_command}
use Rattle.replay_run.proofs.line.answer_line.Goals as goal

pub returns-in-Err-clause-err : goal.returns-in-Err-clause-err
returns-in-Err-clause-err g c =
    let fault = c.in-Err.fault in
    let told = c.run_error_of.ensures.value ∙ ap (λ place. trouble_at place fault) c.in-Err.ensures.unchanged in
    rw told (inl (record {
      trouble = trouble_at c.args.place.now fault;
      stops = refl;
      place' = c.judge_line.new.place;
      judged = c.in-Err.ensures.judged;
      early = λ other. none_open c.args.place.now (c.in-Err.ensures.early other);
      still = (refl, refl, refl);
    }))

pub act-requires-clause-can : goal.act-requires-clause-can
act-requires-clause-can g c = λ is.
    takes_command c.args.place.now c.judge_line.new.place (g.E.Engine.takes c.args.engine.now) c.requires.can (event_of c.in-Ok.step c.judge_line.new.command)
    (goes_on c.args.place.now c.args.text.now c.args.size _ c.in-Ok.ensures.judged) c.in-Ok.ensures.allowed c.judge_line.new.command (ap (λ step. event_of step c.judge_line.new.command) is)

pub act-requires-clause-stands : goal.act-requires-clause-stands
act-requires-clause-stands g c = λ is.
    rw c.world.ensures (stands_command c.args.place.now c.judge_line.new.place (g.E.Engine.stands c.args.engine.now) c.requires.stands (event_of c.in-Ok.step c.judge_line.new.command)
    (goes_on c.args.place.now c.args.text.now c.args.size _ c.in-Ok.ensures.judged) c.judge_line.new.command (ap (λ step. event_of step c.judge_line.new.command) is))
