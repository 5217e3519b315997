use Rattle.test_replay.proofs.engine.answered.Goals as goal

pub answer_input-requires : goal.answer_input-requires
answer_input-requires c = c.idle-machine.ensures.idle
