use Rattle.test_memory.proofs.ExampleLaws.{has_run-at}
use Rattle.test_memory.proofs.objects.runs.Goals as goal

pub run_length-requires : goal.run_length-requires
run_length-requires g c = has_run-at _ c.loop-at.invariant c.loop-at.at-index c.loop-at-test.true
