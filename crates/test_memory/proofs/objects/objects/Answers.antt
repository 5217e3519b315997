use Rattle.test_memory.proofs.ExampleLaws.{has_final-13}
use Rattle.test_memory.proofs.objects.objects.Goals as goal

pub resolve-requires : goal.resolve-requires
resolve-requires g c = has_final-13 _ c.requires
