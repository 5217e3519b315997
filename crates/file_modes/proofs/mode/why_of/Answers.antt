use Rattle.file_modes.proofs.ObjectCounts.{accepted_few}
use Rattle.file_modes.proofs.mode.why_of.Goals as goal

pub why-requires-clause-at_most : goal.why-requires-clause-at_most
why-requires-clause-at_most c = accepted_few c.args.world.now c.requires.accepted
