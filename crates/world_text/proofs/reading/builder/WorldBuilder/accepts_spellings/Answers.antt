use Rattle.std.proofs.Common.{subst}
use Rattle.world_text.specs.reading.Limits.{IsReached}
use Rattle.world_text.proofs.reading_laws.LineLaws.{accepted_all, accepted_only}
use Rattle.world_text.proofs.reading_laws.PlaceInvariant.{known_at}
use Rattle.world_text.proofs.reading.builder.WorldBuilder.accepts_spellings.Goals as goal

pub returns-clause-accepted : goal.returns-clause-accepted
returns-clause-accepted c =
    let known = known_at c.args.self.now (subst IsReached c.self.view_is c.self.invariant) in
    record { only = λ text step next. accepted_only c.args.self.now text step next known; all = λ text step next. accepted_all c.args.self.now text step next known }
