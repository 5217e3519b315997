use Rattle.std.proofs.Common.{ap}
use Rattle.test_collect.proofs.Machines.{flipped_machine, some_state}
use Rattle.test_collect.proofs.machine.Machine.flip.Goals as goal

pub flip-requires : goal.flip-requires
flip-requires g c = record { represented = some_state c.self.invariant }

pub invariant_of-self : goal.invariant_of-self
invariant_of-self g c =
    flipped_machine c.self.invariant c.args.what
    (λ some. (let x = c.flip.ensures.refused some in (x.0, ap (λ y. g.M.Memory.seen y.mem) x.1, ap (λ y. y.table) x.1, x.2))) (λ none. (c.flip.ensures.begins none).flips)
