use Rattle.std.proofs.Common.{arith}
use Rattle.std.proofs.lemmas.Bool.Decides.{nat_tests}
use Rattle.band_disk.proofs.Invariant.{written_is}
use Rattle.band_disk.proofs.log.Log.has_place.Goals as goal

pub returns-then-entries-self : goal.returns-then-entries-self
returns-then-entries-self c =
    let written = written_is c.args.self.now c.requires in
    let long = c.args.self.now.written.ok.0 in
    let taken = c.requires.taken in
    let short = c.requires.short in
    let few = c.requires.few in
    grind (arith, nat_tests)
