use Rattle.std.proofs.Common.{Option, subst}
use Rattle.std.specs.Prelude.{IfSome}
use Rattle.transporter.specs.declared.parcel.Pair.{Pair}
use Rattle.transporter.specs.Parcels.{ArePairOf}
use Rattle.transporter.proofs.Parcels.{pair-count, pair-words}
use Rattle.transporter.proofs.WriteSequences.{writes-as}
use Rattle.transporter.proofs.copying.lay_parcel.Goals as goal

pub returns-in-Some-clause-written : goal.returns-in-Some-clause-written
returns-in-Some-clause-written g c =
    let x = subst (λ (pair : Option Pair). IfSome pair (ArePairOf (g.M.Memory.seen c.args.mem.now).words c.args.parcel.now)) c.in-Some.is c.requires.pair in
    writes-as (pair-count x) (pair-words x) c.write_pair.ensures.written
