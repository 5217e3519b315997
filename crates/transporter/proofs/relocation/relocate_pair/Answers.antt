use Rattle.std.proofs.Common.{◌+◌, ◌*◌, ◌≤◌, sym, subst}
use Rattle.std.specs.Prelude.{IfOk}
use Rattle.transporter.specs.declared.parcel.Parcel.{Parcel}
use Rattle.transporter.specs.Parcels.{ArePairOf, word_count_of}
use Rattle.transporter.specs.Relocations.{CanMove, Relocates}
use Rattle.transporter.proofs.Parcels.{pair-parcel}
use Rattle.transporter.proofs.relocation.relocate_pair.Goals as goal

pub relocate-requires-clause-can : goal.relocate-requires-clause-can
relocate-requires-clause-can g c = subst (λ (p : Parcel). CanMove (g.M.Memory.seen c.args.ground.now.mem) c.args.ground.now.table p) (sym (pair-parcel c.requires.pair)) c.requires.can

pub relocate-requires-clause-pair : goal.relocate-requires-clause-pair
relocate-requires-clause-pair g c = subst (λ (p : Parcel). ArePairOf (g.M.Memory.seen c.args.ground.now.mem).words p c.args.pair) (sym (pair-parcel c.requires.pair)) c.requires.pair

pub returns-clause-moved : goal.returns-clause-moved
returns-clause-moved g c =
    subst (λ (p : Parcel). IfOk c.relocate.result (Relocates (g.M.Memory.seen c.args.ground.now.mem) c.args.ground.now.table (g.M.Memory.seen c.relocate.new.ground.mem) c.relocate.new.ground.table p))
    (pair-parcel c.requires.pair) c.relocate.ensures.moved

pub returns-clause-cost : goal.returns-clause-cost
returns-clause-cost g c = subst (λ (p : Parcel). c.relocate.new.steps ≤ c.args.steps.now + 3 * word_count_of p + 18) (pair-parcel c.requires.pair) c.relocate.ensures.cost
