use Rattle.std.proofs.Common.{ℕ, Option, Some, subst, sym}
use Rattle.std.specs.Prelude.{IfSome}
use Rattle.transporter.specs.declared.parcel.Pair.{Pair}
use Rattle.transporter.specs.Parcels.{ArePairOf}
use Rattle.transporter.specs.Relocations.{IsOldClass}
use Rattle.transporter.proofs.Parcels.{pair-stays}
use Rattle.transporter.proofs.MovableParcels.{if-ok, can-read, moves-here, parcel-at}
use Rattle.transporter.proofs.transports.move_from.Goals as goal

pub relocate_pair-requires-clause-can : goal.relocate_pair-requires-clause-can
relocate_pair-requires-clause-can g c =
    let read = c.in_ok-found.ensures in
    can-read read.unchanged (c.requires.can _ read.value read.fits)

pub relocate_pair-requires-clause-agrees : goal.relocate_pair-requires-clause-agrees
relocate_pair-requires-clause-agrees g c = subst (λ (a : ℕ). IsOldClass c.args.ground.now.table a c.args.class) (sym (parcel-at c.in_ok-found.ensures.value)) c.requires.agrees

pub relocate_pair-requires-clause-pair : goal.relocate_pair-requires-clause-pair
relocate_pair-requires-clause-pair g c =
    let read = c.in_ok-found.ensures in
    let pair = subst (λ (p : Option Pair). IfSome p (ArePairOf (g.M.Memory.seen c.args.ground.now.mem).words c.in_ok-found.found.parcel)) c.in-Some.is read.pair in
    pair-stays c.in_ok-found.found.parcel (Some c.in-Some.pair) read.unchanged.words pair

pub relocate-requires-clause-can : goal.relocate-requires-clause-can
relocate-requires-clause-can g c =
    let read = c.in_ok-found.ensures in
    can-read read.unchanged (c.requires.can _ read.value read.fits)

pub relocate-requires-clause-agrees : goal.relocate-requires-clause-agrees
relocate-requires-clause-agrees g c = subst (λ (a : ℕ). IsOldClass c.args.ground.now.table a c.args.class) (sym (parcel-at c.in_ok-found.ensures.value)) c.requires.agrees

pub returns-in-Some-clause-moved : goal.returns-in-Some-clause-moved
returns-in-Some-clause-moved g c =
    let read = c.in_ok-found.ensures in
    if-ok c.relocate_pair.result (λ to moved. moves-here read.value read.fits (c.requires.can _ read.value read.fits) read.unchanged moved) c.relocate_pair.ensures.moved

pub returns-in-None-clause-moved : goal.returns-in-None-clause-moved
returns-in-None-clause-moved g c =
    let read = c.in_ok-found.ensures in
    if-ok c.relocate.result (λ to moved. moves-here read.value read.fits (c.requires.can _ read.value read.fits) read.unchanged moved) c.relocate.ensures.moved
