use Rattle.std.proofs.Common.{◌+◌, List, ap, ◌∙◌}
use Rattle.store_word.specs.Words.{Parts}
use Rattle.obj_layout.specs.Shapes.{charge_at}
use Rattle.transporter.proofs.Parcels.{parcel-nil, parcel-pair, parcel-rest}
use Rattle.transporter.proofs.parcel.run_at.Goals as goal

pub returns-in-Nil-clause-value : goal.returns-in-Nil-clause-value
returns-in-Nil-clause-value g c = parcel-nil c.in_ok-run.ensures.value c.in_ok-run.ensures.at_most c.in-Nil.is

pub returns-in_ok-charge-in-Pair-clause-value : goal.returns-in_ok-charge-in-Pair-clause-value
returns-in_ok-charge-in-Pair-clause-value g c =
    let read = c.in_ok-run.ensures in
    parcel-pair read.value read.at_most c.in-Pair.is (c.in_ok-charge-in-Pair.ensures.value ∙ ap (λ (ws : List Parts). charge_at ws (c.args.at + c.in_ok-run.run'.cells)) read.unchanged.words)

pub returns-in-Forwarded-clause-value : goal.returns-in-Forwarded-clause-value
returns-in-Forwarded-clause-value g c = parcel-rest c.in_ok-run.ensures.value c.in_ok-run.ensures.at_most c.in-Forwarded.is
