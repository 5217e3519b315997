use Rattle.std.proofs.Common.{List, ap, ◌∙◌, subst}
use Rattle.store_word.specs.Words.{Parts}
use Rattle.obj_layout.specs.Shapes.{shape_of}
use Rattle.transporter.specs.Parcels.{IsParcel}
use Rattle.transporter.proofs.Parcels.{parcel-block}
use Rattle.transporter.proofs.parcel.parcel_of.Goals as goal

pub returns-in-BlockOf-clause-value : goal.returns-in-BlockOf-clause-value
returns-in-BlockOf-clause-value g c = parcel-block (c.shape_from.ensures.value ∙ ap shape_of c.in_ok-first.ensures.value) c.in-BlockOf.is

pub returns-in_ok-parcel-in-Cell-clause-value : goal.returns-in_ok-parcel-in-Cell-clause-value
returns-in_ok-parcel-in-Cell-clause-value g c =
    subst (λ (ws : List Parts). IsParcel ws c.args.object.at c.in_ok-parcel-in-Cell.parcel) c.in_ok-first.ensures.unchanged.words c.in_ok-parcel-in-Cell.ensures.value
