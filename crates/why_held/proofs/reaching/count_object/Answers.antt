use Rattle.std.proofs.Common.{◌∙◌, ap₂, subst, sym}
use Rattle.why_held.specs.declared.rows.Counted.{Counted}
use Rattle.why_held.specs.Reached.{counted_form}
use Rattle.why_held.specs.Tallies.{HasRoom, tally_in}
use Rattle.why_held.proofs.reaching.count_object.Goals as goal

pub count-requires : goal.count-requires
count-requires g c =
    let is = c.counted_form.ensures ∙ ap₂ counted_form c.in_ok-form.ensures.value c.requires.agrees in
    let P : Counted → Type 0 = λ one. HasRoom (tally_in c.args.tallies.now one.area one.code) in
    subst P (sym is) c.requires.room
