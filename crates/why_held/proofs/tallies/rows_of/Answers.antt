use Rattle.std.proofs.Common.{◌∙◌}
use Rattle.std.proofs.lemmas.Result.{IfOk-weaker}
use Rattle.why_held.specs.Census.{IsCensus}
use Rattle.why_held.proofs.TallyRows.{tallies_census}
use Rattle.why_held.proofs.tallies.rows_of.Goals as goal

pub returns : goal.returns
returns c = λ counted are.
    IfOk-weaker c.stored_rows.result _ (IsCensus counted)
    (λ rows e. tallies_census counted c.store_latest.new.tallies.stored (λ area code. c.in_ok-store_latest.ensures.unchanged area code ∙ are.each area code) c.stored_rows.ensures.order rows e) c.stored_rows.ensures.value
