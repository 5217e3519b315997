use Rattle.std.proofs.Common.{rules, sym}
use Rattle.std.proofs.lemmas.Result.{err_from_is_err_and}
use Rattle.outer_ports.proofs.Gains.{gained_as, gained_more, parts_more, parts_part}
use Rattle.outer_ports.proofs.sinks.text.give_parts.Goals as goal

pub returns-in_err-give_all-clause-written : goal.returns-in_err-give_all-clause-written
returns-in_err-give_all-clause-written g c =
    let p = err_from_is_err_and c.from_residual.result c.from_residual.ensures.1 in
    rw p.1 (record { whole = _; part = parts_part (λ part. part.now) c.args.parts.now c.loop-part.part-index _ (search rules) c.loop-part.invariant.1 c.in_err-give_all.ensures.written.part })

pub loop-part-preserved : goal.loop-part-preserved
loop-part-preserved g c = (
  search rules,
  gained_as (sym (parts_more (λ part. part.now) c.args.parts.now c.loop-part.part-index _ (search rules))) (gained_more c.loop-part.invariant.1 c.in_ok-give_all.ensures.written.whole),
)
