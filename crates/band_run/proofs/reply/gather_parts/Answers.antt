use Rattle.std.proofs.Common.{arith, rules}
use Rattle.std.proofs.lemmas.Result.{err_from_is_err_and}
use Rattle.band_run.proofs.Parts.{gathered_cut_part, gathered_no_part, gathered_part}
use Rattle.band_run.proofs.reply.gather_parts.Goals as goal

pub returns-in_err-gather-clause-gathers : goal.returns-in_err-gather-clause-gathers
returns-in_err-gather-clause-gathers g c =
    let p = err_from_is_err_and c.from_residual.result c.from_residual.ensures.1 in
    rw p.1 (record { whole = _; part = gathered_cut_part (λ part. part.now) c.args.parts.now c.loop-part.part-index _ (search rules) c.args.buffer.now.pending c.loop-part.invariant.1 c.in_err-gather.ensures.gathers.part })

pub loop-part-preserved : goal.loop-part-preserved
loop-part-preserved g c = (
  omega (arith, c.in_ok-gather.ensures.cause.quiet, c.loop-part.invariant.0),
  gathered_part (λ part. part.now) c.args.parts.now c.loop-part.part-index _ (search rules) c.args.buffer.now.pending c.loop-part.invariant.1 c.in_ok-gather.ensures.gathers.whole,
)

pub loop-part-init : goal.loop-part-init
loop-part-init g c = (search rules, gathered_no_part c.args.buffer.now.pending)
