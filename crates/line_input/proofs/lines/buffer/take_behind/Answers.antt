use Rattle.std.proofs.Common.{rules, take}
use Rattle.std.proofs.lemmas.Result.{err_from_is_err_and}
use Rattle.std.proofs.lemmas.List.{length-take-le}
use Rattle.line_input.proofs.LineFeeds.{behind, unchanged}
use Rattle.line_input.proofs.lines.buffer.take_behind.Goals as goal

pub returns-clause-given : goal.returns-clause-given
returns-clause-given g c = (
  take c.in_ok-count.count c.take.new.into,
  c.in_ok-count.ensures.given,
  length-take-le c.in_ok-count.count c.take.new.into c.in_ok-count.ensures.fits,
  behind c.args.buffer.now c.take.new.into _ c.args.start c.args.end c.in_ok-count.count c.requires.order (search rules) c.in_ok-count.ensures.fits,
)

pub returns-in_err-count-clause-unchanged : goal.returns-in_err-count-clause-unchanged
returns-in_err-count-clause-unchanged g c =
    let p = err_from_is_err_and c.from_residual.result c.from_residual.ensures.1 in
    rw p.1 (unchanged c.args.buffer.now c.take.new.into _ c.args.start c.args.end c.requires.order (search rules))
