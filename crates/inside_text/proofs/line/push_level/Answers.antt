use Rattle.std.proofs.Common.{arith, sym}
use Rattle.std.proofs.lemmas.List.{append-nil}
use Rattle.inside_text.proofs.Levels.{hit, level_missing, level_there, miss}
use Rattle.inside_text.proofs.line.push_level.Goals as goal

pub returns-then-intersects-clause-value : goal.returns-then-intersects-clause-value
returns-then-intersects-clause-value c =
    rw (level_there c.args.set.0 c.args.level (let low = c.requires.to in omega arith) (hit c.intersects.result c.args.set.0 c.one.result.0 c.args.level c.one.ensures (c.intersects.ensures tt) c.if-intersects.true)) c.push.ensures

pub returns-else-intersects-clause-value : goal.returns-else-intersects-clause-value
returns-else-intersects-clause-value c =
    rw (level_missing c.args.set.0 c.args.level (miss c.intersects.result c.args.set.0 c.one.result.0 c.args.level c.one.ensures (c.intersects.ensures tt) c.if-intersects.false)) (sym (append-nil _))
