use Rattle.inside_text.proofs.TextSequences.{none_yet}
use Rattle.inside_text.proofs.Rows.{row_away, row_there}
use Rattle.inside_text.proofs.pages.tell_row.Goals as goal

pub returns-then-is_swapped-clause-gathers : goal.returns-then-is_swapped-clause-gathers
returns-then-is_swapped-clause-gathers g c =
    rw (row_there c.args.mem.now.0 c.args.page (c.is_swapped.ensures.0 c.if-is_swapped.true), ← c.row.ensures) c.tell_swapped.ensures.gathers

pub returns-clause-gathers : goal.returns-clause-gathers
returns-clause-gathers g c =
    rw (row_away c.args.mem.now.0 c.args.page (λ e. absurd (let met = c.is_swapped.ensures.1 e in let missed = c.if-is_swapped.false in cc (met)))) (record { whole = none_yet c.args.buffer.now.pending; part = _ })
