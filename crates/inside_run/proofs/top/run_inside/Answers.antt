use Rattle.std.proofs.Common.{◌∙◌, arith, sym}
use Rattle.line_input.specs.declared.statuses.status.Status.TheVariants.{ReadFailed, SwapFailed, WriteFailed}
use Rattle.line_input.proofs.StatusCodes.{same_status}
use Rattle.inside_run.proofs.RunStatuses.{breaks_off_shown, completes_shown, early_shown, never_usage, shows_from}
use Rattle.inside_run.proofs.top.run_inside.Goals as goal

pub returns-clause-ran : goal.returns-clause-ran
returns-clause-ran g c = λ fail taken. (c.answer_shown.result, c.code-status-2.ensures, shows_from c.idle-machine.result.faults _ c.answer_shown.new.machine.faults c.idle-machine.ensures.no_fault c.answer_shown.ensures.ran)

pub returns-clause-only : goal.returns-clause-only
returns-clause-only g c = λ seven. absurd (never_usage c.code-status-2.result c.answer_shown.result c.code-status-2.ensures c.answer_shown.ensures.ran seven)

pub returns-clause-complete : goal.returns-clause-complete
returns-clause-complete g c = λ fail i taken tells whole none_read none_write none_swap.
    let e = c.answer_shown.ensures in
    let status = c.answer_shown.result in
    let is = c.code-status-2.ensures in
    completes_shown c.code-status-2.result none_read none_write none_swap (λ n. e.read (same_status status ReadFailed (sym is ∙ n))) (λ n. e.write (same_status status WriteFailed (sym is ∙ n))) (λ n. omega (arith, c.idle-machine.ensures.no_fault, e.swap (same_status status SwapFailed (sym is ∙ n))))
    _ _ _ _ _ status i is e.ran tells whole

pub returns-clause-refused : goal.returns-clause-refused
returns-clause-refused g c = λ fail i trouble taken tells breaks none_read none_write none_swap.
    let e = c.answer_shown.ensures in
    let status = c.answer_shown.result in
    let is = c.code-status-2.ensures in
    breaks_off_shown c.code-status-2.result none_read none_write none_swap (λ n. e.read (same_status status ReadFailed (sym is ∙ n))) (λ n. e.write (same_status status WriteFailed (sym is ∙ n))) (λ n. omega (arith, c.idle-machine.ensures.no_fault, e.swap (same_status status SwapFailed (sym is ∙ n))))
    _ _ _ _ _ status i trouble is e.ran tells breaks

pub returns-clause-early : goal.returns-clause-early
returns-clause-early g c = λ fail i taken tells others five. early_shown _ _ _ _ _ c.code-status-2.result c.answer_shown.result i c.code-status-2.ensures c.answer_shown.ensures.ran tells others five
