use Rattle.std.proofs.Common.{◌∙◌, ℕ, List, ap, sym, subst}
use Rattle.sexpr_text.specs.Meaning.{meaning}
use Rattle.sexpr_text.specs.Reading.{IsFault}
use Rattle.file_modes.proofs.SexprTexts.{fault_read, read_fault, read_meant, read_untaken}
use Rattle.file_modes.proofs.Worlds.{meaning_dumpable}
use Rattle.file_modes.proofs.sexpr.read_sexpr.Goals as goal

pub returns-in-Err-clause-judged : goal.returns-in-Err-clause-judged
returns-in-Err-clause-judged g c = read_untaken c.in-Err.trouble c.in-Err.ensures.taken

pub returns-in-Ok-compile_sexpr-clause-judged : goal.returns-in-Ok-compile_sexpr-clause-judged
returns-in-Ok-compile_sexpr-clause-judged g c = read_meant c.in-Ok.bytes c.in-Ok-compile_sexpr.world c.in-Ok.ensures.taken (ap meaning (sym c.deref.ensures.value) ∙ c.in-Ok-compile_sexpr.ensures.value)

pub returns-in-Ok-compile_sexpr-clause-ok : goal.returns-in-Ok-compile_sexpr-clause-ok
returns-in-Ok-compile_sexpr-clause-ok g c = meaning_dumpable c.deref.result.now c.in-Ok-compile_sexpr.world c.in-Ok-compile_sexpr.ensures.value

pub returns-clause-judged : goal.returns-clause-judged
returns-clause-judged g c = read_fault c.in-Ok.bytes c.in-Err-compile_sexpr.fault c.trouble_of.result c.in-Ok.ensures.taken (subst (λ (text : List ℕ). IsFault c.in-Err-compile_sexpr.fault (meaning text)) c.deref.ensures.value c.in-Err-compile_sexpr.ensures.value) c.trouble_of.ensures

pub returns-clause-read : goal.returns-clause-read
returns-clause-read g c = λ e. fault_read c.in-Err-compile_sexpr.fault _ (sym c.trouble_of.ensures ∙ e)
