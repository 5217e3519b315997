use Rattle.sexpr_print.proofs.Writes.{adds_none}
use Rattle.sexpr_print.proofs.token_text.TokenText.add_label.Goals as goal

pub returns-in-None : goal.returns-in-None
returns-in-None c = rw c.in-None.is (adds_none c.args.areas.now c.args.self.now)
