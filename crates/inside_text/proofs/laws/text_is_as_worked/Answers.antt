use Rattle.inside_text.proofs.WorkedHeap.{worked}
use Rattle.inside_text.proofs.laws.text_is_as_worked.Goals as goal

pub returns : goal.returns
returns c = worked
