use Rattle.transporter.proofs.PageMarks.{unchanged-unmarked}
use Rattle.transporter.proofs.laws.unchanged_pages_get_no_marks.Goals as goal

pub returns : goal.returns
returns c = λ m m' t page. unchanged-unmarked
