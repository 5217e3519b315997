use Rattle.lisp_meaning.proofs.reading.NextUnits.{next_is_left}
use Rattle.lisp_meaning.proofs.laws.next_unit_is_left.Goals as goal

pub returns : goal.returns
returns c = record {
  left = next_is_left;
  used = λ g over a scanned next. (let x = (next_is_left g).word a next in scanned.left a x.0 x.1);
}
