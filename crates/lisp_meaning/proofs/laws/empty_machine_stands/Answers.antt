use Rattle.lisp_meaning.proofs.laws.empty_machine_stands.Goals as goal
use Rattle.lisp_meaning.specs.keeping.Empty.{blank_map}
use Rattle.lisp_meaning.specs.machine.Opening.{opening}
use Rattle.lisp_meaning.proofs.reading.Adequacy.{stands_under}
use Rattle.lisp_meaning.proofs.invariant.EmptyMachine.{empty_strong}

pub returns : goal.returns
returns c = record { stands = λ g w e b. (blank_map.at, stands_under g blank_map (opening w) (empty_strong g w e b)) }
