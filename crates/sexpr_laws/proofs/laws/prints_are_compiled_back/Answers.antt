use Rattle.std.proofs.Common.{true}
use Rattle.sexpr_laws.proofs.AcceptedFiles.{accepted_says}
use Rattle.sexpr_laws.proofs.RoundTrip.{compiled_back}
use Rattle.sexpr_laws.proofs.Files.{file_back}
use Rattle.sexpr_laws.proofs.laws.prints_are_compiled_back.Goals as goal

pub returns : goal.returns
returns c = record {
  files = λ file lines world says text dump. file_back file lines world text dump says;
  accepted = λ file world is text dump. let says = accepted_says file world is in file_back true says.0 world text dump says.1;
  worlds = λ world sound fits text dump. compiled_back world text dump sound fits;
}
