use Rattle.file_modes.proofs.DumpFiles.{dump_file}
use Rattle.file_modes.proofs.laws.dumps_are_world_files.Goals as goal

pub returns : goal.returns
returns c = dump_file
