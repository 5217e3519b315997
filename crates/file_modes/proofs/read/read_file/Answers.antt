use Rattle.file_modes.proofs.WorldFiles.{fits_lines, read_lines, read_trouble}
use Rattle.file_modes.proofs.read.read_file.Goals as goal

pub returns-in-Ok-clause-judged : goal.returns-in-Ok-clause-judged
returns-in-Ok-clause-judged g c = read_lines c.args.mode c.in-Ok.world c.in_default.not-Compile c.in-Ok.ensures.judged

pub returns-in-Ok-clause-fits : goal.returns-in-Ok-clause-fits
returns-in-Ok-clause-fits g c = fits_lines c.args.mode c.in-Ok.world c.in_default.not-Compile c.in-Ok.ensures.accepted

pub returns-in-Err-clause-judged : goal.returns-in-Err-clause-judged
returns-in-Err-clause-judged g c = read_trouble c.args.mode c.in-Err.trouble c.in_default.not-Compile c.in-Err.ensures.judged
