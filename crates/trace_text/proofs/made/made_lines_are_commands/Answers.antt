use Rattle.trace_text.proofs.GeneratedCommands.{end_said, made_says, stats_said}
use Rattle.trace_text.proofs.made.made_lines_are_commands.Goals as goal

pub returns : goal.returns
returns c = record { each = made_says; stats = stats_said; last = end_said }
