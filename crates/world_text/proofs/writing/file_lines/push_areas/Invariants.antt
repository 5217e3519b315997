use Rattle.std.proofs.Common.{◌≡◌, ◌++◌, take, map}
use Rattle.world_text.specs.writing.Spelling.{AreaLine}
use Rattle.world_text.specs.writing.File.{text_of}
use Rattle.world_text.proofs.writing.file_lines.push_areas.Given as goal

abbrev pub invariant-loop-rule : goal.invariant-loop-rule
invariant-loop-rule l = l.text ≡ l.fn.text ++ text_of l.areas (map AreaLine (take l.rule-index l.areas))
