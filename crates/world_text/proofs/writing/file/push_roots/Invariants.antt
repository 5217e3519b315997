use Rattle.std.proofs.Common.{◌≡◌, ◌++◌, ◌-◌, [], drop, length}
use Rattle.world_text.specs.writing.File.{root_lines_of, text_of}
use Rattle.world_text.proofs.writing.file.push_roots.Given as goal

abbrev pub invariant-loop-register : goal.invariant-loop-register
invariant-loop-register l =
    l.text ++ text_of [] (root_lines_of l.register (drop l.register l.roots)) ≡ l.fn.text ++ text_of [] (root_lines_of 0 l.roots)

abbrev pub decreases-loop-register : goal.decreases-loop-register
decreases-loop-register l = length l.roots - l.register
