use Rattle.std.proofs.Common.{◌≡◌, ◌++◌, length}
use Rattle.world_text.specs.writing.File.{text_of}
use Rattle.world_text.specs.writing.Waiting.{link_lines, next_number}
use Rattle.world_text.proofs.writing.object_writer.ObjectWriter.write_all.Given as goal

abbrev pub invariant-loop-self : goal.invariant-loop-self
invariant-loop-self l =
    (l.self.text ++ text_of l.areas (link_lines l.self.area l.self.first l.self.cars.items) ≡ l.fn.self.text ++ text_of l.areas (link_lines l.fn.self.area l.fn.self.first l.fn.self.cars.items))
    × (l.self.area ≡ l.fn.self.area)
    × (next_number l.self ≡ next_number l.fn.self)

abbrev pub decreases-loop-self : goal.decreases-loop-self
decreases-loop-self l = length l.self.cars.items
