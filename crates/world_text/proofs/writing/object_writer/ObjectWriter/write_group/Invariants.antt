use Rattle.std.proofs.Common.{◌≡◌, ◌++◌, length, map}
use Rattle.world_text.specs.writing.Waiting.{next_number}
use Rattle.world_text.specs.writing.Spelling.{spaced, value_text}
use Rattle.world_text.proofs.writing.object_writer.ObjectWriter.write_group.Given as goal

abbrev pub invariant-loop-car : goal.invariant-loop-car
invariant-loop-car l =
    (l.self.text ++ spaced (map value_text l.self.cars.items) ≡ l.initial.self.text ++ spaced (map value_text l.fn.self.cars.items))
    × (l.self.first ≡ next_number l.fn.self)

abbrev pub decreases-loop-car : goal.decreases-loop-car
decreases-loop-car l = length l.self.cars.items
