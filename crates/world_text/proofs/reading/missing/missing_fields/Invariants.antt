use Rattle.std.proofs.Common.{◌≡◌, take}
use Rattle.std.specs.List.{fold}
use Rattle.world_text.specs.reading.Closing.{missing_value}
use Rattle.world_text.proofs.reading.missing.missing_fields.Given as goal

abbrev pub invariant-loop-value : goal.invariant-loop-value
invariant-loop-value l = l.found ≡ fold (missing_value l.objects) l.fn.found (take l.value-index l.fields)
