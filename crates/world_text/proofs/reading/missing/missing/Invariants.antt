use Rattle.std.proofs.Common.{◌≡◌, take, None}
use Rattle.std.specs.List.{fold}
use Rattle.world_text.specs.reading.Closing.{missing_body}
use Rattle.world_text.proofs.reading.missing.missing.Given as goal

abbrev pub invariant-loop-name : goal.invariant-loop-name
invariant-loop-name l = l.found ≡ fold (λ found object. missing_body l.count found object.body) None (take l.name l.objects)
