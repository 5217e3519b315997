use Rattle.std.proofs.Common.{◌≡◌, take}
use Rattle.band_store.specs.Directory.{sizes}
use Rattle.band_run.specs.Replies.{list_text}
use Rattle.band_run.proofs.answers.lines_of.Given as goal

abbrev pub invariant-loop-index : goal.invariant-loop-index
invariant-loop-index l = l.lines ≡ list_text (take l.index (sizes l.store.bands))
