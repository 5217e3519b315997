use Rattle.heap_load.proofs.DraftParts.{draft_filled}
use Rattle.heap_load.proofs.laws.drafts_are_filled.Goals as goal

pub returns : goal.returns
returns c = draft_filled
