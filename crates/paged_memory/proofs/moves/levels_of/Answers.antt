use Rattle.std.proofs.Common.{sym, ◌∙◌}
use Rattle.std.proofs.lemmas.Bool.{false≢true}
use Rattle.store_word.proofs.SetLaws.{has_none}
use Rattle.paged_memory.proofs.moves.levels_of.Goals as goal

pub returns-else-tag : goal.returns-else-tag
returns-else-tag c = λ l pos. (λ has. absurd (has_none l (rw c.empty.ensures at has)), λ has. absurd (false≢true (sym c.if-tag.false ∙ c.requires.marks l pos has)))
