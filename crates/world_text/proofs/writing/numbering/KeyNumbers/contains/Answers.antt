use Rattle.std.proofs.Common.{◌≡◌, ◌∙◌, ℕ, List, ap, not}
use Rattle.std.specs.Prelude.{◌==◌}
use Rattle.world_text.specs.writing.Numbering.{is_numbered}
use Rattle.world_text.specs.writing.NumberTable.{entry_at}
use Rattle.world_text.proofs.writing_laws.Entries.{entry_shows}
use Rattle.world_text.proofs.writing.numbering.KeyNumbers.contains.Goals as goal

pub returns : goal.returns
returns c =
    let table = c.self.inside.pages.items in
    let entry : c.entry_at.result ≡ entry_at table c.args.key = c.entry_at.ensures ∙ ap (λ (pages : List (List ℕ)). entry_at pages c.args.key) c.deref.ensures.value in
    ap (λ (n : ℕ). not (n == 0)) entry ∙ entry_shows table c.self.inside.keys.items c.args.key c.self.invariant.1
    ∙ ap (λ (keys : List ℕ). is_numbered keys c.args.key) c.self.view_is
