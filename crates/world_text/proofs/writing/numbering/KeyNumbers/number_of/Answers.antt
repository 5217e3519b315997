use Rattle.std.proofs.Common.{◌≡◌, ◌∙◌, ℕ, List, ap, not, sym}
use Rattle.std.specs.Prelude.{◌==◌}
use Rattle.world_text.specs.writing.Numbering.{is_numbered}
use Rattle.world_text.specs.writing.NumberTable.{entry_at}
use Rattle.world_text.proofs.writing_laws.Entries.{entry_shows}
use Rattle.world_text.proofs.writing.numbering.KeyNumbers.number_of.Goals as goal

pub returns-then-entry-eq0-clause-none : goal.returns-then-entry-eq0-clause-none
returns-then-entry-eq0-clause-none c =
    let table = c.self.inside.pages.items in
    let entry : c.entry_at-entry.result ≡ entry_at table c.args.key = c.entry_at-entry.ensures ∙ ap (λ (pages : List (List ℕ)). entry_at pages c.args.key) c.deref.ensures.value in
    ap (λ (keys : List ℕ). is_numbered keys c.args.key) (sym c.self.view_is)
    ∙ sym (entry_shows table c.self.inside.keys.items c.args.key c.self.invariant.1)
    ∙ ap (λ (n : ℕ). not (n == 0)) (sym entry ∙ c.if-entry-eq0.true)
