use Rattle.std.proofs.Common.{◌≡◌, ◌+◌, ◌-◌, ℕ, length}
use Rattle.world_text.specs.writing.NumberTable.{entry_at}
use Rattle.world_text.proofs.writing.number_table.add_pages.Given as goal

abbrev pub invariant-loop-count : goal.invariant-loop-count
invariant-loop-count l =
    (l.count ≡ length l.pages.items)
    × ((key : ℕ) → entry_at l.pages.items key ≡ entry_at l.fn.pages.items key)

abbrev pub decreases-loop-count : goal.decreases-loop-count
decreases-loop-count l = l.number + 1 - l.count
