use Rattle.std.proofs.Common.{◌≡◌, length}
use Rattle.test_memory.proofs.pages.ten_pages_in_three_buckets.Given as goal

-- the numbers of pages and of buckets are unchanged
abbrev pub invariant-loop-page : goal.invariant-loop-page
invariant-loop-page g l = (length l.map.places ≡ 10) × (length l.map.buckets ≡ 3)
