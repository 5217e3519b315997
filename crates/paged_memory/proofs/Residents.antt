-- How many pages are resident after a use of a page, and after one that ended in a swap error.
use Rattle.std.proofs.Common.{ℕ, ◌≡◌, ◌+◌, ◌≤◌, List, [], ◌∷◌, ◌++◌, length, drop, ap, arith, inl, inr, length-append}
use Rattle.std.specs.Prelude.{Bool, eqb}
use Rattle.std.specs.List.{IsDistinct}
use Rattle.std.proofs.lemmas.Bool.{cases_lt}
use Rattle.store_word.specs.Words.{Parts}
use Rattle.frame_pool.specs.index_lists.Chains.{without}
use Rattle.frame_pool.proofs.index_lists.ListUpdates.{length-without}
use Rattle.paged_memory.specs.Paging.{Paging, resident_of, IsPaged}
use Rattle.paged_memory.specs.Order.{IsUsed, Uses}
use Rattle.paged_memory.proofs.Lists.{contains_or_not}
use Rattle.paged_memory.proofs.NextPages.{resident_once}

-- one page fewer at most, if the first one was evicted
one_dropped : (xs : List ℕ) → length xs ≤ length (drop 1 xs) + 1
one_dropped [] = omega arith
one_dropped (x ∷ xs) = omega arith

-- the page that was used is the last
one_more : (xs : List ℕ) (page : ℕ) → length (xs ++ page ∷ []) ≡ length xs + 1
one_more xs page = simp length-append (omega arith)

-- no fewer pages once one was used
used_room : (frames : ℕ) (old new : List ℕ) (page : ℕ) → IsDistinct eqb old → IsUsed frames old new page → length old ≤ length new
used_room frames old new page once u =
    elim (contains_or_not page old) [
      | inl there ↦ (let l = ap length (u.again there) in omega (arith, length-without page old there once, one_more (without page old) page))
      | inr off ↦ (elim (cases_lt (length old) frames) [
        | inl room ↦ (let l = ap length (u.room off room) in omega (arith, one_more old page))
        | inr full ↦ (let l = ap length (u.full off full) in omega (arith, one_dropped old, one_more (drop 1 old) page))
      ])
    ]

pub uses_room : (old new : Paging) (stored : List Parts) (page : ℕ) (ephemeral : Bool) → IsPaged old stored → Uses old new page ephemeral → length (resident_of old) ≤ length (resident_of new)
uses_room old new stored page ephemeral h u = used_room _ (resident_of old) (resident_of new) page (resident_once old stored h) u.order
