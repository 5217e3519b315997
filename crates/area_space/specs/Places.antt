-- The places of objects, and what opening a region and committing words do to a table.
use Rattle.std.specs.Prelude.{◌≡◌, ℕ, ◌+◌, ◌*◌, ◌/◌, ◌<◌, ◌≤◌, Some, [], ◌∷◌, ◌++◌, slice_set}
use Rattle.store_word.specs.declared.sizes.TheConstants.{REGION_WORDS}
use Rattle.index_lists.specs.Chains.{last_of}
use Rattle.area_space.specs.Table.{Table, slots_of, live, chain, used_of}

-- a place is the used end of the last region of a live chain, and this many words fit there
pub record IsEnd (t : Table) (slot at words : ℕ) : Type 0 where
  pub inside : slot < slots_of t
  pub last : last_of (chain t (live slot)) ≡ Some (at / REGION_WORDS)
  pub end : at ≡ REGION_WORDS * (at / REGION_WORDS) + used_of t (at / REGION_WORDS)
  pub fits : used_of t (at / REGION_WORDS) + words ≤ REGION_WORDS

-- a region is opened at the end of a class
abbrev pub opened : Table → ℕ → ℕ → Table
opened t class region = record t { chains = slice_set t.chains class (chain t class ++ region ∷ []) }

-- the used end of the region of a place has moved past this many words
abbrev pub extended : Table → ℕ → ℕ → Table
extended t at words = record t { used = slice_set t.used (at / REGION_WORDS) (used_of t (at / REGION_WORDS) + words); placed = t.placed + words }
