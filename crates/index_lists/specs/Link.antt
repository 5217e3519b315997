-- The array of links: what is before, after and around each place, and what one write changes.
use Rattle.std.specs.Prelude.{◌≡◌, ◌≢◌, ◌==◌, ℕ, if◌then◌else◌, List, length, slice_index_or, Option, Some, None}
use Rattle.index_lists.specs.declared.links.Link.{Link}

-- the link that is read past the end of the array
abbrev pub no_link : Link
no_link = record { before = 0; after = 0; owner = 0 }

-- the place after a place
abbrev pub after_of : List Link → ℕ → ℕ
after_of links k = (slice_index_or links k no_link).after

-- the place before a place
abbrev pub before_of : List Link → ℕ → ℕ
before_of links k = (slice_index_or links k no_link).before

-- the list that a place belongs to
abbrev pub owner_of : List Link → ℕ → ℕ
owner_of links k = (slice_index_or links k no_link).owner

-- a place, unless it is the end of its list
abbrev pub unless_end : ℕ → ℕ → Option ℕ
unless_end place end = if place == end then None else Some place

-- `to` now follows `from`, and nothing else has changed
pub record Joins (old new : List Link) (from to : ℕ) : Type 0 where
  pub same_length : length new ≡ length old
  pub after_here : after_of new from ≡ to
  pub after_else : (k : ℕ) → k ≢ from → after_of new k ≡ after_of old k
  pub before_here : before_of new to ≡ from
  pub before_else : (k : ℕ) → k ≢ to → before_of new k ≡ before_of old k
  pub same_owner : (k : ℕ) → owner_of new k ≡ owner_of old k

-- the owner of one place has changed, and nothing else has
pub record Owns (old new : List Link) (at owner : ℕ) : Type 0 where
  pub same_length : length new ≡ length old
  pub same_after : (k : ℕ) → after_of new k ≡ after_of old k
  pub same_before : (k : ℕ) → before_of new k ≡ before_of old k
  pub owner_here : owner_of new at ≡ owner
  pub owner_else : (k : ℕ) → k ≢ at → owner_of new k ≡ owner_of old k
