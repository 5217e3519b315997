-- What a reclaim does to the classes and their regions.
use Rattle.std.specs.Prelude.{◌≡◌, ◌≢◌, ℕ, ◌/◌, ◌<◌, ◌≤◌, Bool, not, nat_eq, None, List, [], filter, slice_set, Contains}
use Rattle.store_word.specs.declared.sizes.TheConstants.{REGION_PAGES}
use Rattle.std.specs.List.{list_any, range_with_len}
use Rattle.index_lists.specs.Chains.{without}
use Rattle.area_space.specs.Table.{Table, slots_of, stale, chain, used_of, mark_of, IsOld}
use Rattle.area_space.specs.Flips.{Slot, state_of, SameSizes}

-- the old class of the slot is empty
abbrev pub emptied : Slot → Slot
emptied s = record s { old_chain = []; old_charge = 0; old_husk = 0 }

abbrev pub forgiven : Table → ℕ → Table
forgiven t slot = record t { charges = slice_set t.charges (stale slot) 0; husks = slice_set t.husks (stale slot) 0 }

-- the first region of an old class has become free
abbrev pub released : Table → ℕ → ℕ → Table
released t slot r = record t { chains = slice_set t.chains (stale slot) (without r (chain t (stale slot))); used = slice_set t.used r 0; marks = slice_set t.marks r 0 }

-- no word of a region is used, nor was at the flip
abbrev pub IsBare : Table → ℕ → Type 0
IsBare t r = (used_of t r ≡ 0) × (mark_of t r ≡ 0)

abbrev pub SameUse : Table → Table → ℕ → Type 0
SameUse old new r = (used_of new r ≡ used_of old r) × (mark_of new r ≡ mark_of old r)

-- the old class of one slot is being freed: the rest of its chain is the end of the old chain
pub record IsFreeing (old now : Table) (slot : ℕ) : Type 0 where
  pub same : now ≡ record old { chains = now.chains; charges = now.charges; husks = now.husks; used = now.used; marks = now.marks }
  pub here : state_of now slot ≡ record (emptied (state_of old slot)) { old_chain = chain now (stale slot) }
  pub others : (k : ℕ) → k ≢ slot → state_of now k ≡ state_of old k
  pub within : (r : ℕ) → Contains (chain now (stale slot)) r → Contains (chain old (stale slot)) r
  pub gone : (r : ℕ) → Contains (chain old (stale slot)) r → (Contains (chain now (stale slot)) r → ⊥) → IsBare now r
  pub kept : (r : ℕ) → (Contains (chain old (stale slot)) r → ⊥) → SameUse old now r

-- the old classes of the slots below a number are freed
pub record IsReclaiming (old now : Table) (below : ℕ) : Type 0 where
  pub same : now ≡ record old { chains = now.chains; charges = now.charges; husks = now.husks; used = now.used; marks = now.marks }
  pub done : (slot : ℕ) → slot < below → state_of now slot ≡ emptied (state_of old slot)
  pub rest : (slot : ℕ) → below ≤ slot → state_of now slot ≡ state_of old slot
  pub gone : (slot r : ℕ) → slot < below → Contains (chain old (stale slot)) r → IsBare now r
  pub kept : (r : ℕ) → ((slot : ℕ) → slot < below → Contains (chain old (stale slot)) r → ⊥) → SameUse old now r

-- a reclaim: no class is old, and the regions that were are free
pub record Frees (old new : Table) : Type 0 where
  pub same : new ≡ record old { chains = new.chains; charges = new.charges; husks = new.husks; used = new.used; marks = new.marks; aim = None }
  pub sizes : SameSizes old new
  pub slots : (slot : ℕ) → slot < slots_of old → state_of new slot ≡ emptied (state_of old slot)
  pub gone : (r : ℕ) → IsOld old r → IsBare new r
  pub kept : (r : ℕ) → (IsOld old r → ⊥) → SameUse old new r

-- Resident pages

-- whether a region is in an old class
abbrev pub is_old : Table → ℕ → Bool
is_old t region = list_any (λ slot. list_any (nat_eq region) (chain t (stale slot))) (range_with_len 0 (slots_of t))

-- the pages outside old regions, in their order
abbrev pub outside_old : Table → List ℕ → List ℕ
outside_old t pages = filter (λ page. not (is_old t (page / REGION_PAGES))) pages
