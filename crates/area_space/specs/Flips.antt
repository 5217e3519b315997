-- What a flip does to the classes, and the levels of survivors.
use Rattle.std.specs.Prelude.{if◌then◌else◌, ◌≡◌, ◌≢◌, ℕ, ◌+◌, ◌-◌, ◌/◌, ◌%◌, ◌<◌, ◌≤◌, Bool, true, false, not, ◌&&◌, ◌==◌, nat_lt, Option, Some, None, List, [], ◌++◌, length, slice_index, slice_set, Contains}
use Rattle.std.specs.Int.{bit_at}
use Rattle.lisp_graph.specs.declared.command.Condemn.{Condemn}
use Rattle.lisp_graph.specs.declared.command.Condemn.TheVariants.{Full, Chosen}
use Rattle.lisp_graph.specs.declared.world.AreaKind.{AreaKind}
use Rattle.lisp_graph.specs.declared.world.AreaKind.TheVariants.{Static}
use Rattle.area_space.specs.Table.{Table, kind_of, levels_of, slots_of, live, stale, chain, used_of, IsOld, IsUnclassed}

pub record Slot : Type 0 where
  pub live_chain : List ℕ
  pub old_chain : List ℕ
  pub live_charge : ℕ
  pub old_charge : ℕ
  pub live_husk : ℕ
  pub old_husk : ℕ

abbrev pub state_of : Table → ℕ → Slot
state_of t slot = record { live_chain = chain t (live slot); old_chain = chain t (stale slot); live_charge = slice_index t.charges (live slot); old_charge = slice_index t.charges (stale slot); live_husk = slice_index t.husks (live slot); old_husk = slice_index t.husks (stale slot) }

-- what was live is old
abbrev pub turned : Slot → Slot
turned s = record { live_chain = []; old_chain = s.live_chain; live_charge = 0; old_charge = s.live_charge; live_husk = 0; old_husk = s.live_husk }

abbrev pub after_flip : Bool → Slot → Slot
after_flip true s = turned s
after_flip false s = s

abbrev pub has_level : ℕ → ℕ → Bool
has_level set level = nat_lt 0 level && (bit_at set (level - 1) == 1)

-- the level is condemned
abbrev pub condemns_level : Condemn → ℕ → Bool
condemns_level Full level = true
condemns_level (Chosen s) level = has_level s.0 level

-- whether areas of a kind are static
abbrev pub kind_is_static : AreaKind → Bool
kind_is_static Static = true
kind_is_static _ = false

-- the slot is condemned: its area isn't static, and its level is condemned
abbrev pub condemns : Table → Condemn → ℕ → Bool
condemns t what slot = not (kind_is_static (kind_of t (slot / levels_of t))) && condemns_level what (slot % levels_of t)

-- a new collection, with no class condemned yet
abbrev pub begun : Table → Condemn → Table
begun t what = record t { aim = Some what; last = None; pages = []; placed = 0 }

-- the classes of one slot: what is live is added after what is old
abbrev pub made_old : Table → ℕ → Table
made_old t slot = record t {
  chains = slice_set (slice_set t.chains (live slot) []) (stale slot) (chain t (stale slot) ++ chain t (live slot));
  charges = slice_set (slice_set t.charges (stale slot) (slice_index t.charges (stale slot) + slice_index t.charges (live slot))) (live slot) 0;
  husks = slice_set (slice_set t.husks (stale slot) (slice_index t.husks (stale slot) + slice_index t.husks (live slot))) (live slot) 0;
}

-- the flip mark of a region: its used end if it is live, else 0
pub record IsFlipMark (t : Table) (region mark : ℕ) : Type 0 where
  pub alive : (slot : ℕ) → Contains (chain t (live slot)) region → mark ≡ used_of t region
  pub old : IsOld t region → mark ≡ 0
  pub free : IsUnclassed t region → mark ≡ 0

-- one slot is flipped if it is condemned, and nothing else has changed
pub record FlipsSlot (old new : Table) (what : Condemn) (slot : ℕ) : Type 0 where
  pub same : new ≡ record old { chains = new.chains; charges = new.charges; husks = new.husks }
  pub here : state_of new slot ≡ after_flip (condemns old what slot) (state_of old slot)
  pub others : (k : ℕ) → k ≢ slot → state_of new k ≡ state_of old k

-- the lists of a table have the same lengths as before
pub record SameSizes (old new : Table) : Type 0 where
  pub chains : length new.chains ≡ length old.chains
  pub charges : length new.charges ≡ length old.charges
  pub husks : length new.husks ≡ length old.husks
  pub used : length new.used ≡ length old.used
  pub marks : length new.marks ≡ length old.marks

-- a flip
pub record Condemns (old new : Table) (what : Condemn) : Type 0 where
  pub same : new ≡ record old { chains = new.chains; charges = new.charges; husks = new.husks; marks = new.marks; aim = Some what; last = None; pages = []; placed = 0 }
  pub sizes : SameSizes old new
  pub slots : (slot : ℕ) → slot < slots_of old → state_of new slot ≡ after_flip (condemns old what slot) (state_of old slot)
  pub marks : (region : ℕ) → region < old.regions → IsFlipMark new region (slice_index new.marks region)

-- the slots below a number are flipped, the others aren't yet
pub record IsFlipping (old now : Table) (what : Condemn) (below : ℕ) : Type 0 where
  pub same : now ≡ record old { chains = now.chains; charges = now.charges; husks = now.husks; aim = Some what; last = None; pages = []; placed = 0 }
  pub done : (slot : ℕ) → slot < below → state_of now slot ≡ after_flip (condemns old what slot) (state_of old slot)
  pub rest : (slot : ℕ) → below ≤ slot → state_of now slot ≡ state_of old slot

-- the level of the survivors of a level
abbrev pub survivor_of : Option Condemn → ℕ → ℕ → ℕ
survivor_of (Some (Chosen s)) top level = if nat_lt level top then level + 1 else 0
survivor_of _ top level = 0

abbrev pub survivor : Table → ℕ → ℕ
survivor t level = survivor_of t.aim t.top level
