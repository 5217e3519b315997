-- The steps that a machine takes by itself before an allocation (silent steps).
use Rattle.std.specs.Prelude.{◌≡◌, ℕ, suc, ◌-◌, ◌^◌, ◌==◌, Bool, ◌&&◌, nat_lt, nat_le, if◌then◌else◌, Option, Some, None, is_none, is_some, List, length, slice_index, MatchBool}
use Rattle.std.specs.List.{list_any}
use Rattle.store_word.specs.Words.{Parts}
use Rattle.store_word.specs.declared.levels.Levels.{Levels}
use Rattle.store_word.specs.declared.space.Space.{Space}
use Rattle.lisp_graph.specs.Totals.{total, if_true}
use Rattle.mem_port.specs.Store.{Store}
use Rattle.area_space.specs.Accounts.{level_total}
use Rattle.area_space.specs.Frees.{outside_old}
use Rattle.area_space.specs.Table.{Table}
use Rattle.heap_state.specs.lisp_meaning.State.{State}
use Rattle.heap_state.specs.lisp_meaning.Run.{SilentFlip, SilentReclaim, collects_itself}
use Rattle.heap_state.specs.lisp_meaning.Roles.{RoleMap}
use Rattle.scavenger.specs.Scan.{Scan}
use Rattle.heap_state.specs.RepresentsAll.{RepresentsAll}

-- Full levels

-- the charge at which a level is collected without a command; 0 if it never is
abbrev pub capacity_at : Space → ℕ → ℕ
capacity_at space level = slice_index space.capacity (level - 1)

-- some level is collected without a command
abbrev pub collects_alone : Space → Bool
collects_alone space = list_any (nat_lt 0) space.capacity

-- the total of a level has reached its capacity
abbrev pub is_full_on : Table → Space → ℕ → Bool
is_full_on t space level = nat_lt 0 (capacity_at space level) && nat_le (capacity_at space level) (level_total t level)

-- the set, as a number, of the levels from 1 to this one whose total has reached their capacity
abbrev pub full_bits : Table → Space → ℕ → ℕ
full_bits t space levels = total (λ i. if_true (is_full_on t space (suc i)) (2 ^ i)) levels

-- a set that isn't empty
abbrev pub some_set : ℕ → Option Levels
some_set bits = if bits == 0 then None else Some (record { 0 = bits })

-- the set of the levels whose total has reached their capacity, if there are any
abbrev pub full_levels_on : Table → Space → Option Levels
full_levels_on t space = some_set (full_bits t space space.levels)

-- Silent steps

-- those before a command that allocates
abbrev pub IsSilent : State → State → Type 0
IsSilent s new = MatchBool (collects_itself s) ((mid : State) × SilentReclaim s s.phase mid × SilentFlip mid new) (new ≡ s)

-- no collection runs and some level is full, so that a silent flip occurs
abbrev pub flips_idle : Table → Space → Bool
flips_idle t space = is_none t.aim && is_some (full_levels_on t space)

-- whether one occurs before an allocation: some level is collected without a command, no collection runs or its scan has finished, and some level is full
abbrev pub flips_alone : Table → Scan → Space → Bool
flips_alone t scan space = collects_alone space && (scan.over && is_some (full_levels_on t space))

-- a collection runs, and its scan has finished
abbrev pub has_finished : Table → Scan → Bool
has_finished t scan = scan.over && is_some t.aim

-- and a reclaim does: some level is collected without a command, and a collection has finished
abbrev pub reclaims_alone : Table → Scan → Space → Bool
reclaims_alone t scan space = collects_alone space && has_finished t scan

-- the units that were scanned of the collection that runs when an allocation begins, and the words placed since its flip
abbrev pub done_from : Table → Scan → Space → ℕ
done_from t scan space = if flips_alone t scan space then 0 else scan.done

abbrev pub placed_from : Table → Scan → Space → ℕ
placed_from t scan space = if flips_alone t scan space then 0 else t.placed

-- the resident pages after the silent steps, in order of use: a reclaim makes the pages of old regions empty
abbrev pub resident_from : Table → Scan → Space → List ℕ → List ℕ
resident_from t scan space pages = if reclaims_alone t scan space then outside_old t pages else pages

-- the machine represents some state of a world with this space, with a word for each register and all its regions
pub record StandsIn (m : Store) (t : Table) (scan : Scan) (space : Space) : Type 0 where
  pub registers : List Parts
  pub map : RoleMap
  pub state : State
  pub represents : RepresentsAll m t scan registers map state
  pub space_is : state.space ≡ space
  pub count : length registers ≡ space.registers
  pub regions : t.regions ≡ space.regions

-- a state after the silent steps is represented, and its world is the same
pub record PreparesTo (m : Store) (t : Table) (scan : Scan) (registers : List Parts) (s : State) : Type 0 where
  pub mid : State
  pub silent : IsSilent s mid
  pub space : mid.space ≡ s.space
  pub areas : mid.areas ≡ s.areas
  pub map : RoleMap
  pub represents : RepresentsAll m t scan registers map mid
