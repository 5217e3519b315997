-- What the fields of a region table mean.
use Rattle.std.specs.Prelude.{◌≡◌, ℕ, ◌*◌, ◌/◌, ◌%◌, ◌<◌, nat_eq, List, length, slice_index, slice_index_or}
use Rattle.store_word.specs.declared.sizes.TheConstants.{REGION_PAGES}
use Rattle.area_space.specs.declared.classes.Class.{Class}
use Rattle.area_space.specs.declared.table.RegionTable.TheInside.{Inside}
use Rattle.area_space.specs.PageList.{PageList}
use Rattle.area_space.specs.Table.{Table, areas_of, levels_of, slots_of, lists_of}
use Rattle.area_space.specs.Accounts.{account_of}
use Rattle.area_space.specs.Sound.{IsTable}
use Rattle.area_space.specs.FreeSet.{HoldsFree}

abbrev pub table_of : Inside → Table
table_of a = record { regions = a.chains.nodes; top = a.top; quotas = a.quotas.items; kinds = a.kinds.items; chains = a.chains.lists; charges = a.charges.items; husks = a.husks.items; used = a.used.items; marks = a.marks.items; aim = a.aim; last = a.last; pages = a.scan.pages; placed = a.placed }

-- the list has the account of each area
abbrev pub HasAccounts : List ℕ → Table → Type 0
HasAccounts debts t = (length debts ≡ areas_of t) × ((area : ℕ) → area < areas_of t → slice_index debts area ≡ account_of t area)

-- the class of a number, in a world of this many levels
abbrev pub class_by : ℕ → ℕ → Class
class_by levels number = record { area = number / 2 / levels; level = number / 2 % levels; stale = nat_eq (number % 2) 1 }

-- the list has the class of each number below a bound
pub record HasClasses (classes : List Class) (levels count : ℕ) : Type 0 where
  pub size : length classes ≡ count
  pub each : (number : ℕ) (other : Class) → number < count → slice_index_or classes number other ≡ class_by levels number

-- a table, and what its other fields have to be
pub record TableInvariant (t : Table) (regions areas count : ℕ) (free : PageList) (debts : List ℕ) (classes : List Class) : Type 0 where
  pub table : IsTable t
  pub regions_is : regions ≡ t.regions
  pub areas_is : areas ≡ areas_of t
  pub pages_is : count ≡ REGION_PAGES * t.regions
  pub free_is : HoldsFree free (lists_of t)
  pub debts_is : HasAccounts debts t
  pub classes_is : HasClasses classes (levels_of t) (2 * slots_of t)

abbrev pub IsInside : Inside → Type 0
IsInside a = TableInvariant (table_of a) a.regions a.areas a.scan.count a.free a.debts.items a.classes.items
