-- A flip of a ground and the start of its scan.
use Rattle.std.proofs.Common.{◌≡◌, ℕ, zero, suc, ◌+◌, ◌*◌, ◌≤◌, Bool, true, false, List, [], length, sym, ◌∙◌, ap, subst, refl, arith}
use Rattle.store_word.specs.Words.{Parts}
use Rattle.lisp_graph.specs.declared.command.Condemn.{Condemn}
use Rattle.lisp_graph.specs.Totals.{total, if_true}
use Rattle.lisp_graph.proofs.Totals.{total-zero, total-suc}
use Rattle.mem_port.specs.Store.{Store, MarksHold}
use Rattle.area_space.specs.Table.{Table}
use Rattle.area_space.specs.Flips.{Condemns}
use Rattle.area_space.specs.Sound.{IsTable}
use Rattle.area_space.specs.Ground.{IsGround, NamesNoFree}
use Rattle.heap_state.specs.lisp_meaning.State.{Idle, State}
use Rattle.heap_state.specs.lisp_meaning.Flip.{flipped}
use Rattle.heap_state.specs.lisp_meaning.Roles.{RoleMap}
use Rattle.heap_state.specs.lisp_meaning.Stands.{IsScanned}
use Rattle.heap_state.specs.lisp_ground.Image.{image_of}
use Rattle.heap_state.specs.lisp_ground.Collecting.{StandsOn}
use Rattle.heap_state.proofs.lisp_ground.invariant.Collections.{flipped_on}
use Rattle.scavenger.specs.Scan.{Scan}
use Rattle.scavenger.specs.Left.{rest_of, units_of}
use Rattle.scavenger.specs.Collecting.{ScanInvariant}
use Rattle.scavenger.specs.Starting.{Begins, base_pages, is_base}
use Rattle.heap_state.specs.RepresentsAll.{RepresentsAll}
use Rattle.heap_state.specs.Scans.{Scans}
use Rattle.heap_state.proofs.MachineInvariant.{represents_by, stands_by}

-- After

small : (b : Bool) → if_true b 1 ≤ 1
small true = omega arith
small false = omega arith

few_counted : (p : ℕ → Bool) (n : ℕ) → total (λ i. if_true (p i) 1) n ≤ n
few_counted p zero = let e = total-zero (λ i. if_true (p i) 1) in omega arith
few_counted p (suc n) =
    let e = total-suc (λ i. if_true (p i) 1) n in
    let l = few_counted p n in
    let h = small (p n) in
    omega arith

pub few_pages : (m : Store) (t : Table) (what : Condemn) → base_pages m t what ≤ 16 * t.regions
few_pages m t what = few_counted (is_base m t what) (16 * t.regions)

module _ (m : Store) (t u : Table) (pages : List ℕ) (scan scan' : Scan) (what : Condemn) (count : ℕ) (condemns : Condemns t u what)
    (before : IsGround m u) (no_free : NamesNoFree m u) (table : IsTable u) (ground : IsGround m (record u { pages = pages })) (named : NamesNoFree m (record u { pages = pages })) (table' : IsTable (record u { pages = pages }))
    (marks : MarksHold m) (going : scan'.over ≡ false)
    (clean : (registers : List Parts) → length registers ≡ scan.registers → ScanInvariant m (record u { pages = pages }) scan' registers)
    (units : (registers : List Parts) → length registers ≡ scan.registers → units_of m scan' (record u { pages = pages }) registers ≤ scan.registers + 256 * count) where
  abbrev u' : Table
  u' = record u { pages = pages }

  module _ (registers : List Parts) (k : RoleMap) (s : State) (x : RepresentsAll m t scan registers k s) (idle : s.phase ≡ Idle) (size : length registers ≡ s.space.registers) where
    held : length registers ≡ scan.registers
    held = (subst (λ p. Scans m t scan registers k s.store p 0) idle x.scans).count

    stands : StandsOn m u (rest_of scan' u' registers) k (flipped s what count)
    stands =
        let few = units registers held in
        let same = held in
        flipped_on m t u (rest_of scan t registers) (rest_of scan' u' registers) k s what count (stands_by m t scan registers k s x) idle (record {
          condemned = condemns;
          fits = record { ground = before; named = no_free; table = table; marks = marks };
          registers = refl;
          scanned = subst (IsScanned (image_of m u' (rest_of scan' u' registers))) going (clean registers held).scanned;
          units = omega arith;
        })

    pub flips_here : RepresentsAll m u' scan' registers k (flipped s what count)
    flips_here =
        let on = stands.ground in
        represents_by m u' scan' registers k (flipped s what count)
        (record { strong = stands.strong; ground = record { kept = on.kept; ground = ground; named = named; table = table'; room = on.room; agrees = record { levels = on.agrees.levels; quotas = on.agrees.quotas; kinds = on.agrees.kinds } } })
        (clean registers held, going) marks

-- if the memory is the same after it, and the table too except for its pages
module _ (m m1 m' : Store) (t u v : Table) (scan scan' : Scan) (what : Condemn) (count : ℕ) (one : m1 ≡ m) (two : m' ≡ m1) (same : v ≡ record u { pages = v.pages }) where
  both : m' ≡ m
  both = two ∙ one

  here : (P : Store → Table → Type 0) → P m' v → P m (record u { pages = v.pages })
  here P x = subst (λ (n : Store). P n (record u { pages = v.pages })) both (subst (P m') same x)

  back : (P : Store → Table → Type 0) → P m (record u { pages = v.pages }) → P m' v
  back P x = subst (P m') (sym same) (subst (λ (n : Store). P n (record u { pages = v.pages })) (sym both) x)

  pub flips_by : Condemns t u what → IsGround m1 u → NamesNoFree m1 u → IsTable u → IsGround m' v → NamesNoFree m' v → IsTable v → MarksHold m → scan'.over ≡ false
      → ((registers : List Parts) → length registers ≡ scan.registers → ScanInvariant m' v scan' registers)
      → ((registers : List Parts) → length registers ≡ scan.registers → units_of m' scan' v registers ≤ scan.registers + 256 * count)
      → (registers : List Parts) (k : RoleMap) (s : State) → RepresentsAll m t scan registers k s → s.phase ≡ Idle → length registers ≡ s.space.registers → RepresentsAll m' v scan' registers k (flipped s what count)
  flips_by condemns before no_free table ground named table' marks going clean units registers k s x idle size =
      back (λ (n : Store) (w : Table). RepresentsAll n w scan' registers k (flipped s what count))
      (flips_here m t u v.pages scan scan' what count condemns (subst (λ (n : Store). IsGround n u) one before) (subst (λ (n : Store). NamesNoFree n u) one no_free) table
      (here (λ (n : Store) (w : Table). IsGround n w) ground) (here (λ (n : Store) (w : Table). NamesNoFree n w) named) (here (λ (n : Store) (w : Table). IsTable w) table') marks going
      (λ rs held. here (λ (n : Store) (w : Table). ScanInvariant n w scan' rs) (clean rs held))
      (λ rs held. here (λ (n : Store) (w : Table). units_of n scan' w rs ≤ scan.registers + 256 * count) (units rs held)) registers k s x idle size)

-- the base pages are those of the table after it
pub same_pages : (m m1 : Store) (u v : Table) (what : Condemn) (count : ℕ) → m1 ≡ m → v ≡ record u { pages = v.pages } → count ≡ base_pages m1 u what → count ≡ base_pages m v what
same_pages m m1 u v what count one same is =
    is ∙ ap (λ (n : Store). base_pages n u what) one ∙ sym (ap (λ (w : Table). base_pages m w what) same)

-- what is condemned is old in the table after it
pub condemned_there : {t u v : Table} {what : Condemn} → v ≡ record u { pages = v.pages } → Condemns t u what → Condemns t (record v { pages = [] }) what
condemned_there {t} {u} {v} {what} same x =
    let none : record u { pages = [] } ≡ u = ap (λ (w : Table). record w { pages = [] }) x.same ∙ sym x.same in
    subst (λ (w : Table). Condemns t (record w { pages = [] }) what) (sym same) (subst (λ (w : Table). Condemns t w what) (sym none) x)

-- the scan begins with the table's set of pages at that time
pub begins_there : (m m1 : Store) (t1 t2 : Table) (what : Condemn) (old new : Scan) → m1 ≡ m → t2 ≡ (record t1 { pages = t2.pages }) → Begins m1 t1 what old new → Begins m t2 what old new
begins_there m m1 t1 t2 what old new memory table begins =
    let x = subst (λ (y : Store). Begins y t1 what old new) memory begins in
    subst (λ (y : Table). Begins m y what old new) (sym table) (record { same = x.same; pages = x.pages; spared = x.spared })
