-- The moments of an allocation.
use Rattle.std.proofs.Common.{◌≡◌, ℕ, ◌*◌, refl, sym, ◌∙◌, ap, arith, false, List, length, Option, Some, None}
use Rattle.std.specs.Prelude.{IfSome}
use Rattle.store_word.specs.Words.{Parts}
use Rattle.store_word.specs.declared.space.Space.{Space}
use Rattle.lisp_graph.specs.declared.command.Condemn.TheVariants.{Chosen}
use Rattle.mem_port.specs.declared.memory.Memory.{Ghosts}
use Rattle.area_space.specs.Table.{Table}
use Rattle.area_space.specs.View.{GroundView, view}
use Rattle.area_space.specs.declared.ground.Ground.{Ground}
use Rattle.scavenger.specs.Scan.{Scan}
use Rattle.heap_collect.specs.Moments.{RepresentsMachineState}
use Rattle.heap_collect.specs.Silent.{flips_alone, full_levels_on, reclaims_alone, resident_from}
use Rattle.heap_collect.specs.SilentSteps.{SilentSteps}
use Rattle.lisp_heap.specs.Admits.{Prepares}
use Rattle.lisp_heap.specs.HeapView.{MemoryLists, contents_at, lists_of}
use Rattle.lisp_heap.specs.Growth.{LooksAndWidens}
use Rattle.lisp_heap.specs.Making.{IsReady, Moment, ScansBeforeGrowth}
use Rattle.lisp_heap.proofs.Collections.{begins_listed}
use Rattle.lisp_heap.proofs.ScanOrder.{up_to_listed}

abbrev pub moment : MemoryLists → Table → Scan → List Parts → Moment
moment memory table scan registers = record { memory = memory; table = table; scan = scan; registers = registers }

-- two with the same parts
pub moment_same : {m m' : MemoryLists} {t t' : Table} {s s' : Scan} {ws ws' : List Parts} → m' ≡ m → t' ≡ t → s' ≡ s → ws' ≡ ws → moment m' t' s' ws' ≡ moment m t s ws
moment_same {m} {m'} {t} {t'} {s} {s'} {ws} {ws'} x y z w =
    ap (λ (i : MemoryLists). moment i t' s' ws') x ∙ ap (λ (i : Table). moment m i s' ws') y ∙ ap (λ (i : Scan). moment m t i ws') z ∙ ap (λ (i : List Parts). moment m t s i) w

some_then : {A : Type 0} {P Q : A → Type 0} (o : Option A) → ((x : A) → P x → Q x) → IfSome o P → IfSome o Q
some_then None f x = tt
some_then (Some a) f x = f a x

-- after the silent steps
abbrev pub prepared : {M : Type 0} {g : Ghosts M} (ground ground2 : Ground M g) {scan begun : Scan} {space : Space} → SilentSteps (view ground) (view ground2) scan begun space → (reclaims_alone ground.table scan space ≡ false → ground2.mem ≡ ground.mem)
    → (reclaims_alone ground.table scan space ≡ false → flips_alone ground.table scan space ≡ false → ground2 ≡ ground) → g.resident ground2.mem ≡ resident_from ground.table scan space (g.resident ground.mem) → Prepares (view ground) scan space (g.resident ground.mem)
prepared {M} {g} ground ground2 {scan} {begun} silent memory rests resident = record {
  ground = view ground2;
  begun = begun;
  silent = silent;
  memory = λ never. ap g.seen (memory never);
  rests = λ never still. ap (λ (w : Ground M g). w.table) (rests never still);
  resident = ap length resident;
}

pub ready_there : {M : Type 0} {g : Ghosts M} (ground : Ground M g) {scan : Scan} {registers : List Parts} {space : Space} {pages : List ℕ} (x : Prepares (view ground) scan space pages) → RepresentsMachineState x.ground.mem.store x.ground.table x.begun registers
    → IsReady (contents_at ground scan registers space) (moment (lists_of x.ground.mem.store) x.ground.table x.begun registers)
ready_there ground {scan} {registers} {space} {pages} x standing = record {
  registers = refl;
  memory = λ never. ap lists_of (x.memory never);
  scan = x.silent.unchanged;
  table = x.rests;
  begins = λ comes. some_then (full_levels_on ground.table space) (λ levels begins. begins_listed x.ground.mem.store x.ground.table (Chosen levels) (sym standing.represents.represents.kept.ground.levels_size) scan x.begun begins) (x.silent.begins comes);
}

-- a block was looked at, units were scanned, and it grew
pub growth_order : {M : Type 0} {g : Ghosts M} (ground ground3 : Ground M g) {scan scan3 : Scan} {registers registers3 : List Parts} {space : Space} (charge : ℕ) (x : Prepares (view ground) scan space (g.resident ground.mem)) → RepresentsMachineState x.ground.mem.store x.ground.table x.begun registers
    → LooksAndWidens x.ground (view ground3) x.begun scan3 registers registers3 charge (space.rate * charge) → ScansBeforeGrowth (contents_at ground scan registers space) (contents_at ground3 scan3 registers3 space) charge
growth_order ground ground3 {scan} {scan3} {registers} {registers3} {space} charge x standing y =
    let w = y.widens in
    record {
      ready = moment (lists_of x.ground.mem.store) x.ground.table x.begun registers;
      found = moment (lists_of y.ground.mem.store) y.ground.table x.begun y.words;
      silent = ready_there ground x standing;
      looks = record { scan = refl; registers = y.others; table = y.table; few = y.few };
      makes = record {
        scanned = moment (lists_of w.ground.mem.store) w.ground.table scan3 registers3;
        order = λ runs. up_to_listed (w.scans runs);
        idle = λ none. (let z = w.idle none in moment_same (ap (λ (v : GroundView). lists_of v.mem.store) z.0) (ap (λ (v : GroundView). v.table) z.0) z.1 z.2);
        still = refl;
        grows = (let e = w.placed in omega arith);
        few = (let e = w.placed in omega arith);
      };
    }
