-- A reclaim of a ground.
use Rattle.std.proofs.Common.{◌≡◌, ◌*◌, true, List, sym, ◌∙◌, ap, subst, refl}
use Rattle.store_word.specs.Words.{Parts}
use Rattle.mem_port.specs.Store.{Store}
use Rattle.area_space.specs.Table.{Table}
use Rattle.area_space.specs.Frees.{Frees}
use Rattle.area_space.specs.Ground.{ClearsOld, NamesNoOld}
use Rattle.heap_state.specs.lisp_meaning.State.{Collection, Phase, Running, State}
use Rattle.heap_state.specs.lisp_meaning.Roles.{RoleMap}
use Rattle.heap_state.specs.lisp_meaning.Stands.{IsScanned}
use Rattle.heap_state.specs.lisp_ground.Collecting.{FitsOn}
use Rattle.heap_state.specs.lisp_ground.Image.{image_of}
use Rattle.heap_state.proofs.lisp_ground.invariant.Collections.{reclaimed_on, scanned_names_no_old}
use Rattle.scavenger.specs.Scan.{Scan}
use Rattle.scavenger.specs.Left.{rest_of}
use Rattle.heap_state.specs.RepresentsAll.{RepresentsAll}
use Rattle.heap_state.specs.Laws.{ScanMatchesPhase}
use Rattle.heap_state.specs.Scans.{Scans, Sweeps}
use Rattle.heap_state.proofs.MachineInvariant.{represents_by, stands_by}
use Rattle.heap_collect.specs.Moments.{HasSettled, IsDone}

pub swept_of : (m : Store) (t : Table) (scan : Scan) (registers : List Parts) (k : RoleMap) (s : State) (c : Collection) → RepresentsAll m t scan registers k s → s.phase ≡ Running c → Sweeps m t scan registers k s.store c 0
swept_of m t scan registers k s c x running = subst (λ (p : Phase). Scans m t scan registers k s.store p 0) running x.scans

-- before it no word outside old regions has an address in one
pub done_names : (m : Store) (t : Table) (x : IsDone m t) → NamesNoOld m t
done_names m t x =
    let on = x.represents.represents.kept in
    let w = swept_of m t x.scan x.registers x.map x.state x.collection x.represents x.running in
    scanned_names_no_old m t (rest_of x.scan t x.registers) on.table on.ground (subst (IsScanned (image_of m t (rest_of x.scan t x.registers))) (w.over ∙ x.over) w.clean.scanned)

pub reclaims_here : (m m' : Store) (t u : Table) → Frees t u → ClearsOld m m' t t.regions → FitsOn m' u → (scan : Scan) (registers : List Parts) (k : RoleMap) (s : State) (c : Collection)
    → RepresentsAll m t scan registers k s → s.phase ≡ Running c → c.over ≡ true → HasSettled m' u scan registers s
reclaims_here m m' t u frees clears fits scan registers k s c x running over =
    let w = swept_of m t scan registers k s c x running in
    let after = reclaimed_on m m' t u (rest_of scan t registers) (rest_of scan u registers) k s c (stands_by m t scan registers k s x) running over (record {
      freed = frees;
      cleared = clears;
      fits = fits;
      registers = refl;
    }) in
    let swept : ScanMatchesPhase m' u scan registers after.1.phase =
    subst (ScanMatchesPhase m' u scan registers) (sym after.3.phase) (record { over = w.over ∙ over; count = w.clean.count; pages = w.clean.pages ∙ ap (λ (y : Table). 16 * y.regions) (sym frees.same) }) in
    record { collection = c; running = running; next = after.1; settles = after.3; map = after.0; represents = represents_by m' u scan registers after.0 after.1 after.2 swept fits.marks }
