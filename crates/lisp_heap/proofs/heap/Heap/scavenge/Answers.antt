use Rattle.std.proofs.Common.{◌≡◌, ◌≢◌, ◌∙◌, None, refl, sym, ap, subst, length}
use Rattle.std.specs.Vec.{with_items}
use Rattle.std.proofs.lemmas.List.{with_items_is}
use Rattle.lisp_graph.specs.declared.command.Command.TheVariants as C
use Rattle.lisp_heap.specs.HeapView.{HeapView, contents_at}
use Rattle.lisp_heap.specs.Stands.{IsSound, Runs}
use Rattle.lisp_heap.proofs.ListedMemory.{standing}
use Rattle.lisp_heap.proofs.PageMarks.{pages_marked}
use Rattle.lisp_heap.proofs.ScanOrder.{up_to_listed}
use Rattle.lisp_heap.proofs.CommandRuns.{step_runs}
use Rattle.lisp_heap.proofs.MemoryReports.{told_by}
use Rattle.lisp_heap.proofs.ScanTransports.{most_listed}
use Rattle.lisp_heap.proofs.Units.{nothing_left, scanned_some, unfinished}
use Rattle.lisp_heap.proofs.heap.Heap.scavenge.Given.{Over}
use Rattle.lisp_heap.proofs.heap.Heap.scavenge.Goals.{After-scavenge}
use Rattle.lisp_heap.proofs.heap.Heap.scavenge.Goals as goal

-- the heap before, and after
abbrev old : (g : Over) → After-scavenge g → HeapView
old g c = contents_at c.self.inside.ground c.self.inside.scan c.self.inside.registers.items c.self.inside.space

abbrev new : (g : Over) → After-scavenge g → HeapView
new g c = contents_at c.scavenge.new.ground c.scavenge.new.scan c.scavenge.new.registers c.self.inside.space

-- the vector has the registers
same : (g : Over) (c : After-scavenge g) → (with_items c.self.inside.registers c.scavenge.new.registers).items ≡ c.scavenge.new.registers
same g c = with_items_is c.self.inside.registers c.scavenge.new.registers (c.scavenge.ensures.goes_on.registers.count ∙ c.deref_mut.ensures.len)

ran : (g : Over) (c : After-scavenge g) → IsSound (new g c) × Runs (old g c) (new g c) c.args.steps.now c.scavenge.new.steps (C.Scavenge c.args.count) c.scavenge.result
ran g c =
    let x = c.scavenge.ensures in
    step_runs (g.M.Memory.seen c.self.inside.ground.mem) (g.M.Memory.seen c.scavenge.new.ground.mem) c.self.inside.ground.table c.scavenge.new.ground.table c.self.inside.scan c.scavenge.new.scan c.self.inside.registers.items c.scavenge.new.registers
    c.self.inside.space _ _ _ _ _ _ c.args.steps.now c.scavenge.new.steps (C.Scavenge c.args.count) c.scavenge.result
    c.self.invariant c.scavenge.new.ground.sound.marked tt refl (λ k s b is. x.step k s (rw (c.deref_mut.ensures.value) b)) (x.goes_on.registers.count ∙ ap length c.deref_mut.ensures.value) x.goes_on.table.form.regions
    (told_by (old g c) (new g c) c.args.steps.now c.scavenge.new.steps (C.Scavenge c.args.count) c.scavenge.result x.accounted) (λ e. (x.goes_on.some, x.goes_on.table.placed)) (λ done i is. absurd (cc (is)))
    (pages_marked (g.M.Memory.seen c.self.inside.ground.mem) (g.M.Memory.seen c.scavenge.new.ground.mem) c.self.inside.ground.table c.scavenge.new.ground.table (C.Scavenge c.args.count) c.scavenge.result x.goes_on.table x.goes_on.marks) (λ none. absurd (cc (none)))

pub scavenge-requires : goal.scavenge-requires
scavenge-requires g c = record { represented = rw (c.deref_mut.ensures.value) (standing (g.M.Memory.seen c.self.inside.ground.mem) _ _ _ _ _ _ _ c.self.invariant) }

pub invariant_of-self : goal.invariant_of-self
invariant_of-self g c = let at = (goal.at.invariant_of-self g c).After-scavenge in rw (same g at) (ran g at).0

pub returns-clause-runs : goal.returns-clause-runs
returns-clause-runs g c = let at = (goal.at.returns-clause-runs g c).After-scavenge in rw (same g at, ← c.self.view_is) (ran g at).1

pub returns-clause-scans : goal.returns-clause-scans
returns-clause-scans g c sure =
    let at = (goal.at.returns-clause-scans g c).After-scavenge in
    let x = c.scavenge.ensures in
    rw (same g at, ← c.self.view_is) (scanned_some (old g at) (new g at) c.self.invariant (ran g at).0 (x.scans sure).begun x.goes_on.over c.args.count x.goes_on.some (x.scans sure).count)

pub returns-clause-order : goal.returns-clause-order
returns-clause-order g c sure running =
    let at = (goal.at.returns-clause-order g c).After-scavenge in
    let x = c.scavenge.ensures in
    rw (same g at, ← c.self.view_is, ← c.deref_mut.ensures.value) (up_to_listed ((x.scans sure).order (subst (λ (h : HeapView). h.table.aim ≢ None) (sym c.self.view_is) running)))

pub returns-clause-going : goal.returns-clause-going
returns-clause-going g c more =
    let at = (goal.at.returns-clause-going g c).After-scavenge in
    rw (same g at) (unfinished (new g at) (ran g at).0 (c.scavenge.ensures.going more))

pub returns-clause-done : goal.returns-clause-done
returns-clause-done g c done =
    let at = (goal.at.returns-clause-done g c).After-scavenge in
    rw (same g at) (nothing_left (new g at) (ran g at).0 (c.scavenge.ensures.done done))

pub returns-clause-units : goal.returns-clause-units
returns-clause-units g c = rw (same g (goal.at.returns-clause-units g c).After-scavenge, ← c.self.view_is, ← c.deref_mut.ensures.value) c.scavenge.ensures.goes_on.units

pub returns-clause-placed : goal.returns-clause-placed
returns-clause-placed g c = rw (← c.self.view_is) c.scavenge.ensures.goes_on.placed

pub returns-clause-moves : goal.returns-clause-moves
returns-clause-moves g c = rw (← c.self.view_is) (most_listed c.scavenge.ensures.goes_on.moves)

pub returns-clause-at_most : goal.returns-clause-at_most
returns-clause-at_most g c sure = rw (← c.self.view_is) (c.scavenge.ensures.scans sure).at_most

pub returns-clause-cost : goal.returns-clause-cost
returns-clause-cost g c sure = rw (← c.self.view_is) (c.scavenge.ensures.scans sure).cost
