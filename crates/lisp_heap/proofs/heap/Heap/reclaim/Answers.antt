use Rattle.std.proofs.Common.{◌≢◌, ap, refl, sym, subst}
use Rattle.lisp_graph.specs.declared.command.Command.TheVariants as C
use Rattle.lisp_graph.specs.declared.reply.Reply.TheVariants as R
use Rattle.heap_collect.proofs.Phases.{stands_for_some}
use Rattle.lisp_heap.specs.HeapView.{HeapView, contents_at, counted}
use Rattle.lisp_heap.specs.Stands.{IsSound, Runs, Stands}
use Rattle.lisp_heap.proofs.Collections.{reclaim_sure, was_left, was_over}
use Rattle.lisp_heap.proofs.FinalAccounts.{reclaimed}
use Rattle.lisp_heap.proofs.ListedMemory.{standing}
use Rattle.lisp_heap.proofs.PageMarks.{pages_unmarked}
use Rattle.lisp_heap.proofs.CommandRuns.{step_runs}
use Rattle.lisp_heap.proofs.MemoryReports.{not_fault, told_still}
use Rattle.lisp_heap.proofs.Units.{nothing_left, unfinished}
use Rattle.lisp_heap.proofs.heap.Heap.reclaim.Given.{Over}
use Rattle.lisp_heap.proofs.heap.Heap.reclaim.Goals.{After-reclaim}
use Rattle.lisp_heap.proofs.heap.Heap.reclaim.Goals as goal

-- the heap before, and after
abbrev old : (g : Over) → After-reclaim g → HeapView
old g c = contents_at c.self.inside.ground c.self.inside.scan c.self.inside.registers.items c.self.inside.space

abbrev new : (g : Over) → After-reclaim g → HeapView
new g c = contents_at c.reclaim.new.ground c.self.inside.scan c.self.inside.registers.items c.self.inside.space

sure : (g : Over) (c : After-reclaim g) → c.reclaim.result ≢ R.Fault
sure g c = reclaim_sure c.self.inside.ground.table.aim c.self.inside.scan.over c.reclaim.result c.reclaim.ensures.idle c.reclaim.ensures.left c.reclaim.ensures.over

ran : (g : Over) (c : After-reclaim g) → IsSound (new g c) × Runs (old g c) (new g c) 0 0 C.Reclaim c.reclaim.result
ran g c =
    let x = c.reclaim.ensures in
    let registers = c.self.inside.registers.items in
    step_runs (g.M.Memory.seen c.self.inside.ground.mem) (g.M.Memory.seen c.reclaim.new.ground.mem) c.self.inside.ground.table c.reclaim.new.ground.table c.self.inside.scan c.self.inside.scan registers registers
    c.self.inside.space _ _ _ _ _ _ 0 0 C.Reclaim c.reclaim.result
    c.self.invariant c.reclaim.new.ground.sound.marked tt refl (λ k s b same. x.step registers k s b) refl x.no_fault.regions
    (told_still (old g c) (new g c) 0 C.Reclaim c.reclaim.result x.no_fault.faults x.no_fault.taken (not_fault c.reclaim.result (sure g c)) (λ frees. absurd (cc (frees))))
    (λ fault. absurd (sure g c fault)) (λ done i is. absurd (cc (is))) (pages_unmarked _ _ C.Reclaim x.at_most.unmarked) (λ _. refl)

pub reclaim-requires : goal.reclaim-requires
reclaim-requires g c = record { represented = stands_for_some (standing (g.M.Memory.seen c.self.inside.ground.mem) _ _ _ _ _ _ _ c.self.invariant) }

pub invariant_of-self : goal.invariant_of-self
invariant_of-self g c = (ran g (goal.at.invariant_of-self g c).After-reclaim).0

pub returns-clause-runs : goal.returns-clause-runs
returns-clause-runs g c = rw (← c.self.view_is) (ran g (goal.at.returns-clause-runs g c).After-reclaim).1

pub returns-clause-left : goal.returns-clause-left
returns-clause-left g c is =
    let at = (goal.at.returns-clause-left g c).After-reclaim in
    let x = c.reclaim.ensures in
    unfinished (new g at) (ran g at).0 (was_left c.self.inside.ground.table.aim c.self.inside.scan.over c.reclaim.result x.idle x.left x.over is)

pub returns-clause-none : goal.returns-clause-none
returns-clause-none g c is =
    let x = c.reclaim.ensures in
    rw (← c.self.view_is) (nothing_left _ c.self.invariant (was_over c.self.inside.ground.table.aim c.self.inside.scan.over c.reclaim.result x.idle x.left x.over is))

pub returns-clause-free : goal.returns-clause-free
returns-clause-free g c is s st =
    reclaimed (g.M.Memory.seen c.self.inside.ground.mem) (g.M.Memory.seen c.reclaim.new.ground.mem) _ _ _ _ _ (g.M.Memory.faults c.self.inside.ground.mem) (g.M.Memory.faults c.reclaim.new.ground.mem) (g.M.Memory.resident c.self.inside.ground.mem) (g.M.Memory.resident c.reclaim.new.ground.mem) (counted g.M.Memory c.self.inside.ground.mem) (counted g.M.Memory c.reclaim.new.ground.mem)
    ((c.reclaim.ensures.reclaims is).settles c.self.inside.registers.items) s (subst (λ (h : HeapView). Stands h s) (sym c.self.view_is) st)

pub returns-clause-no_fault : goal.returns-clause-no_fault
returns-clause-no_fault g c = rw (← c.self.view_is) c.reclaim.ensures.no_fault.faults

pub returns-clause-resident : goal.returns-clause-resident
returns-clause-resident g c is = rw (← c.self.view_is) (c.reclaim.ensures.resident is)

pub returns-clause-unchanged : goal.returns-clause-unchanged
returns-clause-unchanged g c other = rw (← c.self.view_is) (ap (λ ground. g.M.Memory.resident ground.mem) (c.reclaim.ensures.unchanged other))
