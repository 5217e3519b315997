use Rattle.std.proofs.Common.{◌≢◌, ◌∙◌, refl, sym, ap, length}
use Rattle.store_word.specs.declared.space.Space.{Space}
use Rattle.lisp_graph.specs.declared.command.Command.TheVariants as C
use Rattle.lisp_graph.specs.declared.reply.Reply.TheVariants as R
use Rattle.heap_collect.proofs.Phases.{stands_for_some}
use Rattle.lisp_heap.specs.HeapView.{HeapView, contents_at}
use Rattle.lisp_heap.specs.Stands.{IsSound, Runs}
use Rattle.lisp_heap.proofs.Collections.{base_listed, begins_listed, busy_still, flip_sure, same_count, was_idle}
use Rattle.lisp_heap.proofs.ListedMemory.{standing}
use Rattle.lisp_heap.proofs.PageMarks.{pages_same}
use Rattle.lisp_heap.proofs.CommandRuns.{step_runs}
use Rattle.lisp_heap.proofs.MemoryReports.{not_fault, told_still}
use Rattle.lisp_heap.proofs.heap.Heap.flip.Given.{Over}
use Rattle.lisp_heap.proofs.heap.Heap.flip.Goals.{After-flip}
use Rattle.lisp_heap.proofs.heap.Heap.flip.Goals as goal

-- the heap before, and after
abbrev old : (g : Over) → After-flip g → HeapView
old g c = contents_at c.self.inside.ground c.self.inside.scan c.self.inside.registers.items c.self.inside.space

abbrev new : (g : Over) → After-flip g → HeapView
new g c = contents_at c.flip.new.ground c.flip.new.scan c.self.inside.registers.items c.self.inside.space

sure : (g : Over) (c : After-flip g) → c.flip.result ≢ R.Fault
sure g c = flip_sure c.self.inside.ground.table.aim c.flip.result _ (λ some. (c.flip.ensures.refused some).0) c.flip.ensures.pages

ran : (g : Over) (c : After-flip g) → IsSound (new g c) × Runs (old g c) (new g c) 0 0 (C.Flip c.args.what) c.flip.result
ran g c =
    let x = c.flip.ensures in
    let registers = c.self.inside.registers.items in
    step_runs (g.M.Memory.seen c.self.inside.ground.mem) (g.M.Memory.seen c.flip.new.ground.mem) c.self.inside.ground.table c.flip.new.ground.table c.self.inside.scan c.flip.new.scan registers registers
    c.self.inside.space _ _ _ _ _ _ 0 0 (C.Flip c.args.what) c.flip.result
    c.self.invariant c.flip.new.ground.sound.marked tt refl
    (λ k s b same. x.step registers k s b (c.self.invariant.registers ∙ sym (ap (λ (sp : Space). sp.registers) same)) (c.self.invariant.regions ∙ sym (ap (λ (sp : Space). sp.regions) same)))
    refl x.regions
    (told_still (old g c) (new g c) 0 (C.Flip c.args.what) c.flip.result (ap g.M.Memory.faults x.memory) (ap g.M.Memory.taken x.memory) (not_fault c.flip.result (sure g c)) (λ _. ap (λ mem. length (g.M.Memory.resident mem)) x.memory))
    (λ fault. absurd (sure g c fault)) (λ done i is. absurd (cc (is))) (pages_same _ _ (C.Flip c.args.what) (ap g.M.Memory.seen x.memory)) (λ none. absurd (cc (none)))

pub flip-requires : goal.flip-requires
flip-requires g c = record { represented = stands_for_some (standing (g.M.Memory.seen c.self.inside.ground.mem) _ _ _ _ _ _ _ c.self.invariant) }

pub invariant_of-self : goal.invariant_of-self
invariant_of-self g c = (ran g (goal.at.invariant_of-self g c).After-flip).0

pub returns-clause-runs : goal.returns-clause-runs
returns-clause-runs g c = rw (← c.self.view_is) (ran g (goal.at.returns-clause-runs g c).After-flip).1

pub returns-clause-table : goal.returns-clause-table
returns-clause-table g c count is = rw (← c.self.view_is) (c.flip.ensures.begins (was_idle c.self.inside.ground.table.aim c.flip.result count (λ some. (c.flip.ensures.refused some).0) is)).table

pub returns-clause-pages : goal.returns-clause-pages
returns-clause-pages g c count is =
    let x = c.flip.ensures in
    let none = was_idle c.self.inside.ground.table.aim c.flip.result count (λ some. (x.refused some).0) is in
    let ground = (standing (g.M.Memory.seen c.self.inside.ground.mem) _ _ _ _ _ _ _ c.self.invariant).represents.represents.kept.ground in
    rw (← c.self.view_is, ← x.memory) (base_listed (g.M.Memory.seen c.flip.new.ground.mem) c.self.inside.ground.table c.flip.new.ground.table c.args.what count
    (same_count c.self.inside.ground.table.aim c.flip.result _ count none x.pages is) (rw (x.memory) ground.levels_size) x.regions)

pub returns-clause-refused : goal.returns-clause-refused
returns-clause-refused g c busy = rw (← c.self.view_is) (busy_still c.self.inside.ground.table.aim c.flip.result _ c.flip.ensures.pages (λ some. (c.flip.ensures.refused some).2) busy)

pub returns-clause-no_fault : goal.returns-clause-no_fault
returns-clause-no_fault g c = rw (← c.self.view_is) (ap g.M.Memory.faults c.flip.ensures.memory)

pub returns-clause-begins : goal.returns-clause-begins
returns-clause-begins g c count is =
    let x = c.flip.ensures in
    let none = was_idle c.self.inside.ground.table.aim c.flip.result count (λ some. (x.refused some).0) is in
    let ground = (standing (g.M.Memory.seen c.self.inside.ground.mem) _ _ _ _ _ _ _ c.self.invariant).represents.represents.kept.ground in
    rw (← c.self.view_is, ← x.memory) (begins_listed (g.M.Memory.seen c.flip.new.ground.mem) c.flip.new.ground.table c.args.what (rw (x.memory) (x.regions ∙ sym ground.levels_size)) c.self.inside.scan c.flip.new.scan (x.begins none).begins)
