use Rattle.std.proofs.Common.{refl, sym, ◌∙◌}
use Rattle.lisp_graph.specs.declared.command.Command.TheVariants as C
use Rattle.lisp_heap.specs.Words.{paged}
use Rattle.lisp_heap.proofs.Collections.{page_steps}
use Rattle.lisp_heap.proofs.PageMarks.{pages_unmarked}
use Rattle.lisp_heap.proofs.CommandRuns.{not_less, step_runs}
use Rattle.lisp_heap.proofs.MemoryReports.{paged_fault, told_paged}
use Rattle.lisp_heap.proofs.heap.Heap.page_out.Goals as goal

pub invariant_of-self : goal.invariant_of-self
invariant_of-self g c =
    let read = c.evict_oldest-evicted.ensures in
    (step_runs (g.M.Memory.seen c.self.inside.ground.mem) (g.M.Memory.seen c.evict_oldest-evicted.new.self) _ _ _ _ _ _ _ _ _ _ _ _ _ _ _ (C.PageOut c.args.count) (paged c.evict_oldest-evicted.result)
    c.self.invariant (c.evict_oldest-evicted.ensures.sound c.self.inside.ground.sound).marked tt refl
    (λ k s b same. page_steps c.commands_are_steps.ensures.performs _ _ _ _ _ c.args.count c.evict_oldest-evicted.result read.unchanged (c.evict_oldest-evicted.ensures.sound c.self.inside.ground.sound).marked k s b)
    refl refl (told_paged _ _ c.args.count c.evict_oldest-evicted.result read.cause read.taken) (λ e. (not_less c.self.inside.scan.done, not_less c.self.inside.ground.table.placed)) (λ done i is. absurd (cc (is))) (pages_unmarked _ _ (C.PageOut c.args.count) read.unchanged.unmarked) (λ _. refl)).0

pub returns-clause-runs : goal.returns-clause-runs
returns-clause-runs g c =
    let read = c.evict_oldest-evicted.ensures in
    rw (c.paged.ensures, ← c.self.view_is)
    ((step_runs (g.M.Memory.seen c.self.inside.ground.mem) (g.M.Memory.seen c.evict_oldest-evicted.new.self) _ _ _ _ _ _ _ _ _ _ _ _ _ _ _ (C.PageOut c.args.count) (paged c.evict_oldest-evicted.result)
    c.self.invariant (c.evict_oldest-evicted.ensures.sound c.self.inside.ground.sound).marked tt refl
    (λ k s b same. page_steps c.commands_are_steps.ensures.performs _ _ _ _ _ c.args.count c.evict_oldest-evicted.result read.unchanged (c.evict_oldest-evicted.ensures.sound c.self.inside.ground.sound).marked k s b)
    refl refl (told_paged _ _ c.args.count c.evict_oldest-evicted.result read.cause read.taken) (λ e. (not_less c.self.inside.scan.done, not_less c.self.inside.ground.table.placed)) (λ done i is. absurd (cc (is))) (pages_unmarked _ _ (C.PageOut c.args.count) read.unchanged.unmarked) (λ _. refl)).1)

pub returns-clause-stops : goal.returns-clause-stops
returns-clause-stops g c fault = rw (← c.self.view_is) (paged_fault c.evict_oldest-evicted.result c.evict_oldest-evicted.ensures.stops (sym c.paged.ensures ∙ fault))
