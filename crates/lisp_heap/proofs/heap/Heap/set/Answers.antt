use Rattle.std.proofs.Common.{◌<◌, false, length, refl, subst, sym}
use Rattle.lisp_graph.specs.declared.command.Command.TheVariants as C
use Rattle.lisp_graph.specs.declared.reply.Reply.TheVariants as R
use Rattle.lisp_heap.specs.HeapView.{HeapView}
use Rattle.lisp_heap.proofs.CommandRuns.{performs_runs}
use Rattle.lisp_heap.proofs.MemoryReports.{nothing_asked}
use Rattle.lisp_heap.proofs.PlainValues.{plain_allowed, set_performs}
use Rattle.lisp_heap.proofs.heap.Heap.set.Goals as goal

pub invariant_of-self : goal.invariant_of-self
invariant_of-self g c =
    let to = subst (λ (h : HeapView). c.args.to < length h.registers) (sym c.self.view_is) c.requires.to in
    rw (c.word_of.ensures)
    (performs_runs (g.M.Memory.seen c.self.inside.ground.mem) (g.M.Memory.seen c.self.inside.ground.mem) _ _ _ _ _ _ _ _ _ _ _ _ _ _ (C.Set c.args.to c.args.value) R.Fine
    c.commands_are_steps.ensures.performs c.self.invariant c.self.inside.ground.sound.marked (plain_allowed c.args.to c.args.value c.requires.can) refl (set_performs _ _ _ c.args.to c.args.value to c.requires.can) (nothing_asked _ 0 false refl)).0

pub returns-clause-runs : goal.returns-clause-runs
returns-clause-runs g c =
    let to = subst (λ (h : HeapView). c.args.to < length h.registers) (sym c.self.view_is) c.requires.to in
    rw (c.word_of.ensures, ← c.self.view_is)
    ((performs_runs (g.M.Memory.seen c.self.inside.ground.mem) (g.M.Memory.seen c.self.inside.ground.mem) _ _ _ _ _ _ _ _ _ _ _ _ _ _ (C.Set c.args.to c.args.value) R.Fine
    c.commands_are_steps.ensures.performs c.self.invariant c.self.inside.ground.sound.marked (plain_allowed c.args.to c.args.value c.requires.can) refl (set_performs _ _ _ c.args.to c.args.value to c.requires.can) (nothing_asked _ 0 false refl)).1)
