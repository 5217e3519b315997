use Rattle.std.proofs.Common.{ℕ, ◌+◌, ◌<◌, length, Some, refl, ap, subst, sym, arith}
use Rattle.std.specs.Vec.{with_items}
use Rattle.lisp_graph.specs.declared.command.Command.TheVariants as C
use Rattle.heap_state.specs.Reads.{reply_of}
use Rattle.lisp_heap.specs.HeapView.{HeapView, contents_at}
use Rattle.lisp_heap.specs.Stands.{IsSound}
use Rattle.lisp_heap.proofs.Admissions.{Allocated, allocated_lent, allocated_none, allocated_parts}
use Rattle.lisp_heap.proofs.Allocations.{one_more}
use Rattle.lisp_heap.proofs.MemoryReports.{cost_of, made_sure}
use Rattle.lisp_heap.proofs.heap.Heap.make.Given.{Over}
use Rattle.lisp_heap.proofs.heap.Heap.make.Goals.{After-as_mut_slice-registers, After-reply_of, In-Err}
use Rattle.lisp_heap.proofs.heap.Heap.make.Goals as goal

-- the words that are lent
lent : (g : Over) (c : After-as_mut_slice-registers g) → IsSound (contents_at c.self.inside.ground c.self.inside.scan c.as_mut_slice-registers.result.now c.self.inside.space) × (c.args.area < length c.self.inside.ground.table.kinds)
lent g c = (rw (c.as_mut_slice-registers.ensures.value) c.self.invariant, subst (λ (h : HeapView). c.args.area < length h.table.kinds) (sym c.self.view_is) c.requires.area)

pub admit_allocation-requires : goal.admit_allocation-requires
admit_allocation-requires g c = let fits = lent g (goal.at.admit_allocation-requires g c).After-as_mut_slice-registers in record { sound = fits.0; area = fits.1 }

-- it was made
made : (g : Over) (c : After-reply_of g) → Allocated (contents_at c.self.inside.ground c.self.inside.scan c.self.inside.registers.items c.self.inside.space)
    (contents_at c.make-answer.new.ground c.admit_allocation.new.scan (with_items c.self.inside.registers c.make-answer.new.registers).items c.self.inside.space)
    c.args.steps.now c.make-answer.new.steps (c.args.count + 1) (c.args.count + 1) 0 c.args.to (C.Make c.args.to c.args.area c.args.code c.args.count) (reply_of c.make-answer.result)
made g c =
    let fits = lent g (goal.at.After-reply_of g c).After-as_mut_slice-registers in
    let words = c.as_mut_slice-registers.ensures in
    let x = c.in-Ok.ensures in
    let y = c.make-answer.ensures in
    allocated_lent c.self.inside.ground c.make-answer.new.ground c.self.inside.registers words.value words.len c.args.to
    (allocated_parts c.self.inside.ground c.admit_allocation.new.ground x.ok c.make-answer.new.ground c.make-answer.new.registers c.make-answer.new.steps (c.args.count + 1) 0 (c.args.count + 10) c.args.to (C.Make c.args.to c.args.area c.args.code c.args.count) (reply_of c.make-answer.result)
    fits.0 fits.1 refl tt (λ s. record { effect_of = _; is = refl; wanted = ap (λ (n : ℕ). Some (record { area = c.args.area; charge = n })) (one_more c.args.count) }) (λ s e is. cc) x.step c.make-answer.new.ground.sound.marked y.performs y.accounted
    (λ sure. let few = cost_of c.make-answer.result y.placed sure in omega arith) (λ _. let cost = y.cost in omega arith) (omega arith)
    (λ fine. cost_of c.make-answer.result y.unmarked (made_sure c.make-answer.result fine)))

pub invariant_of-self : goal.invariant_of-self
invariant_of-self g c = (made g (goal.at.invariant_of-self g c).After-reply_of).sound

pub returns-in-Ok : goal.returns-in-Ok
returns-in-Ok g c = let x = made g (goal.at.returns-in-Ok g c).After-reply_of in rw (c.reply_of.ensures, ← c.self.view_is) (record { runs = x.runs; costs = x.makes; order = x.order; unmarked = x.unmarked })

-- it was refused
refused : (g : Over) (c : In-Err g) → Allocated (contents_at c.self.inside.ground c.self.inside.scan c.self.inside.registers.items c.self.inside.space)
    (contents_at c.admit_allocation.new.ground c.admit_allocation.new.scan (with_items c.self.inside.registers c.admit_allocation.new.registers).items c.self.inside.space) c.args.steps.now c.admit_allocation.new.steps (c.args.count + 1) (c.args.count + 1) 0 c.args.to (C.Make c.args.to c.args.area c.args.code c.args.count) c.in-Err.reply
refused g c =
    let words = c.as_mut_slice-registers.ensures in
    allocated_lent c.self.inside.ground c.admit_allocation.new.ground c.self.inside.registers words.value words.len c.args.to
    (allocated_none (c.in-Err.ensures.err (C.Make c.args.to c.args.area c.args.code c.args.count) refl tt refl (λ s. record { effect_of = _; is = refl; wanted = ap (λ (n : ℕ). Some (record { area = c.args.area; charge = n })) (one_more c.args.count) })))

pub invariant_of-self-in-Err : goal.invariant_of-self-in-Err
invariant_of-self-in-Err g c = (refused g (goal.at.invariant_of-self-in-Err g c).In-Err).sound

pub returns-in-Err : goal.returns-in-Err
returns-in-Err g c = let x = refused g (goal.at.returns-in-Err g c).In-Err in rw (← c.self.view_is) (record { runs = x.runs; costs = x.makes; order = x.order; unmarked = x.unmarked })
