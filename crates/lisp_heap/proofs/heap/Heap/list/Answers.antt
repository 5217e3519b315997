use Rattle.std.proofs.Common.{ℕ, ◌+◌, ◌*◌, ◌<◌, ◌∙◌, length, Some, refl, ap, subst, sym, arith}
use Rattle.std.specs.Vec.{with_items}
use Rattle.std.proofs.lemmas.List.{with_items_is}
use Rattle.lisp_graph.specs.declared.command.Command.TheVariants as C
use Rattle.heap_state.specs.Reads.{reply_of}
use Rattle.lisp_heap.specs.HeapView.{HeapView, contents_at}
use Rattle.lisp_heap.specs.Stands.{IsSound}
use Rattle.lisp_heap.proofs.Admissions.{Allocated, allocated_lent, allocated_none, allocated_parts}
use Rattle.lisp_heap.proofs.MemoryReports.{cost_of, made_sure}
use Rattle.lisp_heap.proofs.heap.Heap.list.Given.{Over}
use Rattle.lisp_heap.proofs.heap.Heap.list.Goals.{After-as_mut_slice-registers, After-reply_of, In-Err}
use Rattle.lisp_heap.proofs.heap.Heap.list.Goals as goal

-- the words that are lent
lent : (g : Over) (c : After-as_mut_slice-registers g) → IsSound (contents_at c.self.inside.ground c.self.inside.scan c.as_mut_slice-registers.result.now c.self.inside.space) × (c.args.area < length c.self.inside.ground.table.kinds)
lent g c = (rw (c.as_mut_slice-registers.ensures.value) c.self.invariant, subst (λ (h : HeapView). c.args.area < length h.table.kinds) (sym c.self.view_is) c.requires.area)

pub admit_allocation-requires : goal.admit_allocation-requires
admit_allocation-requires g c = let fits = lent g (goal.at.admit_allocation-requires g c).After-as_mut_slice-registers in record { sound = fits.0; area = fits.1 }

-- it was made
made : (g : Over) (c : After-reply_of g) → Allocated (contents_at c.self.inside.ground c.self.inside.scan c.self.inside.registers.items c.self.inside.space)
    (contents_at c.list-answer.new.ground c.admit_allocation.new.scan (with_items c.self.inside.registers c.list-answer.new.registers).items c.self.inside.space)
    c.args.steps.now c.list-answer.new.steps c.list_charge-charge.result (length c.args.items.now) (length c.args.items.now) c.args.to (C.List c.args.to c.args.area c.args.items.now) (reply_of c.list-answer.result)
made g c =
    let fits = lent g (goal.at.After-reply_of g c).After-as_mut_slice-registers in
    let words = c.as_mut_slice-registers.ensures in
    let x = c.in-Ok.ensures in
    let y = c.list-answer.ensures in
    allocated_lent c.self.inside.ground c.list-answer.new.ground c.self.inside.registers words.value words.len c.args.to
    (allocated_parts c.self.inside.ground c.admit_allocation.new.ground x.ok c.list-answer.new.ground c.list-answer.new.registers c.list-answer.new.steps (length c.args.items.now) (length c.args.items.now) (47 * length c.args.items.now + 5) c.args.to (C.List c.args.to c.args.area c.args.items.now) (reply_of c.list-answer.result)
    fits.0 fits.1 refl c.requires.at_least (λ s. record { effect_of = _; is = refl; wanted = ap (λ (n : ℕ). Some (record { area = c.args.area; charge = n })) (sym c.list_charge-charge.ensures) }) (λ s e is. cc) x.step c.list-answer.new.ground.sound.marked y.performs y.costs.tells
    (λ _. let few = y.costs.few in omega arith) (λ sure. let cost = cost_of c.list-answer.result y.costs.cost sure in omega arith) (let some = c.requires.at_least in let few = c.list_charge-charge.ensures in omega arith)
    (λ fine. cost_of c.list-answer.result y.unmarked (made_sure c.list-answer.result fine)))

pub invariant_of-self : goal.invariant_of-self
invariant_of-self g c = (made g (goal.at.invariant_of-self g c).After-reply_of).sound

pub returns-in-Ok-clause-runs : goal.returns-in-Ok-clause-runs
returns-in-Ok-clause-runs g c = rw (c.reply_of.ensures, ← c.self.view_is) (made g (goal.at.returns-in-Ok-clause-runs g c).After-reply_of).runs

pub returns-in-Ok-clause-costs : goal.returns-in-Ok-clause-costs
returns-in-Ok-clause-costs g c = rw (c.reply_of.ensures, ← c.self.view_is, ← c.list_charge-charge.ensures) (made g (goal.at.returns-in-Ok-clause-costs g c).After-reply_of).makes

pub returns-in-Ok-clause-cells : goal.returns-in-Ok-clause-cells
returns-in-Ok-clause-cells g c fine =
    let x = c.list-answer in
    rw (with_items_is c.self.inside.registers x.new.registers (x.auto.registers ∙ c.admit_allocation.auto.registers ∙ c.as_mut_slice-registers.ensures.len))
    (cost_of x.result x.ensures.cells (made_sure x.result (sym c.reply_of.ensures ∙ fine)))

pub returns-in-Ok-clause-order : goal.returns-in-Ok-clause-order
returns-in-Ok-clause-order g c = rw (c.reply_of.ensures, ← c.self.view_is, ← c.list_charge-charge.ensures) (made g (goal.at.returns-in-Ok-clause-order g c).After-reply_of).order

-- it was refused
refused : (g : Over) (c : In-Err g) → Allocated (contents_at c.self.inside.ground c.self.inside.scan c.self.inside.registers.items c.self.inside.space)
    (contents_at c.admit_allocation.new.ground c.admit_allocation.new.scan (with_items c.self.inside.registers c.admit_allocation.new.registers).items c.self.inside.space) c.args.steps.now c.admit_allocation.new.steps c.list_charge-charge.result (length c.args.items.now) (length c.args.items.now) c.args.to (C.List c.args.to c.args.area c.args.items.now) c.in-Err.reply
refused g c =
    let words = c.as_mut_slice-registers.ensures in
    allocated_lent c.self.inside.ground c.admit_allocation.new.ground c.self.inside.registers words.value words.len c.args.to
    (allocated_none (c.in-Err.ensures.err (C.List c.args.to c.args.area c.args.items.now) refl c.requires.at_least refl (λ s. record { effect_of = _; is = refl; wanted = ap (λ (n : ℕ). Some (record { area = c.args.area; charge = n })) (sym c.list_charge-charge.ensures) })))

pub invariant_of-self-in-Err : goal.invariant_of-self-in-Err
invariant_of-self-in-Err g c = (refused g (goal.at.invariant_of-self-in-Err g c).In-Err).sound

pub returns-in-Err-clause-runs : goal.returns-in-Err-clause-runs
returns-in-Err-clause-runs g c = rw (← c.self.view_is) (refused g (goal.at.returns-in-Err-clause-runs g c).In-Err).runs

pub returns-in-Err-clause-costs : goal.returns-in-Err-clause-costs
returns-in-Err-clause-costs g c = rw (← c.self.view_is, ← c.list_charge-charge.ensures) (refused g (goal.at.returns-in-Err-clause-costs g c).In-Err).makes

pub returns-in-Err-clause-cells : goal.returns-in-Err-clause-cells
returns-in-Err-clause-cells g c fine =
    let unmade = c.in-Err.ensures.err (C.List c.args.to c.args.area c.args.items.now) refl c.requires.at_least refl (λ s. record { effect_of = _; is = refl; wanted = ap (λ (n : ℕ). Some (record { area = c.args.area; charge = n })) (sym c.list_charge-charge.ensures) }) in
    absurd (unmade.unmade fine)

pub returns-in-Err-clause-order : goal.returns-in-Err-clause-order
returns-in-Err-clause-order g c = rw (← c.self.view_is, ← c.list_charge-charge.ensures) (refused g (goal.at.returns-in-Err-clause-order g c).In-Err).order

pub returns-in-Ok-clause-unmarked : goal.returns-in-Ok-clause-unmarked
returns-in-Ok-clause-unmarked g c = rw (c.reply_of.ensures, ← c.self.view_is) (made g (goal.at.returns-in-Ok-clause-unmarked g c).After-reply_of).unmarked

pub returns-in-Err-clause-unmarked : goal.returns-in-Err-clause-unmarked
returns-in-Err-clause-unmarked g c = rw (← c.self.view_is) (refused g (goal.at.returns-in-Err-clause-unmarked g c).In-Err).unmarked
