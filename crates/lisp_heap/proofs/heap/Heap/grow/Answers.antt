use Rattle.std.proofs.Common.{◌≡◌, ◌*◌, ◌∙◌, refl, ap, length, get_or, subst, sym}
use Rattle.std.specs.Vec.{with_items}
use Rattle.store_word.specs.Words.{null_word}
use Rattle.lisp_graph.specs.declared.command.Command.{Command}
use Rattle.lisp_graph.specs.declared.command.Command.TheVariants as C
use Rattle.mem_port.specs.View.{shown}
use Rattle.area_space.specs.View.{view}
use Rattle.heap_state.specs.RepresentsAll.{RepresentsAll}
use Rattle.word_graph.specs.lisp_meaning.Roles.{RoleMap}
use Rattle.word_graph.specs.lisp_meaning.State.{State}
use Rattle.heap_collect.proofs.Admissions.{prepared_goes}
use Rattle.lisp_heap.specs.Admits.{Prepares}
use Rattle.lisp_heap.specs.Costs.{wants_in}
use Rattle.lisp_heap.specs.HeapView.{HeapView, contents_at, counted}
use Rattle.lisp_heap.specs.Making.{ScansBeforeGrowth}
use Rattle.lisp_heap.specs.NewMarks.{MarksMade}
use Rattle.lisp_heap.specs.Stands.{IsSound, Runs, Stands}
use Rattle.lisp_heap.proofs.Allocations.{stands_in, standing_ready}
use Rattle.lisp_heap.proofs.BlockGrowth.{costs_grown, costs_looked, lent_words, ready_for, some_areas, stepped_runs}
use Rattle.lisp_heap.proofs.AllocationMoments.{growth_order, prepared}
use Rattle.lisp_heap.proofs.PageMarks.{made_marked, pages_scanned}
use Rattle.lisp_heap.proofs.MemoryReports.{told_behind}
use Rattle.lisp_heap.proofs.Units.{allocated_some}
use Rattle.lisp_heap.proofs.heap.Heap.grow.Given.{Over}
use Rattle.lisp_heap.proofs.heap.Heap.grow.Goals.{After-as_mut_slice-registers, After-grow_register, After-take_silent_steps}
use Rattle.lisp_heap.proofs.heap.Heap.grow.Goals as goal

-- the heap before, and after
abbrev old : (g : Over) → After-as_mut_slice-registers g → HeapView
old g c = contents_at c.self.inside.ground c.self.inside.scan c.as_mut_slice-registers.result.now c.self.inside.space

abbrev new : (g : Over) → After-grow_register g → HeapView
new g c = contents_at c.grow_register.new.ground c.grow_register.new.scan c.grow_register.new.registers c.self.inside.space

-- the words that are lent
lent : (g : Over) (c : After-as_mut_slice-registers g) → IsSound (old g c)
lent g c = rw (c.as_mut_slice-registers.ensures.value) c.self.invariant

-- a state that it represents, after the silent steps
ready : (g : Over) (c : After-take_silent_steps g) (s : State) → Stands c.args.self.now s → (k : RoleMap) × (mid : State) × RepresentsAll (g.M.Memory.seen c.take_silent_steps.new.ground.mem) c.take_silent_steps.new.ground.table c.take_silent_steps.new.scan c.as_mut_slice-registers.result.now k mid × ((command : Command) → wants_in mid command ≡ wants_in s command)
ready g c s stands =
    let at = (goal.at.After-take_silent_steps g c).After-as_mut_slice-registers in
    let st : Stands (old g at) s = rw (c.as_mut_slice-registers.ensures.value) (subst (λ (h : HeapView). Stands h s) (sym c.self.view_is) stands) in
    ready_for (g.M.Memory.seen c.self.inside.ground.mem) c.self.inside.ground.table c.self.inside.scan c.as_mut_slice-registers.result.now c.self.inside.space (g.M.Memory.faults c.self.inside.ground.mem) (g.M.Memory.resident c.self.inside.ground.mem) (counted g.M.Memory c.self.inside.ground.mem) (lent g at) (g.M.Memory.seen c.take_silent_steps.new.ground.mem) c.take_silent_steps.new.ground.table c.take_silent_steps.new.scan c.take_silent_steps.ensures.step.step s st

-- what ran
ran : (g : Over) (c : After-grow_register g) → IsSound (contents_at c.grow_register.new.ground c.grow_register.new.scan (with_items c.self.inside.registers c.grow_register.new.registers).items c.self.inside.space)
    × Runs (contents_at c.self.inside.ground c.self.inside.scan c.self.inside.registers.items c.self.inside.space) (contents_at c.grow_register.new.ground c.grow_register.new.scan (with_items c.self.inside.registers c.grow_register.new.registers).items c.self.inside.space) c.args.steps.now c.grow_register.new.steps (C.Grow c.args.target c.args.wanted) c.grow_register.result
ran g c =
    let at = (goal.at.After-grow_register g c).After-as_mut_slice-registers in
    let x = c.grow_register.ensures in
    let told = told_behind (old g at) (new g c) (shown g.M.Memory c.take_silent_steps.new.ground.mem) c.args.steps.now c.grow_register.new.steps (C.Grow c.args.target c.args.wanted) c.grow_register.result refl c.take_silent_steps.ensures.step.faults c.take_silent_steps.ensures.step.taken (ap length c.take_silent_steps.ensures.resident) x.accounted in
    stepped_runs (g.M.Memory.seen c.self.inside.ground.mem) c.self.inside.ground.table c.self.inside.scan c.as_mut_slice-registers.result.now c.self.inside.space (g.M.Memory.faults c.self.inside.ground.mem) (g.M.Memory.resident c.self.inside.ground.mem) (counted g.M.Memory c.self.inside.ground.mem) (lent g at) (g.M.Memory.seen c.take_silent_steps.new.ground.mem) c.take_silent_steps.new.ground.table c.take_silent_steps.new.scan c.take_silent_steps.ensures.step.step
    (g.M.Memory.seen c.grow_register.new.ground.mem) c.grow_register.new.ground.table c.grow_register.new.scan c.grow_register.new.registers c.self.inside.registers c.args.steps.now c.grow_register.new.steps (C.Grow c.args.target c.args.wanted) c.grow_register.result (g.M.Memory.faults c.grow_register.new.ground.mem) (g.M.Memory.resident c.grow_register.new.ground.mem) (counted g.M.Memory c.grow_register.new.ground.mem)
    refl tt x.step prepared_goes c.grow_register.new.ground.sound.marked c.as_mut_slice-registers.ensures.value c.as_mut_slice-registers.ensures.len x.registers x.table.form.regions c.take_silent_steps.ensures.step.regions told c.take_silent_steps.ensures.step.done c.take_silent_steps.ensures.step.placed x.goes_on.some x.goes_on.grows x.settled
    (pages_scanned (g.M.Memory.seen c.self.inside.ground.mem) (g.M.Memory.seen c.take_silent_steps.new.ground.mem) (g.M.Memory.seen c.grow_register.new.ground.mem) c.self.inside.ground.table c.take_silent_steps.new.ground.table c.grow_register.new.ground.table (C.Grow c.args.target c.args.wanted) c.grow_register.result c.take_silent_steps.ensures.step.frees x.table x.marks)

pub take_silent_steps-requires : goal.take_silent_steps-requires
take_silent_steps-requires g c = record { represented = stands_in (g.M.Memory.seen c.self.inside.ground.mem) _ _ _ _ _ _ _ c.self.invariant }

pub grow_register-requires-clause-represented : goal.grow_register-requires-clause-represented
grow_register-requires-clause-represented g c =
    standing_ready (g.M.Memory.seen c.self.inside.ground.mem) c.self.inside.ground.table c.self.inside.scan c.as_mut_slice-registers.result.now c.self.inside.space (g.M.Memory.faults c.self.inside.ground.mem) (g.M.Memory.resident c.self.inside.ground.mem) (counted g.M.Memory c.self.inside.ground.mem) (lent g (goal.at.grow_register-requires-clause-represented g c).After-as_mut_slice-registers) (g.M.Memory.seen c.take_silent_steps.new.ground.mem) c.take_silent_steps.new.ground.table c.take_silent_steps.new.scan c.take_silent_steps.ensures.step.step

pub grow_register-requires-clause-at_least : goal.grow_register-requires-clause-at_least
grow_register-requires-clause-at_least g c =
    some_areas (g.M.Memory.seen c.self.inside.ground.mem) c.self.inside.ground.table c.self.inside.scan c.as_mut_slice-registers.result.now c.self.inside.space (g.M.Memory.faults c.self.inside.ground.mem) (g.M.Memory.resident c.self.inside.ground.mem) (counted g.M.Memory c.self.inside.ground.mem) (lent g (goal.at.grow_register-requires-clause-at_least g c).After-as_mut_slice-registers) (g.M.Memory.seen c.take_silent_steps.new.ground.mem) c.take_silent_steps.new.ground.table c.take_silent_steps.new.scan c.take_silent_steps.ensures.step.step

pub invariant_of-self : goal.invariant_of-self
invariant_of-self g c = (ran g (goal.at.invariant_of-self g c).After-grow_register).0

pub returns-clause-runs : goal.returns-clause-runs
returns-clause-runs g c = rw (← c.self.view_is) (ran g (goal.at.returns-clause-runs g c).After-grow_register).1

pub returns-clause-costs : goal.returns-clause-costs
returns-clause-costs g c fine s stands area charge some =
    let x = c.grow_register.ensures in
    let sound_after = (ran g (goal.at.returns-clause-costs g c).After-grow_register).0 in
    let mid = ready g (goal.at.returns-clause-costs g c).After-take_silent_steps s stands in
    rw (← c.self.view_is) (costs_grown _ _ c.take_silent_steps.new.scan c.take_silent_steps.new.ground.table c.args.steps.now c.grow_register.new.steps charge c.take_silent_steps.ensures.step.done c.take_silent_steps.ensures.step.placed
    (λ amount. allocated_some _ _ c.self.invariant sound_after c.take_silent_steps.new.scan c.take_silent_steps.ensures.step.done c.take_silent_steps.ensures.step.unchanged (x.goes_on.begun fine) x.goes_on.stays (c.self.inside.space.rate * charge) x.goes_on.some amount)
    (c.grow_register.ensures.costs fine mid.0 mid.1 mid.2 area charge (mid.3 (C.Grow c.args.target c.args.wanted) ∙ some)))

pub returns-clause-found : goal.returns-clause-found
returns-clause-found g c sure s stands none =
    let mid = ready g (goal.at.returns-clause-found g c).After-take_silent_steps s stands in
    rw (← c.self.view_is) (costs_looked _ _ c.take_silent_steps.new.scan c.take_silent_steps.new.ground.table c.args.steps.now c.grow_register.new.steps c.take_silent_steps.ensures.step.done c.take_silent_steps.ensures.step.placed
    (c.grow_register.ensures.found sure mid.0 mid.1 mid.2 (mid.3 (C.Grow c.args.target c.args.wanted) ∙ none)))

pub returns-clause-refused : goal.returns-clause-refused
returns-clause-refused g c refused =
    rw (← c.self.view_is) (costs_looked _ _ c.take_silent_steps.new.scan c.take_silent_steps.new.ground.table c.args.steps.now c.grow_register.new.steps c.take_silent_steps.ensures.step.done c.take_silent_steps.ensures.step.placed
    (c.grow_register.ensures.refused refused))

pub returns-clause-order : goal.returns-clause-order
returns-clause-order g c fine s stands area charge some =
    let mid = ready g (goal.at.returns-clause-order g c).After-take_silent_steps s stands in
    let y = c.take_silent_steps.ensures in
    let first : Prepares (view c.self.inside.ground) c.self.inside.scan c.self.inside.space (g.M.Memory.resident c.self.inside.ground.mem) = prepared c.self.inside.ground c.take_silent_steps.new.ground y.step y.memory y.end y.resident in
    rw (← c.self.view_is) (lent_words c.self.inside.registers c.as_mut_slice-registers.result.now c.grow_register.new.registers
    (λ ws ws3. ScansBeforeGrowth (contents_at c.self.inside.ground c.self.inside.scan ws c.self.inside.space) (contents_at c.grow_register.new.ground c.grow_register.new.scan ws3 c.self.inside.space) charge)
    c.as_mut_slice-registers.ensures.value (c.grow_register.ensures.registers ∙ c.as_mut_slice-registers.ensures.len)
    (growth_order c.self.inside.ground c.grow_register.new.ground charge first
    (standing_ready (g.M.Memory.seen c.self.inside.ground.mem) c.self.inside.ground.table c.self.inside.scan c.as_mut_slice-registers.result.now c.self.inside.space (g.M.Memory.faults c.self.inside.ground.mem) (g.M.Memory.resident c.self.inside.ground.mem) (counted g.M.Memory c.self.inside.ground.mem) (lent g (goal.at.returns-clause-order g c).After-as_mut_slice-registers) (g.M.Memory.seen c.take_silent_steps.new.ground.mem) c.take_silent_steps.new.ground.table c.take_silent_steps.new.scan c.take_silent_steps.ensures.step.step)
    (c.grow_register.ensures.order fine mid.0 mid.1 mid.2 area charge (mid.3 (C.Grow c.args.target c.args.wanted) ∙ some))))

pub returns-clause-unmarked : goal.returns-clause-unmarked
returns-clause-unmarked g c fine s stands area charge some =
    let sound = lent g (goal.at.returns-clause-unmarked g c).After-as_mut_slice-registers in
    let x = c.grow_register.ensures in
    let sound_after = (ran g (goal.at.returns-clause-unmarked g c).After-grow_register).0 in
    let mid = ready g (goal.at.returns-clause-unmarked g c).After-take_silent_steps s stands in
    let size : length (g.M.Memory.seen c.grow_register.new.ground.mem).levels ≡ length (g.M.Memory.seen c.self.inside.ground.mem).levels =
    sound_after.stands.1.represents.represents.kept.ground.levels_size ∙ x.table.form.regions ∙ c.take_silent_steps.ensures.step.regions ∙ sym sound.stands.1.represents.represents.kept.ground.levels_size in
    rw (← c.self.view_is) (lent_words c.self.inside.registers c.as_mut_slice-registers.result.now c.grow_register.new.registers
    (λ ws ws3. MarksMade (C.Grow c.args.target c.args.wanted) (contents_at c.self.inside.ground c.self.inside.scan ws c.self.inside.space) (contents_at c.grow_register.new.ground c.grow_register.new.scan ws3 c.self.inside.space) (get_or ws3 c.args.target null_word) charge)
    c.as_mut_slice-registers.ensures.value (c.grow_register.ensures.registers ∙ c.as_mut_slice-registers.ensures.len)
    (made_marked (contents_at c.self.inside.ground c.self.inside.scan c.as_mut_slice-registers.result.now c.self.inside.space) (contents_at c.grow_register.new.ground c.grow_register.new.scan c.grow_register.new.registers c.self.inside.space)
    (g.M.Memory.seen c.self.inside.ground.mem) (g.M.Memory.seen c.take_silent_steps.new.ground.mem) (g.M.Memory.seen c.grow_register.new.ground.mem) c.take_silent_steps.new.ground.table (C.Grow c.args.target c.args.wanted) refl refl size c.take_silent_steps.ensures.step.frees x.table
    (get_or c.grow_register.new.registers c.args.target null_word) charge (x.unmarked fine mid.0 mid.1 mid.2 area charge (mid.3 (C.Grow c.args.target c.args.wanted) ∙ some))))
