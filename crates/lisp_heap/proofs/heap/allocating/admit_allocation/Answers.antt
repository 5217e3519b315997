use Rattle.std.proofs.Common.{◌∙◌, ap, subst}
use Rattle.area_space.specs.View.{view}
use Rattle.heap_collect.proofs.Admissions.{prepared_goes}
use Rattle.word_graph.specs.lisp_meaning.State.{new_level}
use Rattle.lisp_heap.specs.Admits.{Admits, Prepares}
use Rattle.lisp_heap.specs.HeapView.{contents_at, counted}
use Rattle.lisp_heap.specs.Costs.{IsRefused}
use Rattle.lisp_heap.proofs.Admissions.{admitted_parts, prepared_parts}
use Rattle.lisp_heap.proofs.Allocations.{area_ahead, area_prepared, consistent_ahead, costs_nothing, kind_is, level_ahead, refused_runs, refused_undone, refused_unmade, standing_prepared, stands_in}
use Rattle.lisp_heap.proofs.AllocationMoments.{prepared}
use Rattle.lisp_heap.proofs.MemoryReports.{told_behind}
use Rattle.lisp_heap.proofs.heap.allocating.admit_allocation.Given.{Over}
use Rattle.lisp_heap.proofs.heap.allocating.admit_allocation.Goals.{After-take_silent_steps, In-Ok}
use Rattle.lisp_heap.proofs.heap.allocating.admit_allocation.Goals as goal

-- the silent steps
abbrev silent : (g : Over) (c : After-take_silent_steps g) → Prepares (view c.args.ground.now) c.args.scan.now c.args.space.now (g.M.Memory.resident c.args.ground.now.mem)
silent g c =
    let x = c.take_silent_steps.ensures in
    prepared c.args.ground.now c.take_silent_steps.new.ground x.step x.memory x.end x.resident

-- the room for the new object
there : (g : Over) (c : In-Ok g) → Admits (view c.args.ground.now) (view c.admit.new.ground) c.args.scan.now c.admit.new.scan c.args.registers.now c.admit.new.registers c.args.space.now (g.M.Memory.resident c.args.ground.now.mem) c.args.allocation.area c.args.allocation.charge c.args.steps.now c.admit.new.steps c.new_level-level.result
there g c =
    let x = c.in-Ok.ensures in
    record {
      first = silent g (goal.at.In-Ok g c).After-take_silent_steps;
      units = x.ok;
      on = x.goes_on;
      left = x.left;
      level_is = λ s are. c.new_level-level.ensures ∙ ap new_level (kind_is c.kinds.result.now s.areas c.args.allocation.area (c.kinds.ensures.value ∙ are));
      idle = λ none. (let y = x.idle none in (ap view y.0, y.1, y.2));
      tells = x.accounted;
    }

pub take_silent_steps-requires : goal.take_silent_steps-requires
take_silent_steps-requires g c = record { represented = stands_in (g.M.Memory.seen c.args.ground.now.mem) _ _ _ _ _ _ _ c.requires.sound }

pub admit-requires : goal.admit-requires
admit-requires g c =
    let p = prepared_parts c.args.ground.now (silent g (goal.at.admit-requires g c).After-take_silent_steps) c.requires.sound c.requires.area in
    record { represented = standing_prepared p; area = area_prepared p }

pub returns-in-Ok-clause-ok : goal.returns-in-Ok-clause-ok
returns-in-Ok-clause-ok g c = there g (goal.at.returns-in-Ok-clause-ok g c).In-Ok

pub returns-in-Ok-clause-consistent : goal.returns-in-Ok-clause-consistent
returns-in-Ok-clause-consistent g c = let a = there g (goal.at.returns-in-Ok-clause-consistent g c).In-Ok in consistent_ahead (prepared_parts c.args.ground.now a.first c.requires.sound c.requires.area) (admitted_parts c.args.ground.now c.admit.new.ground a)

pub returns-in-Ok-clause-areas : goal.returns-in-Ok-clause-areas
returns-in-Ok-clause-areas g c = let a = there g (goal.at.returns-in-Ok-clause-areas g c).In-Ok in area_ahead (prepared_parts c.args.ground.now a.first c.requires.sound c.requires.area) (admitted_parts c.args.ground.now c.admit.new.ground a)

pub returns-in-Ok-clause-level : goal.returns-in-Ok-clause-level
returns-in-Ok-clause-level g c =
    let a = there g (goal.at.returns-in-Ok-clause-level g c).In-Ok in
    level_ahead (prepared_parts c.args.ground.now a.first c.requires.sound c.requires.area) (admitted_parts c.args.ground.now c.admit.new.ground a) c.new_level-level.result _ c.new_level-level.ensures

pub returns-in-Err-clause-err : goal.returns-in-Err-clause-err
returns-in-Err-clause-err g c command all allowed may wants =
    let x = c.in-Err.ensures in
    let p = silent g (goal.at.returns-in-Err-clause-err g c).After-take_silent_steps in
    let ran = refused_runs (prepared_parts c.args.ground.now p c.requires.sound c.requires.area) (g.M.Memory.seen c.admit.new.ground.mem) c.admit.new.ground.table c.admit.new.scan c.admit.new.registers c.args.steps.now c.admit.new.steps command c.in-Err.reply c.args.allocation.charge (g.M.Memory.faults c.admit.new.ground.mem) (g.M.Memory.resident c.admit.new.ground.mem) (counted g.M.Memory c.admit.new.ground.mem)
    all allowed may wants x.refused prepared_goes c.admit.new.ground.sound.marked x.goes_on.registers x.goes_on.table.form.regions
    (told_behind (contents_at c.args.ground.now c.args.scan.now c.args.registers.now c.args.space.now) (contents_at c.admit.new.ground c.admit.new.scan c.admit.new.registers c.args.space.now) p.ground.mem c.args.steps.now c.admit.new.steps command c.in-Err.reply all p.silent.faults p.silent.taken p.resident x.accounted)
    x.goes_on.some x.goes_on.table.placed x.goes_on.table x.goes_on.marks (refused_undone c.in-Err.reply _ _ _ _ (λ e. (x.err e).0)) in
    record {
      sound = ran.0;
      runs = ran.1;
      refused = λ refused. (let same = x.err (λ e. subst IsRefused e refused) in
          costs_nothing _ _ p.begun p.ground.table.placed c.args.steps.now c.admit.new.steps p.silent.done p.silent.placed same.2 (ap (λ w. w.table.placed) same.1) same.4);
      unmade = refused_unmade c.in-Err.reply _ _ _ _ (λ e. (x.err e).0);
    }
