use Rattle.std.proofs.Common.{◌∙◌, refl, ap, length}
use Rattle.std.proofs.lemmas.List.{with_items_is}
use Rattle.std.proofs.lemmas.Result.{on_ok_weaker}
use Rattle.lisp_heap.proofs.Loads.{represents_empty, grouped_loaded, sound_loaded, stands_loaded, world_loaded}
use Rattle.lisp_heap.proofs.heap.Heap.load.Goals as goal

pub load-requires-clause-empty : goal.load-requires-clause-empty
load-requires-clause-empty g c = rw (c.deref_mut.ensures.value) (represents_empty (g.M.Memory.seen c.self.inside.ground.mem) _ _ _ _ _ _ _ c.args.world.now _ c.self.view_is c.requires.empty)

pub invariant_of-self : goal.invariant_of-self
invariant_of-self g c =
    let x = c.load in
    rw (with_items_is c.self.inside.registers x.new.registers (x.auto.registers ∙ c.deref_mut.ensures.len))
    (sound_loaded (g.M.Memory.seen c.self.inside.ground.mem) _ _ _ _ _ _ _ c.args.world.now _ c.self.view_is c.requires.empty (g.M.Memory.seen x.new.ground.mem) _ x.new.registers _ _ _
    x.new.ground.sound.marked (x.auto.registers ∙ ap length c.deref_mut.ensures.value) x.ensures.regions c.self.invariant x.ensures.some)

pub returns-clause-stands : goal.returns-clause-stands
returns-clause-stands g c =
    let x = c.load in
    rw (with_items_is c.self.inside.registers x.new.registers (x.auto.registers ∙ c.deref_mut.ensures.len))
    (on_ok_weaker x.result (stands_loaded (g.M.Memory.seen c.self.inside.ground.mem) _ _ _ _ _ _ _ c.args.world.now _ c.self.view_is c.requires.empty (g.M.Memory.seen x.new.ground.mem) _ x.new.registers _ _ _
    x.new.ground.sound.marked (x.auto.registers ∙ ap length c.deref_mut.ensures.value) x.ensures.regions c.args.world.now refl refl) x.ensures.represented)

pub returns-clause-groups : goal.returns-clause-groups
returns-clause-groups g c =
    let x = c.load in
    rw (with_items_is c.self.inside.registers x.new.registers (x.auto.registers ∙ c.deref_mut.ensures.len))
    (on_ok_weaker x.result (grouped_loaded (g.M.Memory.seen c.self.inside.ground.mem) _ _ _ _ _ _ _ c.args.world.now _ c.self.view_is c.requires.empty (g.M.Memory.seen x.new.ground.mem) _ x.new.registers _ _ _
    x.new.ground.sound.marked (x.auto.registers ∙ ap length c.deref_mut.ensures.value) x.ensures.regions) x.ensures.groups)

pub returns-clause-unchanged : goal.returns-clause-unchanged
returns-clause-unchanged g c =
    let x = c.load in
    rw (with_items_is c.self.inside.registers x.new.registers (x.auto.registers ∙ c.deref_mut.ensures.len), ← c.self.view_is)
    (world_loaded (g.M.Memory.seen c.self.inside.ground.mem) _ _ _ _ _ _ _ c.args.world.now _ c.self.view_is c.requires.empty (g.M.Memory.seen x.new.ground.mem) _ x.new.registers _ _ _
    x.new.ground.sound.marked (x.auto.registers ∙ ap length c.deref_mut.ensures.value) x.ensures.regions x.ensures.some)
