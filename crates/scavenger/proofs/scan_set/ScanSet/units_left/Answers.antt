use Rattle.std.proofs.Common.{sym, ◌∙◌, ap, arith}
use Rattle.area_space.proofs.UsedEnds.{words_small}
use Rattle.scavenger.specs.Scan.{Scan}
use Rattle.scavenger.proofs.CleanScans.{units-none}
use Rattle.scavenger.proofs.scan_set.ScanSet.units_left.Goals as goal

pub returns-then-self : goal.returns-then-self
returns-then-self g c = sym (units-none (g.M.Memory.seen c.args.ground.now.mem) c.args.ground.now.table c.args.self.now c.args.registers.now (sym (ap (λ (x : Scan). x.over) c.self.view_is) ∙ c.if-self.true))

pub overflow_add-result : goal.overflow_add-result
overflow_add-result g c =
    let v = c.placed_words.ensures.sound in
    let placed = v.counted in
    let small = words_small c.args.ground.now.table v in
    let few = c.self.invariant.few_units in
    omega arith
