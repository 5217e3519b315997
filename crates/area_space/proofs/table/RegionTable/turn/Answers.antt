use Rattle.std.proofs.Common.{◌≡◌, ◌≢◌, ◌<◌, ◌+◌, ◌*◌, None, [], length, subst, sym, arith}
use Rattle.std.proofs.lemmas.List.{with_items_is}
use Rattle.area_space.specs.Inside.{table_of}
use Rattle.area_space.proofs.ChargeChanges.{debt_small}
use Rattle.area_space.proofs.TableFields.{turn_kept}
use Rattle.area_space.proofs.table.RegionTable.turn.Goals as goal
use Rattle.area_space.specs.Table.{Table, slots_of, chain, stale}

pub move_number-requires-clause-fits : goal.move_number-requires-clause-fits
move_number-requires-clause-fits c =
    let v = c.self.invariant.table in
    let low = subst (λ (t : Table). c.args.slot < slots_of t) (sym c.self.view_is) c.requires.in_range in
    let a = debt_small (table_of c.self.inside) (2 * c.args.slot) v (omega arith) in
    let b = debt_small (table_of c.self.inside) (2 * c.args.slot + 1) v (omega arith) in
    rw c.deref_mut.ensures.value (omega arith)

pub move_number-requires-2-clause-fits : goal.move_number-requires-2-clause-fits
move_number-requires-2-clause-fits c =
    let v = c.self.invariant.table in
    let low = subst (λ (t : Table). c.args.slot < slots_of t) (sym c.self.view_is) c.requires.in_range in
    let a = debt_small (table_of c.self.inside) (2 * c.args.slot) v (omega arith) in
    let b = debt_small (table_of c.self.inside) (2 * c.args.slot + 1) v (omega arith) in
    rw c.deref_mut-2.ensures.value (omega arith)

pub invariant_of-self : goal.invariant_of-self
invariant_of-self c =
    let low = subst (λ (t : Table). c.args.slot < slots_of t) (sym c.self.view_is) c.requires.in_range in
    let empty = subst (λ (t : Table). chain t (stale c.args.slot) ≡ []) (sym c.self.view_is) c.requires.empty in
    let none = subst (λ (t : Table). t.placed ≡ 0) (sym c.self.view_is) c.requires.placed in
    let going = subst (λ (t : Table). t.aim ≢ None) (sym c.self.view_is) c.requires.collecting in
    let m1 = rw c.deref_mut.ensures.value at c.move_number.ensures in
    let m2 = rw c.deref_mut-2.ensures.value at c.move_number-2.ensures in
    let l1 = c.deref_mut.ensures.len in
    let l2 = c.deref_mut-2.ensures.len in
    let s1 : length c.move_number.new.numbers ≡ c.self.inside.charges.len = (let x = c.move_number.auto.numbers in omega arith) in
    let s2 : length c.move_number-2.new.numbers ≡ c.self.inside.husks.len = (let x = c.move_number-2.auto.numbers in omega arith) in
    rw (with_items_is c.self.inside.charges c.move_number.new.numbers s1, with_items_is c.self.inside.husks c.move_number-2.new.numbers s2)
    (turn_kept (table_of c.self.inside) c.append_all.new.self c.move_number.new.numbers c.move_number-2.new.numbers c.args.slot c.self.inside.regions c.self.inside.areas c.self.inside.scan.count c.self.inside.free c.self.invariant low empty none going c.append_all.ensures.after c.append_all.ensures.sound m1 m2)
