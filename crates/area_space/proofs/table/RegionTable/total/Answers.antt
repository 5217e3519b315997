use Rattle.std.proofs.Common.{ℕ, ◌≡◌, ◌+◌, sym, ap, suc, arith}
use Rattle.lisp_graph.specs.Totals.{total}
use Rattle.lisp_graph.proofs.Totals.{total-zero, total-suc}
use Rattle.area_space.proofs.table.RegionTable.total.Goals as goal
use Rattle.area_space.specs.Accounts.{debt}
use Rattle.area_space.specs.Table.{live, slot_of}

pub loop-area-init : goal.loop-area-init
loop-area-init c =
    record { is = sym (total-zero (λ a. debt c.args.self.now (live (slot_of c.args.self.now a c.args.level)))); small = omega arith }

pub loop-area-preserved : goal.loop-area-preserved
loop-area-preserved c =
    let f : ℕ → ℕ = λ a. debt c.args.self.now (live (slot_of c.args.self.now a c.args.level)) in
    let a = total-suc f c.loop-area.area in
    let b : total f (c.loop-area.area + 1) ≡ total f (suc c.loop-area.area) = ap (total f) (omega arith) in
    let x : debt c.args.self.now (live c.slot-slot.result) ≡ f c.loop-area.area = ap (λ (k : ℕ). debt c.args.self.now (live k)) c.slot-slot.ensures.value in
    let y = c.debt-sum.ensures.value in
    let before : c.loop-area.sum ≡ total f c.loop-area.area = c.loop-area.invariant.is in
    let after : c.loop-area.sum + c.debt-sum.result ≡ total f (c.loop-area.area + 1) = omega arith in
    record { is = after; small = omega arith }
