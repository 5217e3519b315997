use Rattle.std.proofs.Common.{◌≡◌, suc, ◌+◌, ◌^◌, sym, ◌∙◌, ap, arith}
use Rattle.lisp_graph.specs.Totals.{if_true}
use Rattle.lisp_graph.proofs.Totals.{total-zero}
use Rattle.heap_collect.specs.Silent.{full_bits, is_full_on, some_set}
use Rattle.heap_collect.proofs.FullLevels.{from_set, one_full, pow_six, shifted}
use Rattle.heap_collect.proofs.silent.full_levels.Goals as goal
use Rattle.heap_collect.proofs.silent.full_levels.Goals.{then-is_full, else-is_full}

pub loop-index-init : goal.loop-index-init
loop-index-init c = record { is = sym (total-zero (λ i. if_true (is_full_on c.args.table.now c.args.space.now (suc i)) (2 ^ i))); small = omega arith }

pub loop-index-preserved : goal.loop-index-preserved
loop-index-preserved c = elim c.if-is_full.branch [
  | then-is_full w ↦
      let s = shifted c.loop-index.index (omega arith) in
      let b = w.bits-is in
      let x = one_full c.args.table.now c.args.space.now c.loop-index.index c.loop-index.bits c.if-is_full.bits c.is_full.result c.is_full.ensures c.loop-index.invariant.is c.loop-index.invariant.small
      (b ∙ (omega arith) ∙ sym (ap (λ r. if_true r (2 ^ c.loop-index.index) + c.loop-index.bits) w.if-is_full.true)) in
      record { is = x.0; small = x.1 }
  | else-is_full w ↦
      let x = one_full c.args.table.now c.args.space.now c.loop-index.index c.loop-index.bits c.if-is_full.bits c.is_full.result c.is_full.ensures c.loop-index.invariant.is c.loop-index.invariant.small
      (w.bits-is ∙ (omega arith) ∙ sym (ap (λ r. if_true r (2 ^ c.loop-index.index) + c.loop-index.bits) w.if-is_full.false)) in
      record { is = x.0; small = x.1 }
]

pub returns-else-bits-eq0 : goal.returns-else-bits-eq0
returns-else-bits-eq0 c =
    let end : c.loop-index.index ≡ c.args.space.now.levels = omega arith in
    let power = pow_six c.loop-index.index (omega arith) in
    from_set c.from_bits.result c.loop-index.bits c.from_bits.ensures.value c.from_bits.ensures.none (omega arith) c.if-bits-eq0.false
    ∙ ap some_set (c.loop-index.invariant.is ∙ ap (full_bits c.args.table.now c.args.space.now) end)
