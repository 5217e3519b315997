use Rattle.std.proofs.Common.{refl, subst, sym, ◌∙◌, arith, slice_index}
use Rattle.store_word.specs.Words.{Parts}
use Rattle.transporter.specs.Moving.{none}
use Rattle.transporter.specs.Settling.{RefersToOld}
use Rattle.transporter.proofs.PageMarks.{marks-read, marks-then}
use Rattle.transporter.proofs.TransportSequences.{moves-more, moves-then, same-stores}
use Rattle.transporter.proofs.ScannedWords.{preserves-same, preserves-then}
use Rattle.heap_state.specs.Settled.{IsSettled}
use Rattle.heap_state.proofs.SettledRegister.{represented_then, item_within, one_more, registers_fresh, registers_same, registers_then}
use Rattle.heap_state.proofs.settling.settle_items.Goals as goal

pub returns-then-not-is_collecting-clause-moves : goal.returns-then-not-is_collecting-clause-moves
returns-then-not-is_collecting-clause-moves g c = record { count = 0; few = omega arith; moves = none }

pub loop-i-init : goal.loop-i-init
loop-i-init g c = record {
  represented = λ k s b reach. record { map = k; represents = b; refines = λ kind a n e. e; work = omega arith };
  fresh = λ j d zero low. absurd (omega arith);
  others = registers_same c.args.ground.now.table c.args.registers.now;
  preserves = preserves-same;
  stays_fresh = λ fresh words. words;
  marks = marks-read c.args.ground.now.table same-stores;
  moves = record { count = 0; few = omega arith; moves = none };
  quiet = record { faults = refl; honest = refl; room = omega arith; sound = λ before. before };
  few = omega arith;
  cost = omega arith;
}

pub returns-in_err-settle_register-clause-represented : goal.returns-in_err-settle_register-clause-represented
returns-in_err-settle_register-clause-represented g c = represented_then _ _ _ _ _ _ _ _ _ c.loop-i.invariant.represented c.in_err-settle_register.ensures.represented

pub returns-in_err-settle_register-clause-registers : goal.returns-in_err-settle_register-clause-registers
returns-in_err-settle_register-clause-registers g c = registers_then _ _ _ _ _ c.in_err-settle_register.ensures.preserves.grows c.loop-i.invariant.others c.in_err-settle_register.ensures.registers

pub returns-in_err-settle_register-clause-preserves : goal.returns-in_err-settle_register-clause-preserves
returns-in_err-settle_register-clause-preserves g c = preserves-then c.loop-i.invariant.preserves c.in_err-settle_register.ensures.preserves

pub returns-in_err-settle_register-clause-stays_fresh : goal.returns-in_err-settle_register-clause-stays_fresh
returns-in_err-settle_register-clause-stays_fresh g c fresh words =
    c.in_err-settle_register.ensures.stays_fresh (registers_fresh _ _ _ _ c.loop-i.invariant.preserves.grows c.loop-i.invariant.others fresh) (c.loop-i.invariant.stays_fresh fresh words)

pub returns-in_err-settle_register-clause-marks : goal.returns-in_err-settle_register-clause-marks
returns-in_err-settle_register-clause-marks g c = marks-then c.loop-i.invariant.marks c.in_err-settle_register.ensures.marks

pub returns-in_err-settle_register-clause-moves : goal.returns-in_err-settle_register-clause-moves
returns-in_err-settle_register-clause-moves g c = moves-more (omega arith) (moves-then c.loop-i.invariant.moves c.in_err-settle_register.ensures.moves)

pub loop-i-preserved : goal.loop-i-preserved
loop-i-preserved g c =
    let x = c.in_ok-settle_register.ensures in
    let y = c.loop-i.invariant in
    let few = x.at_most in
    let early = y.few in
    let cost = x.cost in
    let before = y.cost in
    let grows = x.preserves.grows.placed in
    let grew = y.preserves.grows.placed in
    let settled : IsSettled c.settle_register.new.ground.table c.settle_register.new.registers (slice_index c.args.items.now c.loop-i.i) =
    (subst (λ (w : Parts). RefersToOld c.settle_register.new.ground.table w → ⊥) (sym x.word) x.fresh) in
    record {
      represented = represented_then _ _ _ _ _ _ _ _ _ y.represented x.represented;
      fresh = one_more _ _ _ _ c.args.items.now c.loop-i.i x.preserves.grows x.registers (item_within c.loop-i.ground.table _ _ _ y.others c.requires.in_range) c.loop-i-test.true y.fresh settled;
      others = registers_then _ _ _ _ _ x.preserves.grows y.others x.registers;
      preserves = preserves-then y.preserves x.preserves;
      stays_fresh = λ fresh words. x.stays_fresh (registers_fresh _ _ _ _ y.preserves.grows y.others fresh) (y.stays_fresh fresh words);
      marks = marks-then y.marks x.marks;
      moves = moves-then y.moves x.moves;
      quiet = record { faults = x.accounted.cause.quiet ∙ y.quiet.faults; honest = (let a = y.quiet.honest in let b = x.accounted.honest in omega arith); room = (let a = y.quiet.room in let b = x.accounted.room.answered in omega arith); sound = λ was. x.accounted.sound (y.quiet.sound was) };
      few = omega arith;
      cost = omega arith;
    }

pub returns-clause-fresh : goal.returns-clause-fresh
returns-clause-fresh g c j d low = c.loop-i.invariant.fresh j d (omega arith) (let past = c.loop-i-test.false in omega arith)
