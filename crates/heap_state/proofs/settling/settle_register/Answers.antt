use Rattle.std.proofs.Common.{get_or, subst, sym}
use Rattle.std.proofs.lemmas.List.{get_or_read}
use Rattle.store_word.specs.Words.{Parts, null_word}
use Rattle.transporter.specs.Moving.{MovesFor}
use Rattle.transporter.specs.Settling.{RefersToOld, IsSettleable, Settles}
use Rattle.transporter.proofs.TransportSequences.{read-once, same-stores}
use Rattle.heap_state.proofs.SettledRegister.{fresh_settled, register_settleable, settles_here, stays_represented, settled_represented, settled_others}
use Rattle.heap_state.proofs.settling.settle_register.Goals as goal

pub settle-requires : goal.settle-requires
settle-requires g c =
    let read = get_or_read c.args.registers.now c.args.register c.index-registers-register.result c.requires.in_range c.index-registers-register.is null_word in
    subst (λ (w : Parts). IsSettleable (g.M.Memory.seen c.args.ground.now.mem) c.args.ground.now.table w) (sym read) (register_settleable _ _ c.args.registers.now c.args.register c.requires.consistent c.requires.in_range)

pub returns-then-not-is_collecting-clause-moves : goal.returns-then-not-is_collecting-clause-moves
returns-then-not-is_collecting-clause-moves g c = read-once c.args.ground.now.table same-stores

pub returns-in_err-settled-clause-represented : goal.returns-in_err-settled-clause-represented
returns-in_err-settled-clause-represented g c = stays_represented _ _ _ _ c.args.registers.now c.in_err-settled.ensures.preserves.grows c.in_err-settled.ensures.fault

pub returns-in_err-settled-clause-stays_fresh : goal.returns-in_err-settled-clause-stays_fresh
returns-in_err-settled-clause-stays_fresh g c fresh words =
    let read = get_or_read c.args.registers.now c.args.register c.index-registers-register.result c.requires.in_range c.index-registers-register.is null_word in
    c.in_err-settled.ensures.stays_fresh (subst (λ (w : Parts). RefersToOld c.args.ground.now.table w → ⊥) (sym read) (fresh_settled c.args.ground.now.table (get_or c.args.registers.now c.args.register null_word) (fresh c.args.register c.requires.in_range))) words

pub returns-clause-represented : goal.returns-clause-represented
returns-clause-represented g c =
    let read = get_or_read c.args.registers.now c.args.register c.index-registers-register.result c.requires.in_range c.index-registers-register.is null_word in
    settled_represented _ _ _ _ c.args.registers.now c.args.register c.in_ok-settled.settled c.requires.in_range c.in_ok-settled.ensures.preserves
    (subst (λ (w : Parts). Settles c.args.ground.now.table c.settle.new.ground.table w c.in_ok-settled.settled) read c.in_ok-settled.ensures.word)
    (settles_here (g.M.Memory.seen c.args.ground.now.mem) (g.M.Memory.seen c.settle.new.ground.mem) c.args.ground.now.table c.settle.new.ground.table _ _ c.in_ok-settled.settled read c.in_ok-settled.ensures.settles)

pub returns-clause-words : goal.returns-clause-words
returns-clause-words g c =
    let read = get_or_read c.args.registers.now c.args.register c.index-registers-register.result c.requires.in_range c.index-registers-register.is null_word in
    subst (λ (w : Parts). MovesFor (g.M.Memory.seen c.args.ground.now.mem) c.args.ground.now.table (g.M.Memory.seen c.settle.new.ground.mem) c.settle.new.ground.table w c.in_ok-settled.settled) read c.in_ok-settled.ensures.words

pub returns-clause-registers : goal.returns-clause-registers
returns-clause-registers g c =
    let read = get_or_read c.args.registers.now c.args.register c.index-registers-register.result c.requires.in_range c.index-registers-register.is null_word in
    settled_others _ _ _ _ c.args.registers.now c.args.register c.in_ok-settled.settled c.requires.in_range c.in_ok-settled.ensures.preserves
    (subst (λ (w : Parts). Settles c.args.ground.now.table c.settle.new.ground.table w c.in_ok-settled.settled) read c.in_ok-settled.ensures.word)
    (settles_here (g.M.Memory.seen c.args.ground.now.mem) (g.M.Memory.seen c.settle.new.ground.mem) c.args.ground.now.table c.settle.new.ground.table _ _ c.in_ok-settled.settled read c.in_ok-settled.ensures.settles) c.requires.consistent

pub returns-clause-stays_fresh : goal.returns-clause-stays_fresh
returns-clause-stays_fresh g c fresh words =
    let read = get_or_read c.args.registers.now c.args.register c.index-registers-register.result c.requires.in_range c.index-registers-register.is null_word in
    c.in_ok-settled.ensures.stays_fresh (subst (λ (w : Parts). RefersToOld c.args.ground.now.table w → ⊥) (sym read) (fresh_settled c.args.ground.now.table (get_or c.args.registers.now c.args.register null_word) (fresh c.args.register c.requires.in_range))) words
