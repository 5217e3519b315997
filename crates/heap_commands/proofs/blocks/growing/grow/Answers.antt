use Rattle.std.proofs.Common.{◌≡◌, ◌∙◌, ℕ, Err, ap}
use Rattle.store_word.specs.declared.faults.SwapFault.{SwapFault}
use Rattle.heap_commands.proofs.Refusals.{failed_tells, only_swap}
use Rattle.heap_commands.proofs.BlockGrowth.{can_grow, grow_faulted, grow_marked, grow_places, grow_performs, is_struct}
use Rattle.heap_commands.proofs.blocks.growing.grow.Given.{Over}
use Rattle.heap_commands.proofs.blocks.growing.grow.Goals.{After-refusal}
use Rattle.heap_commands.proofs.blocks.growing.grow.Goals as goal

pub grow-requires-clause-can : goal.grow-requires-clause-can
grow-requires-clause-can g c = can_grow _ _ c.args.registers.now c.args.target c.args.wanted c.index-registers-target.result c.index-registers-target.is c.requires.target c.requires.settled c.requires.can

pub returns-in-Ok-clause-performs : goal.returns-in-Ok-clause-performs
returns-in-Ok-clause-performs g c =
    let grew = c.in-Ok.ensures in
    grow_performs _ _ c.args.registers.now c.args.target c.args.wanted c.index-registers-target.result c.index-registers-target.is c.requires.target c.requires.settled _ _ _ (λ ne. let e = grew.refused.1 ne in cc) grew.grows grew.size grew.preserves grew.stays_fresh grew.marks

-- the block was found, so the error is a swap error
failed : (g : Over) (c : After-refusal g) → (swap : SwapFault) × (c.refusal.result ≡ Err swap)
failed g c =
    let grew = c.in-Err.ensures in
    let swap = only_swap c.in-Err.fault (λ is. is_struct _ _ c.args.registers.now c.args.target c.args.wanted c.index-registers-target.result c.index-registers-target.is c.requires.target c.requires.settled c.requires.can (grew.refused.0 (ap Err is)))
    (λ count is. grew.no_field count (ap Err is)) in
    (swap.0, c.refusal.ensures ∙ swap.1)

pub returns-in-Err-clause-performs : goal.returns-in-Err-clause-performs
returns-in-Err-clause-performs g c =
    let grew = c.in-Err.ensures in
    rw (failed g (goal.at.returns-in-Err-clause-performs g c).After-refusal).1 (grow_faulted _ _ _ _ c.args.registers.now c.args.target c.args.wanted grew.preserves grew.stays_fresh grew.marks grew.fault)

pub returns-in-Err-clause-unmarked : goal.returns-in-Err-clause-unmarked
returns-in-Err-clause-unmarked g c = rw (failed g (goal.at.returns-in-Err-clause-unmarked g c).After-refusal).1 tt

pub returns-in-Err-clause-accounted : goal.returns-in-Err-clause-accounted
returns-in-Err-clause-accounted g c = failed_tells ℕ c.in-Err.fault c.refusal.result c.refusal.ensures c.in-Err.ensures.accounted

pub returns-in-Err-clause-succeeds : goal.returns-in-Err-clause-succeeds
returns-in-Err-clause-succeeds g c = rw (failed g (goal.at.returns-in-Err-clause-succeeds g c).After-refusal).1 tt

pub returns-in-Err-clause-placed : goal.returns-in-Err-clause-placed
returns-in-Err-clause-placed g c = rw (failed g (goal.at.returns-in-Err-clause-placed g c).After-refusal).1 tt

pub returns-in-Ok-clause-placed : goal.returns-in-Ok-clause-placed
returns-in-Ok-clause-placed g c =
    let grew = c.in-Ok.ensures in
    grow_places _ _ c.args.registers.now c.args.target c.args.wanted c.index-registers-target.result c.index-registers-target.is c.requires.target c.requires.settled _ _ _ (λ ne. let e = grew.refused.1 ne in cc) grew.grows grew.size grew.preserves grew.stays_fresh grew.marks

pub returns-in-Ok-clause-unmarked : goal.returns-in-Ok-clause-unmarked
returns-in-Ok-clause-unmarked g c =
    let grew = c.in-Ok.ensures in
    grow_marked _ _ c.args.registers.now c.args.target c.args.wanted c.index-registers-target.result c.index-registers-target.is c.requires.target c.requires.settled _ _ _ (λ ne. let e = grew.refused.1 ne in cc) grew.grows grew.size grew.preserves grew.stays_fresh grew.marks grew.left grew.placed grew.unmarked
