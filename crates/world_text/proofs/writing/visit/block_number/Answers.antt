use Rattle.std.proofs.Common.{refl, sym, ◌∙◌}
use Rattle.world_text.proofs.writing_laws.Walks.{block_before, block_now}
use Rattle.world_text.proofs.writing.visit.block_number.Goals as goal

pub returns-in-Some : goal.returns-in-Some
returns-in-Some c = λ graph shows are. block_before graph c.args.visits.now c.args.key c.in-Some.number are (sym c.number_of.ensures.value ∙ c.in-Some.is)

pub returns : goal.returns
returns c = λ graph shows are.
    rw c.len-number.ensures.value (block_now graph c.args.visits.now (record { keys = c.add.new.self; taken = c.args.visits.now.taken; waiting = c.push.new.self }) c.args.key c.in_default.ensures.none are shows
    c.in_ok-add.ensures.ok (rw c.block.ensures at c.in_ok-push.ensures) refl)
