use Rattle.std.proofs.Common.{◌<◌, List, Some, None, length, sym, ◌∙◌, subst, arith}
use Rattle.store_word.specs.Words.{Parts}
use Rattle.obj_layout.proofs.ForwardChains.{stores_nothing-twice, forward-read, way-inside, way-goes_on, way-ends}
use Rattle.obj_layout.proofs.forwards.resolve_first.Goals as goal

pub read-requires : goal.read-requires
read-requires g c =
    let i = c.loop-turn.invariant in
    subst (λ (ws : List Parts). c.loop-turn.here < length ws) (sym i.stays.words) (way-inside _ _ _ _ i.way)

pub returns-in-None-clause-value : goal.returns-in-None-clause-value
returns-in-None-clause-value g c =
    let i = c.loop-turn.invariant in
    (way-ends _ _ _ _ i.way (forward-read _ _ _ _ None i.stays.words c.in_ok-word.ensures.value c.in-None.ensures)).0

pub returns-in-None-clause-last : goal.returns-in-None-clause-last
returns-in-None-clause-last g c =
    let i = c.loop-turn.invariant in
    (way-ends _ _ _ _ i.way (forward-read _ _ _ _ None i.stays.words c.in_ok-word.ensures.value c.in-None.ensures)).1

pub loop-turn-preserved : goal.loop-turn-preserved
loop-turn-preserved g c =
    let i = c.loop-turn.invariant in
    let read = c.in_ok-word.ensures in
    let leads = forward-read _ _ _ _ (Some c.in-Some.next) i.stays.words read.value c.in-Some.ensures in
    record {
      way = way-goes_on _ _ _ _ _ i.way leads;
      stays = stores_nothing-twice i.stays read.unchanged;
      quiet = record { faults = read.cause.quiet ∙ i.quiet.faults; honest = (let a = i.quiet.honest in let b = read.taken in let d = read.cost in omega arith); room = (let a = i.quiet.room in let b = read.room.answered in omega arith); sound = λ _. read.sound };
      cost = (let a = i.cost in let b = read.cost in omega arith);
    }
