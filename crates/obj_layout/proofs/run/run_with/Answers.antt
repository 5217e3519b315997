use Rattle.std.proofs.Common.{◌≡◌, ◌+◌, ◌-◌, ◌<◌, List, length, refl, sym, ◌∙◌, ap, subst, arith}
use Rattle.store_word.specs.Words.{Parts}
use Rattle.obj_layout.specs.Forwards.{word_at, Final, HasFinal, IsFinal}
use Rattle.obj_layout.proofs.ForwardChains.{stores_nothing-twice}
use Rattle.obj_layout.proofs.RunCells.{found-one, run-nil, run-inside, behind-read, run-forward, run-forwarded, run-pair, found-more}
use Rattle.obj_layout.proofs.run.run_with.Goals as goal

pub loop-behind-init : goal.loop-behind-init
loop-behind-init g c =
    let place : c.args.at + 1 - 1 ≡ c.args.at = omega arith in
    let words = (g.M.Memory.seen c.args.mem.now).words in
    record {
      found = found-one words c.args.at c.requires.can;
      word = ap (word_at words) place ∙ sym c.requires.first;
      stays = record { words = refl; levels = refl; top = refl; unmarked = λ page none. none };
      quiet = record { faults = refl; honest = refl; room = omega arith; sound = λ before. before };
      cost = omega arith;
    }

pub read-requires : goal.read-requires
read-requires g c =
    let i = c.loop-behind.invariant in
    let inside = run-inside i.found i.word c.cdr_code.ensures c.loop-behind-test.ensures in
    subst (λ (ws : List Parts). c.args.at + c.loop-behind.cells < length ws) (sym i.stays.words) inside

pub returns-clause-value : goal.returns-clause-value
returns-clause-value g c =
    let i = c.loop-behind.invariant in
    run-nil i.found i.word c.cdr_code.ensures c.loop-behind-test.ensures

pub resolve-requires : goal.resolve-requires
resolve-requires g c =
    let i = c.loop-behind.invariant in
    let read = c.in_ok-word.ensures in
    let behind = behind-read i.found i.word c.cdr_code.ensures c.loop-behind-test.ensures i.stays.words read.value c.forward.ensures c.if-is_some.ensures in
    subst (λ (ws : List Parts). HasFinal ws (c.args.at + c.loop-behind.cells)) (sym (read.unchanged.words ∙ i.stays.words)) (run-forward behind)

pub returns-then-is_some-clause-value : goal.returns-then-is_some-clause-value
returns-then-is_some-clause-value g c =
    let i = c.loop-behind.invariant in
    let read = c.in_ok-word.ensures in
    let behind = behind-read i.found i.word c.cdr_code.ensures c.loop-behind-test.ensures i.stays.words read.value c.forward.ensures c.if-is_some.ensures in
    let same = read.unchanged.words ∙ i.stays.words in
    let final = subst (λ (ws : List Parts). Final ws (c.args.at + c.loop-behind.cells) c.in_ok-to.to) same c.in_ok-to.ensures.value in
    let last = subst (λ (ws : List Parts). IsFinal ws c.in_ok-to.to) same c.in_ok-to.ensures.last in
    run-forwarded behind final last

pub returns-then-eq-clause-value : goal.returns-then-eq-clause-value
returns-then-eq-clause-value g c =
    let i = c.loop-behind.invariant in
    let behind = behind-read i.found i.word c.cdr_code.ensures c.loop-behind-test.ensures i.stays.words c.in_ok-word.ensures.value c.forward.ensures c.if-is_some.ensures in
    run-pair behind c.cdr_code-in-loop-behind.ensures c.if-eq.ensures

pub loop-behind-smaller : goal.loop-behind-smaller
loop-behind-smaller g c =
    let i = c.loop-behind.invariant in
    let behind = behind-read i.found i.word c.cdr_code.ensures c.loop-behind-test.ensures i.stays.words c.in_ok-word.ensures.value c.forward.ensures c.if-is_some.ensures in
    let more = found-more behind c.cdr_code-in-loop-behind.ensures c.if-eq.ensures in
    let few = more.few in
    let within = more.within in
    omega arith

pub loop-behind-preserved : goal.loop-behind-preserved
loop-behind-preserved g c =
    let i = c.loop-behind.invariant in
    let read = c.in_ok-word.ensures in
    let behind = behind-read i.found i.word c.cdr_code.ensures c.loop-behind-test.ensures i.stays.words read.value c.forward.ensures c.if-is_some.ensures in
    let place : c.args.at + (c.loop-behind.cells + 1) - 1 ≡ c.args.at + c.loop-behind.cells = omega arith in
    record {
      found = found-more behind c.cdr_code-in-loop-behind.ensures c.if-eq.ensures;
      word = ap (word_at (g.M.Memory.seen c.args.mem.now).words) place ∙ behind.word_is;
      stays = stores_nothing-twice i.stays read.unchanged;
      quiet = record { faults = read.cause.quiet ∙ i.quiet.faults; honest = (let a = i.quiet.honest in let b = read.taken in let d = read.cost in omega arith); room = (let a = i.quiet.room in let b = read.room.answered in omega arith); sound = λ _. read.sound };
      cost = (let a = i.cost in let b = read.cost in omega arith);
    }
