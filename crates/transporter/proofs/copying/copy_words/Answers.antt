use Rattle.std.proofs.Common.{ℕ, ◌⊎◌, ◌+◌, ◌<◌, ◌≤◌, inl, inr, ◌∙◌, arith, ◌≡◌, ap}
use Rattle.transporter.proofs.WriteSequences.{writes-span}
use Rattle.obj_layout.specs.Forwards.{word_at}
use Rattle.transporter.proofs.copying.copy_words.Goals as goal

pub copy_on-requires-clause-from_held : goal.copy_on-requires-clause-from_held
copy_on-requires-clause-from_held g c = (let below = c.loop-done-test.true in c.loop-done.invariant.held _ (c.requires.from_held (c.args.from + c.loop-done.done) (omega arith) (omega arith)))

pub copy_on-requires-clause-to_held : goal.copy_on-requires-clause-to_held
copy_on-requires-clause-to_held g c = (let below = c.loop-done-test.true in c.loop-done.invariant.held _ (c.requires.to_held (c.args.to + c.loop-done.done) (omega arith) (omega arith)))

pub loop-done-preserved : goal.loop-done-preserved
loop-done-preserved g c =
    let i = c.loop-done.invariant in
    let call = c.copy_on.ensures in
    let piece = c.on_one_page-piece.ensures in
    let below = c.loop-done-test.true in
    let same : (k : ℕ) → k < c.on_one_page-piece.result → word_at (g.M.Memory.seen c.loop-done.mem).words (c.args.from + c.loop-done.done + k) ≡ word_at (g.M.Memory.seen c.args.mem.now).words (c.args.from + (c.loop-done.done + k)) = λ k l.
    let few = piece.at_most in
    let place : c.args.from + c.loop-done.done + k ≡ c.args.from + (c.loop-done.done + k) = omega arith in
    i.copied.others (c.args.from + c.loop-done.done + k) (λ x. (let a = x.0 in let b = x.1 in go c.args.from c.args.to c.args.count c.loop-done.done k c.requires.apart (omega arith) a b)) ∙ ap (word_at (g.M.Memory.seen c.args.mem.now).words) place in
    record {
      low = (let few = piece.at_most in omega arith);
      sound = λ _. call.sound;
      fits = λ _. (let size = call.sound.size in let few = call.sound.few in omega arith);
      copied = writes-span i.copied call.written piece.to same;
      held = λ page h. call.stays_held page (i.held page h);
      quiet = record {
        faults = call.no_fault ∙ i.quiet.faults;
        honest = (let a = i.quiet.honest in let b = call.taken in let d = call.cost in omega arith);
        room = (let a = i.quiet.room in let b = call.resident in omega arith);
        sound = λ _. call.sound;
      };
      cost = (let a = i.cost in let b = call.cost in omega arith);
    }
  where
    go : (from to count done k : ℕ) → (from + count ≤ to) ⊎ (to + count ≤ from) → done + k < count → to ≤ from + done + k → from + done + k < to + done → ⊥
    go from to count done k (inl l) below a b = omega arith
    go from to count done k (inr l) below a b = omega arith
