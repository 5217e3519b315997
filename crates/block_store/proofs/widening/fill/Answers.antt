use Rattle.std.proofs.Common.{◌+◌, refl, ◌∙◌, arith}
use Rattle.transporter.proofs.WriteSequences.{writes-span}
use Rattle.block_store.proofs.widening.fill.Goals as goal

pub fill_on-requires-clause-held : goal.fill_on-requires-clause-held
fill_on-requires-clause-held g c = (let below = c.loop-done-test.true in c.loop-done.invariant.held _ (c.requires.held (c.args.at + c.loop-done.done) (omega arith) (omega arith)))

pub loop-done-preserved : goal.loop-done-preserved
loop-done-preserved g c =
    let i = c.loop-done.invariant in
    let call = c.fill_on.ensures in
    let piece = c.on_one_page-piece.ensures in
    let below = c.loop-done-test.true in
    record {
      low = (let few = piece.at_most in omega arith);
      fits = λ _. (let size = call.sound.size in let few = call.sound.few in omega arith);
      written = writes-span i.written call.filled piece.page (λ k l. refl);
      held = λ page h. call.stays_held page (i.held page h);
      quiet = record {
        faults = call.no_fault ∙ i.quiet.faults;
        honest = (let a = i.quiet.honest in let b = call.taken in let d = call.cost in omega arith);
        room = (let a = i.quiet.room in let b = call.resident in omega arith);
        sound = λ _. call.sound;
      };
      cost = (let a = i.cost in let b = call.cost in omega arith);
    }
