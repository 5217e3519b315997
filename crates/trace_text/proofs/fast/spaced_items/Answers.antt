use Rattle.std.proofs.Common.{◌<◌, ◌∷◌, [], ap, arith, length-append}
use Rattle.std.proofs.lemmas.List.Elements.{All-push}
use Rattle.trace_text.specs.Items.{items_of}
use Rattle.trace_text.proofs.ListRegisters.{has_room, listed, longer, spaced_more}
use Rattle.trace_text.proofs.fast.spaced_items.Goals as goal

pub push-requires : goal.push-requires
push-requires c =
    has_room c.loop-item.command c.args.to c.args.area c.loop-item.invariant.list (omega (arith, c.loop-item.invariant.count, c.loop-item.invariant.few))

pub loop-item-preserved : goal.loop-item-preserved
loop-item-preserved c =
    let had = items_of c.loop-item.command in
    let is = longer c.loop-item.command c.push.new.self c.args.to c.args.area c.in-Some.item c.loop-item.invariant.list c.push.ensures in
    record {
      list = listed c.push.new.self c.args.to c.args.area _ is;
      read = rw (ap items_of is) (spaced_more c.args.text.now c.loop-item.rest.now c.in-Some.after.now had c.in-Some.item c.loop-item.invariant.read c.in-Some.ensures.1);
      within = rw (ap items_of is) (All-push (λ item. item < c.args.registers) had c.in-Some.item c.loop-item.invariant.within c.in-Some.ensures.0);
      count = rw (ap items_of is) (omega (arith, c.loop-item.invariant.count, length-append had (c.in-Some.item ∷ [])));
      few = rw (ap items_of is) (omega (arith, c.loop-item.invariant.count, c.loop-item.invariant.few, length-append had (c.in-Some.item ∷ [])));
    }
