use Rattle.std.proofs.Common.{ℕ, ◌≡◌, ◌+◌, ◌*◌, Some, ap, arith, length, refl, subst, suc, sym}
use Rattle.lisp_graph.specs.declared.command.Command.TheVariants as C
use Rattle.test_collect.specs.Machines.{HasRoomAt}
use Rattle.test_collect.proofs.making.make.Goals as goal

one_more : (n : ℕ) → suc n ≡ n + 1
one_more n = omega arith

pub returns-in-Pair-clause-some : goal.returns-in-Pair-clause-some
returns-in-Pair-clause-some g c =
    record {
      command = C.Cons c.args.to c.args.area c.in-Pair.car c.in-Pair.cdr;
      charge = 2;
      allowed = tt;
      room = c.if-has_room.ensures refl;
      wants = λ s. record { effect_of = _; is = refl; wanted = refl };
      performs = rw c.reply_of.ensures (c.cons.ensures.performs);
    }

pub returns-in-List-clause-some : goal.returns-in-List-clause-some
returns-in-List-clause-some g c =
    let items = c.items_from-items.result in
    let room : HasRoomAt c.args.ground.now.table c.args.area c.args.level (3 * length items) = subst (λ (n : ℕ). HasRoomAt c.args.ground.now.table c.args.area c.args.level (3 * n)) (sym c.items_from-items.ensures.many) (c.if-has_room-2.ensures refl) in
    record {
      command = C.List c.args.to c.args.area items;
      charge = 3 * length items;
      allowed = (let some = room.some in omega arith);
      room = room;
      wants = λ s. record { effect_of = _; is = refl; wanted = refl };
      performs = rw c.reply_of-in-List.ensures (c.list.ensures.performs);
    }

pub returns-in-Block-clause-some : goal.returns-in-Block-clause-some
returns-in-Block-clause-some g c =
    record {
      command = C.Make c.args.to c.args.area c.in-Block.code c.in-Block.fields;
      charge = c.in-Block.fields + 1;
      allowed = tt;
      room = c.if-has_room-3.ensures refl;
      wants = λ s. record { effect_of = _; is = refl; wanted = ap (λ (n : ℕ). Some (record { area = c.args.area; charge = n })) (one_more c.in-Block.fields) };
      performs = rw c.reply_of-in-Block.ensures (c.make.ensures.performs);
    }
