use Rattle.std.proofs.Common.{Result, Ok, Err}
use Rattle.std.specs.Prelude.{OnOk}
use Rattle.block_store.proofs.WriteSequences.{writes-wide-held}
use Rattle.block_store.proofs.widening.lay_anew.Goals as goal

on-ok : {A E : Type 0} {P : Type 0} (r : Result A E) → P → OnOk r P
on-ok (Ok x) p = p
on-ok (Err e) p = tt

pub returns-clause-ok : goal.returns-clause-ok
returns-clause-ok g c =
    let stays = c.in_ok-hold_spans.ensures.unchanged in
    on-ok c.leave_husk.result (record { copied = g.M.Memory.seen c.write_wide.new.mem; writes = writes-wide-held c.args.head.at c.args.head.code c.args.head.length c.args.wide c.args.to stays c.in_ok-write_wide.ensures.written; leaves = c.leave_husk.ensures.written })
