use Rattle.std.proofs.Common.{length, sym, ap, ◌∙◌, arith, Some}
use Rattle.std.proofs.lemmas.List.{length-append}
use Rattle.std.proofs.lemmas.Option.{slice_get-get_or}
use Rattle.std.proofs.lemmas.Result.{err_from_is_err_and}
use Rattle.replay_run.proofs.Accounts.{accounts_cut, accounts_more}
use Rattle.replay_run.proofs.serve.give_accounts.Goals as goal

pub returns-in_err-gather-clause-gathers : goal.returns-in_err-gather-clause-gathers
returns-in_err-gather-clause-gathers g c = λ s stood reached.
    let q = err_from_is_err_and c.from_residual.result c.from_residual.ensures.1 in
    let at = slice_get-get_or c.args.world.now.areas c.loop-area.area c.index-areas-area.result (omega (arith, c.loop-area-test.true, ap length c.as_slice-areas.ensures)) ∙ ap Some (sym (rw c.as_slice-areas.ensures at c.index-areas-area.is)) in
    rw (reached.of.areas) (accounts_cut s c.args.world.now.areas c.loop-area.area c.index-areas-area.result c.account.result at (c.account.ensures s stood) c.from_residual.result q.0 q.1
    (c.loop-area.invariant.gathered s stood reached) (rw (c.as_bytes.ensures.value, c.account_text-line.ensures.value) at c.in_err-gather.ensures.gathers.part))

pub loop-area-preserved : goal.loop-area-preserved
loop-area-preserved g c = record {
  gathered = λ s stood reached.
      let at = slice_get-get_or c.args.world.now.areas c.loop-area.area c.index-areas-area.result (omega (arith, c.loop-area-test.true, ap length c.as_slice-areas.ensures)) ∙ ap Some (sym (rw c.as_slice-areas.ensures at c.index-areas-area.is)) in
      accounts_more s c.args.world.now.areas c.loop-area.area c.index-areas-area.result c.account.result at (c.account.ensures s stood) c.args.buffer.now.pending
      (c.loop-area.invariant.gathered s stood reached) (rw (c.as_bytes.ensures.value, c.account_text-line.ensures.value) at c.in_ok-gather.ensures.gathers.whole);
  quiet = c.in_ok-gather.ensures.sink.quiet (λ is. cc (is)) ∙ c.loop-area.invariant.quiet;
  room = c.in_ok-gather.ensures.room ∙ c.loop-area.invariant.room;
  few =
      let all = ap length c.in_ok-gather.ensures.gathers.whole.all in
      omega (arith, all, length-append c.loop-area.buffer.pending c.as_bytes.result.now, length-append c.in_ok-gather.ensures.gathers.whole.given c.gather.new.buffer.pending, ap length c.as_bytes.ensures.value, c.account_text-line.ensures.at_most, c.loop-area.invariant.few);
}

pub returns-in_err-gather-clause-fits : goal.returns-in_err-gather-clause-fits
returns-in_err-gather-clause-fits g c = λ room.
    let ok = c.in_err-gather.ensures.fits
    (omega (arith, room.room, c.loop-area.invariant.few, c.loop-area.invariant.room, ap length c.as_bytes.ensures.value, c.account_text-line.ensures.at_most, c.requires.few, c.loop-area-test.true, ap length c.as_slice-areas.ensures))
    (omega (arith, c.loop-area.invariant.quiet, room.few)) in
    absurd (cc (ok))

pub returns-in_err-gather-clause-room : goal.returns-in_err-gather-clause-room
returns-in_err-gather-clause-room g c = c.in_err-gather.ensures.room ∙ c.loop-area.invariant.room

pub returns-clause-room : goal.returns-clause-room
returns-clause-room g c = c.loop-area.invariant.room
