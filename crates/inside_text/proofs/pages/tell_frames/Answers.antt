use Rattle.std.proofs.Common.{arith, rules}
use Rattle.std.proofs.lemmas.Result.{err_from_is_err_and}
use Rattle.paged_memory.specs.Paging.{resident_of}
use Rattle.inside_text.specs.Pages.{frame_of}
use Rattle.inside_text.proofs.Frames.{told_cut, told_end, told_more, told_none, told_page, told_start}
use Rattle.inside_text.proofs.TextSequences.{none_yet}
use Rattle.inside_text.proofs.pages.tell_frames.Goals as goal

pub tell_frame-requires : goal.tell_frame-requires
tell_frame-requires g c = told_page (frame_of c.args.mem.now.0) (resident_of c.args.mem.now.0) c.args.buffer.now.pending c.loop-turn.invariant.1 c.in-Some.page c.in-Some.is

pub after-next-requires : goal.after-next-requires
after-next-requires g c = told_page (frame_of c.args.mem.now.0) (resident_of c.args.mem.now.0) c.args.buffer.now.pending c.loop-turn.invariant.1 c.in-Some.page c.in-Some.is

pub returns-in-None-clause-gathers : goal.returns-in-None-clause-gathers
returns-in-None-clause-gathers g c =
    record { whole = told_none (frame_of c.args.mem.now.0) (resident_of c.args.mem.now.0) c.args.buffer.now.pending c.loop-turn.invariant.1 c.in-None.is; part = _ }

pub returns-in_err-tell_frame-in-Some-clause-gathers : goal.returns-in_err-tell_frame-in-Some-clause-gathers
returns-in_err-tell_frame-in-Some-clause-gathers g c =
    let p = err_from_is_err_and c.from_residual.result c.from_residual.ensures.1 in
    told_cut (frame_of c.args.mem.now.0) (resident_of c.args.mem.now.0) c.args.buffer.now.pending c.loop-turn.invariant.1 c.in-Some.page c.in-Some.is c.from_residual.result p.0 p.1 c.in_err-tell_frame-in-Some.ensures.gathers.part

pub loop-turn-preserved : goal.loop-turn-preserved
loop-turn-preserved g c = (
  omega (arith, c.in_ok-tell_frame-in-Some.ensures.cause.quiet, c.loop-turn.invariant.0),
  told_more (frame_of c.args.mem.now.0) (resident_of c.args.mem.now.0) c.args.buffer.now.pending c.frames-turn-end.ensures.sound c.loop-turn.invariant.1 c.in-Some.page c.in-Some.is _ c.after-next.ensures c.in_ok-tell_frame-in-Some.ensures.gathers.whole,
)

pub loop-turn-init : goal.loop-turn-init
loop-turn-init g c = (search rules, told_start (frame_of c.args.mem.now.0) (resident_of c.args.mem.now.0) c.args.buffer.now.pending _ c.oldest-next.ensures (none_yet c.args.buffer.now.pending))

pub returns-clause-gathers : goal.returns-clause-gathers
returns-clause-gathers g c =
    record { whole = told_end (frame_of c.args.mem.now.0) (resident_of c.args.mem.now.0) c.args.buffer.now.pending c.loop-turn.invariant.1 (let few = c.frames-turn-end.ensures.at_most in omega (arith, few)); part = _ }
