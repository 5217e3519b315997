use Rattle.std.proofs.Common.{sym, ap, ◌∙◌, arith, drop}
use Rattle.paged_memory.specs.Paging.{resident_of}
use Rattle.paged_memory.specs.Moves.{paging_of}
use Rattle.paged_memory.proofs.Chains.{evicts_fewer, evicts_then, drop_more, one_gone, stops_evicting, writes_more}
use Rattle.paged_memory.proofs.Uses.{out_evicts}
use Rattle.paged_memory.proofs.FrameAccess.{paged_sound}
use Rattle.paged_memory.proofs.memory.PagedMemoryMemory.evict_oldest.Goals as goal

pub loop-evicted-preserved : goal.loop-evicted-preserved
loop-evicted-preserved g c =
    let k = c.in_ok-evict.ensures.preserves in
    let out = c.in_ok-evict.ensures.resident in
    let v = c.loop-evicted.invariant in
    record {
      paged = k.paged;
      frames = v.frames ∙ sym k.frames;
      buffer = v.buffer;
      stays = record { words = k.stays.words ∙ v.stays.words; levels = k.stays.levels ∙ v.stays.levels; top = k.stays.top ∙ v.stays.top; unmarked = λ q m. k.stays.unmarked q (v.stays.unmarked q m) };
      faults = c.in_ok-evict.ensures.cause.quiet ∙ v.faults;
      taken = v.taken;
      few = omega arith;
      some = omega (arith, one_gone c.loop-evicted.evicted _ _ _ v.order out.first);
      order = out.order ∙ ap (drop 1) v.order ∙ drop_more c.loop-evicted.evicted _;
      calls = writes_more c.loop-evicted.evicted _ _ _ v.calls c.in_ok-evict.ensures.calls;
      out = evicts_then c.args.self.now.0 (paging_of c.loop-evicted.self-inside.pager) (paging_of c.evict.new.self) _ c.loop-evicted.evicted _ v.out v.order k.paged out (out_evicts _ _ _ _ _ k out);
    }

pub returns-in_err-evict-clause-stopped : goal.returns-in_err-evict-clause-stopped
returns-in_err-evict-clause-stopped g c =
    let v = c.loop-evicted.invariant in
    stops_evicting c.from_residual.result _ _ _ _ _ c.loop-evicted.evicted c.args.count (omega arith) (ap resident_of c.in_err-evict.ensures.unchanged ∙ v.order) v.calls c.in_err-evict.ensures.calls

pub returns-in_err-evict-clause-stops : goal.returns-in_err-evict-clause-stops
returns-in_err-evict-clause-stops g c =
    let v = c.loop-evicted.invariant in
    evicts_fewer c.from_residual.result _ _ c.loop-evicted.evicted c.args.count (omega arith) (ap resident_of c.in_err-evict.ensures.unchanged ∙ v.order)

pub returns-in_err-evict-clause-sound : goal.returns-in_err-evict-clause-sound
returns-in_err-evict-clause-sound g c = λ _. paged_sound _ _ c.in_err-evict.ensures.preserves.paged

pub returns-after-loop-evicted-clause-sound : goal.returns-after-loop-evicted-clause-sound
returns-after-loop-evicted-clause-sound g c = λ _. paged_sound _ _ c.loop-evicted.invariant.paged

pub returns-in_default-clause-sound : goal.returns-in_default-clause-sound
returns-in_default-clause-sound g c = λ _. paged_sound _ _ c.loop-evicted.invariant.paged
