use Rattle.std.proofs.Common.{ap, refl, sym, ◌∙◌}
use Rattle.heap_collect.proofs.FreedRegions.{frees_nothing, frees_then}
use Rattle.heap_collect.proofs.SilentSteps.{comes_alone, done_quiet, done_then, full_again, low_levels, never_alone, not_due, placed_quiet, placed_then, prepares, prepares_none, resident_quiet, resident_then, same_full, stands_after}
use Rattle.heap_collect.proofs.silent.take_silent_steps.Goals as goal

pub flip_alone-requires : goal.flip_alone-requires
flip_alone-requires g c = record { represented = stands_after c.requires.represented c.reclaim_alone.ensures.no_fault.regions c.reclaim_alone.ensures.reclaims }

pub returns-then-has_capacity-clause-step : goal.returns-then-has_capacity-clause-step
returns-then-has_capacity-clause-step g c =
    let t = c.args.ground.now.table in
    let space = c.args.space.now in
    let alone = sym c.has_capacity.ensures ∙ c.if-has_capacity.true in
    let first = c.reclaim_alone.ensures in
    let second = c.flip_alone.ensures in
    let same = comes_alone c.requires.represented alone first.reclaims in
    record {
      step = λ registers k s x is count.
          (let r = first.reclaims.step registers k s x in
          let f = second.flips.step registers r.0 r.1 r.2 (r.4 ∙ is) count in
          prepares (g.M.Memory.seen c.flip_alone.new.ground.mem) c.flip_alone.new.ground.table c.flip_alone.new.scan registers s r.1 f.0 r.0 space is alone r.3 r.4 f.2 f.1);
      frees = frees_then (g.M.Memory.seen c.args.ground.now.mem) (g.M.Memory.seen c.reclaim_alone.new.ground.mem) (g.M.Memory.seen c.flip_alone.new.ground.mem) t c.reclaim_alone.new.ground.table c.flip_alone.new.ground.table first.reclaims.frees (ap g.M.Memory.seen second.memory) second.flips.used second.flips.free;
      regions = second.flips.regions ∙ first.no_fault.regions;
      done = done_then t c.reclaim_alone.new.ground.table c.args.scan.now space same c.flip_alone.new.scan.done (λ never. ap (λ w. w.done) (second.unchanged never).1) second.flips.done;
      placed = placed_then t c.reclaim_alone.new.ground.table c.args.scan.now space same c.flip_alone.new.ground.table.placed first.no_fault.placed (λ never. ap (λ w. w.table.placed) (second.unchanged never).0) second.flips.placed;
      unchanged = λ never. (second.unchanged (same ∙ never)).1;
      begins = λ comes. full_again t c.reclaim_alone.new.ground.table space _ (same_full t c.reclaim_alone.new.ground.table space first.reclaims.count (low_levels (g.M.Memory.seen c.args.ground.now.mem) t c.args.scan.now space c.requires.represented).0) (second.flips.begins (same ∙ comes));
      faults = ap g.M.Memory.faults second.memory ∙ first.no_fault.faults;
      taken = ap g.M.Memory.taken second.memory ∙ first.no_fault.taken;
    }

pub returns-else-has_capacity-clause-step : goal.returns-else-has_capacity-clause-step
returns-else-has_capacity-clause-step g c =
    let t = c.args.ground.now.table in
    let quiet = sym c.has_capacity.ensures ∙ c.if-has_capacity.false in
    record {
      step = λ registers k s x is count. prepares_none (g.M.Memory.seen c.args.ground.now.mem) t c.args.scan.now registers k s c.args.space.now x is quiet;
      frees = frees_nothing (g.M.Memory.seen c.args.ground.now.mem) t;
      regions = refl;
      done = done_quiet t c.args.scan.now c.args.space.now quiet;
      placed = placed_quiet t c.args.scan.now c.args.space.now quiet;
      unchanged = λ _. refl;
      begins = λ comes. absurd (never_alone t c.args.scan.now c.args.space.now quiet comes);
      faults = refl;
      taken = refl;
    }

pub returns-then-has_capacity-clause-memory : goal.returns-then-has_capacity-clause-memory
returns-then-has_capacity-clause-memory g c never =
    c.flip_alone.ensures.memory ∙ ap (λ ground. ground.mem) (c.reclaim_alone.ensures.unchanged (not_due _ _ (sym c.has_capacity.ensures ∙ c.if-has_capacity.true) never))

pub returns-then-has_capacity-clause-end : goal.returns-then-has_capacity-clause-end
returns-then-has_capacity-clause-end g c never still =
    let same = comes_alone c.requires.represented (sym c.has_capacity.ensures ∙ c.if-has_capacity.true) c.reclaim_alone.ensures.reclaims in
    (c.flip_alone.ensures.unchanged (same ∙ still)).0 ∙ c.reclaim_alone.ensures.unchanged (not_due _ _ (sym c.has_capacity.ensures ∙ c.if-has_capacity.true) never)

pub returns-then-has_capacity-clause-resident : goal.returns-then-has_capacity-clause-resident
returns-then-has_capacity-clause-resident g c =
    let flipped = ap g.M.Memory.resident c.flip_alone.ensures.memory in
    resident_then c.args.ground.now.table c.args.scan.now c.args.space.now (g.M.Memory.resident c.args.ground.now.mem) (g.M.Memory.resident c.flip_alone.new.ground.mem) (sym c.has_capacity.ensures ∙ c.if-has_capacity.true)
    (λ due. flipped ∙ c.reclaim_alone.ensures.resident due) (λ never. flipped ∙ ap (λ ground. g.M.Memory.resident ground.mem) (c.reclaim_alone.ensures.unchanged never))

pub returns-else-has_capacity-clause-resident : goal.returns-else-has_capacity-clause-resident
returns-else-has_capacity-clause-resident g c = resident_quiet c.args.ground.now.table c.args.scan.now c.args.space.now (g.M.Memory.resident c.args.ground.now.mem) (sym c.has_capacity.ensures ∙ c.if-has_capacity.false)
