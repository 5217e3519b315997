use Rattle.std.proofs.Common.{[], ap, arith, sym, ◌∙◌}
use Rattle.store_word.specs.declared.space.Space.{Space}
use Rattle.lisp_graph.specs.declared.command.Condemn.TheVariants.{Chosen}
use Rattle.scavenger.specs.Starting.{base_pages}
use Rattle.heap_state.specs.lisp_meaning.Flip.{flipped}
use Rattle.heap_collect.proofs.FreedRegions.{free_condemned, used_condemned}
use Rattle.heap_collect.proofs.ScanSequences.{idle_phase, running_phase}
use Rattle.heap_collect.proofs.SilentSteps.{aim_none, aim_some, flip_silent, full_flips, idle_flips, is_resting, low_levels, no_flip_idle, no_flip_running, no_silent_flip}
use Rattle.heap_collect.proofs.silent.flip_alone.Goals as goal

pub full_levels-requires : goal.full_levels-requires
full_levels-requires g c =
    let x = low_levels (g.M.Memory.seen c.args.ground.now.mem) c.args.ground.now.table c.args.scan.now c.args.space.now c.requires.represented in
    record { levels = x.0; at_most = x.1 }

pub begin_collection-requires : goal.begin_collection-requires
begin_collection-requires g c = record {
  idle = is_resting (g.M.Memory.seen c.args.ground.now.mem) c.args.ground.now.table c.args.scan.now c.args.space.now c.requires.represented
      (aim_none c.args.ground.now.table.aim c.condemned.result c.is_some.result c.condemned.ensures c.is_some.ensures c.if-is_some.false);
}

pub returns-in-Some-clause-flips : goal.returns-in-Some-clause-flips
returns-in-Some-clause-flips g c =
    let t = c.args.ground.now.table in
    let was = c.requires.represented in
    let x = c.begin_collection.ensures in
    let none = aim_none t.aim c.condemned.result c.is_some.result c.condemned.ensures c.is_some.ensures c.if-is_some.false in
    let full = sym c.full_levels.ensures ∙ c.in-Some.is in
    record {
      step = λ registers k s y same count. (
        flipped s (Chosen c.in-Some.levels) (base_pages (g.M.Memory.seen c.begin_collection.new.ground.mem) c.begin_collection.new.ground.table (Chosen c.in-Some.levels)),
        x.begins.flips registers k s y (count ∙ sym (ap (λ (w : Space). w.registers) same)),
        flip_silent (g.M.Memory.seen c.args.ground.now.mem) t c.args.scan.now registers k s y (idle_phase t s.phase y.represents.aims none) c.args.space.now c.in-Some.levels _ same full (let few = x.begins.at_most in let size = was.regions in omega arith),
      );
      used = λ region. used_condemned t c.begin_collection.new.ground.table (Chosen c.in-Some.levels) region x.begins.table;
      free = λ region. free_condemned t (record c.begin_collection.new.ground.table { pages = [] }) (Chosen c.in-Some.levels) region was.represents.represents.kept.table x.begins.table;
      regions = x.regions;
      begins = λ _. rw full x.begins.begins;
      done = λ _. x.begins.done;
      placed = λ _. x.begins.placed;
    }

pub returns-in-None-clause-flips : goal.returns-in-None-clause-flips
returns-in-None-clause-flips g c =
    let t = c.args.ground.now.table in
    let none = aim_none t.aim c.condemned.result c.is_some.result c.condemned.ensures c.is_some.ensures c.if-is_some.false in
    let full = sym c.full_levels.ensures ∙ c.in-None.is in
    no_silent_flip (λ s registers k x same. no_flip_idle (g.M.Memory.seen c.args.ground.now.mem) t c.args.scan.now registers k s x (idle_phase t s.phase x.represents.aims none) c.args.space.now same full) (full_flips t c.args.space.now full)

pub returns-then-is_some-clause-flips : goal.returns-then-is_some-clause-flips
returns-then-is_some-clause-flips g c =
    let t = c.args.ground.now.table in
    let some = aim_some t.aim c.condemned.result c.is_some.result c.condemned.ensures c.is_some.ensures c.if-is_some.true in
    no_silent_flip (λ s registers k x same. (let p = running_phase t s.phase x.represents.aims some in no_flip_running s p.0 p.1)) (λ flips. some (idle_flips t c.args.space.now flips))
