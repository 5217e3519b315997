use Rattle.std.proofs.Common.{◌∙◌, sym, ap, subst, arith, length, Ok}
use Rattle.mem_port.specs.View.{AccountsForFaults, shown}
use Rattle.cdr_lists.proofs.CallReports.{placed-then, placed-then_fault}
use Rattle.std.proofs.lemmas.Result.{err_from_is_err_and}
use Rattle.store_word.specs.declared.word.CdrCode.{CdrCode}
use Rattle.mem_port.specs.Store.{Store}
use Rattle.area_space.specs.Table.{Table}
use Rattle.obj_layout.proofs.ForwardChains.{word_at-read}
use Rattle.transporter.specs.LiveWordsUnchanged.{LiveWordsUnchanged}
use Rattle.transporter.proofs.ScannedWords.{made-stays_fresh, made-preserves, opened-preserves}
use Rattle.transporter.specs.WrittenMarks.{MarksByWords}
use Rattle.cdr_lists.specs.Pairs.{PairedOn}
use Rattle.transporter.proofs.WrittenMarks.{marks_by_words}
use Rattle.cdr_lists.proofs.NewPlaces.{end_there, opened_stays_fresh, opened_live, opened_marks, opened_or_same, opened_stays, opens_if_needed, needed_then, words_inside, words_low}
use Rattle.cdr_lists.proofs.PartStores.{on_err}
use Rattle.cdr_lists.proofs.NewPairs.{area_inside, level_inside, pair_allowed, pair_fresh, pair_live, pair_marks, pair_placed, paired_on, room_for_pair}
use Rattle.transporter.specs.Marking.{MarksFollow}
use Rattle.transporter.proofs.MovedParcels.{within-written}
use Rattle.transporter.proofs.GroundPlaces.{is_place}
use Rattle.transporter.proofs.PageMarks.{marks-read, marks-then}
use Rattle.cdr_lists.proofs.pair.make_pair_of.Goals as goal

pub place-placed-requires-clause-in_range : goal.place-placed-requires-clause-in_range
place-placed-requires-clause-in_range g c = room_for_pair _ _ _ _ _ _ _ c.requires

pub write_pair-requires-clause-in_range : goal.write_pair-requires-clause-in_range
write_pair-requires-clause-in_range g c =
    let q = c.place-placed.ensures in
    let p = is_place (g.M.Memory.seen c.args.ground.now.mem) c.args.ground.now.table c.args.pair.area c.args.pair.level 2 c.place-placed.result.opened q.end q.unchanged q.memory q.table q.opened q.needed q.free q.lowest q.sound q.stays_ground q.stays_named in
    let inside = words_inside _ _ _ c.requires.kept c.args.pair.area c.args.pair.level (area_inside _ _ _ _ _ _ _ c.requires) (level_inside _ _ _ _ _ _ _ c.requires) _ _ _ p.opens c.place-placed.result.at p.end in
    omega arith

pub commit-requires-clause-allowed : goal.commit-requires-clause-allowed
commit-requires-clause-allowed g c =
    let q = c.place-placed.ensures in
    let p = is_place (g.M.Memory.seen c.args.ground.now.mem) c.args.ground.now.table c.args.pair.area c.args.pair.level 2 c.place-placed.result.opened q.end q.unchanged q.memory q.table q.opened q.needed q.free q.lowest q.sound q.stays_ground q.stays_named in
    pair_allowed _ _ _ _ _ _ _ c.requires _ _ _ p.opens c.place-placed.result.at p.end

pub returns-in_err-write_pair-clause-fault : goal.returns-in_err-write_pair-clause-fault
returns-in_err-write_pair-clause-fault g c =
    let q = c.place-placed.ensures in
    let p = is_place (g.M.Memory.seen c.args.ground.now.mem) c.args.ground.now.table c.args.pair.area c.args.pair.level 2 c.place-placed.result.opened q.end q.unchanged q.memory q.table q.opened q.needed q.free q.lowest q.sound q.stays_ground q.stays_named in
    let failed = err_from_is_err_and c.from_residual.result c.from_residual.ensures.1 in
    record {
      opened = on_err c.from_residual.result _ (opened_or_same _ _ _ c.requires.kept c.args.pair.area c.args.pair.level (area_inside _ _ _ _ _ _ _ c.requires) (level_inside _ _ _ _ _ _ _ c.requires) _ _ _ p.opens c.place-placed.result.at p.end);
      fault = on_err c.from_residual.result _ (opened_stays _ _ _ c.requires.kept c.args.pair.area c.args.pair.level (area_inside _ _ _ _ _ _ _ c.requires) (level_inside _ _ _ _ _ _ _ c.requires) _ _ _ p.opens c.place-placed.result.at p.end (g.M.Memory.seen c.write_pair.new.mem) c.in_err-write_pair.ensures.err);
      accounted = placed-then_fault q.no_fault q.taken (ap length q.resident) c.place-placed.new.self.sound _ c.from_residual.result failed.1 c.in_err-write_pair.ensures.accounted;
    }

pub returns-clause-fault : goal.returns-clause-fault
returns-clause-fault g c =
    let q = c.place-placed.ensures in
    let tells = placed-then {v = shown g.M.Memory c.args.ground.now.mem} {v' = shown g.M.Memory c.place-placed.new.self.mem} {v'' = shown g.M.Memory c.write_pair.new.mem} q.no_fault q.taken (ap length q.resident) c.place-placed.new.self.sound _ c.place-placed.result.at c.in_ok-write_pair.ensures.accounted in
    record { opened = tt; fault = tt; accounted = subst (λ m. AccountsForFaults (shown g.M.Memory c.args.ground.now.mem) (shown g.M.Memory m) c.args.steps.now c.write_pair.new.steps (Ok c.place-placed.result.at)) (sym c.commit.ensures.memory) tells }

pub returns-in_err-write_pair-clause-stays_ground : goal.returns-in_err-write_pair-clause-stays_ground
returns-in_err-write_pair-clause-stays_ground g c =
    let q = c.place-placed.ensures in
    let p = is_place (g.M.Memory.seen c.args.ground.now.mem) c.args.ground.now.table c.args.pair.area c.args.pair.level 2 c.place-placed.result.opened q.end q.unchanged q.memory q.table q.opened q.needed q.free q.lowest q.sound q.stays_ground q.stays_named in
    let live = opened_live _ _ _ c.requires.kept c.args.pair.area c.args.pair.level (area_inside _ _ _ _ _ _ _ c.requires) (level_inside _ _ _ _ _ _ _ c.requires) _ _ _ p.opens c.place-placed.result.at p.end (g.M.Memory.seen c.write_pair.new.mem) c.in_err-write_pair.ensures.err in
    record {
      live = live;
      preserves = opened-preserves live (opened_or_same _ _ _ c.requires.kept c.args.pair.area c.args.pair.level (area_inside _ _ _ _ _ _ _ c.requires) (level_inside _ _ _ _ _ _ _ c.requires) _ _ _ p.opens c.place-placed.result.at p.end);
      stays_fresh = λ fresh. opened_stays_fresh _ _ _ c.requires.kept c.args.pair.area c.args.pair.level (area_inside _ _ _ _ _ _ _ c.requires) (level_inside _ _ _ _ _ _ _ c.requires) _ _ _ p.opens c.place-placed.result.at p.end (g.M.Memory.seen c.write_pair.new.mem) c.in_err-write_pair.ensures.err;
      marks = marks-then (opened_marks _ _ _ c.requires.kept c.args.pair.area c.args.pair.level (area_inside _ _ _ _ _ _ _ c.requires) (level_inside _ _ _ _ _ _ _ c.requires) _ _ _ p.opens c.place-placed.result.at p.end) (marks-read c.place-placed.new.self.table c.in_err-write_pair.ensures.err);
    }

pub returns-clause-made : goal.returns-clause-made
returns-clause-made g c =
    let q = c.place-placed.ensures in
    let p = is_place (g.M.Memory.seen c.args.ground.now.mem) c.args.ground.now.table c.args.pair.area c.args.pair.level 2 c.place-placed.result.opened q.end q.unchanged q.memory q.table q.opened q.needed q.free q.lowest q.sound q.stays_ground q.stays_named in
    let end = end_there _ _ _ c.requires.kept c.args.pair.area c.args.pair.level (area_inside _ _ _ _ _ _ _ c.requires) (level_inside _ _ _ _ _ _ _ c.requires) _ _ _ p.opens c.place-placed.result.at p.end in
    let w = c.in_ok-write_pair.ensures in
    let second = c.with_cdr-second.ensures ∙ ap (λ (code : CdrCode). record c.args.cdr { cdr = code }) c.code_of.ensures in
    let made = paired_on _ _ _ _ _ _ _ c.requires _ _ _ p.opens c.place-placed.result.at p.end (g.M.Memory.seen c.write_pair.new.mem) c.commit.new.self.table c.with_cdr-first.result c.with_cdr-second.result c.with_cdr-first.ensures second (within-written w.pair) w.first w.second (c.commit.ensures.table _ end) c.commit.ensures.sound in
    let memory = ap g.M.Memory.seen c.commit.ensures.memory in
    subst (λ (m : Store). PairedOn (g.M.Memory.seen c.args.ground.now.mem) c.args.ground.now.table m c.commit.new.self.table c.args.pair.area c.args.pair.level c.args.pair.charge c.args.car c.args.cdr c.place-placed.result.at) (sym memory) made

pub returns-clause-words : goal.returns-clause-words
returns-clause-words g c =
    let w = c.in_ok-write_pair.ensures in
    let memory = ap (λ (m : Store). m.words) (ap g.M.Memory.seen c.commit.ensures.memory) in
    let second = c.with_cdr-second.ensures ∙ ap (λ (code : CdrCode). record c.args.cdr { cdr = code }) c.code_of.ensures in
    (word_at-read _ _ _ _ (sym memory) w.first ∙ c.with_cdr-first.ensures, word_at-read _ _ _ _ (sym memory) w.second ∙ second)

pub returns-clause-placed : goal.returns-clause-placed
returns-clause-placed g c =
    let q = c.place-placed.ensures in
    let p = is_place (g.M.Memory.seen c.args.ground.now.mem) c.args.ground.now.table c.args.pair.area c.args.pair.level 2 c.place-placed.result.opened q.end q.unchanged q.memory q.table q.opened q.needed q.free q.lowest q.sound q.stays_ground q.stays_named in
    let end = end_there _ _ _ c.requires.kept c.args.pair.area c.args.pair.level (area_inside _ _ _ _ _ _ _ c.requires) (level_inside _ _ _ _ _ _ _ c.requires) _ _ _ p.opens c.place-placed.result.at p.end in
    let w = c.in_ok-write_pair.ensures in
    record {
      in_range = words_low _ _ _ c.requires.kept c.args.pair.area c.args.pair.level (area_inside _ _ _ _ _ _ _ c.requires) (level_inside _ _ _ _ _ _ _ c.requires) _ _ _ p.opens c.place-placed.result.at p.end (omega arith);
      placed = pair_placed _ _ _ _ _ _ _ c.requires _ _ _ p.opens c.place-placed.result.at p.end (g.M.Memory.seen c.write_pair.new.mem) c.commit.new.self.table (within-written w.pair) (c.commit.ensures.table _ end) c.commit.ensures.pages;
      unmarked = subst (λ (m : Store). MarksByWords (g.M.Memory.seen c.args.ground.now.mem) m c.place-placed.result.at 2) (sym (ap g.M.Memory.seen c.commit.ensures.memory)) (marks_by_words c.place-placed.result.opened p.opens w.pair);
    }

pub returns-clause-stays_ground : goal.returns-clause-stays_ground
returns-clause-stays_ground g c =
    let q = c.place-placed.ensures in
    let p = is_place (g.M.Memory.seen c.args.ground.now.mem) c.args.ground.now.table c.args.pair.area c.args.pair.level 2 c.place-placed.result.opened q.end q.unchanged q.memory q.table q.opened q.needed q.free q.lowest q.sound q.stays_ground q.stays_named in
    let end = end_there _ _ _ c.requires.kept c.args.pair.area c.args.pair.level (area_inside _ _ _ _ _ _ _ c.requires) (level_inside _ _ _ _ _ _ _ c.requires) _ _ _ p.opens c.place-placed.result.at p.end in
    let w = c.in_ok-write_pair.ensures in
    let memory = ap g.M.Memory.seen c.commit.ensures.memory in
    let memory_words = ap (λ (m : Store). m.words) memory in
    let live = subst (λ (m : Store). LiveWordsUnchanged (g.M.Memory.seen c.args.ground.now.mem) c.args.ground.now.table m c.commit.new.self.table) (sym memory) (pair_live _ _ _ _ _ _ _ c.requires _ _ _ p.opens c.place-placed.result.at p.end (g.M.Memory.seen c.write_pair.new.mem) c.commit.new.self.table (within-written w.pair) (c.commit.ensures.table _ end) c.commit.ensures.pages) in
    let placed = pair_placed _ _ _ _ _ _ _ c.requires _ _ _ p.opens c.place-placed.result.at p.end (g.M.Memory.seen c.write_pair.new.mem) c.commit.new.self.table (within-written w.pair) (c.commit.ensures.table _ end) c.commit.ensures.pages in
    let preserves = made-preserves _ _ _ _ c.args.pair.area c.args.pair.level c.place-placed.result.at 2 c.args.pair.charge c.commit.ensures.sound live (omega arith) placed in
    let first_at = word_at-read _ _ _ _ (sym memory_words) w.first ∙ c.with_cdr-first.ensures in
    let second_at = word_at-read _ _ _ _ (sym memory_words) w.second ∙ c.with_cdr-second.ensures ∙ ap (λ (code : CdrCode). record c.args.cdr { cdr = code }) c.code_of.ensures in
    record {
      live = live;
      preserves = preserves;
      stays_fresh = λ fresh. made-stays_fresh _ _ _ _ c.args.pair.area c.args.pair.level c.place-placed.result.at 2 c.args.pair.charge c.requires.kept.table c.commit.ensures.sound placed preserves
          (pair_fresh _ _ _ c.place-placed.result.at c.args.pair.charge c.args.car c.args.cdr preserves.grows first_at second_at fresh.0 fresh.1);
      marks = subst (λ (m : Store). MarksFollow (g.M.Memory.seen c.args.ground.now.mem) c.args.ground.now.table m c.commit.new.self.table) (sym memory) (pair_marks _ _ _ _ _ _ _ c.requires _ _ _ p.opens c.place-placed.result.at p.end (g.M.Memory.seen c.write_pair.new.mem) c.commit.new.self.table (within-written w.pair) (c.commit.ensures.table _ end) c.commit.ensures.pages c.commit.ensures.sound w.pair);
    }

pub invariant_of-ground : goal.invariant_of-ground
invariant_of-ground g c = record { sound = c.write_pair.ensures.accounted.sound c.place-placed.new.self.sound }

pub returns-in_err-write_pair-clause-needed : goal.returns-in_err-write_pair-clause-needed
returns-in_err-write_pair-clause-needed g c =
    let q = c.place-placed.ensures in
    let p = is_place (g.M.Memory.seen c.args.ground.now.mem) c.args.ground.now.table c.args.pair.area c.args.pair.level 2 c.place-placed.result.opened q.end q.unchanged q.memory q.table q.opened q.needed q.free q.lowest q.sound q.stays_ground q.stays_named in
    opens_if_needed c.place-placed.result.opened p.opens p.needed

pub returns-clause-needed : goal.returns-clause-needed
returns-clause-needed g c =
    let q = c.place-placed.ensures in
    let p = is_place (g.M.Memory.seen c.args.ground.now.mem) c.args.ground.now.table c.args.pair.area c.args.pair.level 2 c.place-placed.result.opened q.end q.unchanged q.memory q.table q.opened q.needed q.free q.lowest q.sound q.stays_ground q.stays_named in
    let end = end_there _ _ _ c.requires.kept c.args.pair.area c.args.pair.level (area_inside _ _ _ _ _ _ _ c.requires) (level_inside _ _ _ _ _ _ _ c.requires) _ _ _ p.opens c.place-placed.result.at p.end in
    needed_then (opens_if_needed c.place-placed.result.opened p.opens p.needed) (ap (λ (x : Table). x.chains) (c.commit.ensures.table _ end))
