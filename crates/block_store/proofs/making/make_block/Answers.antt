use Rattle.std.proofs.Common.{◌≡◌, ℕ, ◌+◌, ◌<◌, sym, ap, subst, arith}
use Rattle.mem_port.specs.Store.{Store}
use Rattle.area_space.specs.Table.{Table}
use Rattle.transporter.specs.LiveWordsUnchanged.{LiveWordsUnchanged}
use Rattle.block_store.specs.Making.{MakesBlock, block_word}
use Rattle.transporter.specs.WrittenMarks.{MarksByWords}
use Rattle.transporter.proofs.WrittenMarks.{marks_by_words}
use Rattle.obj_layout.specs.Forwards.{word_at}
use Rattle.transporter.proofs.Places.{on-err}
use Rattle.transporter.proofs.ScannedWords.{made-preserves, opened-preserves}
use Rattle.block_store.proofs.ScannedWords.{block-stays_fresh, opened-stays_fresh}
use Rattle.transporter.proofs.NewRegions.{end_there, opened_live, opened_or_same, opened_stays, place_low}
use Rattle.block_store.proofs.NewBlocks.{area_inside, level_inside, room_for_block, block_inside, block_allowed, block_live, block_marks, block_placed, block_made}
use Rattle.block_store.proofs.NewRegions.{needed-after, place-needed}
use Rattle.transporter.specs.Marking.{MarksFollow}
use Rattle.transporter.proofs.PageMarks.{marks-opened, marks-read, marks-then}
use Rattle.block_store.proofs.making.make_block.Goals as goal

pub place_for-placed-requires-clause-in_range : goal.place_for-placed-requires-clause-in_range
place_for-placed-requires-clause-in_range g c = room_for_block _ _ _ _ c.args.length c.requires.can

pub hold_and_write-requires-clause-in_range : goal.hold_and_write-requires-clause-in_range
hold_and_write-requires-clause-in_range g c =
    let p = c.place_for-placed.ensures in
    let low = block_inside _ _ _ _ c.args.length c.requires.can _ _ _ p.opened c.place_for-placed.result.at p.end in
    omega arith

pub returns-in_err-hold_and_write-clause-live : goal.returns-in_err-hold_and_write-clause-live
returns-in_err-hold_and_write-clause-live g c =
    let p = c.place_for-placed.ensures in
    let x = c.requires.can in
    opened_live _ _ _ x.kept _ _ (area_inside _ _ _ _ c.args.length x) (level_inside _ _ _ _ c.args.length x) _ _ _ p.opened _ c.in_err-hold_and_write.ensures.err

pub returns-in_err-hold_and_write-clause-opened : goal.returns-in_err-hold_and_write-clause-opened
returns-in_err-hold_and_write-clause-opened g c =
    let p = c.place_for-placed.ensures in
    let x = c.requires.can in
    on-err c.from_residual.result (opened_or_same _ _ _ x.kept _ _ (area_inside _ _ _ _ c.args.length x) (level_inside _ _ _ _ c.args.length x) _ _ _ p.opened)

pub returns-in_err-hold_and_write-clause-fault : goal.returns-in_err-hold_and_write-clause-fault
returns-in_err-hold_and_write-clause-fault g c =
    let p = c.place_for-placed.ensures in
    let x = c.requires.can in
    on-err c.from_residual.result (opened_stays _ _ _ x.kept _ _ (area_inside _ _ _ _ c.args.length x) (level_inside _ _ _ _ c.args.length x) _ _ _ p.opened _ c.in_err-hold_and_write.ensures.err)

pub commit-requires-clause-allowed : goal.commit-requires-clause-allowed
commit-requires-clause-allowed g c =
    let p = c.place_for-placed.ensures in
    block_allowed _ _ _ _ c.args.length c.requires.can _ _ _ p.opened c.place_for-placed.result.at p.end

pub returns-clause-made : goal.returns-clause-made
returns-clause-made g c =
    let p = c.place_for-placed.ensures in
    let x = c.requires.can in
    let end = end_there _ _ _ x.kept _ _ (area_inside _ _ _ _ c.args.length x) (level_inside _ _ _ _ c.args.length x) _ _ _ p.opened c.place_for-placed.result.at (c.args.length + 1) p.end in
    let made = block_made _ _ _ _ c.args.length x _ _ _ p.opened c.place_for-placed.result.at p.end (g.M.Memory.seen c.hold_and_write.new.mem) c.commit.new.self.table c.args.code c.in_ok-hold_and_write.ensures.ok
    (c.commit.ensures.table _ end) c.commit.ensures.pages c.commit.ensures.sound in
    let memory = ap g.M.Memory.seen c.commit.ensures.memory in
    subst (λ (m : Store). MakesBlock (g.M.Memory.seen c.args.ground.now.mem) c.args.ground.now.table m c.commit.new.self.table c.args.area c.args.level c.args.code c.args.length c.place_for-placed.result.at) (sym memory) made

pub returns-clause-in_range : goal.returns-clause-in_range
returns-clause-in_range g c =
    let p = c.place_for-placed.ensures in
    let x = c.requires.can in
    place_low _ _ _ x.kept _ _ (area_inside _ _ _ _ c.args.length x) (level_inside _ _ _ _ c.args.length x) _ _ _ p.opened c.place_for-placed.result.at (c.args.length + 1) p.end (omega arith)

pub returns-clause-placed : goal.returns-clause-placed
returns-clause-placed g c =
    let p = c.place_for-placed.ensures in
    let x = c.requires.can in
    let end = end_there _ _ _ x.kept _ _ (area_inside _ _ _ _ c.args.length x) (level_inside _ _ _ _ c.args.length x) _ _ _ p.opened c.place_for-placed.result.at (c.args.length + 1) p.end in
    block_placed _ _ _ _ c.args.length x _ _ _ p.opened c.place_for-placed.result.at p.end (g.M.Memory.seen c.hold_and_write.new.mem) c.commit.new.self.table c.args.code c.in_ok-hold_and_write.ensures.ok
    (c.commit.ensures.table _ end) c.commit.ensures.pages c.commit.ensures.sound

pub returns-clause-live : goal.returns-clause-live
returns-clause-live g c =
    let p = c.place_for-placed.ensures in
    let x = c.requires.can in
    let end = end_there _ _ _ x.kept _ _ (area_inside _ _ _ _ c.args.length x) (level_inside _ _ _ _ c.args.length x) _ _ _ p.opened c.place_for-placed.result.at (c.args.length + 1) p.end in
    let same = block_live _ _ _ _ c.args.length x _ _ _ p.opened c.place_for-placed.result.at p.end (g.M.Memory.seen c.hold_and_write.new.mem) c.commit.new.self.table c.args.code c.in_ok-hold_and_write.ensures.ok
    (c.commit.ensures.table _ end) c.commit.ensures.pages c.commit.ensures.sound in
    let memory = ap g.M.Memory.seen c.commit.ensures.memory in
    subst (λ (m : Store). LiveWordsUnchanged (g.M.Memory.seen c.args.ground.now.mem) c.args.ground.now.table m c.commit.new.self.table) (sym memory) same

pub returns-in_err-hold_and_write-clause-preserves : goal.returns-in_err-hold_and_write-clause-preserves
returns-in_err-hold_and_write-clause-preserves g c =
    let p = c.place_for-placed.ensures in
    let x = c.requires.can in
    let area_in = area_inside _ _ _ _ c.args.length x in
    let level_in = level_inside _ _ _ _ c.args.length x in
    opened-preserves (opened_live _ _ _ x.kept _ _ area_in level_in _ _ _ p.opened _ c.in_err-hold_and_write.ensures.err) (opened_or_same _ _ _ x.kept _ _ area_in level_in _ _ _ p.opened)

pub returns-in_err-hold_and_write-clause-stays_fresh : goal.returns-in_err-hold_and_write-clause-stays_fresh
returns-in_err-hold_and_write-clause-stays_fresh g c =
    let p = c.place_for-placed.ensures in
    let x = c.requires.can in
    let area_in = area_inside _ _ _ _ c.args.length x in
    let level_in = level_inside _ _ _ _ c.args.length x in
    opened-stays_fresh _ _ _ _ x.kept.table p.opened.sound (opened_live _ _ _ x.kept _ _ area_in level_in _ _ _ p.opened _ c.in_err-hold_and_write.ensures.err) (opened_or_same _ _ _ x.kept _ _ area_in level_in _ _ _ p.opened)

pub returns-clause-preserves : goal.returns-clause-preserves
returns-clause-preserves g c =
    made-preserves _ _ _ _ c.args.area c.args.level c.place_for-placed.result.at (c.args.length + 1) (c.args.length + 1) c.commit.ensures.sound (returns-clause-live g c) (omega arith) (returns-clause-placed g c)

pub returns-clause-stays_fresh : goal.returns-clause-stays_fresh
returns-clause-stays_fresh g c =
    let at = c.place_for-placed.result.at in
    let words = subst (λ (m : Store). (i : ℕ) → i < c.args.length + 1 → word_at m.words (at + i) ≡ block_word c.args.code c.args.length i) (sym (ap g.M.Memory.seen c.commit.ensures.memory)) c.in_ok-hold_and_write.ensures.ok.there in
    block-stays_fresh _ _ _ _ c.args.area c.args.level at c.args.code c.args.length c.requires.can.kept.table c.commit.ensures.sound (returns-clause-live g c) (returns-clause-placed g c) words

pub returns-in_err-hold_and_write-clause-needed : goal.returns-in_err-hold_and_write-clause-needed
returns-in_err-hold_and_write-clause-needed g c =
    let p = c.place_for-placed.ensures in
    let x = c.requires.can in
    place-needed _ _ _ _ c.args.area c.args.level (c.args.length + 1) _ x.kept.table (area_inside _ _ _ _ c.args.length x) (level_inside _ _ _ _ c.args.length x) p.opened p.needed

pub returns-clause-needed : goal.returns-clause-needed
returns-clause-needed g c =
    let p = c.place_for-placed.ensures in
    let x = c.requires.can in
    let area_in = area_inside _ _ _ _ c.args.length x in
    let level_in = level_inside _ _ _ _ c.args.length x in
    let end = end_there _ _ _ x.kept _ _ area_in level_in _ _ _ p.opened c.place_for-placed.result.at (c.args.length + 1) p.end in
    needed-after c.args.ground.now.table c.place_for-placed.new.ground.table c.commit.new.self.table _ (c.args.length + 1) (ap (λ (u : Table). u.chains) (c.commit.ensures.table _ end)) (place-needed _ _ _ _ c.args.area c.args.level (c.args.length + 1) _ x.kept.table area_in level_in p.opened p.needed)

pub returns-in_err-hold_and_write-clause-marks : goal.returns-in_err-hold_and_write-clause-marks
returns-in_err-hold_and_write-clause-marks g c =
    let p = c.place_for-placed.ensures in
    let x = c.requires.can in
    marks-then (marks-opened c.place_for-placed.result.opened x.kept.table (area_inside _ _ _ _ c.args.length x) (level_inside _ _ _ _ c.args.length x) p.opened) (marks-read c.place_for-placed.new.ground.table c.in_err-hold_and_write.ensures.err)

pub returns-clause-marks : goal.returns-clause-marks
returns-clause-marks g c =
    let p = c.place_for-placed.ensures in
    let x = c.requires.can in
    let end = end_there _ _ _ x.kept _ _ (area_inside _ _ _ _ c.args.length x) (level_inside _ _ _ _ c.args.length x) _ _ _ p.opened c.place_for-placed.result.at (c.args.length + 1) p.end in
    let marks = block_marks _ _ _ _ c.args.length x _ _ _ p.opened c.place_for-placed.result.at p.end (g.M.Memory.seen c.hold_and_write.new.mem) c.commit.new.self.table c.args.code c.in_ok-hold_and_write.ensures.ok
    (c.commit.ensures.table _ end) c.commit.ensures.pages c.commit.ensures.sound in
    let memory = ap g.M.Memory.seen c.commit.ensures.memory in
    subst (λ (m : Store). MarksFollow (g.M.Memory.seen c.args.ground.now.mem) c.args.ground.now.table m c.commit.new.self.table) (sym memory) marks

pub returns-clause-unmarked : goal.returns-clause-unmarked
returns-clause-unmarked g c =
    subst (λ (m : Store). MarksByWords (g.M.Memory.seen c.args.ground.now.mem) m c.place_for-placed.result.at (c.args.length + 1)) (sym (ap g.M.Memory.seen c.commit.ensures.memory))
    (marks_by_words c.place_for-placed.result.opened c.place_for-placed.ensures.opened c.in_ok-hold_and_write.ensures.ok)
