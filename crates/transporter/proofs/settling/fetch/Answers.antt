use Rattle.std.proofs.Common.{refl, sym, subst, arith}
use Rattle.std.proofs.lemmas.Grind.{common_steps}
use Rattle.store_word.specs.Words.{Parts}
use Rattle.obj_layout.proofs.ForwardChains.{word_at-read}
use Rattle.transporter.specs.Settling.{RefersToOld, IsSettleable, Settles, CanSettle, SettlesOn}
use Rattle.transporter.proofs.Places.{on-err}
use Rattle.transporter.proofs.LiveObjects.{live-read, live-then}
use Rattle.transporter.proofs.FetchedWords.{later-read, later-stays, later-then_read, settle-read, settleable-read, settles-read, live-inside, unwritten-there, fetched, fetched-word, fetched-others, same-but}
use Rattle.transporter.proofs.PageMarks.{marks-then, marks-read, marks-replaced}
use Rattle.transporter.proofs.TransportSequences.{read-once, fetched-once, unwritten-once, read-writes, writes-moves, moves-then, fetch_moves-of}
use Rattle.transporter.proofs.ScannedWords.{preserves-then, read-preserves, read-stays_fresh, replaced-preserves, unmoved-reads}
use Rattle.transporter.proofs.settling.fetch.Goals as goal

pub read-requires : goal.read-requires
read-requires g c =
    let can = c.requires.can.can in
    live-inside (g.M.Memory.seen c.args.ground.now.mem) can.kept.table can.kept.ground.size c.requires.in_range

pub returns-in_err-word-clause-fault : goal.returns-in_err-word-clause-fault
returns-in_err-word-clause-fault g c = on-err c.from_residual.result (λ it registers v can.
    later-read (g.M.Memory.seen c.args.ground.now.mem) (g.M.Memory.seen c.read.new.self) c.args.ground.now.table it can.kept c.in_err-word.ensures.unchanged)

pub settle-requires : goal.settle-requires
settle-requires g c =
    let m = g.M.Memory.seen c.args.ground.now.mem in
    let read = c.in_ok-word.ensures in
    let is = word_at-read m.words m.words c.args.at c.in_ok-word.word refl read.value in
    subst (λ (w : Parts). IsSettleable (g.M.Memory.seen c.read.new.self) c.args.ground.now.table w) is (settleable-read c.requires.can read.unchanged)

pub returns-in_err-settled-clause-fault : goal.returns-in_err-settled-clause-fault
returns-in_err-settled-clause-fault g c = on-err c.from_residual-in_err-settled.result (λ it registers v can.
    later-stays (g.M.Memory.seen c.args.ground.now.mem) (g.M.Memory.seen c.read.new.self) (g.M.Memory.seen c.settle.new.ground.mem) c.args.ground.now.table c.settle.new.ground.table it can.kept
    c.in_ok-word.ensures.unchanged c.in_err-settled.ensures.fault)

pub write_changed-requires : goal.write_changed-requires
write_changed-requires g c =
    let there = unwritten-there c.requires.in_range c.requires.can c.in_ok-word.ensures.unchanged c.in_ok-word.ensures.value c.in_ok-settled.ensures.live c.in_ok-settled.ensures.settles in
    there.inside

pub returns-in_err-write_changed-clause-registers : goal.returns-in_err-write_changed-clause-registers
returns-in_err-write_changed-clause-registers g c = same-but c.args.at (live-then (live-read c.in_ok-word.ensures.unchanged) (live-then c.in_ok-settled.ensures.live (live-read c.in_err-write_changed.ensures.err)))

pub returns-in_err-write_changed-clause-live : goal.returns-in_err-write_changed-clause-live
returns-in_err-write_changed-clause-live g c = on-err c.from_residual-in_err-write_changed.result (live-then (live-read c.in_ok-word.ensures.unchanged) (live-then c.in_ok-settled.ensures.live (live-read c.in_err-write_changed.ensures.err)))

pub returns-in_err-write_changed-clause-fault : goal.returns-in_err-write_changed-clause-fault
returns-in_err-write_changed-clause-fault g c = on-err c.from_residual-in_err-write_changed.result (λ it registers v can.
    let m = g.M.Memory.seen c.args.ground.now.mem in
    let m1 = g.M.Memory.seen c.settle.new.ground.mem in
    let t = c.args.ground.now.table in
    let t1 = c.settle.new.ground.table in
    let read = c.in_ok-word.ensures in
    let is = word_at-read m.words m.words c.args.at c.in_ok-word.word refl read.value in
    let there = subst (λ (w : Parts). CanSettle (g.M.Memory.seen c.args.ground.now.mem) c.args.ground.now.table it registers w v) is can in
    let x = c.in_ok-settled.ensures.settles it registers v (settle-read m (g.M.Memory.seen c.read.new.self) t it registers c.in_ok-word.word v there read.unchanged) in
    later-then_read m m1 (g.M.Memory.seen c.write_changed.new.mem) t t1 it
    (settles-read m (g.M.Memory.seen c.read.new.self) m1 t t1 it c.in_ok-word.word c.in_ok-settled.settled read.unchanged x).later c.in_err-write_changed.ensures.err)

pub returns-clause-settles : goal.returns-clause-settles
returns-clause-settles g c = λ it registers v can.
    let m = g.M.Memory.seen c.args.ground.now.mem in
    let mid = g.M.Memory.seen c.read.new.self in
    let m1 = g.M.Memory.seen c.settle.new.ground.mem in
    let m2 = g.M.Memory.seen c.write_changed.new.mem in
    let t = c.args.ground.now.table in
    let t1 = c.settle.new.ground.table in
    let read = c.in_ok-word.ensures in
    let settled = c.in_ok-settled.ensures in
    let is = word_at-read m.words m.words c.args.at c.in_ok-word.word refl read.value in
    let can_read = subst (λ (w : Parts). CanSettle (g.M.Memory.seen c.args.ground.now.mem) c.args.ground.now.table it registers w v) is can in
    let x = settled.settles it registers v (settle-read m mid t it registers c.in_ok-word.word v can_read read.unchanged) in
    let there = unwritten-there c.requires.in_range c.requires.can read.unchanged read.value settled.live settled.settles in
    let P : Parts → Type 0 = λ w. SettlesOn (g.M.Memory.seen c.args.ground.now.mem) c.args.ground.now.table (g.M.Memory.seen c.write_changed.new.mem) c.settle.new.ground.table it w c.in_ok-settled.settled in
    subst P (sym is) (fetched m m1 m2 t t1 it registers v c.args.at c.in_ok-word.word c.in_ok-settled.settled there.alive there.same can_read settled.word
    (settles-read m mid m1 t t1 it c.in_ok-word.word c.in_ok-settled.settled read.unchanged x) c.in_ok-write_changed.ensures.ok)

pub returns-clause-word : goal.returns-clause-word
returns-clause-word g c =
    let m = g.M.Memory.seen c.args.ground.now.mem in
    let is = word_at-read m.words m.words c.args.at c.in_ok-word.word refl c.in_ok-word.ensures.value in
    let P : Parts → Type 0 = λ w. Settles c.args.ground.now.table c.settle.new.ground.table w c.in_ok-settled.settled in
    subst P (sym is) c.in_ok-settled.ensures.word

pub returns-clause-written : goal.returns-clause-written
returns-clause-written g c =
    let there = unwritten-there c.requires.in_range c.requires.can c.in_ok-word.ensures.unchanged c.in_ok-word.ensures.value c.in_ok-settled.ensures.live c.in_ok-settled.ensures.settles in
    fetched-word there.inside there.same c.in_ok-write_changed.ensures.ok

pub returns-clause-registers : goal.returns-clause-registers
returns-clause-registers g c = fetched-others (live-then (live-read c.in_ok-word.ensures.unchanged) c.in_ok-settled.ensures.live) c.in_ok-write_changed.ensures.ok

pub returns-in_err-settled-clause-stays_fresh : goal.returns-in_err-settled-clause-stays_fresh
returns-in_err-settled-clause-stays_fresh g c = λ none all.
    let m = g.M.Memory.seen c.args.ground.now.mem in
    let is = word_at-read m.words m.words c.args.at c.in_ok-word.word refl c.in_ok-word.ensures.value in
    c.in_err-settled.ensures.stays_fresh (subst (λ (w : Parts). RefersToOld c.args.ground.now.table w → ⊥) is none) (read-stays_fresh c.args.ground.now.table c.in_ok-word.ensures.unchanged all)

pub returns-in_err-write_changed-clause-preserves : goal.returns-in_err-write_changed-clause-preserves
returns-in_err-write_changed-clause-preserves g c = preserves-then (read-preserves c.args.ground.now.table c.in_ok-word.ensures.unchanged) (preserves-then c.in_ok-settled.ensures.preserves (read-preserves c.settle.new.ground.table c.in_err-write_changed.ensures.err))

pub returns-in_err-write_changed-clause-stays_fresh : goal.returns-in_err-write_changed-clause-stays_fresh
returns-in_err-write_changed-clause-stays_fresh g c = λ none all.
    let m = g.M.Memory.seen c.args.ground.now.mem in
    let is = word_at-read m.words m.words c.args.at c.in_ok-word.word refl c.in_ok-word.ensures.value in
    read-stays_fresh c.settle.new.ground.table c.in_err-write_changed.ensures.err
    (c.in_ok-settled.ensures.stays_fresh (subst (λ (w : Parts). RefersToOld c.args.ground.now.table w → ⊥) is none) (read-stays_fresh c.args.ground.now.table c.in_ok-word.ensures.unchanged all))

pub returns-clause-preserves : goal.returns-clause-preserves
returns-clause-preserves g c =
    let settled = c.in_ok-settled.ensures in
    let there = unwritten-there c.requires.in_range c.requires.can c.in_ok-word.ensures.unchanged c.in_ok-word.ensures.value c.in_ok-settled.ensures.live c.in_ok-settled.ensures.settles in
    preserves-then (read-preserves c.args.ground.now.table c.in_ok-word.ensures.unchanged)
    (preserves-then settled.preserves (replaced-preserves c.args.ground.now.table c.settle.new.ground.table c.args.at c.in_ok-word.word c.in_ok-settled.settled there.inside settled.word c.in_ok-write_changed.ensures.ok))

pub returns-clause-stays_fresh : goal.returns-clause-stays_fresh
returns-clause-stays_fresh g c = λ none all.
    let m = g.M.Memory.seen c.args.ground.now.mem in
    let settled = c.in_ok-settled.ensures in
    let is = word_at-read m.words m.words c.args.at c.in_ok-word.word refl c.in_ok-word.ensures.value in
    let young = subst (λ (w : Parts). RefersToOld c.args.ground.now.table w → ⊥) is none in
    read-stays_fresh c.settle.new.ground.table (unmoved-reads c.args.ground.now.table c.settle.new.ground.table c.args.at c.in_ok-word.word c.in_ok-settled.settled young settled.word c.in_ok-write_changed.ensures.ok)
    (settled.stays_fresh young (read-stays_fresh c.args.ground.now.table c.in_ok-word.ensures.unchanged all))

pub returns-in_err-word-clause-moves : goal.returns-in_err-word-clause-moves
returns-in_err-word-clause-moves g c = read-once c.args.ground.now.table c.in_err-word.ensures.unchanged

pub returns-in_err-settled-clause-moves : goal.returns-in_err-settled-clause-moves
returns-in_err-settled-clause-moves g c = moves-then (writes-moves (read-writes c.args.ground.now.table c.in_ok-word.ensures.unchanged)) c.in_err-settled.ensures.moves

pub returns-in_err-write_changed-clause-moves : goal.returns-in_err-write_changed-clause-moves
returns-in_err-write_changed-clause-moves g c = unwritten-once c.in_ok-word.ensures.unchanged c.in_ok-settled.ensures.moves c.in_err-write_changed.ensures.err

pub returns-clause-moves : goal.returns-clause-moves
returns-clause-moves g c =
    let settled = c.in_ok-settled.ensures in
    let there = unwritten-there c.requires.in_range c.requires.can c.in_ok-word.ensures.unchanged c.in_ok-word.ensures.value c.in_ok-settled.ensures.live c.in_ok-settled.ensures.settles in
    fetched-once c.in_ok-word.ensures.unchanged settled.moves there.alive there.inside there.same settled.word c.in_ok-write_changed.ensures.ok

pub returns-clause-words : goal.returns-clause-words
returns-clause-words g c =
    let m = g.M.Memory.seen c.args.ground.now.mem in
    let read = c.in_ok-word.ensures in
    let is = word_at-read m.words m.words c.args.at c.in_ok-word.word refl read.value in
    let there = unwritten-there c.requires.in_range c.requires.can c.in_ok-word.ensures.unchanged c.in_ok-word.ensures.value c.in_ok-settled.ensures.live c.in_ok-settled.ensures.settles in
    fetch_moves-of read.unchanged is c.in_ok-settled.ensures.words c.in_ok-write_changed.ensures.ok (fetched-word there.inside there.same c.in_ok-write_changed.ensures.ok)

pub invariant_of-ground-2 : goal.invariant_of-ground-2
invariant_of-ground-2 g c = record { sound = c.write_changed.ensures.accounted.sound c.settle.new.ground.sound }

pub returns-in_err-word-clause-marks : goal.returns-in_err-word-clause-marks
returns-in_err-word-clause-marks g c = marks-read c.args.ground.now.table c.in_err-word.ensures.unchanged

pub returns-in_err-settled-clause-marks : goal.returns-in_err-settled-clause-marks
returns-in_err-settled-clause-marks g c = marks-then (marks-read c.args.ground.now.table c.in_ok-word.ensures.unchanged) c.in_err-settled.ensures.marks

pub returns-in_err-write_changed-clause-marks : goal.returns-in_err-write_changed-clause-marks
returns-in_err-write_changed-clause-marks g c = marks-then (marks-read c.args.ground.now.table c.in_ok-word.ensures.unchanged) (marks-then c.in_ok-settled.ensures.marks (marks-read c.settle.new.ground.table c.in_err-write_changed.ensures.err))

pub returns-clause-marks : goal.returns-clause-marks
returns-clause-marks g c =
    let settled = c.in_ok-settled.ensures in
    let there = unwritten-there c.requires.in_range c.requires.can c.in_ok-word.ensures.unchanged c.in_ok-word.ensures.value c.in_ok-settled.ensures.live c.in_ok-settled.ensures.settles in
    marks-then (marks-read c.args.ground.now.table c.in_ok-word.ensures.unchanged) (marks-then settled.marks (marks-replaced settled.live.table there.inside there.same settled.word c.in_ok-write_changed.ensures.ok))

pub returns-in_err-write_changed-clause-accounted : goal.returns-in_err-write_changed-clause-accounted
returns-in_err-write_changed-clause-accounted g c = record {
  cause = grind (arith, common_steps);
  honest = omega arith;
  room = grind (arith, common_steps);
  sound = λ _. c.write_changed.ensures.accounted.sound c.settle.new.ground.sound;
}
