use Rattle.std.proofs.Common.{ℕ, ◌≡◌, ◌<◌, length, ◌*◌, ◌+◌, ◌∙◌, sym, ap, subst, arith, List}
use Rattle.std.proofs.lemmas.Result.{err_from_is_err_and}
use Rattle.cdr_lists.proofs.CallReports.{placed-then_fault}
use Rattle.mem_port.specs.Store.{Store}
use Rattle.area_space.specs.Table.{Table}
use Rattle.obj_layout.specs.Forwards.{word_at}
use Rattle.transporter.specs.LiveWordsUnchanged.{LiveWordsUnchanged}
use Rattle.transporter.proofs.ScannedWords.{made-stays_fresh, made-preserves, opened-preserves}
use Rattle.transporter.specs.Making.{PlacesNew}
use Rattle.transporter.specs.Preserving.{NoOldAddresses, FreshOn}
use Rattle.cdr_lists.specs.Lists.{ListedOn, cell_word, item_word}
use Rattle.transporter.specs.WrittenMarks.{MarksByWords}
use Rattle.cdr_lists.specs.Opening.{OpensIfNeeded}
use Rattle.transporter.proofs.WrittenMarks.{marks_by_words}
use Rattle.cdr_lists.proofs.NewPlaces.{end_there, opened_stays_fresh, opened_live, opened_marks, opened_or_same, opened_stays, opens_if_needed, needed_then, words_inside, words_low}
use Rattle.cdr_lists.proofs.PartStores.{on_err}
use Rattle.cdr_lists.proofs.NewLists.{cells_fresh, same_items, list_area, list_level, list_room, list_allowed, list_live, list_marks, list_placed, listed_on}
use Rattle.transporter.specs.Marking.{MarksFollow}
use Rattle.transporter.proofs.PageMarks.{marks-read, marks-then}
use Rattle.cdr_lists.proofs.list.make_list.Goals as goal

pub place_for-placed-requires-clause-in_range : goal.place_for-placed-requires-clause-in_range
place_for-placed-requires-clause-in_range g c =
    let can = same_items c.as_slice-numbers.ensures.value c.requires in
    list_room _ _ _ _ _ _ can

pub lay_cells-requires : goal.lay_cells-requires
lay_cells-requires g c =
    let can = same_items c.as_slice-numbers.ensures.value c.requires in
    let p = c.place_for-placed.ensures in
    let inside = words_inside _ _ _ c.requires.kept c.args.area c.args.level (list_area _ _ _ _ _ _ can) (list_level _ _ _ _ _ _ can) _ _ _ p.opened c.place_for-placed.result.at p.end in
    record { few = can.few; inside = inside; small = (let sound = c.place_for-placed.new.ground.sound in omega arith); each = can.inside }

pub commit-requires-clause-allowed : goal.commit-requires-clause-allowed
commit-requires-clause-allowed g c =
    let can = same_items c.as_slice-numbers.ensures.value c.requires in
    let p = c.place_for-placed.ensures in
    list_allowed _ _ _ _ _ _ can _ _ _ p.opened c.place_for-placed.result.at p.end

pub returns-in_err-lay_cells-clause-fault : goal.returns-in_err-lay_cells-clause-fault
returns-in_err-lay_cells-clause-fault g c =
    let can = same_items c.as_slice-numbers.ensures.value c.requires in
    let p = c.place_for-placed.ensures in
    record {
      opened = on_err c.from_residual.result _ (opened_or_same _ _ _ c.requires.kept c.args.area c.args.level (list_area _ _ _ _ _ _ can) (list_level _ _ _ _ _ _ can) _ _ _ p.opened c.place_for-placed.result.at p.end);
      fault = on_err c.from_residual.result _ (opened_stays _ _ _ c.requires.kept c.args.area c.args.level (list_area _ _ _ _ _ _ can) (list_level _ _ _ _ _ _ can) _ _ _ p.opened c.place_for-placed.result.at p.end (g.M.Memory.seen c.lay_cells.new.mem) c.in_err-lay_cells.ensures.err);
      accounted = placed-then_fault p.no_fault p.taken (ap length p.resident) c.place_for-placed.new.ground.sound _ c.from_residual.result (err_from_is_err_and c.from_residual.result c.from_residual.ensures.1).1 c.in_err-lay_cells.ensures.accounted;
    }

pub returns-in_err-lay_cells-clause-stays_ground : goal.returns-in_err-lay_cells-clause-stays_ground
returns-in_err-lay_cells-clause-stays_ground g c =
    let can = same_items c.as_slice-numbers.ensures.value c.requires in
    let p = c.place_for-placed.ensures in
    let live = opened_live _ _ _ c.requires.kept c.args.area c.args.level (list_area _ _ _ _ _ _ can) (list_level _ _ _ _ _ _ can) _ _ _ p.opened c.place_for-placed.result.at p.end (g.M.Memory.seen c.lay_cells.new.mem) c.in_err-lay_cells.ensures.err in
    record {
      live = live;
      preserves = opened-preserves live (opened_or_same _ _ _ c.requires.kept c.args.area c.args.level (list_area _ _ _ _ _ _ can) (list_level _ _ _ _ _ _ can) _ _ _ p.opened c.place_for-placed.result.at p.end);
      stays_fresh = λ fresh. opened_stays_fresh _ _ _ c.requires.kept c.args.area c.args.level (list_area _ _ _ _ _ _ can) (list_level _ _ _ _ _ _ can) _ _ _ p.opened c.place_for-placed.result.at p.end (g.M.Memory.seen c.lay_cells.new.mem) c.in_err-lay_cells.ensures.err;
      marks = marks-then (opened_marks _ _ _ c.requires.kept c.args.area c.args.level (list_area _ _ _ _ _ _ can) (list_level _ _ _ _ _ _ can) _ _ _ p.opened c.place_for-placed.result.at p.end) (marks-read c.place_for-placed.new.ground.table c.in_err-lay_cells.ensures.err);
    }

pub returns-clause-made : goal.returns-clause-made
returns-clause-made g c =
    let can = same_items c.as_slice-numbers.ensures.value c.requires in
    let p = c.place_for-placed.ensures in
    let end = end_there _ _ _ c.requires.kept c.args.area c.args.level (list_area _ _ _ _ _ _ can) (list_level _ _ _ _ _ _ can) _ _ _ p.opened c.place_for-placed.result.at p.end in
    let inside = words_inside _ _ _ c.requires.kept c.args.area c.args.level (list_area _ _ _ _ _ _ can) (list_level _ _ _ _ _ _ can) _ _ _ p.opened c.place_for-placed.result.at p.end in
    let made = listed_on _ _ _ _ _ _ can _ _ _ p.opened c.place_for-placed.result.at p.end (g.M.Memory.seen c.lay_cells.new.mem) c.commit.new.self.table c.in_ok-lay_cells.ensures.cells inside (c.commit.ensures.table _ end) c.commit.ensures.sound in
    let memory = ap g.M.Memory.seen c.commit.ensures.memory in
    subst (λ (xs : List ℕ). ListedOn (g.M.Memory.seen c.args.ground.now.mem) c.args.ground.now.table (g.M.Memory.seen c.commit.new.self.mem) c.commit.new.self.table c.args.area c.args.level c.args.registers.now xs c.place_for-placed.result.at) c.as_slice-numbers.ensures.value
    (subst (λ (m : Store). ListedOn (g.M.Memory.seen c.args.ground.now.mem) c.args.ground.now.table m c.commit.new.self.table c.args.area c.args.level c.args.registers.now c.as_slice-numbers.result.now c.place_for-placed.result.at) (sym memory) made)

pub returns-clause-words : goal.returns-clause-words
returns-clause-words g c =
    subst (λ (xs : List ℕ). (i : ℕ) → i < length xs → word_at (g.M.Memory.seen c.commit.new.self.mem).words (c.place_for-placed.result.at + i) ≡ cell_word c.args.registers.now xs i) c.as_slice-numbers.ensures.value
    (λ i low. ap (λ (m : Store). word_at m.words (c.place_for-placed.result.at + i)) (ap g.M.Memory.seen c.commit.ensures.memory) ∙ c.in_ok-lay_cells.ensures.cells.there i low)

pub returns-clause-placed : goal.returns-clause-placed
returns-clause-placed g c =
    let can = same_items c.as_slice-numbers.ensures.value c.requires in
    let p = c.place_for-placed.ensures in
    let end = end_there _ _ _ c.requires.kept c.args.area c.args.level (list_area _ _ _ _ _ _ can) (list_level _ _ _ _ _ _ can) _ _ _ p.opened c.place_for-placed.result.at p.end in
    let some = can.some in
    let placed = list_placed _ _ _ _ _ _ can _ _ _ p.opened c.place_for-placed.result.at p.end (g.M.Memory.seen c.lay_cells.new.mem) c.commit.new.self.table c.in_ok-lay_cells.ensures.cells (c.commit.ensures.table _ end) c.commit.ensures.pages in
    let marks = marks_by_words c.place_for-placed.result.opened p.opened c.in_ok-lay_cells.ensures.cells in
    record {
      in_range = words_low _ _ _ c.requires.kept c.args.area c.args.level (list_area _ _ _ _ _ _ can) (list_level _ _ _ _ _ _ can) _ _ _ p.opened c.place_for-placed.result.at p.end (omega arith);
      placed = subst (λ (xs : List ℕ). PlacesNew c.args.ground.now.table c.commit.new.self.table c.args.area c.args.level c.place_for-placed.result.at (length xs) (3 * length xs)) c.as_slice-numbers.ensures.value placed;
      unmarked = subst (λ (m : Store). MarksByWords (g.M.Memory.seen c.args.ground.now.mem) m c.place_for-placed.result.at (length c.args.items.now)) (sym (ap g.M.Memory.seen c.commit.ensures.memory))
          (subst (λ (xs : List ℕ). MarksByWords (g.M.Memory.seen c.args.ground.now.mem) (g.M.Memory.seen c.lay_cells.new.mem) c.place_for-placed.result.at (length xs)) c.as_slice-numbers.ensures.value marks);
    }

pub returns-clause-stays_ground : goal.returns-clause-stays_ground
returns-clause-stays_ground g c =
    let can = same_items c.as_slice-numbers.ensures.value c.requires in
    let p = c.place_for-placed.ensures in
    let end = end_there _ _ _ c.requires.kept c.args.area c.args.level (list_area _ _ _ _ _ _ can) (list_level _ _ _ _ _ _ can) _ _ _ p.opened c.place_for-placed.result.at p.end in
    let memory = ap g.M.Memory.seen c.commit.ensures.memory in
    let live = subst (λ (m : Store). LiveWordsUnchanged (g.M.Memory.seen c.args.ground.now.mem) c.args.ground.now.table m c.commit.new.self.table) (sym memory) (list_live _ _ _ _ _ _ can _ _ _ p.opened c.place_for-placed.result.at p.end (g.M.Memory.seen c.lay_cells.new.mem) c.commit.new.self.table c.in_ok-lay_cells.ensures.cells (c.commit.ensures.table _ end) c.commit.ensures.pages) in
    let placed = list_placed _ _ _ _ _ _ can _ _ _ p.opened c.place_for-placed.result.at p.end (g.M.Memory.seen c.lay_cells.new.mem) c.commit.new.self.table c.in_ok-lay_cells.ensures.cells (c.commit.ensures.table _ end) c.commit.ensures.pages in
    let preserves = made-preserves _ _ _ _ c.args.area c.args.level c.place_for-placed.result.at (length c.as_slice-numbers.result.now) (3 * length c.as_slice-numbers.result.now) c.commit.ensures.sound live can.some placed in
    record {
      live = live;
      preserves = preserves;
      stays_fresh = subst (λ (xs : List ℕ). ((i : ℕ) → i < length xs → FreshOn c.args.ground.now.table (item_word c.args.registers.now xs i).content) → NoOldAddresses (g.M.Memory.seen c.args.ground.now.mem) c.args.ground.now.table → NoOldAddresses (g.M.Memory.seen c.commit.new.self.mem) c.commit.new.self.table) c.as_slice-numbers.ensures.value
          (λ fresh. made-stays_fresh _ _ _ _ c.args.area c.args.level c.place_for-placed.result.at (length c.as_slice-numbers.result.now) (3 * length c.as_slice-numbers.result.now) c.requires.kept.table c.commit.ensures.sound placed preserves
          (cells_fresh _ _ (g.M.Memory.seen c.commit.new.self.mem).words c.place_for-placed.result.at c.args.registers.now c.as_slice-numbers.result.now preserves.grows (λ i low. ap (λ (m : Store). word_at m.words (c.place_for-placed.result.at + i)) memory ∙ c.in_ok-lay_cells.ensures.cells.there i low) fresh));
      marks = subst (λ (m : Store). MarksFollow (g.M.Memory.seen c.args.ground.now.mem) c.args.ground.now.table m c.commit.new.self.table) (sym memory) (list_marks _ _ _ _ _ _ can _ _ _ p.opened c.place_for-placed.result.at p.end (g.M.Memory.seen c.lay_cells.new.mem) c.commit.new.self.table c.in_ok-lay_cells.ensures.cells (c.commit.ensures.table _ end) c.commit.ensures.pages c.commit.ensures.sound);
    }

pub returns-in_err-lay_cells-clause-needed : goal.returns-in_err-lay_cells-clause-needed
returns-in_err-lay_cells-clause-needed g c =
    let p = c.place_for-placed.ensures in
    subst (λ (xs : List ℕ). OpensIfNeeded c.args.ground.now.table c.place_for-placed.new.ground.table c.args.area c.args.level (length xs)) c.as_slice-numbers.ensures.value
    (opens_if_needed c.place_for-placed.result.opened p.opened p.needed)

pub returns-clause-needed : goal.returns-clause-needed
returns-clause-needed g c =
    let can = same_items c.as_slice-numbers.ensures.value c.requires in
    let p = c.place_for-placed.ensures in
    let end = end_there _ _ _ c.requires.kept c.args.area c.args.level (list_area _ _ _ _ _ _ can) (list_level _ _ _ _ _ _ can) _ _ _ p.opened c.place_for-placed.result.at p.end in
    subst (λ (xs : List ℕ). OpensIfNeeded c.args.ground.now.table c.commit.new.self.table c.args.area c.args.level (length xs)) c.as_slice-numbers.ensures.value
    (needed_then (opens_if_needed c.place_for-placed.result.opened p.opened p.needed) (ap (λ (x : Table). x.chains) (c.commit.ensures.table _ end)))
