use Rattle.std.proofs.Common.{◌≡◌, ◌∙◌, ap}
use Rattle.std.specs.Option.{is_some}
use Rattle.frame_pool.specs.Pool.{page_at}
use Rattle.frame_pool.proofs.index_lists.ListUpdates.{Contains-first}
use Rattle.paged_memory.specs.Moves.{paging_of}
use Rattle.paged_memory.proofs.Evictions.{puts_out, out_keeps, out_goes, tagged_on}
use Rattle.paged_memory.proofs.pager.Pager.evict.Goals as goal

pub page_of-requires : goal.page_of-requires
page_of-requires g c = c.requires.paged.pool.used_in c.args.frame (Contains-first _ _ c.requires.agrees)

pub unwrap-page-requires : goal.unwrap-page-requires
unwrap-page-requires g c = ap is_some (c.page_of.ensures.taken (Contains-first _ _ c.requires.agrees))

pub words-words-requires : goal.words-words-requires
words-words-requires g c = c.requires.paged.pool.used_in c.args.frame (Contains-first _ _ c.requires.agrees)

pub returns-clause-preserves : goal.returns-clause-preserves
returns-clause-preserves g c =
    let used = Contains-first _ _ c.requires.agrees in
    let taken = c.page_of.ensures.taken used in
    let page : c.unwrap-page.result ≡ page_at c.args.self.now.pool c.args.frame = cc in
    let levels = rw c.all.ensures at c.levels_of-set.ensures in
    out_keeps _ _ _ _ c.args.frame c.unwrap-page.result c.requires.paged
    (puts_out (paging_of c.args.self.now) _ _ c.words-words.result.now c.give_back.new.self c.set.new.self c.note.new.self c.args.frame c.unwrap-page.result c.levels_of-set.result c.requires.paged used page
    c.words-words.ensures.size c.words-words.ensures.words c.in_ok-write_page.ensures.ok levels c.note.ensures.sets c.give_back.ensures.given c.give_back.ensures.sound c.set.ensures.placed)

pub returns-clause-resident : goal.returns-clause-resident
returns-clause-resident g c =
    let used = Contains-first _ _ c.requires.agrees in
    let taken = c.page_of.ensures.taken used in
    let page : c.unwrap-page.result ≡ page_at c.args.self.now.pool c.args.frame = cc in
    let levels = rw c.all.ensures at c.levels_of-set.ensures in
    rw (← page) (out_goes _ _ _ _ c.args.frame c.unwrap-page.result c.requires.paged
    (puts_out (paging_of c.args.self.now) _ _ c.words-words.result.now c.give_back.new.self c.set.new.self c.note.new.self c.args.frame c.unwrap-page.result c.levels_of-set.result c.requires.paged used page
    c.words-words.ensures.size c.words-words.ensures.words c.in_ok-write_page.ensures.ok levels c.note.ensures.sets c.give_back.ensures.given c.give_back.ensures.sound c.set.ensures.placed) c.requires.agrees)

pub tagged-requires : goal.tagged-requires
tagged-requires g c = c.requires.paged.pool.used_in c.args.frame (Contains-first _ _ c.requires.agrees)

pub levels_of-set-requires-clause-marks : goal.levels_of-set-requires-clause-marks
levels_of-set-requires-clause-marks g c = λ l pos has.
    let there = (c.requires.paged.taken c.args.frame (Contains-first _ _ c.requires.agrees)).1 in
    c.tagged.ensures.value ∙ tagged_on (paging_of c.args.self.now) _ c.words-words.result.now c.args.frame _ l c.requires.paged there c.words-words.ensures.size c.words-words.ensures.words pos (rw c.all.ensures at has)
