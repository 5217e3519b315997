use Rattle.std.proofs.Common.{true, false, ◌≡◌, sym, subst, ◌∙◌}
use Rattle.store_word.specs.Sets.{Meets}
use Rattle.mem_port.specs.Tags.{marks_of_tag}
use Rattle.ref_table.specs.Sets.{set_at}
use Rattle.frame_pool.specs.Pool.{frames_of}
use Rattle.paged_memory.specs.Marking.{HasTag, IsFirst}
use Rattle.paged_memory.specs.Moves.{paging_of}
use Rattle.paged_memory.proofs.LowestPages.{first_row, first_lower, first_marked, first_marked_row, first_found, first_lowest, first_none}
use Rattle.paged_memory.proofs.memory.PagedMemoryMemory.next_marked.Goals as goal

pub returns-then-not-tag_meets-clause-found : goal.returns-then-not-tag_meets-clause-found
returns-then-not-tag_meets-clause-found g c =
    let off = λ (m : Meets (marks_of_tag c.self.inside.pager.top true) c.args.levels.0). (let bad : false ≡ true = sym c.if-not-tag_meets.true ∙ c.tag_meets.ensures.1 m in absurd (cc)) in
    let row = first_row c.self.inside.pager.rows.sets c.args.from c.args.levels.0 _ c.next_from-swapped.ensures.found c.next_from-swapped.ensures.lowest c.next_from-swapped.ensures.none in
    rw (← c.self.view_is) (first_found (paging_of c.self.inside.pager) (g.D.Swap.stored c.self.inside.swap) c.args.from c.args.levels.0 _
    (first_marked_row (paging_of c.self.inside.pager) (g.D.Swap.stored c.self.inside.swap) c.args.from c.args.levels.0 _ c.self.invariant.0 off row))

pub returns-clause-found : goal.returns-clause-found
returns-clause-found g c =
    let on = c.tag_meets.ensures.0 c.if-not-tag_meets.false in
    let row = first_row c.self.inside.pager.rows.sets c.args.from c.args.levels.0 _ c.next_from-swapped.ensures.found c.next_from-swapped.ensures.lowest c.next_from-swapped.ensures.none in
    let tag = subst (λ n. IsFirst (HasTag c.self.inside.pager.pool n) c.args.from c.lowest_tagged.result) c.self.invariant.1 c.lowest_tagged.ensures in
    let both = rw (← c.lower.ensures) at (first_lower (HasTag c.self.inside.pager.pool (frames_of c.self.inside.pager.pool)) (λ page. Meets (set_at c.self.inside.pager.rows.sets page) c.args.levels.0) c.args.from c.lowest_tagged.result c.next_from-swapped.result tag row) in
    rw (← c.self.view_is) (first_found (paging_of c.self.inside.pager) (g.D.Swap.stored c.self.inside.swap) c.args.from c.args.levels.0 _
    (first_marked (paging_of c.self.inside.pager) (g.D.Swap.stored c.self.inside.swap) c.args.from c.args.levels.0 _ c.self.invariant.0 on both))

pub returns-clause-lowest : goal.returns-clause-lowest
returns-clause-lowest g c =
    let on = c.tag_meets.ensures.0 c.if-not-tag_meets.false in
    let row = first_row c.self.inside.pager.rows.sets c.args.from c.args.levels.0 _ c.next_from-swapped.ensures.found c.next_from-swapped.ensures.lowest c.next_from-swapped.ensures.none in
    let tag = subst (λ n. IsFirst (HasTag c.self.inside.pager.pool n) c.args.from c.lowest_tagged.result) c.self.invariant.1 c.lowest_tagged.ensures in
    let both = rw (← c.lower.ensures) at (first_lower (HasTag c.self.inside.pager.pool (frames_of c.self.inside.pager.pool)) (λ page. Meets (set_at c.self.inside.pager.rows.sets page) c.args.levels.0) c.args.from c.lowest_tagged.result c.next_from-swapped.result tag row) in
    rw (← c.self.view_is) (first_lowest (paging_of c.self.inside.pager) c.args.from c.args.levels.0 _
    (first_marked (paging_of c.self.inside.pager) (g.D.Swap.stored c.self.inside.swap) c.args.from c.args.levels.0 _ c.self.invariant.0 on both))

pub returns-clause-none : goal.returns-clause-none
returns-clause-none g c =
    let on = c.tag_meets.ensures.0 c.if-not-tag_meets.false in
    let row = first_row c.self.inside.pager.rows.sets c.args.from c.args.levels.0 _ c.next_from-swapped.ensures.found c.next_from-swapped.ensures.lowest c.next_from-swapped.ensures.none in
    let tag = subst (λ n. IsFirst (HasTag c.self.inside.pager.pool n) c.args.from c.lowest_tagged.result) c.self.invariant.1 c.lowest_tagged.ensures in
    let both = rw (← c.lower.ensures) at (first_lower (HasTag c.self.inside.pager.pool (frames_of c.self.inside.pager.pool)) (λ page. Meets (set_at c.self.inside.pager.rows.sets page) c.args.levels.0) c.args.from c.lowest_tagged.result c.next_from-swapped.result tag row) in
    rw (← c.self.view_is) (first_none (paging_of c.self.inside.pager) (g.D.Swap.stored c.self.inside.swap) c.args.from c.args.levels.0 _
    (first_marked (paging_of c.self.inside.pager) (g.D.Swap.stored c.self.inside.swap) c.args.from c.args.levels.0 _ c.self.invariant.0 on both))
