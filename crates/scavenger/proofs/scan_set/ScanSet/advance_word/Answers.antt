use Rattle.std.proofs.Common.{ℕ, ◌≡◌, ◌/◌, ◌%◌, ◌+◌, ◌<◌, ◌∙◌, length, length-set, sym, ap, subst, arith, false, Some}
use Rattle.scavenger.specs.declared.scan_set.Unit.TheVariants.{Word}
use Rattle.scavenger.specs.Scan.{Scan}
use Rattle.scavenger.specs.Left.{IsPaged, next_of}
use Rattle.scavenger.specs.Scanning.{EndsPage, page_done}
use Rattle.scavenger.proofs.PageEnds.{ended-paged}
use Rattle.scavenger.proofs.UnfinishedPages.{left-closed, left-next}
use Rattle.scavenger.proofs.scan_set.ScanSet.advance_word.Goals as goal

pub end_page-requires-clause-pages : goal.end_page-requires-clause-pages
end_page-requires-clause-pages g c =
    ap (λ (s : Scan). length s.pages) c.mark_word.ensures
    ∙ length-set c.args.self.now.pages (c.args.at / 256) (c.args.at % 256 + 1)
    ∙ c.requires.pages

pub close-requires : goal.close-requires
close-requires g c =
    let pages = c.requires.pages in
    let low = c.requires.in_range in
    let inside : c.args.at / 256 < length c.args.self.now.pages = omega arith in
    let ending = subst (λ (s : Scan). EndsPage (g.M.Memory.seen c.args.ground.now.mem) c.args.ground.now.table s (g.M.Memory.seen c.end_page.new.ground.mem) c.end_page.new.ground.table (c.args.at / 256)) c.mark_word.ensures c.end_page.ensures.end in
    let paged = ended-paged (g.M.Memory.seen c.args.ground.now.mem) (g.M.Memory.seen c.end_page.new.ground.mem) c.args.ground.now.table c.end_page.new.ground.table c.args.self.now c.args.at c.requires.first inside c.requires.paged ending in
    subst (λ (s : Scan). IsPaged s c.end_page.new.ground.table) (sym c.mark_word.ensures) paged

pub returns-in-Some-clause-after : goal.returns-in-Some-clause-after
returns-in-Some-clause-after g c =
    let pages = c.requires.pages in
    let low = c.requires.in_range in
    let inside : c.args.at / 256 < length c.args.self.now.pages = omega arith in
    let ending = subst (λ (s : Scan). EndsPage (g.M.Memory.seen c.args.ground.now.mem) c.args.ground.now.table s (g.M.Memory.seen c.end_page.new.ground.mem) c.end_page.new.ground.table (c.args.at / 256)) c.mark_word.ensures c.end_page.ensures.end in
    let paged = ended-paged (g.M.Memory.seen c.args.ground.now.mem) (g.M.Memory.seen c.end_page.new.ground.mem) c.args.ground.now.table c.end_page.new.ground.table c.args.self.now c.args.at c.requires.first inside c.requires.paged ending in
    let left = subst (λ (s : Scan). page_done s c.args.ground.now.table (c.args.at / 256) ≡ false) c.mark_word.ensures (sym c.end_page.ensures.done ∙ c.if-end_page.false) in
    c.mark_word.ensures ∙ sym (left-closed (g.M.Memory.seen c.args.ground.now.mem) (g.M.Memory.seen c.end_page.new.ground.mem) c.args.ground.now.table c.end_page.new.ground.table c.args.self.now c.args.at ending c.requires.sound.used_size paged c.requires.going left)

pub returns-in_default-clause-after : goal.returns-in_default-clause-after
returns-in_default-clause-after g c =
    let pages = c.requires.pages in
    let low = c.requires.in_range in
    let inside : c.args.at / 256 < length c.args.self.now.pages = omega arith in
    let ending = subst (λ (s : Scan). EndsPage (g.M.Memory.seen c.args.ground.now.mem) c.args.ground.now.table s (g.M.Memory.seen c.end_page.new.ground.mem) c.end_page.new.ground.table (c.args.at / 256)) c.mark_word.ensures c.end_page.ensures.end in
    let paged = ended-paged (g.M.Memory.seen c.args.ground.now.mem) (g.M.Memory.seen c.end_page.new.ground.mem) c.args.ground.now.table c.end_page.new.ground.table c.args.self.now c.args.at c.requires.first inside c.requires.paged ending in
    let left = subst (λ (s : Scan). page_done s c.args.ground.now.table (c.args.at / 256) ≡ false) c.mark_word.ensures (sym c.end_page.ensures.done ∙ c.if-end_page.false) in
    c.mark_word.ensures ∙ sym (left-closed (g.M.Memory.seen c.args.ground.now.mem) (g.M.Memory.seen c.end_page.new.ground.mem) c.args.ground.now.table c.end_page.new.ground.table c.args.self.now c.args.at ending c.requires.sound.used_size paged c.requires.going left)

pub returns-in_default-2-clause-after : goal.returns-in_default-2-clause-after
returns-in_default-2-clause-after g c =
    let pages = c.requires.pages in
    let low = c.requires.in_range in
    let inside : c.args.at / 256 < length c.args.self.now.pages = omega arith in
    let ending = subst (λ (s : Scan). EndsPage (g.M.Memory.seen c.args.ground.now.mem) c.args.ground.now.table s (g.M.Memory.seen c.end_page.new.ground.mem) c.end_page.new.ground.table (c.args.at / 256)) c.mark_word.ensures c.end_page.ensures.end in
    let paged = ended-paged (g.M.Memory.seen c.args.ground.now.mem) (g.M.Memory.seen c.end_page.new.ground.mem) c.args.ground.now.table c.end_page.new.ground.table c.args.self.now c.args.at c.requires.first inside c.requires.paged ending in
    let left = subst (λ (s : Scan). page_done s c.args.ground.now.table (c.args.at / 256) ≡ false) c.mark_word.ensures (sym c.end_page.ensures.done ∙ c.if-end_page.false) in
    c.mark_word.ensures ∙ sym (left-closed (g.M.Memory.seen c.args.ground.now.mem) (g.M.Memory.seen c.end_page.new.ground.mem) c.args.ground.now.table c.end_page.new.ground.table c.args.self.now c.args.at ending c.requires.sound.used_size paged c.requires.going left)

pub returns-in-Some-clause-near : goal.returns-in-Some-clause-near
returns-in-Some-clause-near g c =
    let pages = c.requires.pages in
    let low = c.requires.in_range in
    let inside : c.args.at / 256 < length c.args.self.now.pages = omega arith in
    let ending = subst (λ (s : Scan). EndsPage (g.M.Memory.seen c.args.ground.now.mem) c.args.ground.now.table s (g.M.Memory.seen c.end_page.new.ground.mem) c.end_page.new.ground.table (c.args.at / 256)) c.mark_word.ensures c.end_page.ensures.end in
    let paged = ended-paged (g.M.Memory.seen c.args.ground.now.mem) (g.M.Memory.seen c.end_page.new.ground.mem) c.args.ground.now.table c.end_page.new.ground.table c.args.self.now c.args.at c.requires.first inside c.requires.paged ending in
    let left = subst (λ (s : Scan). page_done s c.args.ground.now.table (c.args.at / 256) ≡ false) c.mark_word.ensures (sym c.end_page.ensures.done ∙ c.if-end_page.false) in
    let last = sym c.last_moved.ensures ∙ c.in-Some.is ∙ ap (λ (p : ℕ). Some p) c.if-last-page.true in
    subst (λ (s : Scan). next_of s c.end_page.new.ground.table ≡ Some (Word (c.args.at + 1))) (sym c.mark_word.ensures)
    (left-next (g.M.Memory.seen c.args.ground.now.mem) (g.M.Memory.seen c.end_page.new.ground.mem) c.args.ground.now.table c.end_page.new.ground.table c.args.self.now c.args.at ending c.requires.sound.used_size paged c.requires.going left inside last)
