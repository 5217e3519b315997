use Rattle.std.proofs.Common.{◌≡◌, ◌<◌, ◌≤◌, ◌+◌, ◌/◌, ◌*◌, length, subst, sym, ap, arith}
use Rattle.std.proofs.lemmas.List.{with_items_is}
use Rattle.mem_port.specs.Plain.{Plain, tag_at}
use Rattle.mem_port.proofs.PlainLaws.{plain_memory, tag_at_read}
use Rattle.mem_port.proofs.PlainSpans.{CoversPlain, filled_over, plain_filled, covered_plain, covered_store}
use Rattle.mem_port.proofs.plain.PlainMemoryMemory.fill_on.Given.{Over}
use Rattle.mem_port.proofs.plain.PlainMemoryMemory.fill_on.Goals.{After-fill_range}
use Rattle.mem_port.proofs.plain.PlainMemoryMemory.fill_on.Goals as goal

-- the memory before, the count of its words, and what was written
abbrev before : (g : Over) → After-fill_range g → Plain
before g c = record { words = c.self.inside.words.items; levels = c.self.inside.levels.items; tags = c.self.inside.tags.items; top = c.self.inside.top; taken = c.self.inside.taken.total }

same_count : (g : Over) (c : After-fill_range g) → length c.fill_range.new.xs ≡ c.self.inside.words.len
same_count g c = omega (arith, c.fill_range.ensures.size, c.deref_mut.ensures.len)

filled : (g : Over) (c : After-fill_range g) → CoversPlain (before g c) c.fill_range.new.xs c.args.at c.args.count (λ _. c.args.word) c.tag_after-tag.result
filled g c =
    let p : Plain = before g c in
    let inside : c.args.at + c.args.count ≤ length c.self.inside.words.items = subst (λ (p : Plain). c.args.at + c.args.count ≤ length p.words) (sym c.self.view_is) c.requires.in_range in
    let size : length c.self.inside.words.items ≡ 256 * length c.self.inside.tags.items = c.self.invariant.size in
    let some : 0 < c.args.count = c.requires.at_least in
    let within : c.args.at / 256 < length c.self.inside.tags.items = omega arith in
    let read : tag_at c.self.inside.tags.items (c.args.at / 256) ≡ c.index.result.now = tag_at_read c.self.inside.tags.items (c.args.at / 256) c.index.result.now within c.index.ensures in
    let lent : length c.deref_mut.result.now ≡ length c.self.inside.words.items = ap length c.deref_mut.ensures.value in
    let long : length c.fill_range.new.xs ≡ length c.deref_mut.result.now = c.fill_range.ensures.size in
    let written = filled_over c.deref_mut.result.now c.fill_range.new.xs c.args.at c.args.count c.args.word (omega arith) long c.fill_range.ensures.before c.fill_range.ensures.filled c.fill_range.ensures.unchanged in
    plain_filled p c.deref_mut.result.now c.fill_range.new.xs c.deref.result.now c.index.result.now c.tag_after-tag.result c.args.at c.args.count c.args.word
    c.deref_mut.ensures.value c.deref.ensures.value read some inside c.requires.page written c.tag_after-tag.ensures

pub invariant_of-self : goal.invariant_of-self
invariant_of-self g c =
    let at = (goal.at.invariant_of-self g c).After-fill_range in
    rw (with_items_is c.self.inside.words c.fill_range.new.xs (same_count g at)) (covered_plain (before g at) c.fill_range.new.xs c.args.at c.args.count (λ _. c.args.word) c.tag_after-tag.result c.and-self-inside.result.total c.self.invariant (filled g at))

pub returns-clause-filled : goal.returns-clause-filled
returns-clause-filled g c =
    let at = (goal.at.returns-clause-filled g c).After-fill_range in
    rw (← c.self.view_is, with_items_is c.self.inside.words c.fill_range.new.xs (same_count g at)) (covered_store (before g at) c.fill_range.new.xs c.args.at c.args.count (λ _. c.args.word) c.tag_after-tag.result c.and-self-inside.result.total c.self.invariant (filled g at))

pub returns-clause-sound : goal.returns-clause-sound
returns-clause-sound g c =
    let at = (goal.at.returns-clause-sound g c).After-fill_range in
    rw (with_items_is c.self.inside.words c.fill_range.new.xs (same_count g at)) (plain_memory _ (covered_plain (before g at) c.fill_range.new.xs c.args.at c.args.count (λ _. c.args.word) c.tag_after-tag.result c.and-self-inside.result.total c.self.invariant (filled g at)))
