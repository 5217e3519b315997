use Rattle.std.proofs.Common.{◌≡◌, ◌<◌, ◌≤◌, ◌+◌, ◌/◌, ◌*◌, length, subst, sym, ◌∙◌, arith, get_or}
use Rattle.std.proofs.lemmas.List.{with_items_is}
use Rattle.store_word.specs.Words.{null_word}
use Rattle.mem_port.specs.Plain.{Plain, tag_at}
use Rattle.mem_port.proofs.PlainLaws.{plain_memory, tag_at_read}
use Rattle.mem_port.proofs.PlainSpans.{CoversPlain, plain_copied, covered_plain, covered_store}
use Rattle.mem_port.proofs.plain.PlainMemoryMemory.copy_on.Given.{Over}
use Rattle.mem_port.proofs.plain.PlainMemoryMemory.copy_on.Goals.{After-tag_with-tag}
use Rattle.mem_port.proofs.plain.PlainMemoryMemory.copy_on.Goals as goal

-- the memory before, the count of its words, and what was written
abbrev before : (g : Over) → After-tag_with-tag g → Plain
before g c = record { words = c.self.inside.words.items; levels = c.self.inside.levels.items; tags = c.self.inside.tags.items; top = c.self.inside.top; taken = c.self.inside.taken.total }

same_count : (g : Over) (c : After-tag_with-tag g) → length c.copy_range.new.words ≡ c.self.inside.words.len
same_count g c = omega (arith, c.copy_range.ensures.size, c.deref_mut.ensures.len)

copied : (g : Over) (c : After-tag_with-tag g) → CoversPlain (before g c) c.copy_range.new.words c.args.to c.args.count (λ i. get_or c.self.inside.words.items (c.args.from + i) null_word) c.tag_with-tag.result
copied g c =
    let p : Plain = before g c in
    let inside : c.args.to + c.args.count ≤ length c.self.inside.words.items = subst (λ (p : Plain). c.args.to + c.args.count ≤ length p.words) (sym c.self.view_is) c.requires.to in
    let size : length c.self.inside.words.items ≡ 256 * length c.self.inside.tags.items = c.self.invariant.size in
    let some : 0 < c.args.count = c.requires.at_least in
    let within : c.args.to / 256 < length c.self.inside.tags.items = omega arith in
    let read : tag_at c.self.inside.tags.items (c.args.to / 256) ≡ c.index.result.now = tag_at_read c.self.inside.tags.items (c.args.to / 256) c.index.result.now within c.index.ensures in
    plain_copied p c.deref_mut.result.now c.copy_range.new.words c.deref.result.now c.deref-2.result.now c.index.result.now c.tag_with-tag.result c.args.from c.args.to c.args.count
    c.deref_mut.ensures.value (c.deref.ensures.value ∙ with_items_is c.self.inside.words c.copy_range.new.words (same_count g c)) c.deref-2.ensures.value read some inside c.requires.to_page c.copy_range.ensures c.tag_with-tag.ensures

pub invariant_of-self : goal.invariant_of-self
invariant_of-self g c =
    let at = (goal.at.invariant_of-self g c).After-tag_with-tag in
    rw (with_items_is c.self.inside.words c.copy_range.new.words (same_count g at)) (covered_plain (before g at) c.copy_range.new.words c.args.to c.args.count (λ i. get_or c.self.inside.words.items (c.args.from + i) null_word) c.tag_with-tag.result c.and-self-inside.result.total c.self.invariant (copied g at))

pub returns-clause-written : goal.returns-clause-written
returns-clause-written g c =
    let at = (goal.at.returns-clause-written g c).After-tag_with-tag in
    rw (← c.self.view_is, with_items_is c.self.inside.words c.copy_range.new.words (same_count g at)) (covered_store (before g at) c.copy_range.new.words c.args.to c.args.count (λ i. get_or c.self.inside.words.items (c.args.from + i) null_word) c.tag_with-tag.result c.and-self-inside.result.total c.self.invariant (copied g at))

pub returns-clause-sound : goal.returns-clause-sound
returns-clause-sound g c =
    let at = (goal.at.returns-clause-sound g c).After-tag_with-tag in
    rw (with_items_is c.self.inside.words c.copy_range.new.words (same_count g at)) (plain_memory _ (covered_plain (before g at) c.copy_range.new.words c.args.to c.args.count (λ i. get_or c.self.inside.words.items (c.args.from + i) null_word) c.tag_with-tag.result c.and-self-inside.result.total c.self.invariant (copied g at)))
