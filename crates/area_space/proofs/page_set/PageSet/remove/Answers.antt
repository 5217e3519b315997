use Rattle.std.proofs.Common.{◌≡◌, ◌≢◌, ◌<◌, ◌/◌, ◌∙◌, List, ℕ, length, slice_index, subst, sym, arith}
use Rattle.std.proofs.lemmas.List.{with_items_is, get_or_default}
use Rattle.area_space.proofs.PageSets.{pages_dropped, pages_dropped_word, dropped_pages}
use Rattle.area_space.proofs.page_set.PageSet.remove.Goals as goal
use Rattle.area_space.specs.Bits.{ClearsBit}
use Rattle.area_space.specs.PageList.{PageList}

pub invariant_of-self : goal.invariant_of-self
invariant_of-self c =
    let b = subst (λ (xs : List ℕ). ClearsBit xs c.clear_bit.new.bits c.args.page) c.deref_mut.ensures.value c.clear_bit.ensures in
    let sb : length c.clear_bit.new.bits ≡ c.self.inside.lower.len = (let s = c.clear_bit.ensures.size in let l = c.deref_mut.ensures.len in omega arith) in
    let low = subst (λ (v : PageList). c.args.page < v.count) (sym c.self.view_is) c.requires in
    let i = rw (with_items_is c.self.inside.lower c.clear_bit.new.bits sb) at c.index.ensures in
    let size = b.size in
    let few = c.self.invariant.lower_size in
    let e : c.index.result.now ≡ slice_index c.clear_bit.new.bits (c.args.page / 64) = i ∙ get_or_default c.clear_bit.new.bits (c.args.page / 64) c.index.result.now 0 (omega arith) in
    let w = subst (λ (xs : List ℕ). ClearsBit xs c.clear_bit-then-index-eq0.new.bits (c.args.page / 64)) c.deref_mut-then-index-eq0.ensures.value c.clear_bit-then-index-eq0.ensures in
    let sw : length c.clear_bit-then-index-eq0.new.bits ≡ c.self.inside.upper.len = (let s = c.clear_bit-then-index-eq0.ensures.size in let l = c.deref_mut-then-index-eq0.ensures.len in omega arith) in
    let none : slice_index c.clear_bit.new.bits (c.args.page / 64) ≡ 0 = (let t = c.if-index-eq0.true in omega arith) in
    rw (with_items_is c.self.inside.lower c.clear_bit.new.bits sb, with_items_is c.self.inside.upper c.clear_bit-then-index-eq0.new.bits sw)
    (pages_dropped_word c.self.inside.lower.items c.self.inside.upper.items c.clear_bit.new.bits c.clear_bit-then-index-eq0.new.bits c.self.inside.count c.args.page c.self.invariant b w none)

pub invariant_of-self-else-index-eq0 : goal.invariant_of-self-else-index-eq0
invariant_of-self-else-index-eq0 c =
    let b = subst (λ (xs : List ℕ). ClearsBit xs c.clear_bit.new.bits c.args.page) c.deref_mut.ensures.value c.clear_bit.ensures in
    let sb : length c.clear_bit.new.bits ≡ c.self.inside.lower.len = (let s = c.clear_bit.ensures.size in let l = c.deref_mut.ensures.len in omega arith) in
    let low = subst (λ (v : PageList). c.args.page < v.count) (sym c.self.view_is) c.requires in
    let i = rw (with_items_is c.self.inside.lower c.clear_bit.new.bits sb) at c.index.ensures in
    let size = b.size in
    let few = c.self.invariant.lower_size in
    let e : c.index.result.now ≡ slice_index c.clear_bit.new.bits (c.args.page / 64) = i ∙ get_or_default c.clear_bit.new.bits (c.args.page / 64) c.index.result.now 0 (omega arith) in
    let some : slice_index c.clear_bit.new.bits (c.args.page / 64) ≢ 0 = λ z. (let f = c.if-index-eq0.false in f (e ∙ z)) in
    rw (with_items_is c.self.inside.lower c.clear_bit.new.bits sb)
    (pages_dropped c.self.inside.lower.items c.self.inside.upper.items c.clear_bit.new.bits c.self.inside.count c.args.page c.self.invariant b some)

pub returns-then-index-eq0 : goal.returns-then-index-eq0
returns-then-index-eq0 c =
    let b = subst (λ (xs : List ℕ). ClearsBit xs c.clear_bit.new.bits c.args.page) c.deref_mut.ensures.value c.clear_bit.ensures in
    let sb : length c.clear_bit.new.bits ≡ c.self.inside.lower.len = (let s = c.clear_bit.ensures.size in let l = c.deref_mut.ensures.len in omega arith) in
    rw (← c.self.view_is, with_items_is c.self.inside.lower c.clear_bit.new.bits sb)
    (dropped_pages c.self.inside.lower.items c.self.inside.upper.items c.clear_bit.new.bits c.self.inside.count c.args.page c.self.invariant b)

pub returns-else-index-eq0 : goal.returns-else-index-eq0
returns-else-index-eq0 c =
    let b = subst (λ (xs : List ℕ). ClearsBit xs c.clear_bit.new.bits c.args.page) c.deref_mut.ensures.value c.clear_bit.ensures in
    let sb : length c.clear_bit.new.bits ≡ c.self.inside.lower.len = (let s = c.clear_bit.ensures.size in let l = c.deref_mut.ensures.len in omega arith) in
    rw (← c.self.view_is, with_items_is c.self.inside.lower c.clear_bit.new.bits sb)
    (dropped_pages c.self.inside.lower.items c.self.inside.upper.items c.clear_bit.new.bits c.self.inside.count c.args.page c.self.invariant b)
