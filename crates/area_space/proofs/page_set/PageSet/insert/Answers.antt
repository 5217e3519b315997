use Rattle.std.proofs.Common.{◌≡◌, ◌<◌, ◌/◌, List, ℕ, length, subst, sym, arith}
use Rattle.std.proofs.lemmas.List.{with_items_is}
use Rattle.area_space.proofs.PageSets.{pages_added, added_pages, added_again, bit_listed}
use Rattle.area_space.proofs.page_set.PageSet.insert.Goals as goal
use Rattle.area_space.specs.Bits.{SetsBit}
use Rattle.area_space.specs.PageList.{PageList}

pub invariant_of-self : goal.invariant_of-self
invariant_of-self c =
    let b = subst (λ (xs : List ℕ). SetsBit xs c.set_bit.new.bits c.args.page) c.deref_mut.ensures.value c.set_bit.ensures in
    let w = subst (λ (xs : List ℕ). SetsBit xs c.set_bit-2.new.bits (c.args.page / 64)) c.deref_mut-2.ensures.value c.set_bit-2.ensures in
    let sb : length c.set_bit.new.bits ≡ c.self.inside.lower.len = (let s = c.set_bit.ensures.size in let l = c.deref_mut.ensures.len in omega arith) in
    let sw : length c.set_bit-2.new.bits ≡ c.self.inside.upper.len = (let s = c.set_bit-2.ensures.size in let l = c.deref_mut-2.ensures.len in omega arith) in
    let low = subst (λ (v : PageList). c.args.page < v.count) (sym c.self.view_is) c.requires in
    rw (with_items_is c.self.inside.lower c.set_bit.new.bits sb, with_items_is c.self.inside.upper c.set_bit-2.new.bits sw)
    (pages_added c.self.inside.lower.items c.self.inside.upper.items c.set_bit.new.bits c.set_bit-2.new.bits c.self.inside.count c.args.page c.self.invariant low b w)

pub returns : goal.returns
returns c =
    let b = subst (λ (xs : List ℕ). SetsBit xs c.set_bit.new.bits c.args.page) c.deref_mut.ensures.value c.set_bit.ensures in
    let w = subst (λ (xs : List ℕ). SetsBit xs c.set_bit-2.new.bits (c.args.page / 64)) c.deref_mut-2.ensures.value c.set_bit-2.ensures in
    let sb : length c.set_bit.new.bits ≡ c.self.inside.lower.len = (let s = c.set_bit.ensures.size in let l = c.deref_mut.ensures.len in omega arith) in
    let sw : length c.set_bit-2.new.bits ≡ c.self.inside.upper.len = (let s = c.set_bit-2.ensures.size in let l = c.deref_mut-2.ensures.len in omega arith) in
    let low = subst (λ (v : PageList). c.args.page < v.count) (sym c.self.view_is) c.requires in
    rw (← c.self.view_is, with_items_is c.self.inside.lower c.set_bit.new.bits sb)
    (added_pages c.self.inside.lower.items c.self.inside.upper.items c.set_bit.new.bits c.self.inside.count c.args.page c.self.invariant low b)

pub returns-then-has_bit : goal.returns-then-has_bit
returns-then-has_bit c =
    let h = rw c.deref.ensures.value at c.has_bit.ensures in
    let low = subst (λ (v : PageList). c.args.page < v.count) (sym c.self.view_is) c.requires in
    rw (← c.self.view_is) (added_again c.self.inside.lower.items c.self.inside.count c.args.page (bit_listed c.self.inside.lower.items c.self.inside.count c.args.page low (h.0 c.if-has_bit.true)))
