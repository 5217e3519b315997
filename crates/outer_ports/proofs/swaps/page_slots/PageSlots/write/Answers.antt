use Rattle.std.proofs.Common.{◌≡◌, ◌*◌, ◌/◌, ◌++◌, Some, List, length, set, sym, subst, arith, length-set}
use Rattle.std.proofs.lemmas.List.{with_items_is}
use Rattle.store_word.specs.Words.{Parts}
use Rattle.outer_ports.specs.Pages.{Fills}
use Rattle.outer_ports.specs.Slots.{IsSlotted, words_of}
use Rattle.outer_ports.proofs.Slots.{page_inside, slot_inside, has_slot, has_room, fills_again, fills_first, slotted_first}
use Rattle.outer_ports.proofs.swaps.page_slots.PageSlots.write.Goals as goal

pub index-requires : goal.index-requires
index-requires c = omega (arith, page_inside c.self.inside.slots.items c.self.inside.words.items c.args.page (rw (← c.self.view_is) at c.requires.in_range), c.self.inside.slots.ok.0)

pub write_words-requires-clause-in_range : goal.write_words-requires-clause-in_range
write_words-requires-clause-in_range c =
    let page = page_inside c.self.inside.slots.items c.self.inside.words.items c.args.page (rw (← c.self.view_is) at c.requires.in_range) in
    let slot = has_slot c.self.inside.slots.items c.args.page _ _ page c.index.ensures c.in-Some.is in
    omega (arith, slot_inside c.args.page c.in-Some.slot c.self.invariant.0 slot, c.deref_mut.ensures.len, c.self.inside.words.ok.0)

pub unwrap-requires : goal.unwrap-requires
unwrap-requires c =
    let page = page_inside c.self.inside.slots.items c.self.inside.words.items c.args.page (rw (← c.self.view_is) at c.requires.in_range) in
    let none = has_slot c.self.inside.slots.items c.args.page _ _ page c.index.ensures c.in-None.is in
    c.extend_from_slice.ensures.succeeds (omega (arith, has_room _ _ c.args.page c.self.invariant.0 page none, c.self.invariant.1, c.requires.size, c.self.inside.words.ok.0))

pub index_mut-requires : goal.index_mut-requires
index_mut-requires c = omega (arith, page_inside c.self.inside.slots.items c.self.inside.words.items c.args.page (rw (← c.self.view_is) at c.requires.in_range), c.self.inside.slots.ok.0)

pub invariant_of-self-in-None : goal.invariant_of-self-in-None
invariant_of-self-in-None c =
    let page = page_inside c.self.inside.slots.items c.self.inside.words.items c.args.page (rw (← c.self.view_is) at c.requires.in_range) in
    let none = has_slot c.self.inside.slots.items c.args.page _ _ page c.index.ensures c.in-None.is in
    let items : c.extend_from_slice.new.self.items ≡ c.self.inside.words.items ++ c.args.from.now = rw c.unwrap.ensures at c.extend_from_slice.ensures.items in
    let next : 256 * (c.len.result / 256) ≡ length c.self.inside.words.items = omega (arith, c.len.ensures, c.self.inside.words.ok.0, c.self.invariant.0.size) in (
      subst (λ (ws : List Parts). IsSlotted (set c.self.inside.slots.items c.args.page (Some (c.len.result / 256))) ws) (sym items)
          (slotted_first _ _ c.args.from.now c.args.page (c.len.result / 256) c.self.invariant.0 none page c.requires.size next),
      omega (arith, c.extend_from_slice.ensures.capacity, c.self.invariant.1, length-set c.self.inside.slots.items c.args.page (Some (c.len.result / 256))),
    )

pub returns-in-Some : goal.returns-in-Some
returns-in-Some c =
    let page = page_inside c.self.inside.slots.items c.self.inside.words.items c.args.page (rw (← c.self.view_is) at c.requires.in_range) in
    let slot = has_slot c.self.inside.slots.items c.args.page _ _ page c.index.ensures c.in-Some.is in
    let same : length c.write_words.new.words ≡ c.self.inside.words.len = omega (arith, c.write_words.ensures.size, c.deref_mut.ensures.len) in
    let there = subst (λ (ws : List Parts). Fills ws c.write_words.new.words c.in-Some.slot c.args.from.now) c.deref_mut.ensures.value c.write_words.ensures in
    rw (← c.self.view_is, with_items_is c.self.inside.words c.write_words.new.words same)
    (fills_again _ _ c.write_words.new.words c.args.from.now c.args.page c.in-Some.slot c.self.invariant.0 slot page c.requires.size there)

pub returns-in-None : goal.returns-in-None
returns-in-None c =
    let page = page_inside c.self.inside.slots.items c.self.inside.words.items c.args.page (rw (← c.self.view_is) at c.requires.in_range) in
    let none = has_slot c.self.inside.slots.items c.args.page _ _ page c.index.ensures c.in-None.is in
    let items : c.extend_from_slice.new.self.items ≡ c.self.inside.words.items ++ c.args.from.now = rw c.unwrap.ensures at c.extend_from_slice.ensures.items in
    let next : 256 * (c.len.result / 256) ≡ length c.self.inside.words.items = omega (arith, c.len.ensures, c.self.inside.words.ok.0, c.self.invariant.0.size) in
    rw (← c.self.view_is) (subst (λ (ws : List Parts). Fills (words_of c.self.inside.slots.items c.self.inside.words.items) (words_of (set c.self.inside.slots.items c.args.page (Some (c.len.result / 256))) ws) c.args.page c.args.from.now) (sym items)
    (fills_first _ _ c.args.from.now c.args.page (c.len.result / 256) c.self.invariant.0 none page c.requires.size next))
