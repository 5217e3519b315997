use Rattle.std.proofs.Common.{◌∙◌, ◌+◌, ◌*◌, ◌%◌, ◌<◌, Option, Some, length, ℕ, sym, ap, arith}
use Rattle.std.proofs.lemmas.List.{get_or_default}
use Rattle.store_word.specs.Words.{Parts, null_word}
use Rattle.outer_ports.specs.Slots.{word_in}
use Rattle.outer_ports.proofs.Slots.{address_inside, slot_inside, has_slot, words_at}
use Rattle.outer_ports.proofs.swaps.page_slots.PageSlots.word.Goals as goal

pub index-requires : goal.index-requires
index-requires c = omega (arith, address_inside c.self.inside.slots.items c.self.inside.words.items c.args.at (rw (← c.self.view_is) at c.requires), c.self.inside.slots.ok.0)

pub index-requires-in-Some : goal.index-requires-in-Some
index-requires-in-Some c =
    let page = address_inside c.self.inside.slots.items c.self.inside.words.items c.args.at (rw (← c.self.view_is) at c.requires) in
    let slot = has_slot c.self.inside.slots.items _ _ _ page c.index.ensures c.in-Some.is in
    omega (arith, slot_inside _ c.in-Some.slot c.self.invariant.0 slot, c.self.inside.words.ok.0)

pub returns-in-Some : goal.returns-in-Some
returns-in-Some c =
    let at = rw (← c.self.view_is) at c.requires in
    let page = address_inside c.self.inside.slots.items c.self.inside.words.items c.args.at at in
    let slot = has_slot c.self.inside.slots.items _ _ _ page c.index.ensures c.in-Some.is in
    let low : 256 * c.in-Some.slot + c.args.at % 256 < length c.self.inside.words.items = omega (arith, slot_inside _ c.in-Some.slot c.self.invariant.0 slot) in
    rw (← c.self.view_is) (words_at c.self.inside.slots.items c.self.inside.words.items c.args.at at
    ∙ ap (λ (o : Option ℕ). Some (word_in c.self.inside.words.items o (c.args.at % 256))) slot
    ∙ ap (λ (w : Parts). Some w) (get_or_default c.self.inside.words.items (256 * c.in-Some.slot + c.args.at % 256) null_word c.index-in-Some.result.now low ∙ sym c.index-in-Some.ensures))

pub returns-in-None : goal.returns-in-None
returns-in-None c =
    let at = rw (← c.self.view_is) at c.requires in
    let page = address_inside c.self.inside.slots.items c.self.inside.words.items c.args.at at in
    let none = has_slot c.self.inside.slots.items _ _ _ page c.index.ensures c.in-None.is in
    rw (← c.self.view_is) (words_at c.self.inside.slots.items c.self.inside.words.items c.args.at at
    ∙ ap (λ (o : Option ℕ). Some (word_in c.self.inside.words.items o (c.args.at % 256))) none ∙ ap (λ (w : Parts). Some w) (sym c.null.ensures))
