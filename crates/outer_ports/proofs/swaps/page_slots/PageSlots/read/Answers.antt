use Rattle.std.proofs.Common.{◌∙◌, ◌+◌, ◌*◌, Some, List, length, slice_get, get_or, sym, ap, arith}
use Rattle.std.proofs.lemmas.List.{get_or-replicate}
use Rattle.std.proofs.lemmas.Option.{slice_get-get_or}
use Rattle.store_word.specs.Words.{Parts, null_word}
use Rattle.outer_ports.proofs.Slots.{page_inside, slot_inside, has_slot, words_there, words_null}
use Rattle.outer_ports.proofs.swaps.page_slots.PageSlots.read.Goals as goal

pub index-requires : goal.index-requires
index-requires c = omega (arith, page_inside c.self.inside.slots.items c.self.inside.words.items c.args.page (rw (← c.self.view_is) at c.requires.in_range), c.self.inside.slots.ok.0)

pub read_words-requires-clause-in_range : goal.read_words-requires-clause-in_range
read_words-requires-clause-in_range c =
    let page = page_inside c.self.inside.slots.items c.self.inside.words.items c.args.page (rw (← c.self.view_is) at c.requires.in_range) in
    let slot = has_slot c.self.inside.slots.items c.args.page _ _ page c.index.ensures c.in-Some.is in
    omega (arith, slot_inside c.args.page c.in-Some.slot c.self.invariant.0 slot, c.deref.ensures.len, c.self.inside.words.ok.0)

pub returns-in-Some : goal.returns-in-Some
returns-in-Some c =
    let page = page_inside c.self.inside.slots.items c.self.inside.words.items c.args.page (rw (← c.self.view_is) at c.requires.in_range) in
    let slot = has_slot c.self.inside.slots.items c.args.page _ _ page c.index.ensures c.in-Some.is in
    rw (← c.self.view_is) (λ k low. c.read_words.ensures k low ∙ ap (λ (ws : List Parts). slice_get ws (256 * c.in-Some.slot + k)) c.deref.ensures.value
    ∙ sym (words_there c.args.page c.in-Some.slot k c.self.invariant.0 page slot low))

pub returns-in-None : goal.returns-in-None
returns-in-None c =
    let page = page_inside c.self.inside.slots.items c.self.inside.words.items c.args.page (rw (← c.self.view_is) at c.requires.in_range) in
    let none = has_slot c.self.inside.slots.items c.args.page _ _ page c.index.ensures c.in-None.is in
    rw (← c.self.view_is) (λ k low. slice_get-get_or c.fill.new.self k null_word (omega (arith, c.fill.ensures.len, c.requires.room, low))
    ∙ ap (λ (w : Parts). Some w) (ap (λ (ws : List Parts). get_or ws k null_word) (c.fill.ensures.after (λ y e. e)) ∙ get_or-replicate (length c.args.into.now) k c.null.result null_word (omega (arith, c.requires.room, low)) ∙ c.null.ensures)
    ∙ sym (words_null c.self.inside.slots.items c.self.inside.words.items c.args.page k page none low))
