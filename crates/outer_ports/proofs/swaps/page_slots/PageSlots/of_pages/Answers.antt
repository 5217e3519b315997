use Rattle.std.proofs.Common.{◌∙◌, ℕ, Option, None, List, replicate, ap, rules}
use Rattle.store_word.specs.Words.{Parts}
use Rattle.outer_ports.specs.Slots.{words_of}
use Rattle.outer_ports.proofs.Slots.{words_fresh}
use Rattle.outer_ports.proofs.swaps.page_slots.PageSlots.of_pages.Goals as goal

pub returns : goal.returns
returns c =
    ap (λ (slots : List (Option ℕ)). words_of slots c.in_ok-words.words.items) (c.in_ok-slots.ensures.items_if_clones_equal (search rules))
    ∙ ap (λ (words : List Parts). words_of (replicate c.args.pages None) words) c.in_ok-words.ensures.items ∙ words_fresh c.args.pages
