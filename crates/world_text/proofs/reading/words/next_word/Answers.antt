use Rattle.std.proofs.Common.{ap, sym, ◌∙◌, ◌+◌, ◌-◌, arith, drop, take, length, length-drop}
use Rattle.std.proofs.lemmas.List.{take_rest}
use Rattle.world_text.specs.reading.Words.{first_word, words_of}
use Rattle.world_text.proofs.reading_laws.WordLemmas.{words_at, words_last, words_none}
use Rattle.world_text.proofs.reading.words.next_word.Goals as goal

pub returns-in-Some-clause-word : goal.returns-in-Some-clause-word
returns-in-Some-clause-word c = ap first_word (sym (words_at c.args.text.now c.in-Some.end (sym c.first_space.ensures ∙ c.in-Some.is)))

pub returns-in-Some-clause-unchanged : goal.returns-in-Some-clause-unchanged
returns-in-Some-clause-unchanged c =
    ap words_of (take_rest c.args.text.now (c.in-Some.end + 1)) ∙ ap (drop 1) (sym (words_at c.args.text.now c.in-Some.end (sym c.first_space.ensures ∙ c.in-Some.is)))

pub returns-in-None-clause-word : goal.returns-in-None-clause-word
returns-in-None-clause-word c = sym (words_last c.args.text.now (sym c.first_space.ensures ∙ c.in-None.is)).0

pub returns-in-None-clause-unchanged : goal.returns-in-None-clause-unchanged
returns-in-None-clause-unchanged c =
    let text = c.args.text.now in
    words_none (take (length text - length text) (drop (length text) text)) (rw take_rest (rw length-drop (omega arith))) ∙ sym (words_last text (sym c.first_space.ensures ∙ c.in-None.is)).1
