use Rattle.std.proofs.Common.{◌≡◌, ◌∙◌, ◌-◌, length, take, drop, length-drop, ◌+◌, arith, rules, inl, inr, length-append, length-take}
use Rattle.std.proofs.lemmas.Bool.{cases_lt}
use Rattle.std.proofs.lemmas.List.{get_or-append_right, get_or_append_left, get_or-replicate, length-replicate}
use Rattle.std.proofs.lemmas.Grind.{elements}
use Rattle.store_word.specs.Words.{null_word}
use Rattle.frame_pool.proofs.Spans.{above_mid}
use Rattle.frame_pool.proofs.words.fill_span.Goals as goal

pub returns : goal.returns
returns c =
    let part : length (take (c.args.at + c.args.count - c.args.at) (drop c.args.at c.args.words.now)) ≡ c.args.at + c.args.count - c.args.at = omega (arith, length-take (c.args.at + c.args.count - c.args.at) (drop c.args.at c.args.words.now), length-drop c.args.at c.args.words.now) in
    rw (c.fill.ensures.after (λ y e. e)) record {
      size = search rules;
      here = λ i b. grind (arith, length-append, length-take, get_or-append_right, get_or_append_left, get_or-replicate, length-replicate);
      others = λ i out.
          elim (cases_lt i c.args.at) [
            | inl below ↦ grind (arith, elements)
            | inr from ↦
                elim (cases_lt i (c.args.at + c.args.count)) [
                  | inl there ↦ absurd (out (from, there))
                  | inr above ↦ above_mid c.args.words.now _ c.args.at (c.args.at + c.args.count - c.args.at) i null_word (length-replicate _ c.args.word ∙ part) (omega arith) (omega arith)
                ]
          ];
    }
