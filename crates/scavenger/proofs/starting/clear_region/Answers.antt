use Rattle.std.proofs.Common.{◌≡◌, ◌+◌, ◌-◌, ◌*◌, length, take, drop, length-drop, arith, rules, inl, inr, length-append, length-take}
use Rattle.std.proofs.lemmas.Bool.{cases_lt}
use Rattle.std.proofs.lemmas.List.{get_or-append_right, get_or_append_left, get_or-replicate, length-replicate}
use Rattle.std.proofs.lemmas.Grind.{elements}
use Rattle.scavenger.proofs.starting.clear_region.Goals as goal

pub returns : goal.returns
returns c =
    let part : length (take (16 * c.args.region + 16 - 16 * c.args.region) (drop (16 * c.args.region) c.args.pages.now)) ≡ 16 * c.args.region + 16 - 16 * c.args.region = omega (arith, length-take (16 * c.args.region + 16 - 16 * c.args.region) (drop (16 * c.args.region) c.args.pages.now), length-drop (16 * c.args.region) c.args.pages.now) in
    rw (c.fill.ensures.after (λ y e. e)) record {
      size = search rules;
      here = λ i b. grind (arith, length-append, length-take, get_or-append_right, get_or_append_left, get_or-replicate, length-replicate);
      others = λ i out.
          elim (cases_lt i (16 * c.args.region)) [
            | inl below ↦ grind (arith, elements)
            | inr from ↦ elim (cases_lt i (16 * c.args.region + 16)) [
              | inl there ↦ absurd (out (omega arith))
              | inr above ↦ grind (arith, elements, length-replicate, part)
            ]
          ];
    }
