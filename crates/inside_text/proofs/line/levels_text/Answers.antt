use Rattle.std.proofs.Common.{◌≡◌, ◌+◌, ◌<◌, ◌++◌, ℕ, List, length, take, get_or, ap, sym, ◌∙◌, arith, rules}
use Rattle.std.specs.List.{flat_map, range_with_len}
use Rattle.std.proofs.lemmas.List.FromFn.{get_or-range_with_len, length-range_with_len}
use Rattle.outer_ports.proofs.Gains.{parts_more}
use Rattle.inside_text.specs.Words.{level_text}
use Rattle.inside_text.proofs.line.levels_text.Goals as goal

pub loop-place-preserved : goal.loop-place-preserved
loop-place-preserved c =
    let low : c.loop-place.place < 6 = search rules in
    let within : c.loop-place.place < length (range_with_len 1 6) = omega (arith, low, length-range_with_len 1 6) in
    let at : c.loop-place.place + 1 ≡ get_or (range_with_len 1 6) c.loop-place.place 0 = (let e : c.loop-place.place + 1 ≡ 1 + c.loop-place.place = omega arith in e ∙ sym (get_or-range_with_len 1 6 c.loop-place.place 0 low)) in (
      c.push_level.ensures.value
          ∙ ap (λ (w : List ℕ). w ++ level_text c.args.set.0 (c.loop-place.place + 1)) c.loop-place.invariant.0
          ∙ ap (λ (k : ℕ). flat_map (level_text c.args.set.0) (take c.loop-place.place (range_with_len 1 6)) ++ level_text c.args.set.0 k) at
          ∙ sym (parts_more (level_text c.args.set.0) (range_with_len 1 6) c.loop-place.place 0 within),
      (let a = c.push_level.ensures.at_most in let b = c.loop-place.invariant.1 in omega arith),
    )
