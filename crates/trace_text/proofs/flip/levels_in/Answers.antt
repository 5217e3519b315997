use Rattle.std.proofs.Common.{◌+◌, ap, sym, ◌∙◌, arith, rules, bit_or}
use Rattle.std.specs.List.{slice_split}
use Rattle.std.specs.Option.{option_map}
use Rattle.std.proofs.lemmas.List.{take_rest}
use Rattle.std.proofs.lemmas.Grind.{common_steps}
use Rattle.trace_text.specs.Commands.{is_comma, levels_from}
use Rattle.trace_text.proofs.Levels.{levels_end, levels_end_refused, levels_fail, levels_go}
use Rattle.trace_text.proofs.flip.levels_in.Goals as goal

pub returns-in_err-last-in-Some : goal.returns-in_err-last-in-Some
returns-in_err-last-in-Some c =
    ap (option_map (λ levels. levels.0)) c.from_residual.ensures
    ∙ levels_fail c.args.top c.loop-end.last c.loop-end.levels.0 c.in-Some.end c.loop-end.rest.now _ (sym c.first_comma.ensures.value ∙ c.in-Some.is) c.in_err-last-in-Some.ensures.value c.loop-end.invariant.0

pub loop-end-preserved : goal.loop-end-preserved
loop-end-preserved c = (
  ap (λ rest. levels_from c.args.top c.in_ok-last-in-Some.last c.insert.new.self.0 (slice_split is_comma rest)) (take_rest c.loop-end.rest.now (c.in-Some.end + 1))
      ∙ levels_go c.args.top c.loop-end.last c.loop-end.levels.0 c.in_ok-last-in-Some.last c.in-Some.end c.insert.new.self.0 c.loop-end.rest.now _
      (sym c.first_comma.ensures.value ∙ c.in-Some.is) c.in_ok-last-in-Some.ensures.value (c.insert.ensures (search rules) ∙ ap (bit_or c.loop-end.levels.0) c.one.ensures) c.loop-end.invariant.0,
  omega (arith, c.in_ok-last-in-Some.ensures.in_range),
  grind (arith, common_steps, c.loop-end.invariant.2),
)

pub returns-in_err-last-in-None : goal.returns-in_err-last-in-None
returns-in_err-last-in-None c =
    ap (option_map (λ levels. levels.0)) c.from_residual-in_err-last-in-None.ensures
    ∙ levels_end_refused c.args.top c.loop-end.last c.loop-end.levels.0 c.loop-end.rest.now _ (sym c.first_comma.ensures.value ∙ c.in-None.is) c.in_err-last-in-None.ensures.value c.loop-end.invariant.0

pub returns-in-None : goal.returns-in-None
returns-in-None c =
    levels_end c.args.top c.loop-end.last c.loop-end.levels.0 c.in_ok-last-in-None.last c.insert-in-None.new.self.0 c.loop-end.rest.now _
    (sym c.first_comma.ensures.value ∙ c.in-None.is) c.in_ok-last-in-None.ensures.value (c.insert-in-None.ensures (search rules) ∙ ap (bit_or c.loop-end.levels.0) c.one-in-None.ensures) c.loop-end.invariant.0
