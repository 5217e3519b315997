use Rattle.std.proofs.Common.{rules, ap, sym, ◌≡◌, ◌∙◌, inl, inr, subst}
use Rattle.clap.specs.Words.{app_of, found_of, is_simple, is_simple_and_free}
use Rattle.command_words.specs.App.{lispm}
use Rattle.command_words.specs.Words.{IsInRange, texts}
use Rattle.command_words.proofs.Ranges.{in_range}
use Rattle.command_words.proofs.WalkResult.{failed, found}
use Rattle.command_words.proofs.read.read_words.Goals as goal

pub returns-in-Ok-try_get_matches_from-clause-value : goal.returns-in-Ok-try_get_matches_from-clause-value
returns-in-Ok-try_get_matches_from-clause-value c =
    let is : app_of c.in-Ok.command ≡ lispm = search rules in
    let parse = c.in-Ok-try_get_matches_from.ensures in
    c.asked.ensures
    ∙ found (app_of c.in-Ok.command) (texts c.args.words.now) (found_of c.in-Ok-try_get_matches_from.matches) _ _ _ _ is (parse.kinds (ap is_simple_and_free is)) (parse.matches (ap is_simple is)).0
    c.get_str.ensures c.get_str-in-Ok-try_get_matches_from.ensures c.get_str-in-Ok-try_get_matches_from-2.ensures c.get_str-in-Ok-try_get_matches_from-3.ensures

pub returns-in-Ok-try_get_matches_from-clause-at_most : goal.returns-in-Ok-try_get_matches_from-clause-at_most
returns-in-Ok-try_get_matches_from-clause-at_most c = subst IsInRange (sym (returns-in-Ok-try_get_matches_from-clause-value c)) (in_range c.args.words.now)

pub returns-clause-value : goal.returns-clause-value
returns-clause-value c =
    let is : app_of c.in-Ok.command ≡ lispm = search rules in
    let parse = c.in-Err-try_get_matches_from.ensures in
    elim (parse.kinds (ap is_simple_and_free is)) [
      | inl memory ↦ absurd (c.in_default.not-OutOfMemory (c.kind.ensures ∙ memory))
      | inr among ↦ sym (failed (app_of c.in-Ok.command) (texts c.args.words.now) _ is among)
    ]
