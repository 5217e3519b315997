use Rattle.std.proofs.Common.{ℕ, ◌≡◌, ◌+◌, ◌∙◌, Some, ap, arith}
use Rattle.scavenger.specs.declared.scan_set.Unit.TheVariants.{Word}
use Rattle.scavenger.specs.Scan.{Scan}
use Rattle.scavenger.specs.Moves.{none_moved}
use Rattle.scavenger.specs.Sweeping.{nothing}
use Rattle.scavenger.proofs.CleanScans.{few-done}
use Rattle.scavenger.proofs.NextUnits.{next-word}
use Rattle.scavenger.proofs.QuietWords.{quiet-words, words-inside}
use Rattle.scavenger.proofs.scan_set.ScanSet.pass_words.Goals as goal

pub read_until-requires-clause-in_range : goal.read_until-requires-clause-in_range
read_until-requires-clause-in_range g c = (words-inside c.args.span.at c.args.span.words c.requires.collecting.1 c.requires.agrees c.requires.after).1

pub read_until-requires-clause-page : goal.read_until-requires-clause-page
read_until-requires-clause-page g c = let low = c.requires.after.0 in omega arith

pub returns-then-passed-eq0-clause-scans : goal.returns-then-passed-eq0-clause-scans
returns-then-passed-eq0-clause-scans g c = λ registers x. record { many = nothing; each = none_moved }

pub returns-then-passed-eq0-clause-near : goal.returns-then-passed-eq0-clause-near
returns-then-passed-eq0-clause-near g c = let same : c.args.span.at ≡ c.args.span.at + 0 = omega arith in c.requires.agrees ∙ ap (λ (a : ℕ). Some (Word a)) same

pub mark_words-requires-clause-in_range : goal.mark_words-requires-clause-in_range
mark_words-requires-clause-in_range g c = (words-inside c.args.span.at c.args.span.words c.requires.collecting.1 c.requires.agrees c.requires.after).0

pub mark_words-requires-clause-page : goal.mark_words-requires-clause-page
mark_words-requires-clause-page g c = let low = c.requires.after.0 in let few = c.in_ok-passed.ensures.value.at_most in omega arith

pub mark_words-requires-clause-at_most : goal.mark_words-requires-clause-at_most
mark_words-requires-clause-at_most g c =
    let x = c.requires.collecting.1.collects in
    let next = next-word c.args.self.now c.args.table.now c.args.span.at c.requires.agrees in
    few-done c.args.self.now x.kept.table x.clean next.going

pub returns-clause-scans : goal.returns-clause-scans
returns-clause-scans g c = λ registers x. (quiet-words c.args.span.at c.args.span.words c.in_ok-passed.passed x c.requires.agrees c.requires.after c.in_ok-passed.ensures.value.at_most (omega (arith, c.if-passed-eq0.false)) c.in_ok-passed.ensures.value c.mark_words.ensures).0

pub returns-clause-near : goal.returns-clause-near
returns-clause-near g c = (quiet-words c.args.span.at c.args.span.words c.in_ok-passed.passed c.requires.collecting.1 c.requires.agrees c.requires.after c.in_ok-passed.ensures.value.at_most (omega (arith, c.if-passed-eq0.false)) c.in_ok-passed.ensures.value c.mark_words.ensures).1

pub returns-clause-count : goal.returns-clause-count
returns-clause-count g c = ap (λ (s : Scan). s.done) c.mark_words.ensures
