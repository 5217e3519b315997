use Rattle.std.proofs.Common.{ℕ, ◌≡◌, Option, Some, sym, subst, arith}
use Rattle.std.specs.Prelude.{IfSome}
use Rattle.scavenger.specs.declared.scan_set.Unit.TheVariants.{Word}
use Rattle.scavenger.specs.Left.{next_of}
use Rattle.scavenger.specs.Scan.{Scan}
use Rattle.scavenger.specs.Scanning.{Remains}
use Rattle.scavenger.specs.Moves.{none_moved}
use Rattle.scavenger.specs.Sweeping.{ScansQuiet, nothing}
use Rattle.scavenger.proofs.NextUnits.{next-word}
use Rattle.scavenger.proofs.ReadScans.{read-remains}
use Rattle.transporter.proofs.Places.{on-err}
use Rattle.scavenger.proofs.scan_set.ScanSet.pass_quiet.Goals as goal

pub words_before_last-requires : goal.words_before_last-requires
words_before_last-requires g c =
    let is = subst (λ (o : Option ℕ). IfSome o (λ at. next_of c.args.self.now c.args.table.now ≡ Some (Word at))) c.in-Some.is c.requires.agrees in
    let low = (next-word c.args.self.now c.args.table.now c.in-Some.at is).low in
    omega arith

pub pass_words-requires-clause-agrees : goal.pass_words-requires-clause-agrees
pass_words-requires-clause-agrees g c = subst (λ (o : Option ℕ). IfSome o (λ at. next_of c.args.self.now c.args.table.now ≡ Some (Word at))) c.in-Some.is c.requires.agrees

pub returns-in_err-passed-clause-fault : goal.returns-in_err-passed-clause-fault
returns-in_err-passed-clause-fault g c = on-err c.from_residual.result (λ registers x.
    let is = subst (λ (o : Option ℕ). IfSome o (λ at. next_of c.args.self.now c.args.table.now ≡ Some (Word at))) c.in-Some.is c.requires.agrees in
    subst (λ (s : Scan). Remains (g.M.Memory.seen c.args.mem.now) c.args.table.now c.args.self.now registers (g.M.Memory.seen c.pass_words.new.mem) c.args.table.now s registers) (sym c.in_err-passed.ensures.err)
    (read-remains (g.M.Memory.seen c.args.mem.now) (g.M.Memory.seen c.pass_words.new.mem) c.args.table.now c.args.self.now registers c.in-Some.at is c.in_err-passed.ensures.unchanged))

pub returns-in_default-clause-scans : goal.returns-in_default-clause-scans
returns-in_default-clause-scans g c = λ registers x. record { many = nothing; each = none_moved }

pub returns-then-limit-eq0-clause-scans : goal.returns-then-limit-eq0-clause-scans
returns-then-limit-eq0-clause-scans g c = λ registers x. record { many = nothing; each = none_moved }

pub returns-then-words-eq0-clause-scans : goal.returns-then-words-eq0-clause-scans
returns-then-words-eq0-clause-scans g c = λ registers x. record { many = nothing; each = none_moved }

pub pass_words-requires-clause-after : goal.pass_words-requires-clause-after
pass_words-requires-clause-after g c = c.words_before_last.ensures c.min-words.result (omega (arith, c.if-words-eq0.false)) (omega (arith, c.min-words.ensures, c.from.ensures))

pub overflow_add-result : goal.overflow_add-result
overflow_add-result g c =
    let is = subst (λ (o : Option ℕ). IfSome o (λ at. next_of c.args.self.now c.args.table.now ≡ Some (Word at))) c.in-Some.is c.requires.agrees in
    let low = (next-word c.args.self.now c.args.table.now c.in-Some.at is).low in
    let few = c.requires.collecting.1.collects.kept.table.few_regions in
    let page = (c.words_before_last.ensures c.min-words.result (omega (arith, c.if-words-eq0.false)) (omega (arith, c.min-words.ensures, c.from.ensures))).0 in
    let passed = c.in_ok-passed.ensures.at_most in
    omega arith

pub returns-clause-scans : goal.returns-clause-scans
returns-clause-scans g c = λ registers x.
    subst (λ (n : ℕ). ScansQuiet (g.M.Memory.seen c.args.mem.now) c.args.table.now c.args.self.now registers c.pass_words.new.self n) (sym c.from-2.ensures) (c.in_ok-passed.ensures.scans registers x)
