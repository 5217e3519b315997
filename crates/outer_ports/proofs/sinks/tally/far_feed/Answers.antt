use Rattle.std.proofs.Common.{◌≡◌, Bool, true, false, length, arith, sym, inl, inr}
use Rattle.std.proofs.lemmas.Bool.{cases_Bool}
use Rattle.std.proofs.lemmas.List.Sums.{position_or_len_is}
use Rattle.std.specs.Prelude.{◌==◌}
use Rattle.outer_ports.proofs.sinks.tally.far_feed.Goals as goal

is_false : (test : Bool) → (test ≡ true → ⊥) → test ≡ false
is_false test not = elim (cases_Bool test) [ inl e ↦ absurd (not e) | inr e ↦ e ]

pub returns-in-Some-clause-value : goal.returns-in-Some-clause-value
returns-in-Some-clause-value c =
    let found = c.in-Some.ensures in
    sym (position_or_len_is (λ byte. byte == 10) c.args.bytes.now c.in-Some.at 0 (omega (arith, found.0.high)) (λ k below. is_false _ (found.0.before k (omega arith) below)) (λ _. found.1))

pub returns-in-None-clause-value : goal.returns-in-None-clause-value
returns-in-None-clause-value c =
    let none = c.in-None.ensures in
    sym (position_or_len_is (λ byte. byte == 10) c.args.bytes.now (length c.args.bytes.now) 0 (omega arith) (λ k below. is_false _ (none k (omega arith) below)) (λ below. absurd (omega (arith, below))))
