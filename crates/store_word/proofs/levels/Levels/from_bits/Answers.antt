use Rattle.std.proofs.Common.{◌≡◌, ◌%◌, ◌^◌, IsSome, arith, inl, inr, rules}
use Rattle.std.specs.Int.RustNames.{bit_and}
use Rattle.std.proofs.lemmas.Bool.{cases_lt}
use Rattle.std.proofs.lemmas.Nat.{and_mask}
use Rattle.bitflags.specs.Sets.{known_from}
use Rattle.store_word.proofs.levels.Levels.from_bits.Goals as goal

pub returns-clause-none : goal.returns-clause-none
unfolding known_from
returns-clause-none c =
    let known = c.from_bits.ensures.known tt in
    let six : bit_and c.args.bits 63 ≡ c.args.bits % 2 ^ 6 = and_mask c.args.bits 6 in (
      (λ none.
          elim (cases_lt c.args.bits 64) [
            | inl low ↦
                let same : bit_and c.args.bits 63 ≡ c.args.bits = omega arith in
                let some : IsSome c.from_bits.result = known.1 same in
                absurd (search rules)
            | inr high ↦ high
          ]),
      (λ high. c.from_bits.ensures.unknown tt (λ same. let e : bit_and c.args.bits 63 ≡ c.args.bits = same in omega arith)),
    )
