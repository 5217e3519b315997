-- The levels that a set contains.
use Rattle.std.proofs.Common.{◌≡◌, ◌↔◌, ℕ, ◌+◌, ◌-◌, ◌<◌, ◌^◌, Bool, true, false, List, [], ◌∷◌, refl, sym, ap, ◌∙◌, arith, inl, inr}
use Rattle.std.specs.Prelude.{not, ◌==◌}
use Rattle.std.specs.Int.{bit_at}
use Rattle.std.specs.Int.RustNames.{bit_and}
use Rattle.std.proofs.lemmas.Bool.{cases_eq, eq-eqb, ne_eqb}
use Rattle.std.proofs.lemmas.Fmt.{decimal_digit}
use Rattle.std.proofs.lemmas.Nat.Bits.{bit_at-pow_other, bit_at-pow_same}
use Rattle.store_word.specs.Sets.{HasLevel, Meets}
use Rattle.store_word.proofs.SetLaws.{apart_at}
use Rattle.inside_text.specs.Words.{level_text}

pub meets_level : (set level : ℕ) → Meets set (2 ^ (level - 1)) ↔ HasLevel set level
meets_level set level = (
  (λ meets. elim (cases_eq (bit_at set (level - 1)) 1) [
    | inl has ↦ has
    | inr lacks ↦ absurd (meets ((apart_at set (2 ^ (level - 1))).1 (λ l h k. elim (cases_eq (l - 1) (level - 1)) [
      | inl same ↦ lacks (ap (bit_at set) (sym same) ∙ h)
      | inr other ↦ absurd (let z = bit_at-pow_other (level - 1) (l - 1) other in omega (arith, z, k))
    ])))
  ]),
  (λ has e. (apart_at set (2 ^ (level - 1))).0 e level has (bit_at-pow_same (level - 1))),
)

-- what is appended for a level of the set
pub level_there : (set level : ℕ) → level < 10 → HasLevel set level → level_text set level ≡ 44 ∷ (48 + level) ∷ []
level_there set level low has = rw (eq-eqb (bit_at set (level - 1)) 1 has) (ap (λ (w : List ℕ). 44 ∷ w) (decimal_digit level low))

pub level_missing : (set level : ℕ) → (HasLevel set level → ⊥) → level_text set level ≡ []
level_missing set level lacks = rw (ne_eqb (bit_at set (level - 1)) 1 lacks) refl

-- a test for a common level, with a set of one level
pub hit : (b : Bool) (set bit level : ℕ) → bit ≡ 2 ^ (level - 1) → b ≡ not (bit_and set bit == 0) → b ≡ true → HasLevel set level
hit b set bit level is told met =
    (meets_level set level).0 (λ e.
    let none : bit_and set bit ≡ 0 = ap (bit_and set) is ∙ e in
    let unmet : true ≡ false = sym met ∙ told ∙ ap not (eq-eqb (bit_and set bit) 0 none) in
    absurd (cc (unmet)))

pub miss : (b : Bool) (set bit level : ℕ) → bit ≡ 2 ^ (level - 1) → b ≡ not (bit_and set bit == 0) → b ≡ false → HasLevel set level → ⊥
miss b set bit level is told unmet has =
    elim (cases_eq (bit_and set bit) 0) [
      | inl none ↦ (meets_level set level).1 has (ap (bit_and set) (sym is) ∙ none)
      | inr some ↦ (let met : false ≡ true = sym unmet ∙ told ∙ ap not (ne_eqb (bit_and set bit) 0 some) in absurd (cc (met)))
    ]
