-- The numbers of `bitflags` are sets of levels, by their bits.
use Rattle.std.proofs.Common.{ℕ, ◌≡◌, ◌≢◌, ◌+◌, ◌-◌, ◌<◌, ◌≤◌, ◌^◌, ◌⊎◌, ◌↔◌, inl, inr, arith, ap}
use Rattle.std.specs.Int.{bit_at, bit_not, w8}
use Rattle.std.specs.Int.RustNames.{bit_and, bit_or}
use Rattle.std.proofs.lemmas.Bool.{cases_eq, cases_lt}
use Rattle.std.proofs.lemmas.Nat.Bits.{bit_at_or, bit_at_and, bit_at_not, bit_at-lt, bit_at_ones, bit_at_ones_above, bit_at-pow_same, bit_at-pow_other, bit_at-zero, same_from_bits}
use Rattle.bitflags.specs.Sets.{without}
use Rattle.store_word.specs.Sets.{HasLevel, Meets}

-- the empty set has no level
pub has_none : (l : ℕ) → ¬ HasLevel 0 l
has_none l h = omega (arith, h, bit_at-zero (l - 1))

-- the set of one level
pub has_one : (k l : ℕ) → 1 ≤ k → 1 ≤ l → HasLevel (2 ^ (k - 1)) l ↔ (l ≡ k)
has_one k l first from = (
  (λ h.
      elim (cases_eq l k) [
        | inl same ↦ same
        | inr ne ↦ absurd (omega (arith, h, bit_at-pow_other (k - 1) (l - 1) (λ e. ne (omega arith))))
      ]),
  (λ same. rw same (bit_at-pow_same (k - 1))),
)

-- the set of the levels up to one
pub has_low : (k l : ℕ) → 1 ≤ l → HasLevel (2 ^ k - 1) l ↔ (l ≤ k)
has_low k l from = (
  (λ h.
      elim (cases_lt (l - 1) k) [
        | inl low ↦ omega arith
        | inr high ↦ absurd (omega (arith, h, bit_at_ones_above k (l - 1) high))
      ]),
  (λ low. bit_at_ones k (l - 1) (omega arith)),
)

-- a union has the levels of either set
pub has_either : (a b l : ℕ) → HasLevel (bit_or a b) l ↔ (HasLevel a l ⊎ HasLevel b l)
has_either a b l =
    let one = bit_at_or a b (l - 1) in
    let x = bit_at-lt a (l - 1) in
    let y = bit_at-lt b (l - 1) in (
      (λ h. elim (cases_eq (bit_at a (l - 1)) 1) [ inl e ↦ inl e | inr ne ↦ inr (omega (arith, one, h, x, y)) ]),
      (λ d. elim d [ inl e ↦ omega (arith, one, e, x, y) | inr e ↦ omega (arith, one, e, x, y) ]),
    )

-- the levels in common are those of both sets
pub has_both : (a b l : ℕ) → HasLevel (bit_and a b) l ↔ (HasLevel a l × HasLevel b l)
has_both a b l =
    let one = bit_at_and a b (l - 1) in
    let x = bit_at-lt a (l - 1) in
    let y = bit_at-lt b (l - 1) in (
      (λ h. (omega (arith, one, h, x, y), omega (arith, one, h, x, y))),
      (λ d. omega (arith, one, d.0, d.1)),
    )

-- what remains after a set is removed
pub has_without : (a b l : ℕ) → b < 2 ^ 8 → l ≤ 8 → 0 < l → HasLevel (without 8 a b) l ↔ (HasLevel a l × ¬ HasLevel b l)
has_without a b l small low first =
    let one = bit_at_and a (bit_not w8 b) (l - 1) in
    let off = bit_at_not w8 b (l - 1) small (omega arith) in
    let x = bit_at-lt a (l - 1) in
    let y = bit_at-lt b (l - 1) in (
      (λ h. (omega (arith, one, off, h, x, y), λ e. omega (arith, one, off, h, x, y, e))),
      (λ d. let ne : bit_at b (l - 1) ≢ 1 = d.1 in omega (arith, one, off, d.0, x, y)),
    )

-- a set contains another if and only if it has each level of it
pub has_all : (a b : ℕ) → (bit_and a b ≡ b) ↔ ((l : ℕ) → HasLevel b l → HasLevel a l)
has_all a b = (
  (λ e l h. ((has_both a b l).0 (let p : HasLevel (bit_and a b) l = rw e h in p)).0),
  (λ h. same_from_bits (bit_and a b) b (λ i.
      let one = bit_at_and a b i in
      let y = bit_at-lt b i in
      let k : i + 1 - 1 ≡ i = omega arith in
      elim (cases_eq (bit_at b i) 1) [
        | inl e ↦ let at_b : HasLevel b (i + 1) = rw k e in let at_a : bit_at a i ≡ 1 = rw k at (h (i + 1) at_b) in omega (arith, one, e, at_a)
        | inr ne ↦ omega (arith, one, y)
      ])),
)

-- sets with a level in common meet
pub meets_at : (a b l : ℕ) → HasLevel a l → HasLevel b l → Meets a b
meets_at a b l x y z = omega (arith, (has_both a b l).1 (x, y), ap (λ n. bit_at n (l - 1)) z, bit_at-zero (l - 1))

-- sets don't meet if and only if they have no level in common
pub apart_at : (a b : ℕ) → (bit_and a b ≡ 0) ↔ ((l : ℕ) → HasLevel a l → ¬ HasLevel b l)
apart_at a b = (
  (λ none l x y. meets_at a b l x y none),
  (λ apart. same_from_bits (bit_and a b) 0 (λ i.
      let none = bit_at-zero i in
      let both = bit_at_and a b i in
      let x = bit_at-lt a i in
      let y = bit_at-lt b i in
      let k : i + 1 - 1 ≡ i = omega arith in
      elim (cases_eq (bit_at a i) 1) [
        | inl at_a ↦
            let off : bit_at b i ≢ 1 = λ at_b.
            let has_a : HasLevel a (i + 1) = rw k at_a in
            let has_b : HasLevel b (i + 1) = rw k at_b in
            apart (i + 1) has_a has_b in
            omega (arith, none, both, off, x, y)
        | inr ne ↦ omega (arith, none, both, ne, x, y)
      ])),
)
