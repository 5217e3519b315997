-- One bit of a list of words is set or cleared.
use Rattle.std.proofs.Common.{◌≡◌, ◌≢◌, ℕ, ◌*◌, ◌-◌, ◌/◌, ◌%◌, ◌<◌, ◌^◌, List, length, slice_index, slice_set, refl, sym, ◌∙◌, ap, arith, inl, inr, length-set, get_or-set_same, get_or-set_other}
use Rattle.std.specs.Prelude.{bit_and, bit_or}
use Rattle.std.specs.Int.{bit_at, w64}
use Rattle.std.specs.Int.Bits.{and_zero_l}
use Rattle.std.proofs.lemmas.Bool.{cases_eq, cases_lt}
use Rattle.std.proofs.lemmas.Nat.Bits.{bit_at_set_same, bit_at_set_other, bit_at_clear_same, bit_at_clear_other, bit_at-zero}
use Rattle.std.proofs.lemmas.List.{get_or_past}
use Rattle.area_space.specs.Bits.{bit_of, SetsBit, ClearsBit}

-- a word is written
written : (xs : List ℕ) (at v other : ℕ) → at / 64 < length xs → other / 64 ≡ at / 64 → bit_of (slice_set xs (at / 64) v) other ≡ bit_at v (other % 64)
written xs at v other b e = ap (λ (n : ℕ). bit_at n (other % 64)) (ap (slice_index (slice_set xs (at / 64) v)) e ∙ get_or-set_same xs (at / 64) v 0 b)

apart : (at other : ℕ) → other / 64 ≡ at / 64 → other ≢ at → other % 64 ≢ at % 64
apart at other e ne = λ f. ne (omega arith)

pub sets_bit : (xs : List ℕ) (at : ℕ) → at / 64 < length xs → SetsBit xs (slice_set xs (at / 64) (bit_or (slice_index xs (at / 64)) (1 * 2 ^ (at % 64) % 18446744073709551616))) at
sets_bit xs at b =
    let old = slice_index xs (at / 64) in
    let v = bit_or old (1 * 2 ^ (at % 64) % 18446744073709551616) in
    record {
      size = length-set xs (at / 64) v;
      here = written xs at v at b refl ∙ bit_at_set_same w64 old (at % 64) (omega arith);
      others = λ other ne.
          elim (cases_eq (other / 64) (at / 64)) [
            | inl e ↦ written xs at v other b e ∙ (bit_at_set_other w64 old (at % 64) (omega arith) (other % 64) (apart at other e ne) ∙ ap (λ (k : ℕ). bit_at (slice_index xs k) (other % 64)) (sym e))
            | inr far ↦ ap (λ (n : ℕ). bit_at n (other % 64)) (get_or-set_other xs (at / 64) (other / 64) v 0 far)
          ];
      words = λ word far. get_or-set_other xs (at / 64) word v 0 far;
    }

pub clears_bit : (xs : List ℕ) (at : ℕ) → at / 64 < length xs → ClearsBit xs (slice_set xs (at / 64) (bit_and (slice_index xs (at / 64)) (18446744073709551615 - 1 * 2 ^ (at % 64) % 18446744073709551616))) at
clears_bit xs at b =
    let old = slice_index xs (at / 64) in
    let v = bit_and old (18446744073709551615 - 1 * 2 ^ (at % 64) % 18446744073709551616) in
    record {
      size = length-set xs (at / 64) v;
      here = written xs at v at b refl ∙ bit_at_clear_same w64 old (at % 64) (omega arith);
      others = λ other ne.
          elim (cases_eq (other / 64) (at / 64)) [
            | inl e ↦ written xs at v other b e ∙ (bit_at_clear_other w64 old (at % 64) (omega arith) (other % 64) (omega arith) (apart at other e ne) ∙ ap (λ (k : ℕ). bit_at (slice_index xs k) (other % 64)) (sym e))
            | inr far ↦ ap (λ (n : ℕ). bit_at n (other % 64)) (get_or-set_other xs (at / 64) (other / 64) v 0 far)
          ];
      words = λ word far. get_or-set_other xs (at / 64) word v 0 far;
      some = λ ne z. ne (get_or-set_same xs (at / 64) v 0 b ∙ (ap (λ (n : ℕ). bit_and n (18446744073709551615 - 1 * 2 ^ (at % 64) % 18446744073709551616)) z ∙ and_zero_l (18446744073709551615 - 1 * 2 ^ (at % 64) % 18446744073709551616)));
    }

-- a bit that is 1 is in a word that isn't 0, and there is such a word
pub bit_in : (xs : List ℕ) (at : ℕ) → bit_of xs at ≡ 1 → slice_index xs (at / 64) ≢ 0
bit_in xs at e = λ z. let x : bit_of xs at ≡ bit_at 0 (at % 64) = ap (λ (n : ℕ). bit_at n (at % 64)) z in let y = bit_at-zero (at % 64) in omega arith

pub word_in : (xs : List ℕ) (word : ℕ) → slice_index xs word ≢ 0 → word < length xs
word_in xs word ne =
    elim (cases_lt word (length xs)) [
      | inl l ↦ l
      | inr past ↦ absurd (ne (get_or_past xs word 0 past))
    ]
