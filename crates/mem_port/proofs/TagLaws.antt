-- The levels of the addresses among words, word by word.
use Rattle.std.proofs.Common.{ℕ, ◌≡◌, ◌<◌, ◌≤◌, ◌^◌, ◌+◌, ◌-◌, List, Some, length, slice_get, arith, ◌∙◌, sym, ◌⊎◌, ◌↔◌, inl, inr}
use Rattle.std.specs.Int.RustNames.{bit_or}
use Rattle.std.proofs.lemmas.Bool.{cases_eq}
use Rattle.std.proofs.lemmas.Option.{slice_get_within}
use Rattle.store_word.specs.Sets.{HasLevel}
use Rattle.store_word.specs.Words.{Parts}
use Rattle.store_word.proofs.SetLaws.{has_either, has_one}
use Rattle.mem_port.specs.Store.{level_of_word}
use Rattle.mem_port.specs.Tags.{HasAddress}

-- a set with one more level
pub has_one_more : (set level l : ℕ) → 1 ≤ level → 1 ≤ l → HasLevel (bit_or set (2 ^ (level - 1))) l ↔ (HasLevel set l ⊎ (l ≡ level))
has_one_more set level l first from =
    let either = has_either set (2 ^ (level - 1)) l in
    let one = has_one level l first from in (
      (λ h. elim (either.0 h) [ inl e ↦ inl e | inr e ↦ inr (one.0 e) ]),
      (λ d. either.1 (elim d [ inl e ↦ inl e | inr e ↦ inr (one.1 e) ])),
    )

-- one of the first n words has an address of this level
abbrev pub HasBelow : List Parts → List ℕ → ℕ → ℕ → Type 0
HasBelow words levels n level = (k : ℕ) × (word : Parts) × ((k < n) × (slice_get words k ≡ Some word) × (level_of_word levels word ≡ level))

-- one word more
pub below_more : (words : List Parts) (levels : List ℕ) (n level : ℕ) (word : Parts) → slice_get words n ≡ Some word → (HasBelow words levels n level ⊎ (level ≡ level_of_word levels word)) ↔ HasBelow words levels (n + 1) level
below_more words levels n level word found = (
  (λ d.
      elim d [
        | inl before ↦ (before.0, before.1, (omega (arith, before.2.0), before.2.1, before.2.2))
        | inr same ↦ (n, word, (omega arith, found, sym same))
      ]),
  (λ h.
      elim (cases_eq h.0 n) [
        | inl last ↦ inr (let there : slice_get words n ≡ Some h.1 = rw (← last) h.2.1 in
            let is : Some word ≡ Some h.1 = sym found ∙ there in
            let e : word ≡ h.1 = cc in
            rw e (sym h.2.2))
        | inr ne ↦ inl (h.0, h.1, (omega (arith, h.2.0, ne), h.2.1, h.2.2))
      ]),
)

-- all words are below their number
pub below_all : (words : List Parts) (levels : List ℕ) (level : ℕ) → HasBelow words levels (length words) level ↔ HasAddress words levels level
below_all words levels level = (
  (λ h. (h.0, h.1, (h.2.1, h.2.2))),
  (λ h. (h.0, h.1, (slice_get_within words h.0 h.1 h.2.0, h.2.0, h.2.1))),
)
