-- The numbers that pass a test, ascending.
use Rattle.std.proofs.Common.{◌≡◌, ℕ, zero, suc, ◌+◌, ◌<◌, ◌≤◌, Bool, true, false, Some, List, [], ◌∷◌, refl, sym, ◌∙◌, ap, subst, arith, inl, inr}
use Rattle.std.specs.Prelude.{filter}
use Rattle.std.specs.List.{range_with_len}
use Rattle.std.proofs.lemmas.Bool.{cases_eq, cases_Bool}
use Rattle.index_lists.specs.Chains.{first_of}
use Rattle.area_space.specs.PageList.{IsAscending}
use Rattle.index_lists.specs.Members.{Has}

abbrev pub listed : (ℕ → Bool) → ℕ → ℕ → List ℕ
listed p a n = filter p (range_with_len a n)

pub listed-yes : (p : ℕ → Bool) (a n : ℕ) → p a ≡ true → listed p a (suc n) ≡ a ∷ listed p (a + 1) n
listed-yes p a n e = rw e refl

pub listed-no : (p : ℕ → Bool) (a n : ℕ) → p a ≡ false → listed p a (suc n) ≡ listed p (a + 1) n
listed-no p a n e = rw e refl

-- what is listed is between the bounds and passes
pub has_listed : (p : ℕ → Bool) (a n q : ℕ) → Has q (listed p a n) → (a ≤ q) × (q < a + n) × (p q ≡ true)
has_listed p a zero q h = absurd h
has_listed p a (suc n) q h =
    elim (cases_Bool (p a)) [
      | inl pass ↦
          let there = subst (Has q) (listed-yes p a n pass) h in
          elim (cases_eq a q) [
            | inl e ↦ (omega arith, omega arith, subst (λ (k : ℕ). p k ≡ true) e pass)
            | inr ne ↦ let i = has_listed p (a + 1) n q (there ne) in (omega (arith, i.0), omega (arith, i.1), i.2)
          ]
      | inr fail ↦ let i = has_listed p (a + 1) n q (subst (Has q) (listed-no p a n fail) h) in (omega (arith, i.0), omega (arith, i.1), i.2)
    ]

pub listed_has : (p : ℕ → Bool) (a n q : ℕ) → a ≤ q → q < a + n → p q ≡ true → Has q (listed p a n)
listed_has p a zero q low high e = absurd (omega arith)
listed_has p a (suc n) q low high e =
    elim (cases_Bool (p a)) [
      | inl pass ↦ subst (Has q) (sym (listed-yes p a n pass)) (λ ne. listed_has p (a + 1) n q (omega arith) (omega arith) e)
      | inr fail ↦
          elim (cases_eq a q) [
            | inl same ↦ (let x : p q ≡ false = subst (λ (k : ℕ). p k ≡ false) same fail in absurd (cc))
            | inr ne ↦ subst (Has q) (sym (listed-no p a n fail)) (listed_has p (a + 1) n q (omega arith) (omega arith) e)
          ]
    ]

-- each is at least a, and above those before it
abbrev IsFrom : ℕ → List ℕ → Type 0
IsFrom a [] = Unit {0}
IsFrom a (x ∷ xs) = (a ≤ x) × IsFrom (x + 1) xs

lower : (a b : ℕ) (xs : List ℕ) → a ≤ b → IsFrom b xs → IsFrom a xs
lower a b [] l f = tt
lower a b (x ∷ xs) l f = (omega (arith, f.0), f.1)

from_listed : (p : ℕ → Bool) (a n : ℕ) → IsFrom a (listed p a n)
from_listed p a zero = tt
from_listed p a (suc n) =
    elim (cases_Bool (p a)) [
      | inl pass ↦ subst (IsFrom a) (sym (listed-yes p a n pass)) (omega arith, from_listed p (a + 1) n)
      | inr fail ↦ subst (IsFrom a) (sym (listed-no p a n fail)) (lower a (a + 1) (listed p (a + 1) n) (omega arith) (from_listed p (a + 1) n))
    ]

ascending_from : (a : ℕ) (xs : List ℕ) → IsFrom a xs → IsAscending xs
ascending_from a [] f = tt
ascending_from a (x ∷ []) f = tt
ascending_from a (x ∷ y ∷ ys) f = (omega (arith, f.1.0), ascending_from (x + 1) (y ∷ ys) f.1)

pub ascending_listed : (p : ℕ → Bool) (a n : ℕ) → IsAscending (listed p a n)
ascending_listed p a n = ascending_from a (listed p a n) (from_listed p a n)

-- the lowest that passes is the first
pub first_listed : (p : ℕ → Bool) (a n q : ℕ) → a ≤ q → q < a + n → p q ≡ true → ((r : ℕ) → r < q → p r ≡ false) → first_of (listed p a n) ≡ Some q
first_listed p a zero q low high e least = absurd (omega arith)
first_listed p a (suc n) q low high e least =
    elim (cases_eq a q) [
      | inl same ↦ ap first_of (listed-yes p a n (subst (λ (k : ℕ). p k ≡ true) (sym same) e)) ∙ ap Some same
      | inr ne ↦ ap first_of (listed-no p a n (least a (omega arith))) ∙ first_listed p (a + 1) n q (omega arith) (omega arith) e least
    ]

pub none_listed : (p : ℕ → Bool) (a n : ℕ) → ((r : ℕ) → p r ≡ false) → listed p a n ≡ []
none_listed p a zero none = refl
none_listed p a (suc n) none = listed-no p a n (none a) ∙ none_listed p (a + 1) n none
