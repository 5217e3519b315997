-- Tests of all numbers below a bound.
use Rattle.std.proofs.Common.{◌≡◌, ℕ, zero, suc, ◌<◌, ◌⊎◌, inl, inr, Bool, true, false, ◌||◌, refl, sym, ◌∙◌, ap, arith}
use Rattle.std.proofs.lemmas.Bool.{cases_eq, or_cases, or_left, or_right}
use Rattle.lisp_meaning.specs.machine.Maps.{some_below}

some_below-zero : (p : ℕ → Bool) → some_below p 0 ≡ false
unfolding some_below
some_below-zero p = refl

some_below-suc : (p : ℕ → Bool) (n : ℕ) → some_below p (suc n) ≡ (p n || some_below p n)
unfolding some_below
some_below-suc p n = refl

pub some_below-true : (p : ℕ → Bool) (n m : ℕ) → m < n → p m ≡ true → some_below p n ≡ true
some_below-true p zero m l e = absurd (omega arith)
some_below-true p (suc n) m l e = go (cases_eq m n) (some_below-suc p n) (λ (q : m < n). some_below-true p n m q e)
  where
    go : (m ≡ n) ⊎ (m ≡ n → ⊥) → some_below p (suc n) ≡ (p n || some_below p n) → (m < n → some_below p n ≡ true) → some_below p (suc n) ≡ true
    go (inl z) s r = s ∙ or_left (p n) (some_below p n) (ap p (sym z) ∙ e)
    go (inr ne) s r = s ∙ or_right (p n) (some_below p n) (r (omega arith))

pub some_below-cong : (p q : ℕ → Bool) (n : ℕ) → ((m : ℕ) → m < n → p m ≡ q m) → some_below p n ≡ some_below q n
some_below-cong p q zero h = some_below-zero p ∙ sym (some_below-zero q)
some_below-cong p q (suc n) h =
    let a = some_below-suc p n in
    let b = some_below-suc q n in
    let i = some_below-cong p q n (λ m l. h m (omega arith)) in
    let e = h n (omega arith) in
    a ∙ ap (λ (x : Bool). x || some_below p n) e ∙ ap (λ (x : Bool). q n || x) i ∙ sym b

-- which one passes
pub some_below-which : (p : ℕ → Bool) (n : ℕ) → some_below p n ≡ true → (m : ℕ) × (m < n) × (p m ≡ true)
some_below-which p zero e = let x = some_below-zero p in cc
some_below-which p (suc n) e = go (or_cases (p n) (some_below p n) (sym (some_below-suc p n) ∙ e)) (λ r. some_below-which p n r)
  where
    go : (p n ≡ true) ⊎ (some_below p n ≡ true) → (some_below p n ≡ true → (m : ℕ) × (m < n) × (p m ≡ true)) → (m : ℕ) × (m < suc n) × (p m ≡ true)
    go (inl x) r = (n, omega arith, x)
    go (inr x) r = let q = r x in let l = q.1 in (q.0, omega arith, q.2)
