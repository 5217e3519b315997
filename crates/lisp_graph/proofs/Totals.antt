-- Sums over all numbers below a bound.
use Rattle.std.proofs.Common.{◌≡◌, ◌≢◌, ℕ, zero, suc, ◌+◌, ◌<◌, ◌≤◌, ◌⊎◌, inl, inr, refl, sym, ◌∙◌, ap, arith}
use Rattle.std.proofs.lemmas.Bool.{cases_eq}
use Rattle.lisp_graph.specs.Totals.{total}

pub total-zero : (f : ℕ → ℕ) → total f 0 ≡ 0
unfolding total
total-zero f = refl

pub total-suc : (f : ℕ → ℕ) (n : ℕ) → total f (suc n) ≡ f n + total f n
unfolding total
total-suc f n = refl

pub total-cong : (f g : ℕ → ℕ) (n : ℕ) → ((m : ℕ) → m < n → f m ≡ g m) → total f n ≡ total g n
total-cong f g zero h = total-zero f ∙ sym (total-zero g)
total-cong f g (suc n) h =
    let e = h n (omega arith) in
    let i = total-cong f g n (λ m l. h m (omega arith)) in
    let a = total-suc f n in
    let b = total-suc g n in
    cc

-- two functions that differ at one place
pub total-at : (f g : ℕ → ℕ) (k n : ℕ) → k < n → ((m : ℕ) → m < n → m ≢ k → f m ≡ g m) → total f n + g k ≡ total g n + f k
total-at f g k zero l h = absurd (omega arith)
total-at f g k (suc n) l h =
    go (total-suc f n) (total-suc g n) (λ (q : k < n). total-at f g k n q (λ m r. h m (omega arith))) (cases_eq k n)
  where
    go : total f (suc n) ≡ f n + total f n → total g (suc n) ≡ g n + total g n → (k < n → total f n + g k ≡ total g n + f k) → (k ≡ n) ⊎ (k ≡ n → ⊥) → total f (suc n) + g k ≡ total g (suc n) + f k
    go a b rest (inl e) =
        let c = total-cong f g n (λ m q. h m (omega arith) (λ (x : m ≡ k). let w : m ≡ n = x ∙ e in omega arith)) in
        let u = ap f e in
        let v = ap g e in
        omega arith
    go a b rest (inr ne) =
        let q : k < n = omega arith in
        let d = h n (omega arith) (λ (x : n ≡ k). ne (sym x)) in
        let i = rest q in
        omega arith

pub total-le : (f g : ℕ → ℕ) (n : ℕ) → ((m : ℕ) → m < n → f m ≤ g m) → total f n ≤ total g n
total-le f g zero h = let a = total-zero f in let b = total-zero g in omega arith
total-le f g (suc n) h =
    let e = h n (omega arith) in
    let i = total-le f g n (λ m l. h m (omega arith)) in
    let a = total-suc f n in
    let b = total-suc g n in
    omega arith

pub total-add : (f g : ℕ → ℕ) (n : ℕ) → total (λ m. f m + g m) n ≡ total f n + total g n
total-add f g zero = let a = total-zero f in let b = total-zero g in let c = total-zero (λ m. f m + g m) in omega arith
total-add f g (suc n) =
    let i = total-add f g n in
    let a = total-suc f n in
    let b = total-suc g n in
    let c = total-suc (λ m. f m + g m) n in
    omega arith

-- a function that is nowhere greater, and smaller at one place
pub total-lt : (f g : ℕ → ℕ) (k n : ℕ) → k < n → ((m : ℕ) → m < n → f m ≤ g m) → f k < g k → total f n < total g n
total-lt f g k zero l h s = absurd (omega arith)
total-lt f g k (suc n) l h s =
    go (total-suc f n) (total-suc g n) (h n (omega arith)) (λ (q : k < n). total-lt f g k n q (λ m r. h m (omega arith)) s) (cases_eq k n)
  where
    go : total f (suc n) ≡ f n + total f n → total g (suc n) ≡ g n + total g n → f n ≤ g n → (k < n → total f n < total g n) → (k ≡ n) ⊎ (k ≡ n → ⊥) → total f (suc n) < total g (suc n)
    go a b c rest (inl e) =
        let i = total-le f g n (λ m q. h m (omega arith)) in
        let u = ap f e in
        let v = ap g e in
        omega arith
    go a b c rest (inr ne) =
        let q : k < n = omega arith in
        let i = rest q in
        omega arith

pub total-plus : (f : ℕ → ℕ) (m n : ℕ) → total f (m + n) ≡ total f m + total (λ l. f (m + l)) n
total-plus f m zero = let a = total-zero (λ l. f (m + l)) in let e : total f (m + 0) ≡ total f m = ap (total f) (omega arith) in omega arith
total-plus f m (suc n) =
    let e : total f (m + suc n) ≡ total f (suc (m + n)) = ap (total f) (omega arith) in
    let a = total-suc (λ l. f (m + l)) n in
    let b = total-suc f (m + n) in
    let i = total-plus f m n in
    omega arith
