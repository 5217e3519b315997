-- What is at one slot changes.
use Rattle.std.proofs.Common.{◌≡◌, ◌≢◌, ℕ, ◌+◌, ◌*◌, ◌/◌, ◌%◌, ◌<◌, sym, ◌∙◌, subst, arith}
use Rattle.area_space.proofs.Sums.{block-at, block-other}
use Rattle.area_space.specs.Sums.{block}

pub slot_again : (h k : ℕ) → 0 < h → (k / h) * h + k % h ≡ k
slot_again h k low = grind arith

pub block-at_slot : (f g : ℕ → ℕ) (h k : ℕ) → 0 < h → ((m : ℕ) → m ≢ k → f m ≡ g m) → block f h (k / h) + g k ≡ block g h (k / h) + f k
block-at_slot f g h k low same =
    let e = slot_again h k low in
    let b : k % h < h = omega arith in
    let at = block-at f g h (k / h) (k % h) b (λ m ne. same m (λ q. ne (q ∙ sym e))) in
    subst (λ (q : ℕ). block f h (k / h) + g q ≡ block g h (k / h) + f q) e at

pub block-other_slot : (f g : ℕ → ℕ) (h k a : ℕ) → 0 < h → a ≢ k / h → ((m : ℕ) → m ≢ k → f m ≡ g m) → block f h a ≡ block g h a
block-other_slot f g h k a low ne same =
    let e = slot_again h k low in
    let b : k % h < h = omega arith in
    block-other f g h (k / h) a (k % h) b ne (λ m n. same m (λ q. n (q ∙ sym e)))
