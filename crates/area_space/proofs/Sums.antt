-- Sums over blocks of numbers.
use Rattle.std.proofs.Common.{◌≡◌, ◌≢◌, ℕ, zero, suc, ◌+◌, ◌*◌, ◌/◌, ◌<◌, ◌≤◌, sym, ◌∙◌, ap, arith}
use Rattle.std.proofs.lemmas.Nat.{div-mul-add}
use Rattle.lisp_graph.specs.Totals.{total}
use Rattle.lisp_graph.proofs.Totals.{total-zero, total-suc, total-cong, total-at, total-le, total-plus}
use Rattle.area_space.specs.Sums.{block, both}

pub total-blocks : (f : ℕ → ℕ) (h n : ℕ) → total f (n * h) ≡ total (block f h) n
total-blocks f h zero = let e : total f (0 * h) ≡ total f 0 = ap (total f) (omega arith) in e ∙ (total-zero f ∙ sym (total-zero (block f h)))
total-blocks f h (suc n) =
    let a = total-suc (block f h) n in
    let b = total-plus f (n * h) h in
    let i = total-blocks f h n in
    let e : suc n * h ≡ n * h + h = omega arith in
    ap (total f) e ∙ (omega arith)

pub total-pairs : (f : ℕ → ℕ) (n : ℕ) → total f (2 * n) ≡ total (both f) n
total-pairs f zero = let e : total f (2 * 0) ≡ total f 0 = ap (total f) (omega arith) in e ∙ (total-zero f ∙ sym (total-zero (both f)))
total-pairs f (suc n) =
    let a = total-suc (both f) n in
    let b = total-suc f (2 * n + 1) in
    let c = total-suc f (2 * n) in
    let i = total-pairs f n in
    let e : 2 * suc n ≡ suc (2 * n + 1) = omega arith in
    let d : total f (2 * n + 1) ≡ total f (suc (2 * n)) = ap (total f) (omega arith) in
    ap (total f) e ∙ (omega arith)

-- the block of a slot
pub block-at : (f g : ℕ → ℕ) (h a l : ℕ) → l < h → ((k : ℕ) → k ≢ a * h + l → f k ≡ g k) → block f h a + g (a * h + l) ≡ block g h a + f (a * h + l)
block-at f g h a l low same = total-at (λ m. f (a * h + m)) (λ m. g (a * h + m)) l h low (λ m b ne. same (a * h + m) (λ e. ne (omega arith)))

pub block-other : (f g : ℕ → ℕ) (h a b l : ℕ) → l < h → b ≢ a → ((k : ℕ) → k ≢ a * h + l → f k ≡ g k) → block f h b ≡ block g h b
block-other f g h a b l low ne same =
    total-cong (λ m. f (b * h + m)) (λ m. g (b * h + m)) h (λ m bound. same (b * h + m) (λ e. ne (let x = div-mul-add b h m bound in let y = div-mul-add a h l low in let z : (b * h + m) / h ≡ (a * h + l) / h = ap (λ (q : ℕ). q / h) e in sym x ∙ (z ∙ y))))

pub block-cong : (f g : ℕ → ℕ) (h a : ℕ) → ((k : ℕ) → f k ≡ g k) → block f h a ≡ block g h a
block-cong f g h a same = total-cong (λ m. f (a * h + m)) (λ m. g (a * h + m)) h (λ m bound. same (a * h + m))

pub block-le : (f g : ℕ → ℕ) (h a : ℕ) → ((k : ℕ) → f k ≤ g k) → block f h a ≤ block g h a
block-le f g h a same = total-le (λ m. f (a * h + m)) (λ m. g (a * h + m)) h (λ m bound. same (a * h + m))
