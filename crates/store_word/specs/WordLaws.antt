-- A word is its fields, one to one.
use Rattle.std.proofs.Common.{ℕ, zero, suc, ◌≡◌, ◌<◌, ◌^◌, ◌+◌, ◌*◌, ◌%◌, ◌/◌, refl, arith, ap, ◌∙◌}
use Rattle.std.proofs.lemmas.Int.{of_z-to_z}
use Rattle.std.specs.Int.{w32}
use Rattle.store_word.specs.declared.word.CdrCode.{CdrCode}
use Rattle.store_word.specs.declared.word.CdrCode.TheVariants.{Next, Nil, Normal, Second}
use Rattle.store_word.specs.Words.{parts_from, bits_of, IsWord, cdr_bits, cdr_from, content_bits, content_from}

cdr_back : (c : ℕ) → c < 4 → cdr_bits (cdr_from c) ≡ c
cdr_back zero h = refl
cdr_back (suc zero) h = refl
cdr_back (suc (suc zero)) h = refl
cdr_back (suc (suc (suc zero))) h = refl
cdr_back (suc (suc (suc (suc c)))) h = absurd (omega arith)

content_back : (m k low : ℕ) → low < 2 ^ 32 → low / 2 ^ 28 ≡ k → m < 2 → (m ≡ 0 → k < 7) → (m ≡ 0 → k < 2 → low % 2 ^ 28 ≡ 0) → content_bits (content_from m k low) ≡ m * 2 ^ 32 + low
content_back zero zero low a b c d e = omega (arith, e refl (omega arith))
content_back zero (suc zero) low a b c d e = omega (arith, e refl (omega arith))
content_back zero (suc (suc zero)) low a b c d e = omega arith
content_back zero (suc (suc (suc zero))) low a b c d e = omega arith
content_back zero (suc (suc (suc (suc zero)))) low a b c d e = omega arith
content_back zero (suc (suc (suc (suc (suc zero))))) low a b c d e = omega arith
content_back zero (suc (suc (suc (suc (suc (suc zero)))))) low a b c d e = omega arith
content_back zero (suc (suc (suc (suc (suc (suc (suc k))))))) low a b c d e = absurd (omega (arith, d refl))
content_back (suc zero) k low a b c d e = omega (arith, of_z-to_z w32 low a)
content_back (suc (suc m)) k low a b c d e = absurd (omega arith)

pub bits_of-parts_from : (n : ℕ) → IsWord n → bits_of (parts_from n) ≡ n
bits_of-parts_from n h =
    let short : n < 2 ^ 36 = h.short in
    let major : n / 2 ^ 32 % 4 < 2 = h.major in
    let front = cdr_back (n / 2 ^ 34) (omega arith) in
    let back = content_back (n / 2 ^ 32 % 4) (n / 2 ^ 28 % 16) (n % 2 ^ 32) (omega arith) (omega arith) major h.minor (λ a b. omega (arith, h.blank a b)) in
    omega (arith, front, back)

cdr_same : (c : CdrCode) → cdr_from (cdr_bits c) ≡ c
cdr_same Next = refl
cdr_same Nil = refl
cdr_same Normal = refl
cdr_same Second = refl

cdr_small : (c : CdrCode) → cdr_bits c < 4
cdr_small Next = omega arith
cdr_small Nil = omega arith
cdr_small Normal = omega arith
cdr_small Second = omega arith

-- another cdr code with the same content
pub parts_from-with_cdr : (c : CdrCode) (f n : ℕ) → f ≡ cdr_bits c → parts_from (f * 2 ^ 34 + n % 2 ^ 34) ≡ record { cdr = c; content = (parts_from n).content }
parts_from-with_cdr c f n is =
    let small : f < 4 = rw is (cdr_small c) in
    let front : (f * 2 ^ 34 + n % 2 ^ 34) / 2 ^ 34 ≡ f = omega arith in
    let major : (f * 2 ^ 34 + n % 2 ^ 34) / 2 ^ 32 % 4 ≡ n / 2 ^ 32 % 4 = omega arith in
    let minor : (f * 2 ^ 34 + n % 2 ^ 34) / 2 ^ 28 % 16 ≡ n / 2 ^ 28 % 16 = omega arith in
    let low : (f * 2 ^ 34 + n % 2 ^ 34) % 2 ^ 32 ≡ n % 2 ^ 32 = omega arith in
    let code : cdr_from ((f * 2 ^ 34 + n % 2 ^ 34) / 2 ^ 34) ≡ c = ap cdr_from (front ∙ is) ∙ cdr_same c in
    λ i. record { cdr = code i; content = content_from (major i) (minor i) (low i) }
