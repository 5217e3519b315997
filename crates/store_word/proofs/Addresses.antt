-- Which tags have an address.
use Rattle.std.proofs.Common.{ℕ, zero, suc, ◌≡◌, ◌≢◌, ◌<◌, ◌^◌, ◌+◌, ◌*◌, ◌%◌, ◌/◌, Some, None, refl, arith, ap, ◌∙◌}
use Rattle.std.proofs.Math.Nat.{div-eq_of_lt}
use Rattle.std.proofs.lemmas.Nat.{pow_below}
use Rattle.store_word.specs.Words.{parts_from, address_of, content_from, IsWord}

-- the bit of a tag says whether the word has an address
record IsTold (bit m k low : ℕ) : Type 0 where
  yes : bit ≡ 1 → address_of (content_from m k low) ≡ Some (low % 2 ^ 28)
  no : bit ≢ 1 → address_of (content_from m k low) ≡ None

far : (k : ℕ) → 108 / 2 ^ (16 + k) % 2 ≡ 0
far k =
    let low : 2 ^ 7 < 2 ^ (16 + k) = pow_below 7 (16 + k) (omega arith) in
    ap (λ n. n % 2) (div-eq_of_lt (omega (arith, low)))

told : (m k low : ℕ) → m < 2 → (m ≡ 0 → k < 7) → IsTold (108 / 2 ^ (m * 16 + k) % 2) m k low
told zero zero low a b = record { yes = λ e. absurd (omega (arith, e)); no = λ _. refl }
told zero (suc zero) low a b = record { yes = λ e. absurd (omega (arith, e)); no = λ _. refl }
told zero (suc (suc zero)) low a b = record { yes = λ _. refl; no = λ e. absurd (e refl) }
told zero (suc (suc (suc zero))) low a b = record { yes = λ _. refl; no = λ e. absurd (e refl) }
told zero (suc (suc (suc (suc zero)))) low a b = record { yes = λ e. absurd (omega (arith, e)); no = λ _. refl }
told zero (suc (suc (suc (suc (suc zero))))) low a b = record { yes = λ _. refl; no = λ e. absurd (e refl) }
told zero (suc (suc (suc (suc (suc (suc zero)))))) low a b = record { yes = λ _. refl; no = λ e. absurd (e refl) }
told zero (suc (suc (suc (suc (suc (suc (suc k))))))) low a b = absurd (omega (arith, b refl))
told (suc zero) k low a b = record { yes = λ e. absurd (omega (arith, e, far k)); no = λ _. refl }
told (suc (suc m)) k low a b = absurd (omega arith)

-- the tag of a word is in bits 33 to 28
pub tag_told : (n : ℕ) → IsWord n → (108 / 2 ^ (n / 2 ^ 28 % 64) % 2 ≡ 1 → address_of (parts_from n).content ≡ Some (n % 2 ^ 28)) × (108 / 2 ^ (n / 2 ^ 28 % 64) % 2 ≢ 1 → address_of (parts_from n).content ≡ None)
tag_told n h =
    let key : n / 2 ^ 28 % 64 ≡ n / 2 ^ 32 % 4 * 16 + n / 2 ^ 28 % 16 = omega arith in
    let low : n % 2 ^ 32 % 2 ^ 28 ≡ n % 2 ^ 28 = omega arith in
    let t = told (n / 2 ^ 32 % 4) (n / 2 ^ 28 % 16) (n % 2 ^ 32) h.major h.minor in
    rw key ((λ e. t.yes e ∙ ap (λ (k : ℕ). Some k) low), t.no)
