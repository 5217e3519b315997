-- The bytes that were read into the front of a buffer.
use Rattle.std.proofs.Common.{◌≡◌, ℕ, ◌+◌, ◌-◌, ◌≤◌, min, List, ◌++◌, length, take, drop, ◌∙◌, ap, subst, arith, take-append-drop}
use Rattle.std.proofs.lemmas.List.{take_at, length-take, length-drop}
use Rattle.band_store.specs.declared.format.HeaderState.{HeaderState}
use Rattle.band_store.specs.Gates.{IsGate}

-- the front of the buffer is the front of what had to be read
front_read : (n : ℕ) (into room tail : List ℕ) → n ≤ length room → n ≤ length tail → into ≡ take (length (take n room)) tail → take n (into ++ drop n room) ≡ take n tail
front_read n into room tail fits enough is =
    let long : length (take n room) ≡ n = omega (arith, length-take n room) in
    let same : into ≡ take n tail = is ∙ ap (λ (k : ℕ). take k tail) long in
    take_at into (drop n room) n (omega (arith, ap length same, length-take n tail)) ∙ same

pub gate_read : (n gate left : ℕ) (into room bytes : List ℕ) (found : HeaderState) → length room ≡ 22 → n ≡ min left 22 → left ≡ length bytes - gate → into ≡ take (length (take n room)) (drop gate bytes)
    → ((rest : List ℕ) → length (take n (into ++ drop n room)) + length rest ≡ left → IsGate (take n (into ++ drop n room) ++ rest) found) → IsGate (drop gate bytes) found
gate_read n gate left into room bytes found long is_n is_left is gates =
    let tail = drop gate bytes in
    let size = length-drop gate bytes in
    let same = front_read n into room tail (omega arith) (omega arith) is in
    subst (λ (l : List ℕ). IsGate l found) (ap (λ (l : List ℕ). l ++ drop n tail) same ∙ take-append-drop n tail)
    (gates (drop n tail) (omega (arith, ap length same, length-take n tail, length-drop n tail)))

-- bytes that were read into the whole of a list
pub list_read : (n size at long : ℕ) (into items out bytes : List ℕ) → long ≡ n → n ≡ size → at + size ≤ length bytes → into ≡ take long (drop at bytes) → out ≡ take n (into ++ drop (length into) items) → out ≡ take size (drop at bytes)
list_read n size at long into items out bytes same_long same_size within is is_out =
    let same : into ≡ take size (drop at bytes) = is ∙ ap (λ (k : ℕ). take k (drop at bytes)) (same_long ∙ same_size) in
    is_out ∙ take_at into (drop (length into) items) n (omega (arith, ap length same, length-take size (drop at bytes), length-drop at bytes)) ∙ same
