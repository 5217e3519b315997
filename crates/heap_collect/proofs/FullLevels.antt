-- The set of the full levels.
use Rattle.std.proofs.Common.{◌≡◌, ℕ, zero, suc, ◌+◌, ◌*◌, ◌^◌, ◌<◌, ◌==◌, ◌||◌, Bool, true, false, not, ◌≢◌, ◌≤◌, ◌↔◌, Option, Some, None, IfSome, IsNone, if◌then◌else◌, pow_pos, ◌%◌, refl, sym, ◌∙◌, ap, arith}
use Rattle.std.proofs.Math.Nat.{pow-suc, pow-le-pow_right}
use Rattle.std.proofs.lemmas.Bool.{ne_eqb}
use Rattle.std.proofs.lemmas.Nat.{one_shl}
use Rattle.store_word.specs.declared.levels.Levels.{Levels}
use Rattle.store_word.specs.declared.space.Space.{Space}
use Rattle.lisp_graph.specs.Totals.{total, if_true}
use Rattle.lisp_graph.proofs.Totals.{total-zero, total-suc}
use Rattle.area_space.specs.Table.{Table}
use Rattle.heap_state.specs.lisp_meaning.Maps.{some_below}
use Rattle.heap_collect.specs.Silent.{full_bits, is_full_on, some_set}

abbrev pub bits_of : (ℕ → Bool) → ℕ → ℕ
bits_of p n = total (λ i. if_true (p i) (2 ^ i)) n

most : (b : Bool) (x : ℕ) → if_true b x ≤ x
most true x = omega arith
most false x = omega arith

-- one index more
pub one_more : (p : ℕ → Bool) (n : ℕ) (b : Bool) → p n ≡ b → bits_of p (suc n) ≡ if_true b (2 ^ n) + bits_of p n
one_more p n b e = total-suc (λ i. if_true (p i) (2 ^ i)) n ∙ ap (λ (x : Bool). if_true x (2 ^ n) + bits_of p n) e

some_zero : (p : ℕ → Bool) → some_below p 0 ≡ false
unfolding some_below
some_zero p = refl

some_suc : (p : ℕ → Bool) (n : ℕ) → some_below p (suc n) ≡ (p n || some_below p n)
unfolding some_below
some_suc p n = refl

-- it isn't empty if and only if some level is full
pub bits_some : (p : ℕ → Bool) (n : ℕ) → some_below p n ≡ not (bits_of p n == 0)
bits_some p zero = some_zero p ∙ ap (λ (x : ℕ). not (x == 0)) (sym (total-zero (λ i. if_true (p i) (2 ^ i))))
bits_some p (suc n) = go (p n) refl (bits_some p n)
  where
    go : (b : Bool) → p n ≡ b → some_below p n ≡ not (bits_of p n == 0) → some_below p (suc n) ≡ not (bits_of p (suc n) == 0)
    go true e i =
        let a = one_more p n true e in
        let q = pow_pos n in
        some_suc p n ∙ ap (λ (b : Bool). b || some_below p n) e ∙ sym (ap not (ne_eqb (bits_of p (suc n)) 0 (omega arith)))
    go false e i =
        let a : bits_of p (suc n) ≡ bits_of p n = (let x = one_more p n false e in omega arith) in
        some_suc p n ∙ ap (λ (b : Bool). b || some_below p n) e ∙ i ∙ sym (ap (λ (x : ℕ). not (x == 0)) a)

-- one level more, whether it is full or not
pub one_full : (t : Table) (space : Space) (n bits bits' : ℕ) (r : Bool) → r ≡ is_full_on t space (n + 1) → bits ≡ full_bits t space n → bits < 2 ^ n → bits' ≡ if_true r (2 ^ n) + bits → (bits' ≡ full_bits t space (n + 1)) × (bits' < 2 ^ (n + 1))
one_full t space n bits bits' r full is small more = go r full more
  where
    next : full_bits t space (n + 1) ≡ full_bits t space (suc n)
    next = ap (full_bits t space) (omega arith)

    here : is_full_on t space (n + 1) ≡ is_full_on t space (suc n)
    here = ap (is_full_on t space) (omega arith)

    power : 2 ^ (n + 1) ≡ 2 ^ n * 2
    power = ap (λ (k : ℕ). 2 ^ k) (omega arith) ∙ pow-suc 2 n

    go : (b : Bool) → b ≡ is_full_on t space (n + 1) → bits' ≡ if_true b (2 ^ n) + bits → (bits' ≡ full_bits t space (n + 1)) × (bits' < 2 ^ (n + 1))
    go b f m =
        let a = one_more (λ i. is_full_on t space (suc i)) n b (sym here ∙ sym f) in
        let e = next in
        let p = power in
        let q : if_true b (2 ^ n) ≤ 2 ^ n = most b (2 ^ n) in
        (omega arith, omega arith)

-- a shift of one by a level's index
pub shifted : (n : ℕ) → n < 6 → (1 * 2 ^ n) % 256 ≡ 2 ^ n
shifted n low = one_shl n 8 (omega arith)

pub pow_six : (n : ℕ) → n ≤ 6 → 2 ^ n ≤ 64
pow_six n low = pow-le-pow_right {n = 2} (omega arith) low

-- The set that bits say

pub from_set : (r : Option Levels) (bits : ℕ) → IfSome r (λ (levels : Levels). levels.0 ≡ bits) → IsNone r ↔ (64 ≤ bits) → bits < 64 → bits ≢ 0 → r ≡ some_set bits
from_set None bits value none small some = let few : 64 ≤ bits = none.0 refl in absurd (omega arith)
from_set (Some levels) bits value none small some =
    ap (λ (b : ℕ). let o : Option Levels = Some (record { 0 = b }) in o) value ∙ sym (ap (λ (b : Bool). let o : Option Levels = if b then None else Some (record { 0 = bits }) in o) (ne_eqb bits 0 some))

-- the set, if there is one
pub set_some : (bits : ℕ) (levels : Levels) → some_set bits ≡ Some levels → (levels ≡ record { 0 = bits }) × (not (bits == 0) ≡ true)
set_some bits levels e = go (bits == 0) e
  where
    go : (b : Bool) → (if b then None else Some (record { 0 = bits })) ≡ Some levels → (levels ≡ record { 0 = bits }) × (not b ≡ true)
    go true x = absurd (cc)
    go false x = (cc, refl)

-- and if none is
pub set_none : (bits : ℕ) → some_set bits ≡ None → not (bits == 0) ≡ false
set_none bits e = go (bits == 0) e
  where
    go : (b : Bool) → (let o : Option Levels = if b then None else Some (record { 0 = bits }) in o) ≡ None → not b ≡ false
    go true x = refl
    go false x = absurd (cc)
