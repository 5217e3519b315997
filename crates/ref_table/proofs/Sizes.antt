-- A balanced tree of n pages is at most twice the logarithm of n high.
use Rattle.std.proofs.Common.{◌≡◌, ℕ, ◌+◌, ◌-◌, ◌*◌, ◌≤◌, max, arith, inl, inr, ◌/◌, ◌^◌, length, length-append, ◌∷◌}
use Rattle.std.proofs.lemmas.Bool.{cases_lt}
use Rattle.std.proofs.lemmas.Nat.{pow-add}
use Rattle.std.proofs.Math.Pow.{pow_mono}
use Rattle.ref_table.specs.Tree.{Tree, height, in_order, IsOrdered, IsBalanced, Leaf, Fork}

length-in_order : (l : Tree) (p : ℕ) (r : Tree) → length (in_order (Fork l p r)) ≡ length (in_order l) + length (in_order r) + 1
length-in_order l p r = let n = length-append (in_order l) (p ∷ in_order r) in omega arith

-- a tree of height h has at least 2 ^ (h / 2) - 1 pages
pub height_law : (t : Tree) → IsBalanced t → 2 ^ (height t / 2) ≤ length (in_order t) + 1
height_law Leaf u = omega arith
height_law (Fork l p r) u =
    let u0 = u.0 in let u1 = u.1 in
    let a = height_law l u.2.0 in let b = height_law r u.2.1 in let n = length-in_order l p r in
    elim (cases_lt (max (height l) (height r)) 1) [
      | inl low ↦ let e : (max (height l) (height r) + 1) / 2 ≡ 0 = omega arith in rw e (omega arith)
      | inr high ↦
          let h : ℕ = (max (height l) (height r) - 1) / 2 in
          let e : (max (height l) (height r) + 1) / 2 ≡ h + 1 = omega arith in
          let x = (let few : h ≤ height l / 2 = omega arith in pow_mono few) in
          let y = (let few : h ≤ height r / 2 = omega arith in pow_mono few) in
          let d : 2 ^ (h + 1) ≡ 2 ^ h * 2 = pow-add 2 h 1 in
          rw e (omega (arith, d, x, y, a, b, n))
    ]

-- a tree of pages between two bounds has no more pages than there are between them
pub size_fits : (lo hi : ℕ) (t : Tree) → lo ≤ hi → IsOrdered lo hi t → length (in_order t) + lo ≤ hi
size_fits lo hi Leaf a o = omega arith
size_fits lo hi (Fork l p r) a o =
    let x = size_fits lo p l o.0 o.2.0 in let y = size_fits (p + 1) hi r (omega (arith, o.1)) o.2.1 in let n = length-in_order l p r in omega arith

-- 16,384 pages make a tree of height 29 at most
pub height_low : (n : ℕ) (t : Tree) → n ≤ 16384 → IsOrdered 0 n t → IsBalanced t → height t ≤ 29
height_low n t few o u =
    let a = height_law t u in let b = size_fits 0 n t (omega arith) o in
    elim (cases_lt 29 (height t)) [
      | inl high ↦ let x = (let many : 15 ≤ height t / 2 = omega arith in pow_mono many) in absurd (omega (arith, x, a, b))
      | inr low ↦ low
    ]
