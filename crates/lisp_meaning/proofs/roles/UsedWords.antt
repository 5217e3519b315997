-- What is used is what has a role, after words were placed and an object was laid there.
use Rattle.std.proofs.Common.{◌≡◌, ℕ, ◌+◌, ◌-◌, ◌<◌, ◌≤◌, ◌⊎◌, inl, inr, true, false, sym, ◌∙◌, ap, arith, List, IsTrue}
use Rattle.lisp_graph.specs.store_word.Words.{Parts}
use Rattle.lisp_meaning.specs.reading.Classes.{Class, class_at, region_of, classes}
use Rattle.lisp_meaning.specs.reading.Image.{Image, region, is_free, is_used, Live}
use Rattle.lisp_meaning.specs.invariants.Invariant.{Covered}
use Rattle.lisp_meaning.specs.invariants.Placed.{Placed}
use Rattle.lisp_meaning.specs.invariants.Roles.{Blank, Scratch, RoleMap}
use Rattle.lisp_meaning.proofs.layout.Layout.{between_which}

-- the new words have roles; another word keeps its role, or has another that says something
pub record NewRoles (k k' : RoleMap) (b count : ℕ) : Type 0 where
  pub inside : (c : ℕ) → b ≤ c → c < b + count → (k'.role c ≡ Blank → ⊥) × (k'.role c ≡ Scratch → ⊥)
  pub outside : (c : ℕ) → ((b ≤ c) × (c < b + count) → ⊥) → (k'.role c ≡ k.role c) ⊎ ((k.role c ≡ Blank → ⊥) × (k'.role c ≡ Blank → ⊥) × (k'.role c ≡ Scratch → ⊥))

module _ (g g1 : Image) (k k' : RoleMap) (b count area level : ℕ) (h : Covered g k) (p : Placed g g1 b count area level) (r : NewRoles k k' b count) (ws : List Parts) where
  live_word : (a : ℕ) → (b ≤ a) × (a < b + count) → class_at (classes g1) a ≡ record { area = area; level = level; standing = Live }
  live_word a x = let l = x.0 in let y = x.1 in ap (classes g1) (ap region_of (let z : a ≡ b + (a - b) = omega arith in z) ∙ p.near (a - b) (omega arith)) ∙ p.class_there

  pub covered_again : Covered (record g1 { words = ws }) k'
  covered_again = record {
    used = λ a u e. used a u e (between_which b count a);
    unused = λ a u. unused a u (between_which b count a);
    free = λ a u. free a u (between_which b count a);
    done = λ a e. done a e (between_which b count a);
  }
    where
      not_blank : (a : ℕ) → (k.role a ≡ Blank → ⊥) → (k'.role a ≡ k.role a) ⊎ ((k.role a ≡ Blank → ⊥) × (k'.role a ≡ Blank → ⊥) × (k'.role a ≡ Scratch → ⊥)) → k'.role a ≡ Blank → ⊥
      not_blank a f (inl e) z = f (sym e ∙ z)
      not_blank a f (inr e) z = e.1 z

      blank : (a : ℕ) → k.role a ≡ Blank → (k'.role a ≡ k.role a) ⊎ ((k.role a ≡ Blank → ⊥) × (k'.role a ≡ Blank → ⊥) × (k'.role a ≡ Scratch → ⊥)) → k'.role a ≡ Blank
      blank a z (inl e) = e ∙ z
      blank a z (inr e) = absurd (e.0 z)

      not_scratch : (a : ℕ) → (k'.role a ≡ k.role a) ⊎ ((k.role a ≡ Blank → ⊥) × (k'.role a ≡ Blank → ⊥) × (k'.role a ≡ Scratch → ⊥)) → k'.role a ≡ Scratch → ⊥
      not_scratch a (inl e) z = h.done a (sym e ∙ z)
      not_scratch a (inr e) z = e.2 z

      used : (a : ℕ) → IsTrue (is_used g1 a) → k'.role a ≡ Blank → ((b ≤ a) × (a < b + count)) ⊎ ((b ≤ a) × (a < b + count) → ⊥) → ⊥
      used a u e (inl x) = (r.inside a x.0 x.1).0 e
      used a u e (inr x) = not_blank a (h.used a (sym (p.used_out a x) ∙ u)) (r.outside a x) e

      unused : (a : ℕ) → is_used g1 a ≡ false → ((b ≤ a) × (a < b + count)) ⊎ ((b ≤ a) × (a < b + count) → ⊥) → k'.role a ≡ Blank
      unused a u (inl x) = let y = p.used_in a x.0 x.1 in cc
      unused a u (inr x) = blank a (h.unused a (sym (p.used_out a x) ∙ u)) (r.outside a x)

      free : (a : ℕ) → is_free (region g1 a).standing ≡ true → ((b ≤ a) × (a < b + count)) ⊎ ((b ≤ a) × (a < b + count) → ⊥) → k'.role a ≡ Blank
      free a u (inl x) = let y : is_free (region g1 a).standing ≡ false = ap (λ (q : Class). is_free q.standing) (live_word a x) in cc
      free a u (inr x) = blank a (h.free a (p.free a u)) (r.outside a x)

      done : (a : ℕ) → k'.role a ≡ Scratch → ((b ≤ a) × (a < b + count)) ⊎ ((b ≤ a) × (a < b + count) → ⊥) → ⊥
      done a e (inl x) = (r.inside a x.0 x.1).1 e
      done a e (inr x) = not_scratch a (r.outside a x) e
