-- What the roles are after words were written and an object was laid there: the premises on roles of the lemmas on the whole invariant.
use Rattle.std.proofs.Common.{◌≡◌, ℕ, ◌+◌, ◌-◌, ◌<◌, ◌≤◌, ◌⊎◌, inl, inr, true, sym, ◌∙◌, ap, arith, Some}
use Rattle.std.proofs.lemmas.Bool.{cases_eq, cases_lt}
use Rattle.lisp_meaning.specs.invariants.ChargesIn.{is_of_husk}
use Rattle.lisp_meaning.specs.invariants.Laid.{scratched, Shape, size, laid}
use Rattle.lisp_meaning.specs.invariants.Roles.{Role, Blank, Scratch, owner, RoleMap}
use Rattle.lisp_meaning.proofs.roles.UsedWords.{NewRoles}
use Rattle.lisp_meaning.proofs.reading.Husks.{owned_no_husk}
use Rattle.lisp_meaning.proofs.layout.Layout.{between_which, role_new, role_first, role_rest, role_else}
use Rattle.lisp_meaning.proofs.layout.ObjectWords.{owner_in}

module _ (k : RoleMap) (n a gone b : ℕ) (shape : Shape) (first rest : Role) (age : ℕ)
    (only : (j : ℕ) → j < gone → owner ((scratched k b (size shape)).role (a + j)) ≡ Some n)
    (inside : (c : ℕ) → (b ≤ c) × (c < b + size shape) → (scratched k b (size shape)).role c ≡ Scratch)
    (outside : (c : ℕ) → ((b ≤ c) × (c < b + size shape) → ⊥) → (scratched k b (size shape)).role c ≡ k.role c)
    (first_blank : first ≡ Blank → ⊥) (first_scratch : first ≡ Scratch → ⊥) (rest_blank : rest ≡ Blank → ⊥) (rest_scratch : rest ≡ Scratch → ⊥) where
  scratch : (j : ℕ) → j < size shape → (scratched k b (size shape)).role (b + j) ≡ Scratch
  scratch j l = inside (b + j) (omega arith, omega arith)

  owned_not : (r : Role) → owner r ≡ Some n → (r ≡ Blank → ⊥) × (r ≡ Scratch → ⊥)
  owned_not r o = (λ z. (let x = ap owner z in cc), λ z. (let x = ap owner z in cc))

  role_there : (c : ℕ) → b ≤ c → c < b + size shape → owner ((laid (scratched k b (size shape)) n a gone b shape first rest age).role c) ≡ Some n
  role_there c l h =
      ap (λ (i : ℕ). owner ((laid (scratched k b (size shape)) n a gone b shape first rest age).role i)) (let z : c ≡ b + (c - b) = omega arith in z)
      ∙ ap owner (role_new (scratched k b (size shape)) n a gone b shape first rest age only scratch (c - b) (omega arith)) ∙ owner_in shape n (c - b)

  laid_new_roles : (c : ℕ) → b ≤ c → c < b + size shape
      → ((laid (scratched k b (size shape)) n a gone b shape first rest age).role c ≡ Blank → ⊥) × ((laid (scratched k b (size shape)) n a gone b shape first rest age).role c ≡ Scratch → ⊥)
  laid_new_roles c l h = owned_not _ (role_there c l h)

  laid_old_roles : (c : ℕ) → ((b ≤ c) × (c < b + size shape) → ⊥)
      → ((laid (scratched k b (size shape)) n a gone b shape first rest age).role c ≡ k.role c)
      ⊎ ((k.role c ≡ Blank → ⊥) × ((laid (scratched k b (size shape)) n a gone b shape first rest age).role c ≡ Blank → ⊥) × ((laid (scratched k b (size shape)) n a gone b shape first rest age).role c ≡ Scratch → ⊥))
  laid_old_roles c out = go (between_which a gone c) (cases_eq c a)
    where
      old_owner : (a ≤ c) × (c < a + gone) → owner (k.role c) ≡ Some n
      old_owner x = let l = x.0 in let h = x.1 in
          ap owner (sym (outside c out)) ∙ ap (λ (i : ℕ). owner ((scratched k b (size shape)).role i)) (let z : c ≡ a + (c - a) = omega arith in z) ∙ only (c - a) (omega arith)

      go : ((a ≤ c) × (c < a + gone)) ⊎ ((a ≤ c) × (c < a + gone) → ⊥) → (c ≡ a) ⊎ (c ≡ a → ⊥)
          → ((laid (scratched k b (size shape)) n a gone b shape first rest age).role c ≡ k.role c)
          ⊎ ((k.role c ≡ Blank → ⊥) × ((laid (scratched k b (size shape)) n a gone b shape first rest age).role c ≡ Blank → ⊥) × ((laid (scratched k b (size shape)) n a gone b shape first rest age).role c ≡ Scratch → ⊥))
      go (inr x) t = inl (role_else (scratched k b (size shape)) n a gone b shape first rest age only scratch c out x ∙ outside c out)
      go (inl x) (inl z) =
          let l = x.0 in let h = x.1 in
          let r = ap (laid (scratched k b (size shape)) n a gone b shape first rest age).role z ∙ role_first (scratched k b (size shape)) n a gone b shape first rest age only scratch (omega arith) in
          inr ((owned_not (k.role c) (old_owner x)).0, (λ y. first_blank (sym r ∙ y)), (λ y. first_scratch (sym r ∙ y)))
      go (inl x) (inr ne) =
          let r = role_rest (scratched k b (size shape)) n a gone b shape first rest age only scratch c x ne in
          inr ((owned_not (k.role c) (old_owner x)).0, (λ y. rest_blank (sym r ∙ y)), (λ y. rest_scratch (sym r ∙ y)))

  -- a word of a husk has its role still, or the role is new: the first old word's, or that of the rest
  pub laid_where : (c : ℕ) → is_of_husk ((laid (scratched k b (size shape)) n a gone b shape first rest age).role c) ≡ true
      → ((laid (scratched k b (size shape)) n a gone b shape first rest age).role c ≡ k.role c)
      ⊎ ((c ≡ a) × (0 < gone) × ((laid (scratched k b (size shape)) n a gone b shape first rest age).role c ≡ first))
      ⊎ ((a < c) × (c < a + gone) × ((laid (scratched k b (size shape)) n a gone b shape first rest age).role c ≡ rest))
  laid_where c e = go (between_which b (size shape) c) (between_which a gone c) (cases_eq c a)
    where
      go : ((b ≤ c) × (c < b + size shape)) ⊎ ((b ≤ c) × (c < b + size shape) → ⊥) → ((a ≤ c) × (c < a + gone)) ⊎ ((a ≤ c) × (c < a + gone) → ⊥) → (c ≡ a) ⊎ (c ≡ a → ⊥)
          → ((laid (scratched k b (size shape)) n a gone b shape first rest age).role c ≡ k.role c)
          ⊎ ((c ≡ a) × (0 < gone) × ((laid (scratched k b (size shape)) n a gone b shape first rest age).role c ≡ first))
          ⊎ ((a < c) × (c < a + gone) × ((laid (scratched k b (size shape)) n a gone b shape first rest age).role c ≡ rest))
      go (inl x) y t = let z = owned_no_husk ((laid (scratched k b (size shape)) n a gone b shape first rest age).role c) n (role_there c x.0 x.1) in cc
      go (inr out) (inr x) t = inl (role_else (scratched k b (size shape)) n a gone b shape first rest age only scratch c out x ∙ outside c out)
      go (inr out) (inl x) (inl z) =
          let l = x.0 in let h = x.1 in
          let some : 0 < gone = omega arith in
          inr (inl (z, some, ap (laid (scratched k b (size shape)) n a gone b shape first rest age).role z ∙ role_first (scratched k b (size shape)) n a gone b shape first rest age only scratch some))
      go (inr out) (inl x) (inr ne) =
          let l = x.0 in
          let later : a < c = past ne l in
          inr (inr (later, x.1, role_rest (scratched k b (size shape)) n a gone b shape first rest age only scratch c x ne))
        where
          past : (c ≡ a → ⊥) → a ≤ c → a < c
          past ne l = at (cases_lt a c)
            where
              at : (a < c) ⊎ (c ≤ a) → a < c
              at (inl q) = q
              at (inr q) = absurd (ne (omega arith))

  pub laid_roles : NewRoles k (laid (scratched k b (size shape)) n a gone b shape first rest age) b (size shape)
  laid_roles = record { inside = laid_new_roles; outside = laid_old_roles }
