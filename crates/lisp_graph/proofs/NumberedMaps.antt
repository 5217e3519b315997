-- A map whose keys are 0, 1, 2 and so on, as the list of its values.
use Rattle.std.proofs.Common.{◌≡◌, ℕ, zero, suc, ◌+◌, ◌<◌, List, [], ◌∷◌, ◌++◌, length, get_or, take, set, Option, Some, None, IfSome, IsSome, ◌↔◌, refl, sym, ap, ◌∙◌, subst, arith}
use Rattle.std.specs.List.{slice_get, enumerate_from}
use Rattle.std.specs.Ordering.{nat_cmp}
use Rattle.std.specs.Map.{values_of, lookup, set_value}
use Rattle.std.specs.BTreeMap.{insert_entry, is_at}
use Rattle.std.specs.Option.{option_copied_mut}
use Rattle.std.specs.Borrow.{MutBor}
use Rattle.std.proofs.lemmas.Grind.{common_steps}
use Rattle.std.proofs.lemmas.List.{length-map, map-append}
use Rattle.std.proofs.lemmas.Option.{none-some, same_Some, slice_get-get_or}

module _ {X : Type 0} where
  -- the values of a list with its places are the list
  pub values-enumerate : (n : ℕ) (xs : List X) → values_of (enumerate_from n xs) ≡ xs
  values-enumerate n [] = refl
  values-enumerate n (x ∷ xs) = ap {B = List X} (λ r. x ∷ r) (values-enumerate (n + 1) xs)

  -- a look-up by a key is the element at its place
  pub lookup-enumerate : (m n k : ℕ) (xs : List X) → m ≡ n + k → lookup (is_at (nat_cmp m)) (enumerate_from n xs) ≡ slice_get xs k
  lookup-enumerate m n k [] e = refl
  lookup-enumerate m n zero (x ∷ xs) e = grind arith
  lookup-enumerate m n (suc k) (x ∷ xs) e = grind (arith, lookup-enumerate m (n + 1) k xs (omega arith))

  -- the next key goes to the end
  pub insert-enumerate : (m n : ℕ) (xs : List X) (x : X) → m ≡ n + length xs → insert_entry nat_cmp (enumerate_from n xs) m x ≡ enumerate_from n (xs ++ x ∷ [])
  insert-enumerate m n [] y e = grind arith
  insert-enumerate m n (x ∷ xs) y e = grind (arith, insert-enumerate m (n + 1) xs y (omega arith))

  -- a value at a key is written at its place
  pub set_value-enumerate : (m n k : ℕ) (xs : List X) (x : X) → m ≡ n + k → set_value (is_at (nat_cmp m)) (enumerate_from n xs) x ≡ enumerate_from n (set xs k x)
  set_value-enumerate m n k [] y e = refl
  set_value-enumerate m n zero (x ∷ xs) y e = grind arith
  set_value-enumerate m n (suc k) (x ∷ xs) y e = grind (arith, set_value-enumerate m (n + 1) k xs y (omega arith))

  -- the entries without the last
  pub enumerate_without_last : (n : ℕ) (es : List (ℕ × X)) (e : ℕ × X) → es ++ e ∷ [] ≡ enumerate_from n (values_of (es ++ e ∷ [])) → es ≡ enumerate_from n (values_of es)
  enumerate_without_last n [] e h = refl
  enumerate_without_last n (d ∷ es) e h =
      let tail : es ++ e ∷ [] ≡ enumerate_from (n + 1) (values_of (es ++ e ∷ [])) = cc in
      let head : d ≡ (n, d.1) = cc in
      let rest = enumerate_without_last (n + 1) es e tail in
      cc

  -- Entries whose keys are their places
  abbrev pub IsNumbered : List (ℕ × X) → Type 0
  IsNumbered es = es ≡ enumerate_from 0 (values_of es)

  -- a look-up, a new entry at the end, another value, and one entry less
  pub lookup-numbered : (es : List (ℕ × X)) (k : ℕ) → IsNumbered es → lookup (is_at (nat_cmp k)) es ≡ slice_get (values_of es) k
  lookup-numbered es k h = ap (lookup (is_at (nat_cmp k))) h ∙ lookup-enumerate k 0 k (values_of es) (omega arith)

  pub insert-numbered : (es fs : List (ℕ × X)) (k : ℕ) (x : X) → IsNumbered es → k ≡ length es → fs ≡ insert_entry nat_cmp es k x → IsNumbered fs × (values_of fs ≡ values_of es ++ x ∷ [])
  insert-numbered es fs k x h e i =
      let made : fs ≡ enumerate_from 0 (values_of es ++ x ∷ []) =
      i ∙ ap (λ (r : List (ℕ × X)). insert_entry nat_cmp r k x) h ∙ insert-enumerate k 0 (values_of es) x (omega (arith, length-map es (λ e. e.1))) in
      let value : values_of fs ≡ values_of es ++ x ∷ [] = ap values_of made ∙ values-enumerate 0 (values_of es ++ x ∷ []) in
      (made ∙ ap (enumerate_from 0) (sym value), value)

  pub set_value-numbered : (es fs : List (ℕ × X)) (k : ℕ) (x : X) → IsNumbered es → fs ≡ set_value (is_at (nat_cmp k)) es x → IsNumbered fs × (values_of fs ≡ set (values_of es) k x)
  set_value-numbered es fs k x h i =
      let made : fs ≡ enumerate_from 0 (set (values_of es) k x) =
      i ∙ ap (λ (r : List (ℕ × X)). set_value (is_at (nat_cmp k)) r x) h ∙ set_value-enumerate k 0 k (values_of es) x (omega arith) in
      let value : values_of fs ≡ set (values_of es) k x = ap values_of made ∙ values-enumerate 0 (set (values_of es) k x) in
      (made ∙ ap (enumerate_from 0) (sym value), value)

  -- a key below the length is there, with the value at its place
  pub found-numbered : (place : Option (MutBor X)) (es : List (ℕ × X)) (xs : List X) (k : ℕ) (d : X) → IsNumbered es → values_of es ≡ xs → k < length xs
      → option_copied_mut place ≡ lookup (is_at (nat_cmp k)) es → IsSome place × ((r : MutBor X) → place ≡ Some r → r.now ≡ get_or xs k d)
  found-numbered place es xs k d h v l e =
      at place (e ∙ lookup-numbered es k h ∙ ap (λ (r : List X). slice_get r k) v ∙ slice_get-get_or xs k d l)
    where
      at : (place : Option (MutBor X)) → option_copied_mut place ≡ Some (get_or xs k d) → IsSome place × ((r : MutBor X) → place ≡ Some r → r.now ≡ get_or xs k d)
      at None e = absurd (none-some _ e)
      at (Some r) e = (refl, λ s is. ap (λ (x : MutBor X). x.now) (same_Some s r (sym is)) ∙ same_Some _ _ e)

  pub pop-numbered : (es fs : List (ℕ × X)) (e : ℕ × X) → IsNumbered es → es ≡ fs ++ e ∷ [] → IsNumbered fs × (values_of es ≡ values_of fs ++ e.1 ∷ [])
  pop-numbered es fs e h i =
      let P : List (ℕ × X) → Type 0 = λ r. r ≡ enumerate_from 0 (values_of r) in
      (enumerate_without_last 0 fs e (subst P i h), ap values_of i ∙ map-append (λ d. d.1) fs (e ∷ []))

  -- after the last of more than n entries was removed
  pub take-pop : (n : ℕ) (o : Option (ℕ × X)) (es fs : List (ℕ × X)) → IsNumbered es → n < length es → IfSome o (λ p. es ≡ fs ++ p ∷ []) → IsSome o ↔ (0 < length es) → IsNumbered fs × (take n (values_of fs) ≡ take n (values_of es))
  take-pop n None es fs h l removal variant = let p : IsSome {T = ℕ × X} None = variant.1 (omega arith) in cc
  take-pop n (Some e) es fs h l removal variant =
      let p = pop-numbered es fs e h removal in
      (p.0, grind (arith, common_steps, p.1, length-map es (λ e. e.1), length-map fs (λ e. e.1)))
