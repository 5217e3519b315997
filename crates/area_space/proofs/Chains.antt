-- Chains of regions: how many words they use, and how many regions they are.
use Rattle.std.proofs.Common.{◌≡◌, ◌≢◌, ℕ, zero, suc, ◌+◌, ◌*◌, ◌<◌, ◌≤◌, Bool, true, eqb, ◌||◌, Some, List, [], ◌∷◌, ◌++◌, length, slice_index, slice_index_or, slice_set, refl, sym, ◌∙◌, ap, subst, arith, inl, inr, get_or-set_same, get_or-set_other, length-append}
use Rattle.std.specs.Prelude.{Contains}
use Rattle.std.specs.List.{list_any}
use Rattle.std.proofs.Math.Bool.{or-true}
use Rattle.std.proofs.lemmas.Bool.{cases_eq, or_left}
use Rattle.std.proofs.lemmas.Cmp.{nat_eq_equiv}
use Rattle.std.proofs.lemmas.List.Folds.{list_any-append}
use Rattle.std.proofs.lemmas.Map.Views.{list_any-from_Contains}
use Rattle.std.proofs.lemmas.Map.Steps.{le-length_from_below}
use Rattle.index_lists.specs.Chains.{last_of}
use Rattle.area_space.specs.Room.{words_in, IsPacked}
use Rattle.index_lists.specs.Members.{Has, Lacks, IsApart}
use Rattle.lisp_graph.specs.Totals.{total}
use Rattle.lisp_graph.proofs.Totals.{total-zero, total-suc, total-plus, total-cong}

-- each region but the last is more than half full
pub packed_length : (used : List ℕ) (xs : List ℕ) → IsPacked used xs → 2049 * length xs ≤ words_in used xs + 2049
packed_length used [] p = omega arith
packed_length used (r ∷ []) p = omega arith
packed_length used (r ∷ s ∷ rs) p = let i = packed_length used (s ∷ rs) p.1 in omega (arith, p.0)

-- the last one too
pub packed_full : (used : List ℕ) (xs : List ℕ) → IsPacked used xs → ((r : ℕ) → last_of xs ≡ Some r → 2048 < slice_index used r) → 2049 * length xs ≤ words_in used xs
packed_full used [] p l = omega arith
packed_full used (r ∷ []) p l = omega (arith, l r refl)
packed_full used (r ∷ s ∷ rs) p l = let i = packed_full used (s ∷ rs) p.1 l in omega (arith, p.0)

pub packed_push : (used : List ℕ) (xs : List ℕ) (n : ℕ) → IsPacked used xs → ((r : ℕ) → last_of xs ≡ Some r → 2048 < slice_index used r) → IsPacked used (xs ++ n ∷ [])
packed_push used [] n p l = tt
packed_push used (r ∷ []) n p l = (l r refl, tt)
packed_push used (r ∷ s ∷ rs) n p l = (p.0, packed_push used (s ∷ rs) n p.1 l)

pub packed_raise : (old new : List ℕ) → ((r : ℕ) → slice_index old r ≤ slice_index new r) → (xs : List ℕ) → IsPacked old xs → IsPacked new xs
packed_raise old new h [] p = tt
packed_raise old new h (r ∷ []) p = tt
packed_raise old new h (r ∷ s ∷ rs) p = (let a = h r in let b = p.0 in omega arith, packed_raise old new h (s ∷ rs) p.1)

-- packed with the same used words, if those of the chain's regions are the same
pub packed_same : (old new : List ℕ) (xs : List ℕ) → ((r : ℕ) → Has r xs → slice_index old r ≡ slice_index new r) → IsPacked old xs → IsPacked new xs
packed_same old new [] h p = tt
packed_same old new (r ∷ []) h p = tt
packed_same old new (r ∷ s ∷ rs) h p = (let a = h r (λ ne. absurd (ne refl)) in let b = p.0 in omega arith, packed_same old new (s ∷ rs) (λ q m. h q (λ _. m)) p.1)

pub words_in-append : (used xs ys : List ℕ) → words_in used (xs ++ ys) ≡ words_in used xs + words_in used ys
words_in-append used [] ys = omega arith
words_in-append used (x ∷ xs) ys = let i = words_in-append used xs ys in omega arith

pub words_in-same : (old new : List ℕ) (xs : List ℕ) → ((r : ℕ) → Has r xs → slice_index old r ≡ slice_index new r) → words_in old xs ≡ words_in new xs
words_in-same old new [] h = refl
words_in-same old new (x ∷ xs) h =
    let a = h x (λ ne. absurd (ne refl)) in
    let i = words_in-same old new xs (λ q m. h q (λ _. m)) in
    omega arith

has_not_lacks_ne : (q r : ℕ) (xs : List ℕ) → Lacks q xs → Has r xs → r ≢ q
has_not_lacks_ne q r [] l h = absurd h
has_not_lacks_ne q r (x ∷ xs) l h =
    elim (cases_eq x r) [
      | inl e ↦ λ f. l.0 (e ∙ f)
      | inr ne ↦ has_not_lacks_ne q r xs l.1 (h ne)
    ]

pub words_in-lacks : (used : List ℕ) (q v : ℕ) (xs : List ℕ) → Lacks q xs → words_in (slice_set used q v) xs ≡ words_in used xs
words_in-lacks used q v xs l = sym (words_in-same used (slice_set used q v) xs (λ r m. sym (get_or-set_other used q r v 0 (has_not_lacks_ne q r xs l m))))

pub words_in-has : (used : List ℕ) (q w : ℕ) (xs : List ℕ) → q < length used → IsApart xs → Has q xs → words_in (slice_set used q (slice_index used q + w)) xs ≡ words_in used xs + w
words_in-has used q w [] b a h = absurd h
words_in-has used q w (x ∷ xs) b a h =
    elim (cases_eq x q) [
      | inl e ↦
          let same : slice_index (slice_set used q (slice_index used q + w)) x ≡ slice_index used q + w = rw e (get_or-set_same used q (slice_index used q + w) 0 b) in
          let rest : words_in (slice_set used q (slice_index used q + w)) xs ≡ words_in used xs = words_in-lacks used q (slice_index used q + w) xs (subst (λ (k : ℕ). Lacks k xs) e a.0) in
          let here : slice_index used x ≡ slice_index used q = ap (slice_index used) e in
          omega arith
      | inr ne ↦
          let other : slice_index (slice_set used q (slice_index used q + w)) x ≡ slice_index used x = get_or-set_other used q x (slice_index used q + w) 0 ne in
          let rest = words_in-has used q w xs b a.1 (h ne) in
          omega arith
    ]

pub last_of-append : (xs : List ℕ) (n : ℕ) → last_of (xs ++ n ∷ []) ≡ Some n
last_of-append [] n = refl
last_of-append (x ∷ []) n = refl
last_of-append (x ∷ y ∷ ys) n = last_of-append (y ∷ ys) n

pub has_last : (xs : List ℕ) (n : ℕ) → last_of xs ≡ Some n → Has n xs
has_last [] n e = absurd (cc)
has_last (x ∷ []) n e = λ ne. absurd (ne (cc))
has_last (x ∷ y ∷ ys) n e = λ ne. has_last (y ∷ ys) n e

-- all chains, one after another
abbrev pub joined : List (List ℕ) → List ℕ
joined [] = []
joined (xs ∷ rest) = xs ++ joined rest

pub joined-length : (all : List (List ℕ)) → length (joined all) ≡ total (λ c. length (slice_index_or all c [])) (length all)
joined-length [] = let none : List (List ℕ) = [] in let f : ℕ → ℕ = λ c. length (slice_index_or none c []) in sym (total-zero f)
joined-length (xs ∷ rest) =
    let f : ℕ → ℕ = λ c. length (slice_index_or (xs ∷ rest) c []) in
    let i = joined-length rest in
    let a = length-append xs (joined rest) in
    let b = total-plus f 1 (length rest) in
    let c = total-suc f 0 in
    let d = total-zero f in
    let e : total (λ l. f (1 + l)) (length rest) ≡ total (λ c. length (slice_index_or rest c [])) (length rest) = total-cong (λ l. f (1 + l)) (λ c. length (slice_index_or rest c [])) (length rest) (λ m l. let q : 1 + m ≡ suc m = omega arith in ap (λ (k : ℕ). length (slice_index_or (xs ∷ rest) k [])) q) in
    let g : total f (length (xs ∷ rest)) ≡ total f (1 + length rest) = ap (total f) (omega arith) in
    omega arith

any_joined : (all : List (List ℕ)) (c q : ℕ) → Contains (slice_index_or all c []) q → list_any (eqb q) (joined all) ≡ true
any_joined [] c q m = absurd (omega (arith, m.1))
any_joined (xs ∷ rest) zero q m = list_any-append (eqb q) xs (joined rest) ∙ or_left (list_any (eqb q) xs) (list_any (eqb q) (joined rest)) (list_any-from_Contains nat_eq_equiv q xs m)
any_joined (xs ∷ rest) (suc c) q m =
    list_any-append (eqb q) xs (joined rest) ∙ (ap (λ (b : Bool). list_any (eqb q) xs || b) (any_joined rest c q m) ∙ or-true (list_any (eqb q) xs))

-- if every region below n is in a chain, the chains have n regions together, or more
pub covered : (all : List (List ℕ)) (n : ℕ) → ((q : ℕ) → q < n → (c : ℕ) × Contains (slice_index_or all c []) q) → n ≤ total (λ c. length (slice_index_or all c [])) (length all)
covered all n h =
    let l = le-length_from_below (joined all) n (λ q b. any_joined all (h q b).0 q (h q b).1) in
    let e = joined-length all in
    omega arith
