-- Every region except the last of its chain is more than half full.
use Rattle.std.proofs.Common.{◌≡◌, ℕ, ◌<◌, true, false, List, [], ◌∷◌, get_or, slice_index, refl, sym, ◌∙◌, ap, subst, inl, inr, Option, Some, None}
use Rattle.std.proofs.lemmas.Bool.{cases_eq, eq-eqb}
use Rattle.area_space.specs.index_lists.Members.{Has}
use Rattle.area_space.specs.index_lists.Chains.{last_of}
use Rattle.area_space.proofs.index_lists.Members.{has_from_contains}
use Rattle.area_space.specs.mem_port.Store.{Store}
use Rattle.area_space.specs.Table.{Table, chain}
use Rattle.area_space.specs.Room.{IsPacked}
use Rattle.area_space.specs.Sound.{IsTable}
use Rattle.lisp_meaning.specs.Image.{Region, no_region, is_free}
use Rattle.lisp_ground.specs.Image.{Rest, class_with, is_at, is_end_of, image_of}
use Rattle.lisp_ground.proofs.regions.Owners.{class_has, class_free}
use Rattle.lisp_ground.proofs.regions.Regions.{region_is, region_free}
use Rattle.lisp_ground.proofs.words.UsedWords.{used_is}

packed_inner : (used xs : List ℕ) (r : ℕ) → IsPacked used xs → Has r xs → is_at (last_of xs) r ≡ false → 2048 < slice_index used r
packed_inner used [] r p m last = absurd m
packed_inner used (x ∷ []) r p m last =
    elim (cases_eq x r) [
      | inl e ↦ (let yes = eq-eqb x r e in absurd cc)
      | inr ne ↦ absurd (m ne)
    ]
packed_inner used (x ∷ y ∷ ys) r p m last =
    elim (cases_eq x r) [
      | inl e ↦ subst (λ (k : ℕ). 2048 < slice_index used k) e p.0
      | inr ne ↦ packed_inner used (y ∷ ys) r p.1 (m ne) last
    ]

-- so the regions of the image are
pub image_packed : (s : Store) (t : Table) (rest : Rest) (i : ℕ) → IsTable t
    → is_free (get_or (image_of s t rest).regions i no_region).standing ≡ false → (image_of s t rest).is_last i ≡ false → 2048 < (get_or (image_of s t rest).regions i no_region).used
image_packed s t rest i v busy inner = by_class (class_with t i) refl
  where
    by_class : (o : Option ℕ) → class_with t i ≡ o → 2048 < (get_or (image_of s t rest).regions i no_region).used
    by_class None e =
        let free : is_free (get_or (image_of s t rest).regions i no_region).standing ≡ true =
        ap (λ (x : Region). is_free x.standing) (region_is s t rest i v ∙ region_free t i (class_free t i e)) in
        absurd cc
    by_class (Some c) e =
        let m = class_has t i c e in
        let inner_too : is_end_of t i (Some c) ≡ false = sym (ap (is_end_of t i) e) ∙ inner in
        let more = packed_inner t.used (chain t c) i (v.packed c) (has_from_contains i (chain t c) m.0 m.1 m.2) inner_too in
        subst (λ (n : ℕ). 2048 < n) (sym (ap (λ (x : Region). x.used) (region_is s t rest i v) ∙ used_is t i v)) more
