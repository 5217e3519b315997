-- The law of marks on a ground.
use Rattle.std.proofs.Common.{◌≡◌, ℕ, ◌-◌, ◌/◌, ◌<◌, ◌≤◌, ◌⊎◌, inl, inr, Bool, true, false, ◌&&◌, ◌==◌, IsTrue, nat_lt, get_or, slice_get, slice_index, refl, sym, ◌∙◌, ap, subst, arith, Some}
use Rattle.std.specs.Int.{bit_at}
use Rattle.std.proofs.lemmas.Bool.{lt-ltb, eq-eqb}
use Rattle.area_space.specs.store_word.Words.{null_word, address_of}
use Rattle.area_space.specs.store_word.Sets.{HasLevel}
use Rattle.area_space.specs.mem_port.Store.{Store, MarksHold, level_of_address, level_of_word}
use Rattle.area_space.specs.Table.{Table, IsUnclassed, IsLive, IsOld}
use Rattle.area_space.specs.Flips.{has_level}
use Rattle.area_space.specs.Sound.{IsTable}
use Rattle.area_space.specs.Ground.{IsGround, NamesNoFree}
use Rattle.lisp_meaning.specs.Image.{Region, is_free, region, word}
use Rattle.lisp_meaning.specs.Marks.{Marks}
use Rattle.lisp_ground.specs.Image.{Rest, region_at, image_of, no_rest, ground_image}
use Rattle.lisp_ground.proofs.regions.Owners.{region_cases}
use Rattle.lisp_ground.proofs.regions.Regions.{region_is, region_live, region_old, not_free_region}
use Rattle.lisp_ground.proofs.words.Words.{with_address}

-- no word of the image has an address in a free region
pub names_no_free : (s : Store) (t : Table) (rest : Rest) (a b : ℕ) → IsTable t → NamesNoFree s t
    → address_of (get_or s.words a null_word).content ≡ Some b → is_free (region (image_of s t rest) b).standing ≡ false
names_no_free s t rest a b v named has =
    ap (λ (r : Region). is_free r.standing) (region_is s t rest (b / 4096) v)
    ∙ not_free_region t (b / 4096) (named a b (get_or s.words a null_word) (with_address s.words a b has) has)

pub ground_marks : (s : Store) (t : Table) → IsTable t → NamesNoFree s t → Marks (ground_image s t)
ground_marks s t v named = record {
  marked = λ a b has high. refl;
  not_free = λ a b has. names_no_free s t no_rest a b v named has;
}

-- the level of a region that isn't free is that of the memory
pub level_agrees : (s : Store) (t : Table) (r : ℕ) → IsTable t → IsGround s t → (IsUnclassed t r → ⊥) → (region_at t r).level ≡ slice_index s.levels r
level_agrees s t r v g ne = by_chain (region_cases t r)
  where
    by_chain : IsUnclassed t r ⊎ (IsLive t r ⊎ IsOld t r) → (region_at t r).level ≡ slice_index s.levels r
    by_chain (inl free) = absurd (ne free)
    by_chain (inr (inl m)) = ap (λ (x : Region). x.level) (region_live t r m.0 v m.1) ∙ sym (g.level_live m.0 r m.1)
    by_chain (inr (inr m)) = ap (λ (x : Region). x.level) (region_old t r m.0 v m.1) ∙ sym (g.level_old m.0 r m.1)

set_has : (set level : ℕ) → 1 ≤ level → HasLevel set level → IsTrue (has_level set level)
set_has set level high has =
    let low : nat_lt 0 level ≡ true = lt-ltb 0 level high in
    let bit : (bit_at set (level - 1) == 1) ≡ true = eq-eqb (bit_at set (level - 1)) 1 has in
    ap (λ (b : Bool). b && (bit_at set (level - 1) == 1)) low ∙ bit

-- the marks of a memory keep the law of marks of its image
pub image_marks : (s : Store) (t : Table) (rest : Rest) → IsTable t → IsGround s t → NamesNoFree s t → MarksHold s → Marks (image_of s t rest)
image_marks s t rest v g named marks = record { marked = marked; not_free = λ a b has. names_no_free s t rest a b v named has }
  where
    marked : (a b : ℕ) → address_of (word (image_of s t rest) a).content ≡ Some b → 1 ≤ (region (image_of s t rest) b).level
        → IsTrue (has_level (s.marks (a / 256)) (region (image_of s t rest) b).level)
    marked a b has high =
        let w = get_or s.words a null_word in
        let there : slice_get s.words a ≡ Some w = with_address s.words a b has in
        let same : (region (image_of s t rest) b).level ≡ level_of_word s.levels w =
        ap (λ (r : Region). r.level) (region_is s t rest (b / 4096) v)
        ∙ level_agrees s t (b / 4096) v g (named a b w there has)
        ∙ sym (ap (level_of_address s.levels) has) in
        let up : 0 < level_of_word s.levels w = omega arith in
        subst (λ (l : ℕ). IsTrue (has_level (s.marks (a / 256)) l)) (sym same) (set_has (s.marks (a / 256)) (level_of_word s.levels w) up (marks a w there up))
