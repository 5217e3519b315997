-- The used words of a ground's image.
use Rattle.std.proofs.Common.{◌≡◌, ◌≢◌, ℕ, ◌+◌, ◌*◌, ◌/◌, ◌<◌, ◌⊎◌, inl, inr, Bool, get_or, nat_lt, sym, ◌∙◌, ap, arith}
use Rattle.area_space.specs.lisp_graph.Totals.{total, if_true}
use Rattle.area_space.proofs.lisp_graph.Totals.{total-cong, total-at}
use Rattle.area_space.specs.mem_port.Store.{Store}
use Rattle.area_space.specs.Table.{Table, used_of, IsUnclassed, IsLive, IsOld}
use Rattle.area_space.specs.Sound.{IsTable}
use Rattle.lisp_meaning.specs.Image.{Region, no_region, is_used, used_words}
use Rattle.lisp_ground.specs.Image.{Rest, region_at, image_of}
use Rattle.lisp_ground.proofs.regions.Owners.{region_cases}
use Rattle.lisp_ground.proofs.regions.Regions.{regions_count, region_is, region_free, region_live, region_old}

-- a region of the image uses what the table says
pub used_is : (t : Table) (r : ℕ) → IsTable t → (region_at t r).used ≡ used_of t r
used_is t r v = by_chain (region_cases t r)
  where
    by_chain : IsUnclassed t r ⊎ (IsLive t r ⊎ IsOld t r) → (region_at t r).used ≡ used_of t r
    by_chain (inl free) = ap (λ (x : Region). x.used) (region_free t r free) ∙ sym (v.blank r free)
    by_chain (inr (inl m)) = ap (λ (x : Region). x.used) (region_live t r m.0 v m.1)
    by_chain (inr (inr m)) = ap (λ (x : Region). x.used) (region_old t r m.0 v m.1)

-- which addresses are used
pub is_used_as : (s : Store) (t : Table) (rest : Rest) (a : ℕ) → IsTable t → is_used (image_of s t rest) a ≡ nat_lt a (4096 * (a / 4096) + used_of t (a / 4096))
is_used_as s t rest a v =
    ap (λ (r : Region). nat_lt a (4096 * (a / 4096) + r.used)) (region_is s t rest (a / 4096) v)
    ∙ ap (λ (n : ℕ). nat_lt a (4096 * (a / 4096) + n)) (used_is t (a / 4096) v)

-- a region's used words, if it passes; otherwise 0
abbrev pub used_where : Table → (Region → Bool) → ℕ → ℕ
used_where t passes i = if_true (passes (region_at t i)) (region_at t i).used

pub used_words_as : (s : Store) (t : Table) (rest : Rest) (passes : Region → Bool) → IsTable t → used_words (image_of s t rest) passes ≡ total (used_where t passes) t.regions
used_words_as s t rest passes v =
    let g = image_of s t rest in
    ap (total (λ i. if_true (passes (get_or (image_of s t rest).regions i no_region)) (get_or (image_of s t rest).regions i no_region).used)) (regions_count s t rest)
    ∙ total-cong (λ i. if_true (passes (get_or (image_of s t rest).regions i no_region)) (get_or (image_of s t rest).regions i no_region).used) (used_where t passes) t.regions
    (λ m l. ap (λ (r : Region). if_true (passes r) r.used) (region_is s t rest m v))

-- one region changes
pub used_words_changed : (s s' : Store) (t u : Table) (rest rest' : Rest) (passes : Region → Bool) (r : ℕ) → IsTable t → IsTable u → u.regions ≡ t.regions → r < t.regions
    → ((i : ℕ) → i ≢ r → region_at u i ≡ region_at t i)
    → used_words (image_of s' u rest') passes + used_where t passes r ≡ used_words (image_of s t rest) passes + used_where u passes r
used_words_changed s s' t u rest rest' passes r v w same low others =
    let new = used_words_as s' u rest' passes w ∙ ap (total (used_where u passes)) same in
    let old = used_words_as s t rest passes v in
    let sum = total-at (used_where u passes) (used_where t passes) r t.regions low (λ m l ne. ap (λ (x : Region). if_true (passes x) x.used) (others m ne)) in
    omega arith
