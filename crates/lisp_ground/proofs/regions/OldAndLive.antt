-- Old and live regions of an image are those of old and live chains.
use Rattle.std.proofs.Common.{◌≡◌, ℕ, ◌+◌, ◌*◌, ◌/◌, ◌%◌, ◌<◌, ◌⊎◌, inl, inr, true, false, IsTrue, sym, ◌∙◌, ap, arith}
use Rattle.std.proofs.lemmas.Bool.{lt-ltb}
use Rattle.area_space.specs.mem_port.Store.{Store}
use Rattle.area_space.specs.Table.{Table, used_of, IsUnclassed, IsLive, IsOld}
use Rattle.area_space.specs.Sound.{IsTable}
use Rattle.lisp_meaning.specs.Image.{Free, Live, Old, Region, is_free, is_old, region, old_at, is_used}
use Rattle.lisp_ground.specs.Image.{Rest, region_at, image_of}
use Rattle.lisp_ground.proofs.regions.Owners.{region_cases}
use Rattle.lisp_ground.proofs.regions.Regions.{region_is, region_free, region_live, region_old}
use Rattle.lisp_ground.proofs.words.UsedWords.{is_used_as}

module _ (m : Store) (t : Table) (rest : Rest) (v : IsTable t) (a : ℕ) where
  standing : (region (image_of m t rest) a).standing ≡ (region_at t (a / 4096)).standing
  standing = ap (λ (r : Region). r.standing) (region_is m t rest (a / 4096) v)

  pub live_standing : IsLive t (a / 4096) → (region (image_of m t rest) a).standing ≡ Live
  live_standing l = standing ∙ ap (λ (r : Region). r.standing) (region_live t (a / 4096) l.0 v l.1)

  pub old_standing : IsOld t (a / 4096) → (region (image_of m t rest) a).standing ≡ Old
  old_standing o = standing ∙ ap (λ (r : Region). r.standing) (region_old t (a / 4096) o.0 v o.1)

  pub free_standing : IsUnclassed t (a / 4096) → (region (image_of m t rest) a).standing ≡ Free
  free_standing f = standing ∙ ap (λ (r : Region). r.standing) (region_free t (a / 4096) f)

  pub live_region : (region (image_of m t rest) a).standing ≡ Live → IsLive t (a / 4096)
  live_region e = go (region_cases t (a / 4096))
    where
      go : IsUnclassed t (a / 4096) ⊎ (IsLive t (a / 4096) ⊎ IsOld t (a / 4096)) → IsLive t (a / 4096)
      go (inl f) = let x = ap is_free (sym (free_standing f) ∙ e) in absurd cc
      go (inr (inl l)) = l
      go (inr (inr o)) = let x = ap is_old (sym (old_standing o) ∙ e) in absurd cc

  pub old_region : old_at (image_of m t rest) a ≡ true → IsOld t (a / 4096)
  old_region e = go (region_cases t (a / 4096))
    where
      go : IsUnclassed t (a / 4096) ⊎ (IsLive t (a / 4096) ⊎ IsOld t (a / 4096)) → IsOld t (a / 4096)
      go (inl f) = let x = ap is_old (free_standing f) in absurd cc
      go (inr (inl l)) = let x = ap is_old (live_standing l) in absurd cc
      go (inr (inr o)) = o

  -- a word below a used end is used, and live if its region isn't old
  pub used_there : a % 4096 < used_of t (a / 4096) → IsTrue (is_used (image_of m t rest) a)
  used_there low = is_used_as m t rest a v ∙ lt-ltb a (4096 * (a / 4096) + used_of t (a / 4096)) (omega arith)

  pub used_live : a % 4096 < used_of t (a / 4096) → (IsOld t (a / 4096) → ⊥) → (region (image_of m t rest) a).standing ≡ Live
  used_live low young = go (region_cases t (a / 4096))
    where
      go : IsUnclassed t (a / 4096) ⊎ (IsLive t (a / 4096) ⊎ IsOld t (a / 4096)) → (region (image_of m t rest) a).standing ≡ Live
      go (inl f) = let x = v.blank (a / 4096) f in absurd (omega arith)
      go (inr (inl l)) = live_standing l
      go (inr (inr o)) = absurd (young o)

  pub not_old_region : old_at (image_of m t rest) a ≡ false → IsOld t (a / 4096) → ⊥
  not_old_region e o = let x = ap is_old (old_standing o) in absurd cc
