-- The words of an object that isn't old: they are used words of live regions.
use Rattle.std.proofs.Common.{◌≡◌, ℕ, ◌/◌, ◌⊎◌, inl, inr, true, false, IsTrue, sym, ◌∙◌, ap, Some}
use Rattle.std.proofs.lemmas.Bool.{cases_Bool}
use Rattle.mem_port.specs.Store as Memory
use Rattle.area_space.specs.Table.{Table, IsLive, IsOld, IsUnclassed}
use Rattle.obj_layout.specs.Forwards.{word_at}
use Rattle.transporter.specs.lisp_meaning.Image.{is_used, old_at, is_free, is_old, region}
use Rattle.transporter.specs.lisp_meaning.Classes.{Class, classes, is_old_at}
use Rattle.transporter.specs.lisp_meaning.Roles.{Kind, names_as, owner}
use Rattle.transporter.proofs.lisp_meaning.roles.Chains.{class_end}
use Rattle.transporter.proofs.lisp_meaning.reading.ReadRoles.{used_where}
use Rattle.transporter.specs.lisp_ground.Image.{ground_image, no_rest}
use Rattle.transporter.specs.lisp_ground.GroundInvariant.{GroundInvariant}
use Rattle.lisp_ground.specs.lisp_meaning.Interpretation.{Interpretation}
use Rattle.transporter.proofs.lisp_ground.regions.Owners.{region_cases}
use Rattle.transporter.proofs.lisp_ground.regions.OldAndLive.{old_region, free_standing, not_old_region}
use Rattle.transporter.proofs.lisp_ground.invariant.WordStores.{used_below}
use Rattle.transporter.specs.LiveWordsUnchanged.{IsLiveWord}

module _ (m : Memory.Store) (t : Table) (it : Interpretation) (on : GroundInvariant m t it) where
  not_old : (a : ℕ) → (IsOld t (a / 4096) → ⊥) → is_old_at (classes (ground_image m t)) a ≡ false
  not_old a fresh = go (cases_Bool (old_at (ground_image m t) a))
    where
      go : (old_at (ground_image m t) a ≡ true) ⊎ (old_at (ground_image m t) a ≡ false) → old_at (ground_image m t) a ≡ false
      go (inl e) = absurd (fresh (old_region m t no_rest on.table a e))
      go (inr e) = e

  -- a word that is part of an object and not old is a used one of a live region
  pub live_word : (a n : ℕ) → owner (it.map.role a) ≡ Some n → (IsOld t (a / 4096) → ⊥) → IsLiveWord t a
  live_word a n own fresh = record { live = go (region_cases t (a / 4096)); used = used_below m t a on.table (used_where (ground_image m t) it.map it.store on.kept.roled on.kept.covered a n own).0 }
    where
      there : IsTrue (is_used (ground_image m t) a) × (is_free (region (ground_image m t) a).standing ≡ false)
      there = used_where (ground_image m t) it.map it.store on.kept.roled on.kept.covered a n own

      go : IsUnclassed t (a / 4096) ⊎ (IsLive t (a / 4096) ⊎ IsOld t (a / 4096)) → IsLive t (a / 4096)
      go (inl free) = let x = ap is_free (sym (free_standing m t no_rest on.table a free)) in let y = there.1 in absurd cc
      go (inr (inl live)) = live
      go (inr (inr old)) = absurd (fresh old)

  -- if a reference isn't old, neither is the object that it refers to
  pub place_fresh : (kind : Kind) (at n : ℕ) → names_as kind (it.map.role at) ≡ Some n → (IsOld t (at / 4096) → ⊥) → IsOld t (it.map.at n / 4096) → ⊥
  place_fresh kind at n named fresh = not_old_region m t no_rest on.table (it.map.at n)
      (ap (λ (c : Class). is_old c.standing) (class_end (word_at m.words) (classes (ground_image m t)) it.map it.store on.kept.roled at n kind named (not_old at fresh)) ∙ not_old at fresh)
