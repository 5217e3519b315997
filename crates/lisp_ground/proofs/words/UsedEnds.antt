-- Used ends that move: a commit, and what may follow it.
use Rattle.std.proofs.Common.{◌≡◌, ◌≢◌, ℕ, ◌+◌, ◌/◌, ◌%◌, ◌<◌, List, slice_index, slice_set, refl, sym, ◌∙◌, ap, subst, arith, get_or-set_same, get_or-set_other, Option, Some, None}
use Rattle.area_space.specs.declared.classes.Origin.{Origin}
use Rattle.area_space.specs.declared.classes.Origin.TheVariants.{New, Moved, Reserve}
use Rattle.area_space.specs.Table.{Table, used_of}
use Rattle.area_space.specs.Sound.{IsTable}
use Rattle.area_space.specs.Charges.{committed, husked}
use Rattle.lisp_meaning.specs.Image.{Region, no_region}
use Rattle.lisp_meaning.specs.Classes.{class_of}
use Rattle.lisp_ground.specs.Image.{class_with, standing_of, region_in, region_at}
use Rattle.lisp_ground.specs.GroundInvariant.{SameForm}
use Rattle.lisp_ground.proofs.regions.Owners.{class_same}

-- the used end of the region of an address has moved, and no chain has changed
pub record Extends (t u : Table) (b count : ℕ) : Type 0 where
  pub form : SameForm t u
  pub chains : u.chains ≡ t.chains
  pub used : u.used ≡ slice_set t.used (b / 4096) (used_of t (b / 4096) + count)

committed_form : (t : Table) (slot at words charge : ℕ) (o : Origin) (pages : List ℕ) → Extends t (record (committed t slot at words charge o) { pages = pages }) at words
committed_form t slot at words charge New pages = record { form = record { regions = refl; top = refl; quotas = refl; kinds = refl }; chains = refl; used = refl }
committed_form t slot at words charge (Moved from) pages = record { form = record { regions = refl; top = refl; quotas = refl; kinds = refl }; chains = refl; used = refl }
committed_form t slot at words charge Reserve pages = record { form = record { regions = refl; top = refl; quotas = refl; kinds = refl }; chains = refl; used = refl }

pub committed_extends : (t u : Table) (slot at words charge : ℕ) (o : Origin) → u ≡ record (committed t slot at words charge o) { pages = u.pages } → Extends t u at words
committed_extends t u slot at words charge o is = subst (λ (w : Table). Extends t w at words) (sym is) (committed_form t slot at words charge o u.pages)

-- a husk leaves all that alone
pub husked_extends : (t u w : Table) (class husk at words : ℕ) → Extends t u at words → w ≡ husked u class husk → Extends t w at words
husked_extends t u w class husk at words e is = subst (λ (x : Table). Extends t x at words) (sym is) (record {
  form = record { regions = e.form.regions; top = e.form.top; quotas = e.form.quotas; kinds = e.form.kinds };
  chains = e.chains;
  used = e.used;
})

-- Regions

abbrev shape : ℕ → ℕ → Option ℕ → Region
shape top used None = no_region
shape top used (Some c) = record { standing = standing_of c; area = c / 2 / (top + 1); level = c / 2 % (top + 1); used = used }

shape_is : (t : Table) (i : ℕ) (o : Option ℕ) → region_in t i o ≡ shape t.top (used_of t i) o
shape_is t i None = refl
shape_is t i (Some c) = refl

-- a region is the same if its class and its used end are
pub region_same : (t u : Table) (i : ℕ) → u.top ≡ t.top → class_with u i ≡ class_with t i → used_of u i ≡ used_of t i → region_at u i ≡ region_at t i
region_same t u i top class used =
    shape_is u i (class_with u i)
    ∙ (ap (shape u.top (used_of u i)) class
    ∙ (ap (λ (n : ℕ). shape n (used_of u i) (class_with t i)) top
    ∙ (ap (λ (n : ℕ). shape t.top n (class_with t i)) used
    ∙ sym (shape_is t i (class_with t i)))))

-- and is of the same class if the chains are the same
shape_class : (top used used' : ℕ) (o : Option ℕ) → class_of (shape top used o) ≡ class_of (shape top used' o)
shape_class top used used' None = refl
shape_class top used used' (Some c) = refl

pub class_of_same : (t u : Table) (i : ℕ) → u.top ≡ t.top → u.chains ≡ t.chains → class_of (region_at u i) ≡ class_of (region_at t i)
class_of_same t u i top chains =
    ap class_of (shape_is u i (class_with u i))
    ∙ (ap (λ (o : Option ℕ). class_of (shape u.top (used_of u i) o)) (class_same t u i chains)
    ∙ (ap (λ (n : ℕ). class_of (shape n (used_of u i) (class_with t i))) top
    ∙ (shape_class t.top (used_of u i) (used_of t i) (class_with t i)
    ∙ sym (ap class_of (shape_is t i (class_with t i))))))

module _ (t u : Table) (b count : ℕ) (v : IsTable t) (x : Extends t u b count) where
  pub used_other : (i : ℕ) → i ≢ b / 4096 → used_of u i ≡ used_of t i
  used_other i ne = ap (λ (us : List ℕ). slice_index us i) x.used ∙ get_or-set_other t.used (b / 4096) i (used_of t (b / 4096) + count) 0 ne

  pub used_here : b / 4096 < t.regions → used_of u (b / 4096) ≡ used_of t (b / 4096) + count
  used_here low = let size = v.used_size in ap (λ (us : List ℕ). slice_index us (b / 4096)) x.used ∙ get_or-set_same t.used (b / 4096) (used_of t (b / 4096) + count) 0 (omega arith)

  pub region_other : (i : ℕ) → i ≢ b / 4096 → region_at u i ≡ region_at t i
  region_other i ne = region_same t u i x.form.top (class_same t u i x.chains) (used_other i ne)
