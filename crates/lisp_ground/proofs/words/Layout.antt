-- Words that are placed, committed and written: what holds of the ground after that, and how its image has changed.
use Rattle.std.proofs.Common.{◌≡◌, ◌≢◌, ℕ, ◌/◌, ◌%◌, ◌<◌, ◌≤◌, ◌⊎◌, inl, inr, List, slice_index, sym, ap, subst, arith}
use Rattle.std.specs.Prelude.{Contains}
use Rattle.std.proofs.lemmas.Bool.{cases_eq}
use Rattle.area_space.specs.index_lists.Chains.{list_at}
use Rattle.area_space.specs.mem_port.Store.{Store}
use Rattle.area_space.specs.declared.classes.Origin.TheVariants.{New, Moved, Reserve}
use Rattle.area_space.specs.Table.{Table, levels_of, slot_of, live, stale, used_of}
use Rattle.area_space.specs.Sound.{IsTable}
use Rattle.area_space.specs.Charges.{committed, husked}
use Rattle.area_space.specs.Ground.{IsGround, NamesNoFree}
use Rattle.area_space.proofs.UsedEnds.{end_region}
use Rattle.area_space.proofs.GroundLaws.{ground_raised, named_again}
use Rattle.area_space.proofs.NewRegions.{slot_below}
use Rattle.lisp_meaning.specs.State as M
use Rattle.lisp_meaning.specs.Roles.{Kind}
use Rattle.lisp_meaning.specs.After.{After}
use Rattle.lisp_meaning.specs.Marks.{Marks}
use Rattle.lisp_meaning.specs.Placed.{Placed, Charged, Rehomed, Recharged}
use Rattle.lisp_ground.specs.Image.{ground_image}
use Rattle.lisp_ground.specs.GroundInvariant.{GroundInvariant, NamesUsed}
use Rattle.lisp_meaning.specs.Interpretation.{Interpretation}
use Rattle.lisp_ground.specs.Writes.{Within}
use Rattle.lisp_ground.specs.Laying.{Lays}
use Rattle.lisp_ground.specs.After.{AfterOn}
use Rattle.lisp_ground.proofs.words.UsedEnds.{Extends, used_here, used_other}
use Rattle.lisp_ground.proofs.words.PlacedWords.{placed_image}
use Rattle.lisp_ground.proofs.sums.Charges.{charged_image, reserved_image, rehomed_image, recharged_image}
use Rattle.lisp_ground.proofs.invariant.Marks.{ground_marks}
use Rattle.lisp_ground.proofs.words.WrittenWords.{ground_written, named_written}
use Rattle.lisp_ground.proofs.invariant.OfImage.{after_on}

-- no address is in a free region of the other table, if the chains are the same
pub names_used_again : (t u : Table) (c : Rattle.area_space.specs.store_word.declared.word.Content.Content) → u.chains ≡ t.chains → NamesUsed t c → NamesUsed u c
names_used_again t u c chains safe = λ to has free. safe to has (λ l m. free l (subst (λ (cs : List (List ℕ)). Contains (list_at (record { nodes = u.regions; lists = cs }) l) (to / 4096)) (sym chains) m))

module _ (m m' : Store) (t u : Table) (b count area level : ℕ) (v : IsTable t) (g : IsGround m t) (named : NamesNoFree m t) (l : Lays m t m' u b count area level) (x : Extends t u b count) where
  inside : b / 4096 < t.regions
  inside = end_region t (slot_of t area level) b count v l.end

  pub used_rises : (r : ℕ) → used_of t r ≤ used_of u r
  used_rises r = at (cases_eq r (b / 4096))
    where
      at : (r ≡ b / 4096) ⊎ (r ≢ b / 4096) → used_of t r ≤ used_of u r
      at (inl e) = let y = used_here t u b count v x inside in subst (λ (i : ℕ). used_of t i ≤ used_of u i) (sym e) (omega arith)
      at (inr ne) = let y = used_other t u b count v x r ne in omega arith

  covered : (a : ℕ) → Within b count a → a % 4096 < used_of u (a / 4096)
  covered a w =
      let from = w.0 in
      let to = w.1 in
      let e = l.end.end in
      let f = l.end.fits in
      let r : a / 4096 ≡ b / 4096 = omega arith in
      let y = used_here t u b count v x inside in
      let same : used_of u (a / 4096) ≡ used_of u (b / 4096) = ap (used_of u) r in
      omega arith

  pub laid_ground : IsGround m' u
  laid_ground = ground_written m m' u b count (ground_raised m t u x.form.regions x.form.top x.chains used_rises g) l.writes covered

  pub laid_named : NamesNoFree m' u
  laid_named = named_written m m' u b count (named_again m t u x.chains named) l.writes (λ a w inside_range got. names_used_again t u w.content x.chains (l.safe a w inside_range got))

  pub laid_marks : Marks (ground_image m' u)
  laid_marks = ground_marks m' u l.sound laid_named

  pub laid_placed : Placed (ground_image m t) (ground_image m' u) b count area level
  laid_placed = placed_image m m' t u b count area level v l.sound l.level_in l.end x l.writes

-- what the image keeps after it the ground keeps
pub laid_on : (m m' : Store) (t u : Table) (b count area level : ℕ) (it : Interpretation) (s' : M.Store) (moved : ℕ) (kind : Kind) (from names : ℕ) (name : ℕ → ℕ)
    → GroundInvariant m t it → Lays m t m' u b count area level → Extends t u b count
    → After (ground_image m t) (ground_image m' u) it s' moved kind from names name → AfterOn m t m' u it s' moved kind from names name
laid_on m m' t u b count area level it s' moved kind from names name on l x after =
    after_on m m' t u it s' moved kind from names name on x.form l.sound (laid_ground m m' t u b count area level on.table on.ground on.named l x) (laid_named m m' t u b count area level on.table on.ground on.named l x) after

-- The charges, by the commit

module _ (m m' : Store) (t u : Table) (b count charge area level : ℕ) (v : IsTable t) (l : Lays m t m' u b count area level) where
  pub laid_charged : u ≡ record (committed t (slot_of t area level) b count charge New) { pages = u.pages } → Charged (ground_image m t) (ground_image m' u) area level charge
  laid_charged = charged_image m m' t u b count charge area level v l.level_in (slot_below t area level l.area_in l.level_in)

  pub laid_reserved : (before : ℕ) → u ≡ record (committed t (slot_of t area level) b count charge Reserve) { pages = u.pages } → Recharged (ground_image m t) (ground_image m' u) area level before before 0
  laid_reserved = reserved_image m m' t u b count charge area level v l.level_in (slot_below t area level l.area_in l.level_in)

  pub laid_rehomed : (from : ℕ) → from < levels_of t → charge ≤ slice_index t.charges (stale (slot_of t area from))
      → u ≡ record (committed t (slot_of t area level) b count charge (Moved (record { area = area; level = from; stale = Rattle.std.specs.Prelude.true }))) { pages = u.pages }
      → Rehomed (ground_image m t) (ground_image m' u) area from level charge
  laid_rehomed from from_in enough = rehomed_image m m' t u b count charge area from level v l.level_in (slot_below t area level l.area_in l.level_in) from_in (slot_below t area from l.area_in from_in) enough

-- a new charge, of which a part becomes a husk
pub laid_recharged : (m m' : Store) (t u w : Table) (b count charge husk area level : ℕ) → IsTable t → Lays m t m' w b count area level
    → u ≡ record (committed t (slot_of t area level) b count charge New) { pages = u.pages } → w ≡ husked u (live (slot_of t area level)) husk → husk ≤ slice_index u.charges (live (slot_of t area level))
    → Recharged (ground_image m t) (ground_image m' w) area level husk charge husk
laid_recharged m m' t u w b count charge husk area level v l = recharged_image m m' t u w b count charge husk area level v l.level_in (slot_below t area level l.area_in l.level_in)
