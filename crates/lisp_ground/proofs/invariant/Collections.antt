-- Flips and reclaims on a ground.
use Rattle.std.proofs.Common.{◌≡◌, ℕ, ◌*◌, ◌/◌, ◌⊎◌, inl, inr, List, get_or, slice_get, refl, sym, ◌∙◌, ap, subst, arith, Some, None}
use Rattle.std.proofs.lemmas.Option.{slice_get_within}
use Rattle.area_space.specs.store_word.Words.{Parts, null_word, address_of}
use Rattle.area_space.specs.store_word.declared.space.Space.{Space}
use Rattle.area_space.specs.lisp_graph.declared.world.AreaRule.{AreaRule}
use Rattle.area_space.specs.lisp_graph.declared.command.Condemn.{Condemn}
use Rattle.area_space.specs.mem_port.Store.{Store}
use Rattle.area_space.specs.Table.{Table, IsUnclassed, IsLive, IsOld}
use Rattle.area_space.specs.Flips.{Condemns}
use Rattle.area_space.specs.Frees.{Frees}
use Rattle.area_space.specs.Sound.{IsTable}
use Rattle.area_space.specs.Room.{RoomRule}
use Rattle.area_space.specs.Ground.{IsGround}
use Rattle.lisp_meaning.specs.State.{Phase, Idle, State}
use Rattle.lisp_meaning.specs.Flip.{flipped}
use Rattle.lisp_meaning.specs.Image.{word}
use Rattle.lisp_meaning.specs.Roles.{RoleMap}
use Rattle.lisp_meaning.specs.Stands.{PhaseOf}
use Rattle.lisp_meaning.specs.Invariant.{MachineInvariant}
use Rattle.lisp_meaning.proofs.invariant.Collections.{flipped_is, reclaimed_is}
use Rattle.lisp_ground.specs.Image.{Rest, image_of}
use Rattle.lisp_ground.specs.GroundInvariant.{Agrees, SameForm}
use Rattle.lisp_meaning.specs.Interpretation.{interpretation}
use Rattle.lisp_ground.specs.Collecting.{StandsOn, FitsOn, FlippedOn, ReclaimedOn, ScannedNamesNoOld}
use Rattle.lisp_ground.proofs.regions.Owners.{region_cases}
use Rattle.lisp_ground.proofs.words.Words.{get_or_here}
use Rattle.lisp_ground.proofs.invariant.Marks.{image_marks}
use Rattle.lisp_ground.proofs.regions.OldAndLive.{live_standing, not_old_region}
use Rattle.lisp_ground.proofs.invariant.OfImage.{kept_ground, same_room, same_agrees}
use Rattle.lisp_ground.proofs.invariant.Flips.{flipped_image}
use Rattle.lisp_ground.proofs.regions.FreedRegions.{freed_image}

-- the form of the table stays

pub condemned_form : (t u : Table) (what : Condemn) → Condemns t u what → SameForm t u
condemned_form t u what f = record {
  regions = ap (λ (x : Table). x.regions) f.same;
  top = ap (λ (x : Table). x.top) f.same;
  quotas = ap (λ (x : Table). x.quotas) f.same;
  kinds = ap (λ (x : Table). x.kinds) f.same;
}

pub freed_form : (t u : Table) → Frees t u → SameForm t u
freed_form t u f = record {
  regions = ap (λ (x : Table). x.regions) f.same;
  top = ap (λ (x : Table). x.top) f.same;
  quotas = ap (λ (x : Table). x.quotas) f.same;
  kinds = ap (λ (x : Table). x.kinds) f.same;
}

-- the ground of a machine that represents a state
pub strong_ground : (m : Store) (t : Table) (rest : Rest) (k : RoleMap) (s : State) → MachineInvariant (image_of m t rest) k s → FitsOn m t → RoomRule t → Agrees t s.space.levels s.areas → StandsOn m t rest k s
strong_ground m t rest k s strong f room agrees = record {
  strong = strong;
  ground = record {
    kept = kept_ground m t rest (interpretation k s) strong.kept f.table f.named;
    ground = f.ground;
    named = f.named;
    table = f.table;
    room = room;
    agrees = agrees;
  };
}

-- while no collection runs no region is old
idle_young : (m : Store) (t : Table) (rest : Rest) (s : State) → IsTable t → PhaseOf (image_of m t rest) s.phase → s.phase ≡ Idle → (r : ℕ) → IsOld t r → ⊥
idle_young m t rest s v phase idle r old =
    let p = subst (λ (x : Phase). PhaseOf (image_of m t rest) x) idle phase in
    let e : r ≡ 4096 * r / 4096 = omega arith in
    not_old_region m t rest v (4096 * r) (p.1 (4096 * r)) (subst (IsOld t) e old)

pub flipped_on : FlippedOn
flipped_on m t u rest rest' k s what pages on idle f =
    let v = on.ground.table in
    let marks = image_marks m u rest' f.fits.table f.fits.ground f.fits.named f.fits.marks in
    let young = idle_young m t rest s v on.strong.phase idle in
    let table = flipped_image m t u rest rest' what s.space.levels s.areas v f.fits.table on.ground.agrees young f.condemned marks in
    let aim = ap (λ (x : Table). x.aim) f.condemned.same in
    let strong = flipped_is (image_of m t rest) (image_of m u rest') k s what pages on.strong idle table f.registers aim f.scanned f.units in
    let form = condemned_form t u what f.condemned in
    strong_ground m u rest' k (flipped s what pages) strong f.fits (same_room t u form on.ground.room) (same_agrees t u s.space.levels s.areas form on.ground.agrees)

pub reclaimed_on : ReclaimedOn
reclaimed_on m m' t u rest rest' k s c on running over f =
    let v = on.ground.table in
    let marks = image_marks m' u rest' f.fits.table f.fits.ground f.fits.named f.fits.marks in
    let table = freed_image m m' t u rest rest' v f.fits.table on.ground.ground.size f.freed f.cleared marks in
    let aim = ap (λ (x : Table). x.aim) f.freed.same in
    let r = reclaimed_is (image_of m t rest) (image_of m' u rest') k s c on.strong running over table f.registers aim in
    let form = freed_form t u f.freed in
    let agrees = same_agrees t u s.space.levels s.areas form on.ground.agrees in
    let agrees_new = subst (λ (areas : List AreaRule). Agrees u (r.1).space.levels areas) (sym r.3.areas) (subst (λ (x : Space). Agrees u x.levels s.areas) (sym r.3.space) agrees) in
    (r.0, r.1, strong_ground m' u rest' r.0 r.1 r.2 f.fits (same_room t u form on.ground.room) agrees_new, r.3)

-- a word of a free region is NULL, so it has no address
free_word : (m : Store) (t : Table) (a : ℕ) (w : Parts) → IsTable t → IsGround m t → IsUnclassed t (a / 4096) → slice_get m.words a ≡ Some w → w ≡ null_word
free_word m t a w v g free got =
    let none = v.blank (a / 4096) free in
    let low = slice_get_within m.words a w got in
    let blank = g.blank a low (omega arith) in
    let both : Some w ≡ Some null_word = sym got ∙ blank in
    cc

pub scanned_names_no_old : ScannedNamesNoOld
scanned_names_no_old m t rest v g scanned a to w young got has old = by_chain (region_cases t (a / 4096))
  where
    by_chain : IsUnclassed t (a / 4096) ⊎ (IsLive t (a / 4096) ⊎ IsOld t (a / 4096)) → ⊥
    by_chain (inl free) =
        let null = free_word m t a w v g free got in
        let none : address_of w.content ≡ None = ap (λ (p : Parts). address_of p.content) null in
        cc
    by_chain (inr (inl live)) =
        let low = slice_get_within m.words a w got in
        let left = (scanned.finished refl).1 a low in
        let fresh = scanned.words a low (live_standing m t rest v a live) left in
        let is : get_or m.words a null_word ≡ w = get_or_here m.words a w null_word got in
        let there : address_of (word (image_of m t rest) a).content ≡ Some to = ap (λ (p : Parts). address_of p.content) is ∙ has in
        not_old_region m t rest v to (fresh to there) old
    by_chain (inr (inr there)) = young there
