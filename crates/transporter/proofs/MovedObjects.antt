-- The objects that a ground represents after a transport.
use Rattle.std.proofs.Common.{ℕ, ◌≡◌, ◌⊎◌, ◌+◌, ◌-◌, ◌*◌, ◌/◌, ◌<◌, ◌≤◌, List, length, Option, Some, None, sym, ◌∙◌, ap, subst, inl, inr, arith}
use Rattle.std.specs.Prelude.{Contains}
use Rattle.std.proofs.lemmas.Bool.{cases_lt, lt-ltb, le-ltb}
use Rattle.store_word.specs.Words.{Parts}
use Rattle.area_space.specs.lisp_graph.declared.object.Value.{Value}
use Rattle.mem_port.specs.Store.{Store}
use Rattle.area_space.specs.declared.classes.Origin.TheVariants.{Moved}
use Rattle.area_space.specs.Table.{Table, areas_of, levels_of, slot_of, live, stale, chain}
use Rattle.area_space.specs.Sound.{IsTable}
use Rattle.area_space.specs.Places.{IsEnd, opened}
use Rattle.area_space.specs.Charges.{committed}
use Rattle.area_space.specs.Flips.{survivor}
use Rattle.area_space.proofs.TableFields.{noted_is}
use Rattle.area_space.proofs.UsedEnds.{end_in_chain}
use Rattle.obj_layout.specs.Forwards.{word_at, IsFinal}
use Rattle.lisp_ground.specs.lisp_meaning.State as M
use Rattle.lisp_ground.specs.lisp_meaning.Classes.{in_old, region_of}
use Rattle.lisp_ground.specs.lisp_meaning.Forwards.{forward_of}
use Rattle.lisp_ground.specs.lisp_meaning.Roles.{Kind, names_as}
use Rattle.lisp_ground.specs.lisp_meaning.Transport.{Survives}
use Rattle.lisp_ground.proofs.lisp_meaning.layout.Placement.{charges_before_at}
use Rattle.lisp_ground.proofs.lisp_meaning.sums.OldCharges.{standing_is}
use Rattle.lisp_ground.specs.Image.{ground_image}
use Rattle.lisp_ground.specs.GroundInvariant.{GroundInvariant, SameForm}
use Rattle.lisp_ground.specs.After.{old_on, AfterOn}
use Rattle.lisp_ground.specs.Placing.{Opens}
use Rattle.lisp_ground.proofs.invariant.OfImage.{kept_beside, after_on}
use Rattle.lisp_ground.proofs.invariant.Marks.{ground_marks}
use Rattle.lisp_ground.proofs.regions.NewRegion.{opened_placed}
use Rattle.lisp_ground.proofs.words.Places.{place_kept_on}
use Rattle.transporter.specs.declared.parcel.Parcel.{Parcel}
use Rattle.transporter.specs.Parcels.{IsParcel, IsFit, moved_word, word_count_of}
use Rattle.transporter.specs.Relocations.{old_class, IsOldIn, Relocates}
use Rattle.transporter.specs.Transports.{CanTransport, ReachesOn}
use Rattle.transporter.proofs.ParcelRoles.{Stands}
use Rattle.transporter.proofs.LiveObjects.{live-opened}
use Rattle.transporter.proofs.Places.{survivor_in, end_apart, end_inside, some_words}
use Rattle.transporter.proofs.MovedParcels.{opened-form, opened-words, survivor-is, extends, forwarded_ground, forwarded_named, rehouses}
use Rattle.transporter.proofs.MoveInvariant.{arrives}
use Rattle.lisp_ground.specs.lisp_meaning.Interpretation.{Interpretation, by_map}
use Rattle.transporter.proofs.MovableParcels.{parcel-at, parcel-stands}

-- Charges in old regions

-- a region is opened
pub old-opened : (m m' : Store) (t t' : Table) (region : Option ℕ) (area level : ℕ) (it : Interpretation)
    → GroundInvariant m t it → GroundInvariant m' t' it → area < areas_of t → level < levels_of t → Opens m t m' t' region area level → old_on m' t' it.store it.aim it.map.at ≡ old_on m t it.store it.aim it.map.at
old-opened m m' t t' None area level it on on' area_in level_in o = ap (λ (u : Table). old_on m u it.store it.aim it.map.at) o.same
old-opened m m' t t' (Some r) area level it on on' area_in level_in o =
    let u : Table = opened t (live (slot_of t area level)) r in
    let v : IsTable (opened t (live (slot_of t area level)) r) = subst IsTable o.chain o.sound in
    let words : m'.words ≡ m.words = ap (λ (x : Store). x.words) o.region_level in
    let there : GroundInvariant m' (opened t (live (slot_of t area level)) r) it = subst (λ (x : Table). GroundInvariant m' x it) o.chain on' in
    let placed = opened_placed m m' t r area level on.table v area_in level_in o.free words in
    let before = charges_before_at (ground_image m t) (ground_image m' (opened t (live (slot_of t area level)) r)) it on.kept (4096 * r) 0 area level placed in_old in
    ap (λ (x : Table). old_on m' x it.store it.aim it.map.at) o.chain
    ∙ standing_is (ground_image m' (opened t (live (slot_of t area level)) r)) it there.kept ∙ before ∙ sym (standing_is (ground_image m t) it on.kept)

-- The page of the last word that moved is no part of the invariant

pub kept_on_noted : (m : Store) (u : Table) (last : Option ℕ) (it : Interpretation) → IsTable (record u { last = last }) → GroundInvariant m u it → GroundInvariant m (record u { last = last }) it
kept_on_noted m u last it v on = record {
  kept = kept_beside (ground_image m u) (ground_image m (record u { last = last })) it on.kept (ground_marks m (record u { last = last }) v on.named);
  ground = record { size = on.ground.size; levels_size = on.ground.levels_size; top = on.ground.top; level_live = on.ground.level_live; level_old = on.ground.level_old; blank = on.ground.blank };
  named = on.named;
  table = v;
  room = on.room;
  agrees = record { levels = on.agrees.levels; quotas = on.agrees.quotas; kinds = on.agrees.kinds };
}

-- What moved

module _ (m : Store) (t : Table) (it : Interpretation) (registers : List Value) (kind : Kind) (at n : ℕ) (can : CanTransport m t it registers kind at n)
    (last : IsFinal m.words at) (p : Parcel) (is : IsParcel m.words at p) (fits : IsFit p) (m' : Store) (t' : Table) (to : ℕ) (r : Relocates m t m' t' p to) where
  on : GroundInvariant m t it
  on = can.kept

  level_in : survivor t r.level < levels_of t
  level_in = survivor_in t r.level r.old.level_in

  form : SameForm t r.table
  form = opened-form r.region r.opens

  opened_on : GroundInvariant r.room r.table it
  opened_on = place_kept_on m r.room t r.table r.region r.area (survivor t r.level) it on r.old.area_in level_in r.opens

  slot_same : (area level : ℕ) → slot_of t area level ≡ slot_of r.table area level
  slot_same area level = ap (λ (n : ℕ). area * (n + 1) + level) (sym form.top)

  old_chain : (slot : ℕ) → chain r.table (stale slot) ≡ chain t (stale slot)
  old_chain = (live-opened r.region on.table r.old.area_in level_in r.opens).table.old_chains

  old_there : IsOldIn r.table p.at r.area r.level
  old_there = record {
    area_in = subst (λ (qs : List ℕ). r.area < length qs) (sym form.quotas) r.old.area_in;
    level_in = subst (λ (n : ℕ). r.level < n + 1) (sym form.top) r.old.level_in;
    region = subst (λ (j : ℕ). Contains (chain r.table (stale j)) (p.at / 4096)) (slot_same r.area r.level)
        (subst (λ (rs : List ℕ). Contains rs (p.at / 4096)) (sym (old_chain (slot_of t r.area r.level))) r.old.region);
  }

  end_there : IsEnd r.table (slot_of r.table r.area (survivor t r.level)) to (word_count_of p)
  end_there = subst (λ (j : ℕ). IsEnd r.table j to (word_count_of p)) (slot_same r.area (survivor t r.level)) r.end

  level_there : survivor t r.level < levels_of r.table
  level_there = subst (λ (n : ℕ). survivor t r.level < n + 1) (sym form.top) level_in

  -- the table before the last page was noted
  before : Table
  before = record t' { last = r.table.last }

  sound : IsTable (record t' { last = r.table.last })
  sound = noted_is t' t'.aim r.table.last t'.pages r.sound

  commits : record t' { last = r.table.last } ≡ record (committed r.table (slot_of r.table r.area (survivor t r.level)) to (word_count_of p) p.charge (Moved (old_class r.area r.level))) { pages = t'.pages }
  commits = ap (λ (u : Table). record u { last = r.table.last }) r.commits.table

  place : p.at ≡ at
  place = parcel-at is

  words : r.room.words ≡ m.words
  words = opened-words r.region r.opens

  stand : Stands it.map it.store p
  stand = parcel-stands m t it on n at last kind p can.survives.named is

  level_is : survivor t r.level ≡ M.survivor it.top it.aim.what r.level
  level_is = survivor-is t it.aim.what it.top r.level can.running on.agrees.levels

  after : AfterOn r.room r.table m' (record t' { last = r.table.last }) it it.store p.charge kind to 1 (λ i. n)
  after =
      let g = ground_image r.room r.table in
      let there = rehouses r.room r.table it opened_on p fits stand r.area r.level (survivor t r.level) to old_there level_there end_there m' r.moves (record t' { last = r.table.last }) sound commits level_is in
      let known = arrives (ground_image r.room r.table) (ground_image r.moves.copied (record t' { last = r.table.last })) m'.words it registers n p.at to r.area r.level opened_on.kept
      (subst (λ (ws : List Parts). forward_of (word_at ws p.at).content ≡ None) (sym words) (subst (λ (a : ℕ). forward_of (word_at m.words a).content ≡ None) (sym place) last.no_forward))
      kind p (subst (λ (a : ℕ). Survives it registers kind a n) (sym place) can.survives)
      (subst (λ (ws : List Parts). IsParcel ws p.at p) (sym words) (subst (λ (a : ℕ). IsParcel m.words a p) (sym place) is))
      there r.moves.copies.there in
      let x = extends r.room r.table it opened_on p fits stand r.area r.level (survivor t r.level) to old_there level_there end_there m' r.moves (record t' { last = r.table.last }) sound commits in
      after_on r.room m' r.table (record t' { last = r.table.last }) it it.store p.charge kind to 1 (λ i. n) opened_on x.form sound
      (forwarded_ground r.room r.table it opened_on p fits stand r.area r.level (survivor t r.level) to old_there level_there end_there m' r.moves (record t' { last = r.table.last }) sound commits)
      (forwarded_named r.room r.table it opened_on p fits stand r.area r.level (survivor t r.level) to old_there level_there end_there m' r.moves (record t' { last = r.table.last }) sound commits)
      known

  -- at the new place there is no forward
  first_content : (rest : Option ℕ) → forward_of (moved_word m.words p.at p.words rest 0).content ≡ None
  first_content None = ap (λ (a : ℕ). forward_of (word_at m.words a).content) (let e : p.at + 0 ≡ at = omega (arith, place) in e) ∙ last.no_forward
  first_content (Some to) = pick (cases_lt 1 p.words)
    where
      pick : (1 < p.words) ⊎ (p.words ≤ 1) → forward_of (moved_word m.words p.at p.words (Some to) 0).content ≡ None
      pick (inl less) = rw (lt-ltb 1 p.words less) (ap (λ (a : ℕ). forward_of (word_at m.words a).content) (let e : p.at + 0 ≡ at = omega (arith, place) in e) ∙ last.no_forward)
      pick (inr few) =
          let some = fits.some in
          let each = fits.each in
          let one : p.words ≡ 1 = omega arith in
          rw (le-ltb 1 p.words few) (rw (let e : 1 - p.words ≡ 0 = omega arith in e) (ap (λ (a : ℕ). forward_of (word_at m.words a).content) (let e : p.at + p.words - 1 ≡ at = omega (arith, place) in e) ∙ last.no_forward))

  apart : (p.at ≤ to) × (to < p.at + p.objects) → ⊥
  apart x =
      let low = x.0 in
      let high = x.1 in
      let some = fits.some in
      let each = fits.each in
      go (end_apart r.table (slot_of r.table r.area (survivor t r.level)) to (word_count_of p) (slot_of r.table r.area r.level) p.at p.words r.opens.sound end_there old_there.region near_there (omega arith))
    where
      near_there : (p.at + p.words - 1) / 4096 ≡ p.at / 4096
      near_there =
          let some = fits.some in
          let each = fits.each in
          ap region_of (let e : p.at + p.words - 1 ≡ p.at + (p.words - 1) = omega arith in e) ∙ stand.near (p.words - 1) (omega arith)

      go : (p.at + p.words ≤ to) ⊎ (to + word_count_of p ≤ p.at) → ⊥
      go (inl l) = let high = x.1 in let each = fits.each in omega arith
      go (inr l) = let low = x.0 in let some = some_words p fits in omega arith

  final_there : IsFinal m'.words to
  final_there =
      let some = some_words p fits in
      let e : word_at m'.words to ≡ moved_word r.room.words p.at p.words p.rest 0 =
      r.moves.forwards.others to apart ∙ ap (word_at r.moves.copied.words) (let z : to ≡ to + 0 = omega arith in z) ∙ r.moves.copies.there 0 (omega arith) in
      let w : moved_word r.room.words p.at p.words p.rest 0 ≡ moved_word m.words p.at p.words p.rest 0 = ap (λ (ws : List Parts). moved_word ws p.at p.words p.rest 0) words in
      let room = end_inside r.table (slot_of r.table r.area (survivor t r.level)) to (word_count_of p) (length r.room.words) r.opens.sound end_there r.opens.ground.size in
      let a = r.moves.copies.size in
      let b = r.moves.forwards.size in
      record { inside = omega arith; no_forward = ap (λ (x : Parts). forward_of x.content) (e ∙ w) ∙ first_content p.rest }

  pub moved-later : ReachesOn m t m' t' it kind to n
  moved-later = record {
    later = record {
      map = after.map;
      kept = kept_on_noted m' (record t' { last = r.table.last }) t'.last (by_map it after.map) r.sound after.kept;
      refines = after.refines;
      work = (
          let same = old-opened m r.room t r.table r.region r.area (survivor t r.level) it on opened_on r.old.area_in level_in r.opens in
          let less = after.old in
          let pays = stand.pays in
          let placed : t'.placed ≡ r.table.placed + word_count_of p = ap (λ (u : Table). u.placed) r.commits.table in
          let first = (live-opened r.region on.table r.old.area_in level_in r.opens).table.placed in
          let kept : r.table.placed ≡ t.placed = opened-placed r.region r.opens in
          omega arith);
    };
    named = ap (λ (a : ℕ). names_as kind (after.map.role a)) (let e : to ≡ to + 0 = omega arith in e) ∙ after.there 0 (omega arith);
    live = (
      slot_of r.table r.area (survivor t r.level),
      subst (λ (cs : List (List ℕ)). Contains (chain (record r.table { chains = cs }) (live (slot_of r.table r.area (survivor t r.level)))) (to / 4096))
          (sym (ap (λ (u : Table). u.chains) r.commits.table)) (end_in_chain r.table (slot_of r.table r.area (survivor t r.level)) to (word_count_of p) end_there),
    );
    final = final_there;
  }
    where
      opened-placed : (region : Option ℕ) → Opens m t r.room r.table region r.area (survivor t r.level) → r.table.placed ≡ t.placed
      opened-placed None o = ap (λ (u : Table). u.placed) o.same
      opened-placed (Some q) o = ap (λ (u : Table). u.placed) o.chain
