-- A transport leaves what is live unchanged.
use Rattle.std.proofs.Common.{ℕ, ◌≡◌, ◌≢◌, ◌⊎◌, ◌+◌, ◌-◌, ◌*◌, ◌/◌, ◌%◌, ◌<◌, ◌≤◌, List, length, Option, Some, None, slice_index, slice_set, refl, sym, ◌∙◌, ap, subst, inl, inr, arith}
use Rattle.std.specs.Prelude.{Contains}
use Rattle.std.proofs.lemmas.Bool.{cases_eq}
use Rattle.std.proofs.lemmas.List.{get_or-set_same, get_or-set_other}
use Rattle.store_word.specs.Words.{Parts}
use Rattle.mem_port.specs.Store.{Store, StoresNothing}
use Rattle.area_space.specs.declared.classes.Origin.TheVariants.{Moved}
use Rattle.area_space.specs.Table.{Table, areas_of, levels_of, slot_of, live, stale, chain, used_of, IsLive, IsOld}
use Rattle.area_space.specs.Sound.{IsTable}
use Rattle.area_space.specs.Places.{IsEnd}
use Rattle.area_space.specs.Charges.{committed}
use Rattle.area_space.specs.Flips.{survivor}
use Rattle.area_space.proofs.UsedEnds.{end_region}
use Rattle.area_space.proofs.NewRegions.{contains_opened, chain_opened_other, slot_below}
use Rattle.obj_layout.specs.Forwards.{word_at}
use Rattle.lisp_ground.specs.Placing.{Opens}
use Rattle.transporter.specs.declared.parcel.Parcel.{Parcel}
use Rattle.transporter.specs.Parcels.{IsFit, word_count_of}
use Rattle.transporter.specs.LiveWordsUnchanged.{OnlyGrows, IsLiveWord, LiveWordsUnchanged}
use Rattle.transporter.specs.Relocations.{old_class, IsOldIn, Moves, Commits, Relocates, OpensAtMost}
use Rattle.transporter.proofs.Places.{survivor_in}
use Rattle.transporter.proofs.MovedParcels.{opened-form}

-- Calls that store nothing, and one call after another

pub grows-same : {t : Table} → OnlyGrows t t
grows-same {t} = record {
  form = record { regions = refl; top = refl; quotas = refl; kinds = refl };
  aim = refl;
  live_chains = λ slot region h. h;
  old_chains = λ slot. refl;
  used = λ region. omega arith;
  flip_marks = refl;
  placed = omega arith;
}

pub grows-then : {t t1 t2 : Table} → OnlyGrows t t1 → OnlyGrows t1 t2 → OnlyGrows t t2
grows-then {t} {t1} {t2} x y = record {
  form = record { regions = y.form.regions ∙ x.form.regions; top = y.form.top ∙ x.form.top; quotas = y.form.quotas ∙ x.form.quotas; kinds = y.form.kinds ∙ x.form.kinds };
  aim = y.aim ∙ x.aim;
  live_chains = λ slot region h. y.live_chains slot region (x.live_chains slot region h);
  old_chains = λ slot. y.old_chains slot ∙ x.old_chains slot;
  used = λ region. (let a = x.used region in let b = y.used region in omega arith);
  flip_marks = y.flip_marks ∙ x.flip_marks;
  placed = (let a = x.placed in let b = y.placed in omega arith);
}

-- a live word stays one
pub still-live : {t t' : Table} {a : ℕ} → OnlyGrows t t' → IsLiveWord t a → IsLiveWord t' a
still-live {t} {t'} {a} g w = record {
  live = (w.live.0, g.live_chains w.live.0 (a / 4096) w.live.1);
  used = (let x = g.used (a / 4096) in let y = w.used in omega arith);
}

-- a region is old if and only if it was
pub old-stays : {t t' : Table} {region : ℕ} → OnlyGrows t t' → IsOld t region → IsOld t' region
old-stays {t} {t'} {region} g old = (old.0, subst (λ (rs : List ℕ). Contains rs region) (sym (g.old_chains old.0)) old.1)

pub old-before : {t t' : Table} {region : ℕ} → OnlyGrows t t' → IsOld t' region → IsOld t region
old-before {t} {t'} {region} g old = (old.0, subst (λ (rs : List ℕ). Contains rs region) (g.old_chains old.0) old.1)

pub live-read : {m m' : Store} {t : Table} → StoresNothing m m' → LiveWordsUnchanged m t m' t
live-read {m} {m'} {t} n = record { table = grows-same; words = λ a w. ap (λ (ws : List Parts). word_at ws a) n.words }

pub live-then : {m m1 m2 : Store} {t t1 t2 : Table} → LiveWordsUnchanged m t m1 t1 → LiveWordsUnchanged m1 t1 m2 t2 → LiveWordsUnchanged m t m2 t2
live-then {m} {m1} {m2} {t} {t1} {t2} x y = record { table = grows-then x.table y.table; words = λ a w. y.words a (still-live x.table w) ∙ x.words a w }

-- A region that is opened

pub not-live : (class slot : ℕ) → stale slot ≢ live class
not-live class slot e = omega arith

pub live-opened : {m m' : Store} {t t' : Table} {area level : ℕ} (region : Option ℕ) → IsTable t → area < areas_of t → level < levels_of t → Opens m t m' t' region area level → LiveWordsUnchanged m t m' t'
live-opened {m} {m'} {t} {t'} None v area_in level_in o =
    subst (λ (u : Table). LiveWordsUnchanged m t m' u) (sym o.same) (record { table = grows-same; words = λ a w. ap (λ (x : Store). word_at x.words a) o.behind })
live-opened {m} {m'} {t} {t'} {area} {level} (Some r) v area_in level_in o =
    let below : live (slot_of t area level) < length t.chains = (let a = slot_below t area level area_in level_in in let b = v.chains_size in omega arith) in
    subst (λ (u : Table). LiveWordsUnchanged m t m' u) (sym o.chain) (record {
      table = record {
        form = record { regions = refl; top = refl; quotas = refl; kinds = refl };
        aim = refl;
        live_chains = λ slot region h. contains_opened t (live (slot_of t area level)) r (live slot) region below h;
        old_chains = λ slot. chain_opened_other t (live (slot_of t area level)) r (stale slot) (not-live (slot_of t area level) slot);
        used = λ region. omega arith;
        flip_marks = refl;
        placed = omega arith;
      };
      words = λ a w. ap (λ (x : Store). word_at x.words a) o.region_level;
    })

-- Words that are committed, copied and forwarded

module _ (m : Store) (t : Table) (v : IsTable t) (p : Parcel) (fits : IsFit p) (near : (p.at + p.words - 1) / 4096 ≡ p.at / 4096) (area from level to : ℕ) (old : IsOldIn t p.at area from) (end : IsEnd t (slot_of t area level) to (word_count_of p))
    (m' : Store) (moves : Moves m m' p to) (t' : Table) (c : Commits t t' area from level to (word_count_of p) p.charge) where
  in_table : {A : Type 0} (f : Table → A) → f t' ≡ f (record (committed t (slot_of t area level) to (word_count_of p) p.charge (Moved (old_class area from))) { pages = t'.pages; last = Some ((to + word_count_of p - 1) / 256) })
  in_table f = ap f c.table

  inside : to / 4096 < length t.used
  inside = let a = end_region t (slot_of t area level) to (word_count_of p) v end in let b = v.used_size in omega arith

  used_rises : (r : ℕ) → used_of t r ≤ used_of t' r
  used_rises r =
      let e = in_table (λ u. used_of u r) in
      go (cases_eq r (to / 4096)) e
    where
      go : (r ≡ to / 4096) ⊎ (r ≡ to / 4096 → ⊥) → used_of t' r ≡ slice_index (slice_set t.used (to / 4096) (used_of t (to / 4096) + word_count_of p)) r → used_of t r ≤ used_of t' r
      go (inl same) e =
          let here = get_or-set_same t.used (to / 4096) (used_of t (to / 4096) + word_count_of p) 0 inside in
          let there = ap (slice_index (slice_set t.used (to / 4096) (used_of t (to / 4096) + word_count_of p))) same in
          let was = ap (used_of t) same in
          omega arith
      go (inr ne) e = let other = get_or-set_other t.used (to / 4096) r (used_of t (to / 4096) + word_count_of p) 0 ne in omega arith

  -- a live used word is neither new nor old
  untouched : (a : ℕ) → IsLive t (a / 4096) → a % 4096 < used_of t (a / 4096) → word_at m'.words a ≡ word_at m.words a
  untouched a alive used = moves.forwards.others a not_old ∙ moves.copies.others a not_new
    where
      not_old : (p.at ≤ a) × (a < p.at + p.objects) → ⊥
      not_old x =
          let low = x.0 in
          let high = x.1 in
          let each = fits.each in
          let same : a / 4096 ≡ p.at / 4096 = omega arith in
          let both = v.sound.one_list (live alive.0) (stale (slot_of t area from)) (a / 4096) alive.1 (subst (λ (r : ℕ). Contains (chain t (stale (slot_of t area from))) r) (sym same) old.region) in
          omega arith

      not_new : (to ≤ a) × (a < to + word_count_of p) → ⊥
      not_new x =
          let low = x.0 in
          let high = x.1 in
          let e = end.end in
          let f = end.fits in
          let same : a / 4096 ≡ to / 4096 = omega arith in
          let u = ap (used_of t) same in
          omega arith

  pub live-moved : LiveWordsUnchanged m t m' t'
  live-moved = record {
    table = record {
      form = record { regions = in_table (λ u. u.regions); top = in_table (λ u. u.top); quotas = in_table (λ u. u.quotas); kinds = in_table (λ u. u.kinds) };
      aim = in_table (λ u. u.aim);
      live_chains = λ slot region h. subst (λ (cs : List (List ℕ)). Contains (chain (record t { chains = cs }) (live slot)) region) (sym (in_table (λ u. u.chains))) h;
      old_chains = λ slot. ap (λ (cs : List (List ℕ)). chain (record t { chains = cs }) (stale slot)) (in_table (λ u. u.chains));
      used = used_rises;
      flip_marks = in_table (λ u. u.marks);
      placed = (let e = in_table (λ u. u.placed) in omega arith);
    };
    words = λ a w. untouched a w.live w.used;
  }

-- Together

pub live-relocated : {m : Store} {t : Table} {m' : Store} {t' : Table} {p : Parcel} {to : ℕ} → IsTable t → IsFit p → (p.at + p.words - 1) / 4096 ≡ p.at / 4096 → Relocates m t m' t' p to → LiveWordsUnchanged m t m' t'
live-relocated {m} {t} {m'} {t'} {p} {to} v fits near r =
    let low = survivor_in t r.level r.old.level_in in
    let first = live-opened r.region v r.old.area_in low r.opens in
    let form = opened-form r.region r.opens in
    let slot_is : slot_of t r.area (survivor t r.level) ≡ slot_of r.table r.area (survivor t r.level) = ap (λ (top : ℕ). r.area * (top + 1) + survivor t r.level) (sym form.top) in
    let old_slot : slot_of t r.area r.level ≡ slot_of r.table r.area r.level = ap (λ (top : ℕ). r.area * (top + 1) + r.level) (sym form.top) in
    let old : IsOldIn r.table p.at r.area r.level = record {
      area_in = subst (λ (qs : List ℕ). r.area < length qs) (sym form.quotas) r.old.area_in;
      level_in = subst (λ (top : ℕ). r.level < top + 1) (sym form.top) r.old.level_in;
      region = subst (λ (k : ℕ). Contains (chain r.table (stale k)) (p.at / 4096)) old_slot (subst (λ (rs : List ℕ). Contains rs (p.at / 4096)) (sym (first.table.old_chains (slot_of t r.area r.level))) r.old.region);
    } in
    live-then first (live-moved r.room r.table r.opens.sound p fits near r.area r.level (survivor t r.level) to old (subst (λ (k : ℕ). IsEnd r.table k to (word_count_of p)) slot_is r.end) m' r.moves t' r.commits)

-- if a transport has failed
pub live-faulted : {m : Store} {t : Table} {m' : Store} {t' : Table} → IsTable t → OpensAtMost m t m' t' → LiveWordsUnchanged m t m' t'
live-faulted {m} {t} {m'} {t'} v (inl x) = subst (λ (u : Table). LiveWordsUnchanged m t m' u) (sym x.1) (live-read x.0)
live-faulted {m} {t} {m'} {t'} v (inr x) =
    let o = x.2 in
    live-then (live-read x.1) (live-then (live-opened o.region v o.area_in o.level_in o.opens) (live-read o.stays))
