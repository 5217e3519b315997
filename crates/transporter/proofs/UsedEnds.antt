-- Words are placed at the used end of a live class.
use Rattle.std.proofs.Common.{ℕ, ◌≡◌, ◌⊎◌, ◌+◌, ◌-◌, ◌/◌, ◌%◌, ◌<◌, ◌≤◌, List, Option, Some, length, slice_index, slice_set, refl, sym, ◌∙◌, ap, subst, inl, inr, arith}
use Rattle.std.specs.Prelude.{Contains}
use Rattle.std.proofs.lemmas.Bool.{cases_eq, cases_lt}
use Rattle.std.proofs.lemmas.List.{get_or-set_same, get_or-set_other, get_or_past, length-set}
use Rattle.area_space.specs.declared.classes.Origin.{Origin}
use Rattle.area_space.specs.declared.classes.Origin.TheVariants.{New, Moved, Reserve}
use Rattle.area_space.specs.Table.{Table, slot_of, live, stale, chain, used_of, page_list, IsLive}
use Rattle.area_space.specs.Sound.{IsTable}
use Rattle.area_space.specs.Places.{IsEnd}
use Rattle.area_space.specs.Charges.{charged_by, committed}
use Rattle.area_space.specs.PageList.{Adds}
use Rattle.area_space.proofs.UsedEnds.{end_in_chain}
use Rattle.lisp_ground.specs.GroundInvariant.{SameForm}
use Rattle.lisp_ground.specs.Writes.{Within}
use Rattle.transporter.specs.LiveWordsUnchanged.{OnlyGrows}
use Rattle.transporter.specs.Making.{PlacesNew}
use Rattle.transporter.specs.Relocations.{old_class, Commits}

-- the used end of a live class has moved past this many words, which are counted as placed, and their pages are to be scanned; no region changes its class
pub record Extends (t t' : Table) (slot at words : ℕ) : Type 0 where
  pub end : IsEnd t slot at words
  pub form : SameForm t t'
  pub aim : t'.aim ≡ t.aim
  pub chains : t'.chains ≡ t.chains
  pub marks : t'.marks ≡ t.marks
  pub used : t'.used ≡ slice_set t.used (at / 4096) (used_of t (at / 4096) + words)
  pub placed : t'.placed ≡ t.placed + words
  pub pages : Adds (page_list t) (page_list t') (at / 256) ((at + words - 1) / 256)

-- A charge, whatever its origin, changes nothing else

record OnlyCharges (t t' : Table) : Type 0 where
  form : SameForm t t'
  aim : t'.aim ≡ t.aim
  chains : t'.chains ≡ t.chains
  marks : t'.marks ≡ t.marks
  used : t'.used ≡ t.used
  placed : t'.placed ≡ t.placed

only-charges : (t : Table) (slot charge : ℕ) (origin : Origin) → OnlyCharges t (charged_by t slot charge origin)
only-charges t slot charge New = record { form = record { regions = refl; top = refl; quotas = refl; kinds = refl }; aim = refl; chains = refl; marks = refl; used = refl; placed = refl }
only-charges t slot charge (Moved from) = record { form = record { regions = refl; top = refl; quotas = refl; kinds = refl }; aim = refl; chains = refl; marks = refl; used = refl; placed = refl }
only-charges t slot charge Reserve = record { form = record { regions = refl; top = refl; quotas = refl; kinds = refl }; aim = refl; chains = refl; marks = refl; used = refl; placed = refl }

-- words are committed, whatever their origin
pub committed-extends : (t t' : Table) (slot at words charge : ℕ) (origin : Origin) (pages : List ℕ) (last : Option ℕ) → IsEnd t slot at words → t' ≡ record (committed t slot at words charge origin) { pages = pages; last = last }
    → Adds (page_list t) (page_list t') (at / 256) ((at + words - 1) / 256) → Extends t t' slot at words
committed-extends t t' slot at words charge origin pages last end is adds =
    let long : Table = record t { used = slice_set t.used (at / 4096) (used_of t (at / 4096) + words); placed = t.placed + words } in
    let c : OnlyCharges long (charged_by long slot charge origin) = only-charges long slot charge origin in
    record {
      end = end;
      form = record { regions = ap (λ (u : Table). u.regions) is ∙ c.form.regions; top = ap (λ (u : Table). u.top) is ∙ c.form.top; quotas = ap (λ (u : Table). u.quotas) is ∙ c.form.quotas; kinds = ap (λ (u : Table). u.kinds) is ∙ c.form.kinds };
      aim = ap (λ (u : Table). u.aim) is ∙ c.aim;
      chains = ap (λ (u : Table). u.chains) is ∙ c.chains;
      marks = ap (λ (u : Table). u.marks) is ∙ c.marks;
      used = ap (λ (u : Table). u.used) is ∙ c.used;
      placed = ap (λ (u : Table). u.placed) is ∙ c.placed;
      pages = adds;
    }

pub new-extends : {t t' : Table} {area level at words charge : ℕ} (p : PlacesNew t t' area level at words charge) → Extends p.room t' (slot_of p.room area level) at words
new-extends {t} {t'} {area} {level} {at} {words} {charge} p = committed-extends p.room t' (slot_of p.room area level) at words charge New t'.pages p.room.last p.end p.commit p.pages

pub moved-extends : {t t' : Table} {area from level at words charge : ℕ} → IsEnd t (slot_of t area level) at words → Commits t t' area from level at words charge → Extends t t' (slot_of t area level) at words
moved-extends {t} {t'} {area} {from} {level} {at} {words} {charge} end c =
    committed-extends t t' (slot_of t area level) at words charge (Moved (old_class area from)) t'.pages (Some ((at + words - 1) / 256)) end c.table c.pages

-- What follows

module _ (t t' : Table) (slot at words : ℕ) (x : Extends t t' slot at words) where
  -- one region's used end rises
  pub used-after : (region : ℕ) → (used_of t' region ≡ used_of t region) ⊎ ((region ≡ at / 4096) × (used_of t' region ≡ used_of t region + words))
  used-after region = elim (cases_eq region (at / 4096)) [
    | inr ne ↦ inl (is ∙ get_or-set_other t.used (at / 4096) region (used_of t (at / 4096) + words) 0 ne)
    | inl e ↦ elim (cases_lt (at / 4096) (length t.used)) [
      | inl low ↦
          let set = ap (slice_index (slice_set t.used (at / 4096) (used_of t (at / 4096) + words))) e ∙ get_or-set_same t.used (at / 4096) (used_of t (at / 4096) + words) 0 low in
          let was : used_of t region ≡ used_of t (at / 4096) = ap (used_of t) e in
          inr (e, is ∙ set ∙ ap (λ (n : ℕ). n + words) (sym was))
      | inr high ↦
          let past = length-set t.used (at / 4096) (used_of t (at / 4096) + words) in
          let set = get_or_past (slice_set t.used (at / 4096) (used_of t (at / 4096) + words)) region 0 (omega arith) in
          let was = get_or_past t.used region 0 (omega arith) in
          inl (is ∙ set ∙ sym was)
    ]
  ]
    where
      is : used_of t' region ≡ slice_index (slice_set t.used (at / 4096) (used_of t (at / 4096) + words)) region
      is = ap (λ (us : List ℕ). slice_index us region) x.used

  -- the region is one of the table
  pub end-low : IsTable t' → at / 4096 < t.regions
  end-low v =
      let below = v.sound.within (live slot) (at / 4096) end-live in
      let same = x.form.regions in
      omega arith
    where
      end-live : Contains (chain t' (live slot)) (at / 4096)
      end-live = subst (λ (cs : List (List ℕ)). Contains (chain (record t { chains = cs }) (live slot)) (at / 4096)) (sym x.chains) (end_in_chain t slot at words x.end)

  pub end-sized : IsTable t' → at / 4096 < length t.used
  end-sized v =
      let low = end-low v in
      let same = x.form.regions in
      let size : length t'.used ≡ length t.used = ap length x.used ∙ length-set t.used (at / 4096) (used_of t (at / 4096) + words) in
      let s = v.used_size in
      omega arith

  -- and live
  pub end-alive : IsLive t' (at / 4096)
  end-alive = (slot, subst (λ (cs : List (List ℕ)). Contains (chain (record t { chains = cs }) (live slot)) (at / 4096)) (sym x.chains) (end_in_chain t slot at words x.end))

  pub extends-grows : OnlyGrows t t'
  extends-grows = record {
    form = x.form;
    aim = x.aim;
    live_chains = λ class region h. subst (λ (cs : List (List ℕ)). Contains (chain (record t { chains = cs }) (live class)) region) (sym x.chains) h;
    old_chains = λ class. ap (λ (cs : List (List ℕ)). chain (record t { chains = cs }) (stale class)) x.chains;
    used = λ region. elim (used-after region) [ inl same ↦ (omega arith) | inr more ↦ (let e = more.1 in omega arith) ];
    flip_marks = x.marks;
    placed = (let e = x.placed in omega arith);
  }

  -- a word that was used isn't one of those
  pub used-apart : (a : ℕ) → a % 4096 < used_of t (a / 4096) → Within at words a → ⊥
  used-apart a used within =
      let low = within.0 in
      let high = within.1 in
      let e = x.end.end in
      let f = x.end.fits in
      let same : a / 4096 ≡ at / 4096 = omega arith in
      let u = ap (used_of t) same in
      omega arith

  -- and one that is used now and wasn't is
  pub used-new : (a : ℕ) → used_of t (a / 4096) ≤ a % 4096 → a % 4096 < used_of t' (a / 4096) → Within at words a
  used-new a past now = elim (used-after (a / 4096)) [
    | inl same ↦ absurd (omega arith)
    | inr more ↦
        let region = more.0 in
        let far = more.1 in
        let was : used_of t (a / 4096) ≡ used_of t (at / 4096) = ap (used_of t) region in
        let e = x.end.end in
        (omega arith, omega arith)
  ]
