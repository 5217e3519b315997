-- Words that are written at a place and committed as a new object's.
use Rattle.std.proofs.Common.{◌≡◌, ℕ, ◌+◌, ◌-◌, ◌/◌, ◌%◌, ◌<◌, ◌≤◌, ◌⊎◌, inl, inr, sym, ap, subst, arith, List, length, slice_index, slice_set}
use Rattle.std.specs.Prelude.{Contains}
use Rattle.std.proofs.lemmas.Bool.{cases_eq}
use Rattle.std.proofs.lemmas.List.{get_or-set_same, get_or-set_other}
use Rattle.store_word.specs.Words.{Parts}
use Rattle.mem_port.specs.Store.{StoresNothing}
use Rattle.mem_port.specs.Store as Memory
use Rattle.area_space.specs.declared.classes.Origin.TheVariants.{New}
use Rattle.area_space.specs.Table.{Table, chain, live, page_list, slot_of, stale, used_of}
use Rattle.area_space.specs.Places.{IsEnd}
use Rattle.area_space.specs.Charges.{committed}
use Rattle.area_space.specs.PageList.{Adds}
use Rattle.area_space.specs.Sound.{IsTable}
use Rattle.area_space.proofs.UsedEnds.{end_region}
use Rattle.transporter.specs.LiveWordsUnchanged.{LiveWordsUnchanged}
use Rattle.transporter.specs.Writes.{Writes}

module _ (m m2 : Memory.Store) (t t2 : Table) (v : IsTable t) (area level at words : ℕ) (word : ℕ → Parts) (end : IsEnd t (slot_of t area level) at words) (w : Writes m m2 at words word)
    (commit : t2 ≡ record (committed t (slot_of t area level) at words words New) { pages = t2.pages }) (pages : Adds (page_list t) (page_list t2) (at / 256) ((at + words - 1) / 256)) where
  in_table : {A : Type 0} (f : Table → A) → f t2 ≡ f (record (committed t (slot_of t area level) at words words New) { pages = t2.pages })
  in_table f = ap f commit

  inside : at / 4096 < length t.used
  inside = let a = end_region t (slot_of t area level) at words v end in let b = v.used_size in omega arith

  used_rises : (r : ℕ) → used_of t r ≤ used_of t2 r
  used_rises r =
      let e = in_table (λ u. used_of u r) in
      go (cases_eq r (at / 4096)) e
    where
      go : (r ≡ at / 4096) ⊎ (r ≡ at / 4096 → ⊥) → used_of t2 r ≡ slice_index (slice_set t.used (at / 4096) (used_of t (at / 4096) + words)) r → used_of t r ≤ used_of t2 r
      go (inl same) e =
          let here = get_or-set_same t.used (at / 4096) (used_of t (at / 4096) + words) 0 inside in
          let there = ap (slice_index (slice_set t.used (at / 4096) (used_of t (at / 4096) + words))) same in
          let was = ap (used_of t) same in
          omega arith
      go (inr ne) e = let other = get_or-set_other t.used (at / 4096) r (used_of t (at / 4096) + words) 0 ne in omega arith

  -- a word that is used isn't new
  not_new : (a : ℕ) → a % 4096 < used_of t (a / 4096) → (at ≤ a) × (a < at + words) → ⊥
  not_new a used x =
      let low = x.0 in
      let high = x.1 in
      let e = end.end in
      let f = end.fits in
      let same : a / 4096 ≡ at / 4096 = omega arith in
      let u = ap (used_of t) same in
      omega arith

  pub live_laid : LiveWordsUnchanged m t m2 t2
  live_laid = record {
    table = record {
      form = record { regions = in_table (λ u. u.regions); top = in_table (λ u. u.top); quotas = in_table (λ u. u.quotas); kinds = in_table (λ u. u.kinds) };
      aim = in_table (λ u. u.aim);
      live_chains = λ slot region h. subst (λ (cs : List (List ℕ)). Contains (chain (record t { chains = cs }) (live slot)) region) (sym (in_table (λ u. u.chains))) h;
      old_chains = λ slot. ap (λ (cs : List (List ℕ)). chain (record t { chains = cs }) (stale slot)) (in_table (λ u. u.chains));
      used = used_rises;
      flip_marks = in_table (λ u. u.marks);
      placed = (let e = in_table (λ u. u.placed) in omega arith);
    };
    words = λ a x. w.others a (not_new a x.used);
  }
