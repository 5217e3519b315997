-- What a reclaim frees, and what a flip leaves unchanged.
use Rattle.std.proofs.Common.{◌≡◌, ℕ, ◌/◌, ◌<◌, ◌⊎◌, inl, inr, refl, sym, ◌∙◌, ap, subst, List, [], length, Option, arith}
use Rattle.std.specs.Prelude.{Contains, slice_get, unwrap_or, Bool, true, false}
use Rattle.std.proofs.lemmas.Option.{get_or_from_slice_get, unwrap_or-slice_get}
use Rattle.store_word.specs.Words.{Parts, null_word}
use Rattle.lisp_graph.specs.declared.command.Condemn.{Condemn}
use Rattle.mem_port.specs.Store.{Store}
use Rattle.area_space.specs.Flips.{Condemns, Slot, after_flip, condemns, state_of}
use Rattle.area_space.specs.Frees.{Frees}
use Rattle.area_space.specs.Ground.{ClearsOld, IsGround}
use Rattle.area_space.specs.Sound.{IsTable}
use Rattle.area_space.specs.Table.{Table, chain, lists_of, live, slots_of, stale, used_of, IsOld, IsUnclassed}
use Rattle.area_space.proofs.RegionStates.{half_cases, old_or_not}
use Rattle.area_space.proofs.index_lists.ListUpdates.{list_in}
use Rattle.heap_state.specs.transporter.obj_layout.Forwards.{word_at}
use Rattle.heap_collect.specs.Freeing.{FreesAtMost, IsFreed}
use Rattle.heap_collect.specs.Moments.{IsDone}

-- a chain of a table is that of a slot
slot_in : (t u : Table) (class region : ℕ) → IsTable t → length u.chains ≡ length t.chains → Contains (chain u class) region → class / 2 < slots_of t
slot_in t u class region v size m = let low = list_in (lists_of u) class region m in let z = v.chains_size in omega arith

-- A reclaim

-- a region that was old is free
freed_there : (t u : Table) (region : ℕ) → IsTable t → Frees t u → IsOld t region → IsFreed t u region
freed_there t u region v f old = record { old = old; free = free }
  where
    free : IsUnclassed u region
    free class m = by_half (half_cases class)
      where
        low : class / 2 < slots_of t
        low = slot_in t u class region v f.sizes.chains m

        by_half : (class ≡ live (class / 2)) ⊎ (class ≡ stale (class / 2)) → ⊥
        by_half (inl e) =
            let there : Contains (chain u (live (class / 2))) region = subst (λ (k : ℕ). Contains (chain u k) region) e m in
            let was : Contains (chain t (live (class / 2))) region = subst (λ (x : Slot). Contains x.live_chain region) (f.slots (class / 2) low) there in
            let one = v.sound.one_list (live (class / 2)) (stale old.0) region was old.1 in
            absurd (omega arith)
        by_half (inr e) =
            let there : Contains (chain u (stale (class / 2))) region = subst (λ (k : ℕ). Contains (chain u k) region) e m in
            let none = subst (λ (x : Slot). Contains x.old_chain region) (f.slots (class / 2) low) there in
            absurd (omega (arith, none.1))

same_word : (xs ys : List Parts) (a : ℕ) → slice_get ys a ≡ slice_get xs a → word_at ys a ≡ word_at xs a
same_word xs ys a e = sym (unwrap_or-slice_get ys a null_word) ∙ ap (λ (o : Option Parts). unwrap_or o null_word) e ∙ unwrap_or-slice_get xs a null_word

reclaim_frees : (m m' : Store) (t u : Table) → IsTable t → IsGround m t → Frees t u → ClearsOld m m' t t.regions → FreesAtMost m t m' u
reclaim_frees m m' t u v ground f c = record { unmarked = unmarked; words = words; used = used }
  where
    inside : (region : ℕ) → IsOld t region → region < t.regions
    inside region old = v.sound.within (stale old.0) region old.1

    unmarked : (page : ℕ) → m.marks page ≡ 0 → m'.marks page ≡ 0
    unmarked page clean = elim (old_or_not t (page / 16) v) [
      | inl old ↦ c.unmarked page old (inside (page / 16) old)
      | inr young ↦ c.marks page (λ low. young) ∙ clean
    ]

    words : (a : ℕ) → (word_at m'.words a ≡ word_at m.words a) ⊎ (IsFreed t u (a / 4096) × (word_at m'.words a ≡ null_word))
    words a = elim (old_or_not t (a / 4096) v) [
      | inl old ↦
          let low = inside (a / 4096) old in
          let size = ground.size in
          inr (freed_there t u (a / 4096) v f old, get_or_from_slice_get m'.words a null_word null_word (c.null a old low (omega arith)))
      | inr young ↦ inl (same_word m.words m'.words a (c.others a (λ low. young)))
    ]

    used : (region : ℕ) → (used_of u region ≡ used_of t region) ⊎ IsFreed t u region
    used region = elim (old_or_not t region v) [
      | inl old ↦ inr (freed_there t u region v f old)
      | inr young ↦ inl (f.kept region young).0
    ]

pub done_frees : (m m' : Store) (t u : Table) → IsDone m t → Frees t u → ClearsOld m m' t t.regions → FreesAtMost m t m' u
done_frees m m' t u x f c = reclaim_frees m m' t u x.represents.represents.kept.table x.represents.represents.kept.ground f c

-- nothing was done
pub frees_nothing : (m : Store) (t : Table) → FreesAtMost m t m t
frees_nothing m t = record { unmarked = λ page clean. clean; words = λ a. inl refl; used = λ region. inl refl }

-- A flip

live_was : (b : Bool) (x : Slot) (r : ℕ) → Contains (after_flip b x).live_chain r → Contains x.live_chain r
live_was true x r m = absurd (omega (arith, m.1))
live_was false x r m = m

old_was : (b : Bool) (x : Slot) (r : ℕ) → Contains (after_flip b x).old_chain r → Contains x.live_chain r ⊎ Contains x.old_chain r
old_was true x r m = inl m
old_was false x r m = inr m

-- leaves a free region free
pub free_condemned : (t u : Table) (what : Condemn) (region : ℕ) → IsTable t → Condemns t u what → IsUnclassed t region → IsUnclassed u region
free_condemned t u what region v f free class m = by_half (half_cases class)
  where
    low : class / 2 < slots_of t
    low = slot_in t u class region v f.sizes.chains m

    by_half : (class ≡ live (class / 2)) ⊎ (class ≡ stale (class / 2)) → ⊥
    by_half (inl e) =
        let there : Contains (chain u (live (class / 2))) region = subst (λ (k : ℕ). Contains (chain u k) region) e m in
        free (live (class / 2)) (live_was (condemns t what (class / 2)) (state_of t (class / 2)) region (subst (λ (x : Slot). Contains x.live_chain region) (f.slots (class / 2) low) there))
    by_half (inr e) =
        let there : Contains (chain u (stale (class / 2))) region = subst (λ (k : ℕ). Contains (chain u k) region) e m in
        elim (old_was (condemns t what (class / 2)) (state_of t (class / 2)) region (subst (λ (x : Slot). Contains x.old_chain region) (f.slots (class / 2) low) there)) [
          | inl was ↦ free (live (class / 2)) was
          | inr was ↦ free (stale (class / 2)) was
        ]

-- and each used end
pub used_condemned : (t u : Table) (what : Condemn) (region : ℕ) → Condemns t (record u { pages = [] }) what → used_of u region ≡ used_of t region
used_condemned t u what region f = ap (λ (x : Table). used_of x region) f.same

-- what was freed before it is
pub frees_then : (m m' m2 : Store) (t u w : Table) → FreesAtMost m t m' u → m2 ≡ m' → ((region : ℕ) → used_of w region ≡ used_of u region) → ((region : ℕ) → IsUnclassed u region → IsUnclassed w region) → FreesAtMost m t m2 w
frees_then m m' m2 t u w x same used free = subst (λ (n : Store). FreesAtMost m t n w) (sym same) (record {
  unmarked = x.unmarked;
  words = λ a. elim (x.words a) [ inl e ↦ inl e | inr y ↦ inr (record { old = y.0.old; free = free (a / 4096) y.0.free }, y.1) ];
  used = λ region. elim (x.used region) [ inl e ↦ inl (used region ∙ e) | inr y ↦ inr (record { old = y.old; free = free region y.free }) ];
})
