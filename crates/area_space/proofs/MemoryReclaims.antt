-- A reclaim in the memory.
use Rattle.std.proofs.Common.{◌≡◌, ℕ, ◌+◌, ◌/◌, ◌%◌, ◌<◌, Some, None, List, [], length, slice_index, slice_get, sym, ◌∙◌, ap, subst, arith, inl, inr}
use Rattle.std.specs.Prelude.{Contains}
use Rattle.std.proofs.lemmas.Bool.{cases_eq}
use Rattle.store_word.specs.Words.{Parts, address_of, null_word}
use Rattle.mem_port.specs.Store.{Store, Clears}
use Rattle.std.proofs.lemmas.Option.{slice_get_within}
use Rattle.area_space.proofs.RegionStates.{old_or_not, half_cases}
use Rattle.area_space.specs.Flips.{Slot}
use Rattle.area_space.specs.Frees.{Frees}
use Rattle.area_space.specs.Ground.{IsGround, NamesNoFree, NamesNoOld, ClearsOld}
use Rattle.area_space.specs.Sound.{IsTable}
use Rattle.area_space.specs.Table.{Table, slots_of, levels_of, used_of, chain, lists_of, live, stale, IsOld}
use Rattle.index_lists.proofs.ListUpdates.{list_in}

pub clears_more : (s n m : Store) (t : Table) (k : ℕ) → IsTable t → ClearsOld s n t k → (IsOld t k → Clears n m k) → ((IsOld t k → ⊥) → m ≡ n) → ClearsOld s m t (k + 1)
clears_more s n m t k v f clears same =
    elim (old_or_not t k v) [
      | inl old ↦
          let c = clears old in
          record {
            size = c.size ∙ f.size;
            null = λ at is_old l in_words. elim (cases_eq (at / 4096) k) [
              | inl e ↦ c.null at e (let z = f.size in omega arith)
              | inr ne ↦ c.others at ne ∙ f.null at is_old (omega arith) in_words
            ];
            others = λ at no. elim (cases_eq (at / 4096) k) [
              | inl e ↦ absurd (no (omega arith) (subst (IsOld t) (sym e) old))
              | inr ne ↦ c.others at ne ∙ f.others at (λ l o. no (omega arith) o)
            ];
            levels = c.levels ∙ f.levels;
            top = c.top ∙ f.top;
            unmarked = λ page is_old l. elim (cases_eq (page / 16) k) [
              | inl e ↦ c.unmarked page e
              | inr ne ↦ c.marks page ne ∙ f.unmarked page is_old (omega arith)
            ];
            marks = λ page no. elim (cases_eq (page / 16) k) [
              | inl e ↦ absurd (no (omega arith) (subst (IsOld t) (sym e) old))
              | inr ne ↦ c.marks page ne ∙ f.marks page (λ l o. no (omega arith) o)
            ];
          }
      | inr not_old ↦
          subst (λ (x : Store). ClearsOld s x t (k + 1)) (sym (same not_old)) (record {
            size = f.size;
            null = λ at is_old l in_words. f.null at is_old (elim (cases_eq (at / 4096) k) [
              | inl e ↦ absurd (not_old (subst (IsOld t) e is_old))
              | inr ne ↦ omega arith
            ]) in_words;
            others = λ at no. f.others at (λ l o. no (omega arith) o);
            levels = f.levels;
            top = f.top;
            unmarked = λ page is_old l. f.unmarked page is_old (elim (cases_eq (page / 16) k) [
              | inl e ↦ absurd (not_old (subst (IsOld t) e is_old))
              | inr ne ↦ omega arith
            ]);
            marks = λ page no. f.marks page (λ l o. no (omega arith) o);
          })
    ]

old_inside : (t : Table) (r : ℕ) → IsTable t → IsOld t r → r < t.regions
old_inside t r v old = v.sound.within (stale old.0) r old.1

-- a live chain stays
live_stays : (t u : Table) (slot : ℕ) → Frees t u → slot < slots_of t → chain u (live slot) ≡ chain t (live slot)
live_stays t u slot f low = ap (λ (s : Slot). s.live_chain) (f.slots slot low)

slot_in : (t u : Table) (slot r : ℕ) → IsTable u → Frees t u → Contains (chain u (live slot)) r → slot < slots_of t
slot_in t u slot r w f m =
    let l = list_in (lists_of u) (live slot) r m in
    let s = w.chains_size in
    let e : slots_of u ≡ slots_of t = ap slots_of f.same in
    omega arith

pub freed_ground : (s m : Store) (t u : Table) → IsTable t → IsTable u → IsGround s t → ClearsOld s m t t.regions → Frees t u → IsGround m u
freed_ground s m t u v w g c f =
    let regions_same : u.regions ≡ t.regions = ap (λ (x : Table). x.regions) f.same in
    let levels_same : levels_of u ≡ levels_of t = ap levels_of f.same in
    record {
      size = (let a = c.size in let b = g.size in omega arith);
      levels_size = ap length c.levels ∙ (g.levels_size ∙ sym regions_same);
      top = c.top ∙ (g.top ∙ sym (ap (λ (x : Table). x.top) f.same));
      level_live = λ slot region has.
          (let low = slot_in t u slot region w f has in
          let there = subst (λ (xs : List ℕ). Contains xs region) (live_stays t u slot f low) has in
          ap (λ (ls : List ℕ). slice_index ls region) c.levels ∙ (g.level_live slot region there ∙ ap (λ (h : ℕ). slot % h) (sym levels_same)));
      level_old = λ slot region has.
          (let l = list_in (lists_of u) (stale slot) region has in
          let z = w.chains_size in
          let e : slots_of u ≡ slots_of t = ap slots_of f.same in
          let none : chain u (stale slot) ≡ [] = ap (λ (x : Slot). x.old_chain) (f.slots slot (omega arith)) in
          let in_none = subst (λ (xs : List ℕ). Contains xs region) none has in
          absurd (omega (arith, in_none.1)));
      blank = λ at inside low.
          (let size = c.size in
          elim (old_or_not t (at / 4096) v) [
            | inl old ↦ c.null at old (old_inside t (at / 4096) v old) (omega arith)
            | inr stays ↦
                let kept = f.kept (at / 4096) stays in
                let used_same : used_of u (at / 4096) ≡ used_of t (at / 4096) = kept.0 in
                c.others at (λ l o. stays o) ∙ g.blank at (omega arith) (omega arith)
          ]);
    }

pub freed_named : (s m : Store) (t u : Table) → IsTable t → IsTable u → ClearsOld s m t t.regions → Frees t u → NamesNoOld s t → NamesNoFree s t → NamesNoFree m u
freed_named s m t u v w c f old named = λ at to word got is free.
    elim (old_or_not t (at / 4096) v) [
      | inl was ↦
          let size = c.size in
          let inside = slice_get_within m.words at word got in
          let nulled : slice_get m.words at ≡ Some null_word = c.null at was (old_inside t (at / 4096) v was) (omega arith) in
          let same : Some word ≡ Some null_word = sym got ∙ nulled in
          let same_word : word ≡ null_word = cc in
          let none : address_of word.content ≡ None = ap (λ (x : Parts). address_of x.content) same_word in
          absurd (cc)
      | inr stays ↦
          let there : slice_get s.words at ≡ Some word = sym (c.others at (λ l o. stays o)) ∙ got in
          elim (old_or_not t (to / 4096) v) [
            | inl to_old ↦ old at to word stays there is to_old
            | inr to_no ↦ named at to word there is (λ k m. elim (half_cases k) [
              | inl e ↦
                  let in_live = subst (λ (q : ℕ). Contains (chain t q) (to / 4096)) e m in
                  let l = list_in (lists_of t) (live (k / 2)) (to / 4096) in_live in
                  let z = v.chains_size in
                  free (live (k / 2)) (subst (λ (xs : List ℕ). Contains xs (to / 4096)) (sym (live_stays t u (k / 2) f (omega arith))) in_live)
              | inr e ↦ to_no (k / 2, subst (λ (q : ℕ). Contains (chain t q) (to / 4096)) e m)
            ])
          ]
    ]
