-- What a new memory holds, the levels of addresses, and calls that keep what always holds.
use Rattle.std.proofs.Common.{List, Option, ◌≤◌, ◌≢◌, ◌/◌, slice_index, slice_set, replicate, ℕ, ◌≡◌, ◌*◌, ◌<◌, Some, None, length, length-set, slice_get, ap, refl, subst, ◌∙◌, sym, arith, inl, inr}
use Rattle.std.proofs.lemmas.Bool.{cases_eq, cases_lt}
use Rattle.std.proofs.lemmas.Grind.{get_or-set_at}
use Rattle.std.proofs.lemmas.List.{get_or_past, get_or-replicate, get_or-set_other, length-replicate}
use Rattle.std.proofs.lemmas.Option.{slice_get_within}
use Rattle.store_word.specs.Words.{Parts, address_of, null_word}
use Rattle.mem_port.proofs.Lookups.{get-replicate}
use Rattle.mem_port.specs.Store.{Store, level_of_address, level_of_word, Clears, IsFresh, IsMemory, IsSound, IsUnused}

-- every word of a new memory is NULL
null_at : (s : Store) (regions greatest at : ℕ) → IsFresh s regions greatest → at < length s.words → slice_get s.words at ≡ Some null_word
null_at s regions greatest at h low =
    let size : length s.words ≡ 4096 * regions = ap length h.words ∙ length-replicate (4096 * regions) null_word in
    rw h.words (get-replicate (4096 * regions) at null_word (omega arith))

-- no region of a new memory is in use
pub fresh_unused : (s : Store) (regions greatest region : ℕ) → IsFresh s regions greatest → IsUnused s region
fresh_unused s regions greatest region h = record {
  null = λ at on low. null_at s regions greatest at h low;
  unnamed = λ at to word found leads.
      let is : Some null_word ≡ Some word = sym (null_at s regions greatest at h (slice_get_within s.words at word found)) ∙ found in
      let word_is : null_word ≡ word = cc in
      let none : None ≡ Some to = ap (λ (w : Parts). address_of w.content) word_is ∙ leads in
      absurd cc;
}

-- no address is at a level above the greatest
pub address_low : (levels : List ℕ) (top : ℕ) → ((region : ℕ) → slice_index levels region ≤ top) → (o : Option ℕ) → level_of_address levels o ≤ top
address_low levels top low None = omega arith
address_low levels top low (Some at) = low (at / 4096)

-- NULL has no address
null_level : (levels : List ℕ) (word : Parts) → Some null_word ≡ Some word → level_of_word levels word ≡ 0
null_level levels word is = let same : null_word ≡ word = cc in rw (← same) refl

-- the number of pages is that of the words
memory_of : (s : Store) (pages : ℕ) → IsSound s pages → IsMemory s
memory_of s pages h = let size = h.size in let same : pages ≡ length s.words / 256 = omega arith in subst (IsSound s) same h

-- a call that clears a region keeps what always holds
pub cleared_memory : (s s' : Store) (region : ℕ) → IsMemory s → Clears s s' region → IsMemory s'
cleared_memory s s' region h c = memory_of s' (length s.words / 256) (record {
  size = c.size ∙ h.size;
  few = h.few;
  regions = rw c.levels h.regions;
  low = λ r. rw (c.levels, c.top) (h.low r);
  deep = rw c.top h.deep;
  marked = λ at word found ephemeral.
      elim (cases_eq (at / 4096) region) [
        | inl here ↦ absurd (let size = c.size in omega (arith, ephemeral, null_level s'.levels word (sym (c.null at here (omega (arith, slice_get_within s'.words at word found))) ∙ found)))
        | inr apart ↦
            let before : slice_get s.words at ≡ Some word = sym (c.others at apart) ∙ found in
            let same : (at / 256) / 16 ≡ at / 4096 = omega arith in
            rw (c.marks (at / 256) (λ on. apart (sym same ∙ on)), c.levels) (h.marked at word before (rw c.levels at ephemeral))
      ];
})

-- a level that is set is that of its region alone
set_level_at : (levels : List ℕ) (top region level r : ℕ) → region < length levels → level ≤ top → slice_index levels r ≤ top → slice_index (slice_set levels region level) r ≤ top
set_level_at levels top region level r inside few low =
    elim (cases_eq r region) [
      | inl same ↦ rw (get_or-set_at levels region r level 0 same inside) few
      | inr other ↦ rw (get_or-set_other levels region r level 0 other) low
    ]

-- the level of an address of another region remains
other_level : (levels : List ℕ) (region level : ℕ) (address : Option ℕ) → ((to : ℕ) → address ≡ Some to → to / 4096 ≢ region) → level_of_address (slice_set levels region level) address ≡ level_of_address levels address
other_level levels region level None apart = refl
other_level levels region level (Some to) apart = get_or-set_other levels region (to / 4096) level 0 (apart to refl)

-- a call that sets the level of a region whose addresses are in no word keeps what always holds
pub level_memory : (s : Store) (region level : ℕ) → IsMemory s → region < length s.levels → level ≤ s.top → IsUnused s region → IsMemory (record s { levels = slice_set s.levels region level })
level_memory s region level h inside few free = record {
  size = h.size;
  few = h.few;
  regions = omega (arith, h.regions, length-set s.levels region level);
  low = λ r. set_level_at s.levels s.top region level r inside few (h.low r);
  deep = h.deep;
  marked = λ at word found ephemeral.
      let same : level_of_word (slice_set s.levels region level) word ≡ level_of_word s.levels word = other_level s.levels region level (address_of word.content) (λ to leads. free.unnamed at to word found leads) in
      rw same (h.marked at word found (rw same at ephemeral));
}

-- no level of a new memory is above the greatest
level_zero : (regions greatest region : ℕ) → slice_index (replicate regions 0) region ≤ greatest
level_zero regions greatest region =
    elim (cases_lt region regions) [
      | inl inside ↦ rw (get_or-replicate {A = ℕ} regions region 0 0 inside) (omega arith)
      | inr past ↦ rw (get_or_past {X = ℕ} (replicate regions 0) region 0 (omega (arith, length-replicate {A = ℕ} regions 0))) (omega arith)
    ]

-- a new memory is one, if it has at most 1,024 regions and its greatest level is at most 6
pub fresh_memory : (s : Store) (regions greatest : ℕ) → regions ≤ 1024 → greatest ≤ 6 → IsFresh s regions greatest → IsMemory s
fresh_memory s regions greatest few deep h =
    let words : length s.words ≡ 4096 * regions = ap length h.words ∙ length-replicate (4096 * regions) null_word in
    let levels : length s.levels ≡ regions = ap length h.levels ∙ length-replicate {A = ℕ} regions 0 in
    record {
      size = omega arith;
      few = omega arith;
      regions = omega arith;
      low = λ region. rw (h.levels, h.top) (level_zero regions greatest region);
      deep = rw h.top deep;
      marked = λ at word found ephemeral. absurd (omega (arith, ephemeral, null_level s.levels word (sym (null_at s regions greatest at h (slice_get_within s.words at word found)) ∙ found)));
    }
