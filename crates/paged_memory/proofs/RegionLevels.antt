-- The level of a region that nothing refers to.
use Rattle.std.proofs.Common.{ℕ, ◌≡◌, ◌≢◌, ◌+◌, ◌*◌, ◌/◌, ◌<◌, ◌≤◌, List, Option, Some, None, length, length-set, slice_set, get_or-set_same, get_or-set_other, refl, sym, ap, ◌∙◌, arith, inl, inr}
use Rattle.std.proofs.lemmas.Bool.{cases_eq}
use Rattle.store_word.specs.Words.{Parts, address_of}
use Rattle.mem_port.specs.Store.{level_of_word, level_of_address, IsUnused}
use Rattle.paged_memory.specs.Paging.{Paging, word_at, size_of, store_of, IsPaged}
use Rattle.paged_memory.proofs.Places.{swapped_inside, framed_inside}
use Rattle.paged_memory.proofs.Words.{words_get}

level_same : (levels : List ℕ) (region level : ℕ) (o : Option ℕ) → ((to : ℕ) → o ≡ Some to → to / 4096 ≢ region) → level_of_address (slice_set levels region level) o ≡ level_of_address levels o
level_same levels region level None away = refl
level_same levels region level (Some to) away = get_or-set_other levels region (to / 4096) level 0 (away to refl)

pub levels_keep : (p : Paging) (stored : List Parts) (region level : ℕ) → IsPaged p stored → region < length p.levels → level ≤ p.top → IsUnused (store_of p stored) region
    → IsPaged (let v : Paging = record p { levels = slice_set p.levels region level } in v) stored
levels_keep p stored region level h inside low unused =
    let same : (q k : ℕ) → q < size_of p → k < 256 → level_of_word (slice_set p.levels region level) (word_at p stored (256 * q + k)) ≡ level_of_word p.levels (word_at p stored (256 * q + k)) = λ q k lq lk.
    level_same p.levels region level (address_of (word_at p stored (256 * q + k)).content) (λ to e. unused.unnamed (256 * q + k) to (word_at p stored (256 * q + k)) (words_get p stored (256 * q + k) (omega (arith, lq, lk))) e) in
    record {
      size = h.size;
      few = h.few;
      regions = ap (λ n. 16 * n) (length-set p.levels region level) ∙ h.regions;
      low = λ r. elim (cases_eq r region) [
        | inl e ↦ rw e (rw (get_or-set_same p.levels region level 0 inside) low)
        | inr ne ↦ rw (get_or-set_other p.levels region r level 0 ne) (h.low r)
      ];
      deep = h.deep;
      pool = h.pool;
      frames = h.frames;
      rows_each = h.rows_each;
      taken = h.taken;
      framed = h.framed;
      exact = λ q e l pos.
          let lq = swapped_inside p.places q e in
          let was = h.exact q e l pos in
          ((λ x. let w = was.0 x in (w.0, (w.1.0, same q w.0 lq w.1.0 ∙ w.1.1))), (λ w. was.1 (w.0, (w.1.0, sym (same q w.0 lq w.1.0) ∙ w.1.1))));
      rowless = h.rowless;
      tagged = λ q g e l pos w.
          let lq = framed_inside p.places q g e in
          h.tagged q g e l pos (w.0, (w.1.0, sym (same q w.0 lq w.1.0) ∙ w.1.1));
    }

pub region_in : (p : Paging) (stored : List Parts) (at : ℕ) → IsPaged p stored → at < 256 * size_of p → at / 4096 < length p.levels
region_in p stored at h low = omega (arith, low, h.regions)
