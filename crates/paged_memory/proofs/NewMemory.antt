-- A new memory: all pages are empty.
use Rattle.std.proofs.Common.{ℕ, ◌≡◌, ◌*◌, ◌/◌, ◌≤◌, List, length, get_or, sym, ap, ◌∙◌, arith, inl, inr}
use Rattle.std.specs.Prelude.{replicate}
use Rattle.std.proofs.lemmas.Bool.{cases_lt}
use Rattle.std.proofs.lemmas.List.{length-replicate, get_or-replicate, get_or_past}
use Rattle.std.proofs.lemmas.List.FromFn.{fill_by_all}
use Rattle.store_word.specs.Words.{Parts, null_word}
use Rattle.store_word.specs.declared.levels.Levels.{Levels}
use Rattle.mem_port.specs.Store.{IsFresh}
use Rattle.page_map.specs.declared.place.PagePlace.TheVariants.{Empty}
use Rattle.page_map.specs.Map.{Map, place_at, fresh_map}
use Rattle.frame_pool.specs.Pool.{Pool, IsPool, fresh_pool, frames_of}
use Rattle.ref_table.specs.Sets.{set_at, no_levels}
use Rattle.paged_memory.specs.Paging.{Paging, word_in, word_at, size_of, marks_in, store_of, IsPaged}
use Rattle.paged_memory.proofs.Places.{empty_framed, empty_swapped}

-- all parts are new
pub record IsNew (p : Paging) (stored : List Parts) (frames regions greatest : ℕ) : Type 0 where
  pub few : regions ≤ 1024
  pub enough : 32 ≤ frames
  pub deep : greatest ≤ 6
  pub sound : IsPool p.pool
  pub pool : p.pool ≡ fresh_pool frames
  pub places : p.places ≡ fresh_map (regions * 16)
  pub rows : p.rows.sets ≡ replicate (regions * 16) no_levels
  pub levels : p.levels ≡ replicate regions 0
  pub top : p.top ≡ greatest
  pub stored_is : stored ≡ replicate (256 * (regions * 16)) null_word

same_at : {X : Type 0} (n i : ℕ) (x : X) → get_or (replicate n x) i x ≡ x
same_at n i x = elim (cases_lt i n) [ inl low ↦ get_or-replicate n i x x low | inr high ↦ get_or_past (replicate n x) i x (rw length-replicate high) ]

new_size : (p : Paging) (stored : List Parts) (frames regions greatest : ℕ) → IsNew p stored frames regions greatest → size_of p ≡ regions * 16
new_size p stored frames regions greatest c = ap (λ (v : Map). length v.places) c.places ∙ length-replicate (regions * 16) Empty

new_empty : (p : Paging) (stored : List Parts) (frames regions greatest : ℕ) → IsNew p stored frames regions greatest → (q : ℕ) → place_at p.places q ≡ Empty
new_empty p stored frames regions greatest c q = ap (λ (v : Map). place_at v q) c.places ∙ same_at (regions * 16) q Empty

pub new_frames : (p : Paging) (stored : List Parts) (frames regions greatest : ℕ) → IsNew p stored frames regions greatest → frames_of p.pool ≡ frames
new_frames p stored frames regions greatest c = ap (λ (v : Pool). length v.pages) c.pool ∙ length-replicate {A = ℕ} frames 0

pub new_paged : (p : Paging) (stored : List Parts) (frames regions greatest : ℕ) → IsNew p stored frames regions greatest → IsPaged p stored
new_paged p stored frames regions greatest c =
    let size = new_size p stored frames regions greatest c in
    let empty = new_empty p stored frames regions greatest c in
    record {
      size = ap length c.stored_is ∙ length-replicate (256 * (regions * 16)) null_word ∙ ap (λ n. 256 * n) (sym size);
      few = omega (arith, size, c.few);
      regions = ap (λ (xs : List ℕ). 16 * length xs) c.levels ∙ ap (λ n. 16 * n) (length-replicate {A = ℕ} regions 0) ∙ (let e : 16 * regions ≡ regions * 16 = omega arith in e) ∙ sym size;
      low = λ r. (let e : get_or p.levels r 0 ≡ 0 = ap (λ (xs : List ℕ). get_or xs r 0) c.levels ∙ same_at regions r 0 in omega arith);
      deep = rw c.top c.deep;
      pool = c.sound;
      frames = omega (arith, c.enough, new_frames p stored frames regions greatest c);
      rows_each = ap length c.rows ∙ length-replicate (regions * 16) no_levels ∙ sym size;
      taken = λ g m. (let none : length p.pool.used ≡ 0 = ap (λ (v : Pool). length v.used) c.pool in let low = m.1 in absurd (omega arith));
      framed = λ q g e. absurd (empty_framed p.places q g (empty q) e);
      exact = λ q e. absurd (empty_swapped p.places q (empty q) e);
      rowless = λ q _. ap (λ (xs : List Levels). set_at xs q) c.rows ∙ ap (λ (v : Levels). v.0) (same_at (regions * 16) q no_levels);
      tagged = λ q g e. absurd (empty_framed p.places q g (empty q) e);
    }

pub new_fresh : (p : Paging) (stored : List Parts) (frames regions greatest : ℕ) → IsNew p stored frames regions greatest → IsFresh (store_of p stored) regions greatest
new_fresh p stored frames regions greatest c =
    let size = new_size p stored frames regions greatest c in
    let empty = new_empty p stored frames regions greatest c in
    let all : 256 * size_of p ≡ 4096 * regions = omega (arith, size) in
    record {
      words = sym (fill_by_all (word_at p stored) (replicate (4096 * regions) null_word) (256 * size_of p) null_word (length-replicate (4096 * regions) null_word ∙ sym all)
          (λ k low. same_at (4096 * regions) k null_word ∙ sym (ap (word_in p.pool stored k) (empty (k / 256)))));
      levels = c.levels;
      unmarked = λ q. ap (marks_in p q) (empty q);
      top = c.top;
    }
