-- The least recently used page is evicted.
use Rattle.std.proofs.Common.{ℕ, ◌≡◌, ◌≢◌, ◌+◌, ◌*◌, ◌/◌, ◌%◌, ◌<◌, ◌≤◌, ◌↔◌, List, Some, length, length-set, slice_get, slice_set, slice_index, drop, get_or, get_or-set_same, get_or-set_other, refl, sym, ap, subst, ◌∙◌, arith, true, inl, inr}
use Rattle.std.specs.Prelude.{Contains, map}
use Rattle.std.proofs.lemmas.Bool.{cases_eq, cases_lt}
use Rattle.std.proofs.lemmas.List.{drop-map}
use Rattle.std.proofs.lemmas.Option.{slice_get-get_or, get_or_from_slice_get, slice_get_within}
use Rattle.store_word.specs.Words.{Parts, null_word}
use Rattle.store_word.specs.Sets.{HasLevel}
use Rattle.store_word.specs.declared.levels.Levels.{Levels}
use Rattle.outer_ports.specs.Pages.{Fills}
use Rattle.mem_port.specs.Store.{level_of_word}
use Rattle.mem_port.specs.Tags.{HasAddress}
use Rattle.frame_pool.specs.index_lists.Chains.{without, first_of}
use Rattle.frame_pool.proofs.index_lists.ListUpdates.{Contains-without, Contains-without_back, not_in_without}
use Rattle.page_map.specs.declared.place.PagePlace.TheVariants.{InFrame, Swapped}
use Rattle.page_map.specs.Map.{Map, place_at, placed}
use Rattle.frame_pool.specs.Pool.{Pool, IsPool, page_at, tag_of, with_free}
use Rattle.ref_table.specs.Table.{Table}
use Rattle.ref_table.specs.Sets.{no_levels, set_at}
use Rattle.paged_memory.specs.Paging.{Paging, word_at, word_in, size_of, marks_in, marks_of, HasWord, IsPaged}
use Rattle.paged_memory.specs.Moves.{Keeps, GoesOut}
use Rattle.paged_memory.proofs.Lists.{first_map, first_drop}
use Rattle.paged_memory.proofs.Places.{placed_here, placed_other, placed_size, frame_same, swapped_framed}
use Rattle.paged_memory.proofs.Words.{words_same, get_or_same, word_framed, word_kept, marks_kept, has_both_ways, has_on, unmarked, set_empty}

-- a page in a frame was written to the device, its levels to the table, and its frame is free
pub record PutsOut (p : Paging) (stored stored' : List Parts) (p' : Paging) (frame page : ℕ) : Type 0 where
  pub used : Contains p.pool.used frame
  pub there : place_at p.places page ≡ InFrame frame
  pub inside : page < size_of p
  pub size : length stored' ≡ length stored
  pub here : (k : ℕ) → k < 256 → slice_get stored' (256 * page + k) ≡ slice_get p.pool.words (256 * frame + k)
  pub below : (i : ℕ) → i < 256 * page → slice_get stored' i ≡ slice_get stored i
  pub above : (i : ℕ) → 256 * page + 256 ≤ i → slice_get stored' i ≡ slice_get stored i
  pub pool : p'.pool ≡ with_free p.pool frame
  pub sound : IsPool p'.pool
  pub places : p'.places ≡ placed p.places page Swapped
  pub sets_each : length p'.rows.sets ≡ length p.rows.sets
  pub set_here : (level : ℕ) → 1 ≤ level → HasLevel (set_at p'.rows.sets page) level ↔ HasWord (word_at p stored) p.levels page level
  pub set_other : (q : ℕ) → q ≢ page → set_at p'.rows.sets q ≡ set_at p.rows.sets q
  pub levels : p'.levels ≡ p.levels
  pub top : p'.top ≡ p.top

-- a page with an address of a level, 1 or more, has the tag
pub tagged_on : (p : Paging) (stored ws : List Parts) (frame page l : ℕ) → IsPaged p stored → place_at p.places page ≡ InFrame frame
    → length ws ≡ 256 → ((k : ℕ) → k < 256 → slice_get ws k ≡ slice_get p.pool.words (256 * frame + k)) → 1 ≤ l → HasAddress ws p.levels l → tag_of p.pool frame ≡ true
tagged_on p stored ws frame page l h there ws_size ws_is pos s =
    let low : s.0 < 256 = omega (arith, slice_get_within ws s.0 s.1 s.2.0, ws_size) in
    h.tagged page frame there l pos (
      s.0,
      (low, ap (level_of_word p.levels) (word_framed p stored page s.0 frame low there ∙ get_or_from_slice_get p.pool.words (256 * frame + s.0) s.1 null_word (sym (ws_is s.0 low) ∙ s.2.0)) ∙ s.2.1),
    )

pub puts_out : (p : Paging) (stored stored' ws : List Parts) (pool' : Pool) (places' : Map) (rows' : Table) (frame page : ℕ) (set : Levels)
    → IsPaged p stored → Contains p.pool.used frame → page ≡ page_at p.pool frame
    → length ws ≡ 256 → ((k : ℕ) → k < 256 → slice_get ws k ≡ slice_get p.pool.words (256 * frame + k)) → Fills stored stored' page ws
    → ((l : ℕ) → 1 ≤ l → HasLevel set.0 l ↔ HasAddress ws p.levels l) → rows'.sets ≡ slice_set p.rows.sets page set
    → pool' ≡ with_free p.pool frame → IsPool pool' → places' ≡ placed p.places page Swapped
    → PutsOut p stored stored' (let v : Paging = record { pool = pool'; places = places'; rows = rows'; levels = p.levels; top = p.top } in v) frame page
puts_out p stored stored' ws pool' places' rows' frame page set h used is_page ws_size ws_is fills levels_are rows_are pool_is sound places_are =
    let taken = h.taken frame used in
    let there : place_at p.places page ≡ InFrame frame = ap (place_at p.places) is_page ∙ taken.1 in
    let inside : page < size_of p = omega (arith, taken.0, is_page) in
    let frame_low = h.pool.used_in frame used in
    let set_is : set_at rows'.sets page ≡ set.0 = ap (λ (xs : List Levels). set_at xs page) rows_are ∙ ap (λ (v : Levels). v.0) (get_or-set_same p.rows.sets page set no_levels (omega (arith, inside, h.rows_each))) in
    record {
      used = used;
      there = there;
      inside = inside;
      size = fills.size;
      here = λ k low. fills.here k low ∙ ws_is k low;
      below = fills.below;
      above = fills.above;
      pool = pool_is;
      sound = sound;
      places = places_are;
      sets_each = ap length rows_are ∙ length-set p.rows.sets page set;
      set_here = λ l pos. (
        (λ x.
            let s = (levels_are l pos).0 (subst (λ n. HasLevel n l) set_is x) in
            let low : s.0 < 256 = omega (arith, slice_get_within ws s.0 s.1 s.2.0, ws_size) in
            (s.0, (low, ap (level_of_word p.levels) (word_framed p stored page s.0 frame low there ∙ get_or_from_slice_get p.pool.words (256 * frame + s.0) s.1 null_word (sym (ws_is s.0 low) ∙ s.2.0)) ∙ s.2.1))),
        (λ w. subst (λ n. HasLevel n l) (sym set_is) ((levels_are l pos).1 (
          w.0,
          get_or p.pool.words (256 * frame + w.0) null_word,
          (
            ws_is w.0 w.1.0 ∙ slice_get-get_or p.pool.words (256 * frame + w.0) null_word (omega (arith, w.1.0, frame_low, h.pool.words_each)),
            ap (level_of_word p.levels) (sym (word_framed p stored page w.0 frame w.1.0 there)) ∙ w.1.1,
          ),
        ))),
      );
      set_other = λ q ne. ap (λ (xs : List Levels). set_at xs q) rows_are ∙ ap (λ (v : Levels). v.0) (get_or-set_other p.rows.sets page q set no_levels ne);
      levels = refl;
      top = refl;
    }

out_other : (p p' : Paging) (stored stored' : List Parts) (frame page : ℕ) → PutsOut p stored stored' p' frame page → (q : ℕ) → q ≢ page → place_at p'.places q ≡ place_at p.places q
out_other p p' stored stored' frame page c q ne = placed_other p.places p'.places page q Swapped ne c.places

out_here : (p p' : Paging) (stored stored' : List Parts) (frame page : ℕ) → PutsOut p stored stored' p' frame page → place_at p'.places page ≡ Swapped
out_here p p' stored stored' frame page c = placed_here p.places p'.places page Swapped c.inside c.places

-- no word has changed
out_word : (p p' : Paging) (stored stored' : List Parts) (frame page : ℕ) → PutsOut p stored stored' p' frame page → (at : ℕ) → word_at p' stored' at ≡ word_at p stored at
out_word p p' stored stored' frame page c at =
    elim (cases_eq (at / 256) page) [
      | inl e ↦ (
          let low : at % 256 < 256 = omega arith in
          let whole : 256 * page + at % 256 ≡ at = omega (arith, e) in
          let new : word_at p' stored' at ≡ get_or stored' at null_word = ap (λ n. word_in p'.pool stored' at (place_at p'.places n)) e ∙ ap (word_in p'.pool stored' at) (out_here p p' stored stored' frame page c) in
          let old : word_at p stored at ≡ get_or p.pool.words (256 * frame + at % 256) null_word = ap (λ n. word_in p.pool stored at (place_at p.places n)) e ∙ ap (word_in p.pool stored at) c.there in
          let moved : slice_get stored' at ≡ slice_get p.pool.words (256 * frame + at % 256) = ap (slice_get stored') (sym whole) ∙ c.here (at % 256) low in
          new ∙ get_or_same stored' p.pool.words at (256 * frame + at % 256) null_word moved ∙ sym old)
      | inr ne ↦ ap (word_in p'.pool stored' at) (out_other p p' stored stored' frame page c (at / 256) ne)
          ∙ word_kept p.pool p'.pool stored stored' at (place_at p.places (at / 256))
          (λ g e. ap (λ (v : Pool). get_or v.words (256 * g + at % 256) null_word) c.pool)
          (λ e. get_or_same stored' stored at at null_word (elim (cases_lt at (256 * page)) [ inl low ↦ c.below at low | inr high ↦ c.above at (omega arith) ]))
    ]

out_marks : (p p' : Paging) (stored stored' : List Parts) (frame page : ℕ) → PutsOut p stored stored' p' frame page → (q : ℕ) → q ≢ page → marks_of p' q ≡ marks_of p q
out_marks p p' stored stored' frame page c q ne =
    ap (marks_in p' q) (out_other p p' stored stored' frame page c q ne)
    ∙ marks_kept p p' q (place_at p.places q) c.top (λ g e. ap (λ (v : Pool). tag_of v g) c.pool) (c.set_other q ne)

pub out_keeps : (p p' : Paging) (stored stored' : List Parts) (frame page : ℕ) → IsPaged p stored → PutsOut p stored stored' p' frame page → Keeps p stored p' stored'
out_keeps p p' stored stored' frame page h c =
    let size : size_of p' ≡ size_of p = placed_size p.places p'.places page Swapped c.places in
    let here = out_here p p' stored stored' frame page c in
    let other = out_other p p' stored stored' frame page c in
    let same = out_word p p' stored stored' frame page c in
    let pages_are : p'.pool.pages ≡ p.pool.pages = ap (λ (v : Pool). v.pages) c.pool in
    let used_is : p'.pool.used ≡ without frame p.pool.used = ap (λ (v : Pool). v.used) c.pool in
    let at_same : (g : ℕ) → page_at p'.pool g ≡ page_at p.pool g = λ g. ap (λ (xs : List ℕ). get_or xs g 0) pages_are in
    let has : (q l : ℕ) → HasWord (word_at p' stored') p'.levels q l → HasWord (word_at p stored) p.levels q l =
    λ q l w. has_on (word_at p' stored') (word_at p stored) p.levels q l (λ k low. same (256 * q + k)) (subst (λ ls. HasWord (word_at p' stored') ls q l) c.levels w) in
    let back : (A : Type 0) (q l : ℕ) → A ↔ HasWord (word_at p stored) p.levels q l → A ↔ HasWord (word_at p' stored') p'.levels q l =
    λ A q l d. subst (λ ls. A ↔ HasWord (word_at p' stored') ls q l) (sym c.levels) (has_both_ways (word_at p stored) (word_at p' stored') p.levels q l A (λ k low. sym (same (256 * q + k))) d) in
    record {
      paged = record {
        size = c.size ∙ h.size ∙ ap (λ n. 256 * n) (sym size);
        few = omega (arith, size, h.few);
        regions = ap (λ (xs : List ℕ). 16 * length xs) c.levels ∙ h.regions ∙ sym size;
        low = λ region. rw c.levels (rw c.top (h.low region));
        deep = rw c.top h.deep;
        pool = c.sound;
        frames = omega (arith, h.frames, ap length pages_are);
        rows_each = c.sets_each ∙ h.rows_each ∙ sym size;
        taken = λ g m.
            let m' = subst (λ (xs : List ℕ). Contains xs g) used_is m in
            let was = h.taken g (Contains-without_back frame g p.pool.used m') in
            let ne : page_at p.pool g ≢ page = λ e. not_in_without frame p.pool.used (subst (λ n. Contains (without frame p.pool.used) n) (frame_same g frame (sym was.1 ∙ ap (place_at p.places) e ∙ c.there)) m') in
            (omega (arith, was.0, at_same g, size), ap (place_at p'.places) (at_same g) ∙ other (page_at p.pool g) ne ∙ was.1);
        framed = λ q g e.
            let ne : q ≢ page = λ f. swapped_framed p'.places page g here (ap (place_at p'.places) (sym f) ∙ e) in
            let was = h.framed q g (sym (other q ne) ∙ e) in
            let apart : g ≢ frame = λ f. ne (sym was.1 ∙ ap (page_at p.pool) f ∙ (h.framed page frame c.there).1) in
            (subst (λ (xs : List ℕ). Contains xs g) (sym used_is) (Contains-without frame g p.pool.used apart was.0), at_same g ∙ was.1);
        exact = λ q e l pos.
            elim (cases_eq q page) [
              | inl f ↦ back (HasLevel (set_at p'.rows.sets q) l) q l (subst (λ n. HasLevel (set_at p'.rows.sets n) l ↔ HasWord (word_at p stored) p.levels n l) (sym f) (c.set_here l pos))
              | inr ne ↦ back (HasLevel (set_at p'.rows.sets q) l) q l (subst (λ n. HasLevel n l ↔ HasWord (word_at p stored) p.levels q l) (sym (c.set_other q ne)) (h.exact q (sym (other q ne) ∙ e) l pos))
            ];
        rowless = λ q no.
            let ne : q ≢ page = λ f. no (ap (place_at p'.places) f ∙ here) in
            c.set_other q ne ∙ h.rowless q (λ e. no (other q ne ∙ e));
        tagged = λ q g e l pos w.
            let ne : q ≢ page = λ f. swapped_framed p'.places page g here (ap (place_at p'.places) (sym f) ∙ e) in
            ap (λ (v : Pool). tag_of v g) c.pool ∙ h.tagged q g (sym (other q ne) ∙ e) l pos (has q l w);
      };
      size = size;
      frames = ap length pages_are;
      stays = record {
        words = words_same p p' stored stored' size same;
        levels = c.levels;
        top = c.top;
        unmarked = λ q m.
            elim (cases_eq q page) [
              | inl f ↦ ap (λ n. marks_of p' n) f ∙ ap (marks_in p' page) here
                  ∙ set_empty (set_at p'.rows.sets page) (λ l pos x. unmarked p stored page l h (subst (λ n. marks_of p n ≡ 0) f m) pos ((c.set_here l pos).0 x))
              | inr ne ↦ out_marks p p' stored stored' frame page c q ne ∙ m
            ];
      };
    }

pub out_goes : (p p' : Paging) (stored stored' : List Parts) (frame page : ℕ) → IsPaged p stored → PutsOut p stored stored' p' frame page → first_of p.pool.used ≡ Some frame → GoesOut p p' page
out_goes p p' stored stored' frame page h c first =
    let pages_are : p'.pool.pages ≡ p.pool.pages = ap (λ (v : Pool). v.pages) c.pool in
    let used_is : p'.pool.used ≡ drop 1 p.pool.used = ap (λ (v : Pool). v.used) c.pool ∙ first_drop frame p.pool.used first h.pool.used_once in
    record {
      first = first_map (page_at p.pool) frame p.pool.used first ∙ ap (λ n. Some n) (h.framed page frame c.there).1;
      order = ap (λ (xs : List ℕ). map (λ f. slice_index xs f) p'.pool.used) pages_are ∙ ap (map (page_at p.pool)) used_is ∙ sym (drop-map (page_at p.pool) 1 p.pool.used);
      swapped = out_here p p' stored stored' frame page c;
      places = out_other p p' stored stored' frame page c;
      marks = out_marks p p' stored stored' frame page c;
    }
