-- Pages that are made empty.
use Rattle.std.proofs.Common.{ℕ, ◌≡◌, ◌≢◌, ◌+◌, ◌*◌, ◌/◌, ◌%◌, ◌<◌, ◌≤◌, ◌↔◌, Bool, false, not, List, Some, length, length-set, slice_set, filter, get_or, get_or-set_same, get_or-set_other, refl, sym, ap, subst, ◌∙◌, arith, inl, inr}
use Rattle.std.specs.Prelude.{Contains, map, ◌==◌}
use Rattle.std.proofs.lemmas.Bool.{cases_eq, cases_lt, ne_eqb}
use Rattle.std.proofs.lemmas.List.Elements.{filter_agree}
use Rattle.std.proofs.lemmas.Option.{slice_get_past}
use Rattle.store_word.specs.Words.{Parts, null_word}
use Rattle.store_word.specs.Sets.{HasLevel}
use Rattle.store_word.specs.declared.levels.Levels.{Levels}
use Rattle.mem_port.specs.Store.{Clears}
use Rattle.frame_pool.specs.index_lists.Chains.{without}
use Rattle.frame_pool.proofs.index_lists.ListUpdates.{Contains-without, Contains-without_back, not_in_without}
use Rattle.page_map.specs.declared.place.PagePlace.TheVariants.{Empty, InFrame, Swapped}
use Rattle.page_map.specs.Map.{Map, place_at, placed}
use Rattle.frame_pool.specs.Pool.{Pool, IsPool, page_at, with_free}
use Rattle.ref_table.specs.Table.{Table}
use Rattle.ref_table.specs.Sets.{set_at, no_levels}
use Rattle.paged_memory.specs.Paging.{Paging, word_in, word_at, size_of, words_of, marks_in, marks_of, store_of, resident_of, HasWord, IsPaged}
use Rattle.paged_memory.specs.Moves.{Emptied, is_outside}
use Rattle.paged_memory.proofs.Filters.{Contains-filter, outside_region, filter_both, filter_all, outside_one, outside_both, outside_none, outside_low, outside_high}
use Rattle.paged_memory.proofs.Lists.{map_without}
use Rattle.paged_memory.proofs.Places.{placed_here, placed_other, placed_size, frame_same, empty_framed, empty_swapped, swapped_framed}
use Rattle.paged_memory.proofs.FrameChanges.{resident_place}
use Rattle.paged_memory.proofs.Words.{words_size, words_get, word_kept, marks_kept, has_both_ways, has_on}

-- a page is at no place, and has neither a frame nor a row
pub record GoesEmpty (p : Paging) (p' : Paging) (page : ℕ) : Type 0 where
  pub inside : page < size_of p
  pub places : p'.places ≡ placed p.places page Empty
  pub sound : IsPool p'.pool
  pub pages : p'.pool.pages ≡ p.pool.pages
  pub words : p'.pool.words ≡ p.pool.words
  pub tags : p'.pool.tags ≡ p.pool.tags
  pub order : resident_of p' ≡ filter (is_outside page (page + 1)) (resident_of p)
  pub sets_each : length p'.rows.sets ≡ length p.rows.sets
  pub set_here : set_at p'.rows.sets page ≡ 0
  pub set_other : (q : ℕ) → q ≢ page → set_at p'.rows.sets q ≡ set_at p.rows.sets q
  pub used_back : (g : ℕ) → Contains p'.pool.used g → Contains p.pool.used g × (page_at p.pool g ≢ page)
  pub used_on : (g : ℕ) → Contains p.pool.used g → page_at p.pool g ≢ page → Contains p'.pool.used g
  pub levels : p'.levels ≡ p.levels
  pub top : p'.top ≡ p.top

pub empties : (p p' : Paging) (stored : List Parts) (page : ℕ) → IsPaged p stored → GoesEmpty p p' page → Emptied p stored p' page (page + 1)
empties p p' stored page h c =
    let size : size_of p' ≡ size_of p = placed_size p.places p'.places page Empty c.places in
    let here : place_at p'.places page ≡ Empty = placed_here p.places p'.places page Empty c.inside c.places in
    let other : (q : ℕ) → q ≢ page → place_at p'.places q ≡ place_at p.places q = λ q ne. placed_other p.places p'.places page q Empty ne c.places in
    let same : (at : ℕ) → at / 256 ≢ page → word_at p' stored at ≡ word_at p stored at = λ at ne.
    ap (word_in p'.pool stored at) (other (at / 256) ne) ∙ word_kept p.pool p'.pool stored stored at (place_at p.places (at / 256)) (λ g _. ap (λ (xs : List Parts). get_or xs (256 * g + at % 256) null_word) c.words) (λ _. refl) in
    let on : (q k : ℕ) → q ≢ page → k < 256 → word_at p' stored (256 * q + k) ≡ word_at p stored (256 * q + k) = λ q k ne low. same (256 * q + k) (λ e. ne (omega (arith, e, low))) in
    let off_page : (q g : ℕ) → place_at p'.places q ≡ InFrame g → q ≢ page = λ q g e f. empty_framed p'.places page g here (ap (place_at p'.places) (sym f) ∙ e) in
    record {
      paged = record {
        size = h.size ∙ ap (λ n. 256 * n) (sym size);
        few = omega (arith, size, h.few);
        regions = ap (λ (xs : List ℕ). 16 * length xs) c.levels ∙ h.regions ∙ sym size;
        low = λ region. rw c.levels (rw c.top (h.low region));
        deep = rw c.top h.deep;
        pool = c.sound;
        frames = omega (arith, h.frames, ap length c.pages);
        rows_each = c.sets_each ∙ h.rows_each ∙ sym size;
        taken = λ g m.
            let was = c.used_back g m in
            let t = h.taken g was.0 in
            let at : page_at p'.pool g ≡ page_at p.pool g = ap (λ (xs : List ℕ). get_or xs g 0) c.pages in
            (omega (arith, t.0, at, size), ap (place_at p'.places) at ∙ other (page_at p.pool g) was.1 ∙ t.1);
        framed = λ q g e.
            let ne = off_page q g e in
            let was = h.framed q g (sym (other q ne) ∙ e) in
            (c.used_on g was.0 (λ f. ne (sym was.1 ∙ f)), ap (λ (xs : List ℕ). get_or xs g 0) c.pages ∙ was.1);
        exact = λ q e l pos.
            let ne : q ≢ page = λ f. empty_swapped p'.places page here (ap (place_at p'.places) (sym f) ∙ e) in
            subst (λ ls. HasLevel (set_at p'.rows.sets q) l ↔ HasWord (word_at p' stored) ls q l) (sym c.levels)
            (has_both_ways (word_at p stored) (word_at p' stored) p.levels q l (HasLevel (set_at p'.rows.sets q) l) (λ k low. sym (on q k ne low))
            (subst (λ n. HasLevel n l ↔ HasWord (word_at p stored) p.levels q l) (sym (c.set_other q ne)) (h.exact q (sym (other q ne) ∙ e) l pos)));
        rowless = λ q off.
            elim (cases_eq q page) [
              | inl f ↦ ap (set_at p'.rows.sets) f ∙ c.set_here
              | inr ne ↦ c.set_other q ne ∙ h.rowless q (λ e. off (other q ne ∙ e))
            ];
        tagged = λ q g e l pos w.
            let ne = off_page q g e in
            ap (λ (ts : List Bool). get_or ts g false) c.tags
            ∙ h.tagged q g (sym (other q ne) ∙ e) l pos (has_on (word_at p' stored) (word_at p stored) p.levels q l (λ k low. on q k ne low) (subst (λ ls. HasWord (word_at p' stored) ls q l) c.levels w));
      };
      size = size;
      frames = ap length c.pages;
      levels = c.levels;
      top = c.top;
      order = c.order;
      null = λ at a b. let e : at / 256 ≡ page = omega arith in ap (λ n. word_in p'.pool stored at (place_at p'.places n)) e ∙ ap (word_in p'.pool stored at) here;
      others = λ at off. same at (λ e. off (omega arith) (omega arith));
      unmarked = λ q a b. let e : q ≡ page = omega arith in ap (marks_of p') e ∙ ap (marks_in p' page) here;
      marks = λ q off.
          let ne : q ≢ page = λ e. off (omega arith) (omega arith) in
          ap (marks_in p' q) (other q ne) ∙ marks_kept p p' q (place_at p.places q) c.top (λ g _. ap (λ (ts : List Bool). get_or ts g false) c.tags) (c.set_other q ne);
    }

-- a page that isn't resident
not_resident : (p : Paging) (stored : List Parts) (page : ℕ) → IsPaged p stored → ((frame : ℕ) → place_at p.places page ≢ InFrame frame) → resident_of p ≡ filter (is_outside page (page + 1)) (resident_of p)
not_resident p stored page h off = sym (filter_all (is_outside page (page + 1)) (resident_of p) (λ q m.
    let at = resident_place p stored q h m in
    elim (cases_lt q page) [
      | inl low ↦ outside_low page (page + 1) q low
      | inr high ↦ outside_high page (page + 1) q (omega (arith, high, λ (e : q ≡ page). off at.0 (ap (place_at p.places) (sym e) ∙ at.1)))
    ]))

pub frame_empties : (p : Paging) (stored : List Parts) (pool' : Pool) (places' : Map) (frame page : ℕ) → IsPaged p stored → place_at p.places page ≡ InFrame frame → page < size_of p → pool' ≡ with_free p.pool frame → IsPool pool'
    → places' ≡ placed p.places page Empty → Emptied p stored (let v : Paging = record { pool = pool'; places = places'; rows = p.rows; levels = p.levels; top = p.top } in v) page (page + 1)
frame_empties p stored pool' places' frame page h e inside is sound places_are =
    let used : pool'.used ≡ without frame p.pool.used = ap (λ (v : Pool). v.used) is in
    let at = (h.framed page frame e).1 in
    let once : (g : ℕ) → Contains p.pool.used g → page_at p.pool g ≡ page → g ≡ frame = λ g m f. frame_same g frame (sym (h.taken g m).1 ∙ ap (place_at p.places) f ∙ e) in
    empties p (record { pool = pool'; places = places'; rows = p.rows; levels = p.levels; top = p.top }) stored page h record {
      inside = inside;
      places = places_are;
      sound = sound;
      pages = ap (λ (v : Pool). v.pages) is;
      words = ap (λ (v : Pool). v.words) is;
      tags = ap (λ (v : Pool). v.tags) is;
      order = ap (λ (v : Pool). map (page_at v) v.used) is ∙ map_without (page_at p.pool) frame p.pool.used (λ g m f. once g m (f ∙ at)) ∙ ap (λ n. without n (resident_of p)) at
          ∙ filter_agree _ (is_outside page (page + 1)) (λ x. outside_one page x) (resident_of p);
      sets_each = refl;
      set_here = h.rowless page (λ f. swapped_framed p.places page frame f e);
      set_other = λ q ne. refl;
      used_back = λ g m.
          let m' = subst (λ (xs : List ℕ). Contains xs g) used m in
          let was = Contains-without_back frame g p.pool.used m' in
          (was, λ f. not_in_without frame p.pool.used (subst (λ n. Contains (without frame p.pool.used) n) (once g was f) m'));
      used_on = λ g m ne. subst (λ (xs : List ℕ). Contains xs g) (sym used) (Contains-without frame g p.pool.used (λ f. ne (ap (page_at p.pool) f ∙ at)) m);
      levels = refl;
      top = refl;
    }

pub swapped_empties : (p : Paging) (stored : List Parts) (places' : Map) (rows' : Table) (page : ℕ) → IsPaged p stored → place_at p.places page ≡ Swapped → page < size_of p → rows'.sets ≡ slice_set p.rows.sets page no_levels
    → places' ≡ placed p.places page Empty → Emptied p stored (let v : Paging = record { pool = p.pool; places = places'; rows = rows'; levels = p.levels; top = p.top } in v) page (page + 1)
swapped_empties p stored places' rows' page h e inside sets_are places_are =
    empties p (record { pool = p.pool; places = places'; rows = rows'; levels = p.levels; top = p.top }) stored page h record {
      inside = inside;
      places = places_are;
      sound = h.pool;
      pages = refl;
      words = refl;
      tags = refl;
      order = not_resident p stored page h (λ g f. swapped_framed p.places page g e f);
      sets_each = ap length sets_are ∙ length-set p.rows.sets page no_levels;
      set_here = ap (λ (xs : List Levels). set_at xs page) sets_are ∙ ap (λ (v : Levels). v.0) (get_or-set_same p.rows.sets page no_levels no_levels (omega (arith, inside, h.rows_each)));
      set_other = λ q ne. ap (λ (xs : List Levels). set_at xs q) sets_are ∙ ap (λ (v : Levels). v.0) (get_or-set_other p.rows.sets page q no_levels no_levels ne);
      used_back = λ g m. (m, λ f. swapped_framed p.places page g e (ap (place_at p.places) (sym f) ∙ (h.taken g m).1));
      used_on = λ g m ne. m;
      levels = refl;
      top = refl;
    }

pub stays_empty : (p : Paging) (stored : List Parts) (page : ℕ) → IsPaged p stored → place_at p.places page ≡ Empty → Emptied p stored p page (page + 1)
stays_empty p stored page h e = record {
  paged = h;
  size = refl;
  frames = refl;
  levels = refl;
  top = refl;
  order = not_resident p stored page h (λ g f. empty_framed p.places page g e f);
  null = λ at a b. let s : at / 256 ≡ page = omega arith in ap (λ n. word_in p.pool stored at (place_at p.places n)) s ∙ ap (word_in p.pool stored at) e;
  others = λ at off. refl;
  unmarked = λ q a b. let s : q ≡ page = omega arith in ap (marks_of p) s ∙ ap (marks_in p page) e;
  marks = λ q off. refl;
}

pub empties_none : (p : Paging) (stored : List Parts) (page : ℕ) → IsPaged p stored → Emptied p stored p page page
empties_none p stored page h = record {
  paged = h;
  size = refl;
  frames = refl;
  levels = refl;
  top = refl;
  order = sym (filter_all (is_outside page page) (resident_of p) (λ q _. outside_none page q));
  null = λ at a b. absurd (omega arith);
  others = λ at off. refl;
  unmarked = λ q a b. absurd (omega arith);
  marks = λ q off. refl;
}

pub empties_more : (p p' p'' : Paging) (stored : List Parts) (from mid to : ℕ) → from ≤ mid → mid ≤ to → Emptied p stored p' from mid → Emptied p' stored p'' mid to → Emptied p stored p'' from to
empties_more p p' p'' stored from mid to f t a b = record {
  paged = b.paged;
  size = b.size ∙ a.size;
  frames = b.frames ∙ a.frames;
  levels = b.levels ∙ a.levels;
  top = b.top ∙ a.top;
  order = b.order ∙ ap (filter (is_outside mid to)) a.order ∙ filter_both (is_outside from mid) (is_outside mid to) (is_outside from to) (λ x. outside_both from mid to x f t) (resident_of p);
  null = λ at x y. elim (cases_lt (at / 256) mid) [ inl low ↦ b.others at (λ u v. omega arith) ∙ a.null at x low | inr high ↦ b.null at high y ];
  others = λ at off. b.others at (λ u v. off (omega arith) v) ∙ a.others at (λ u v. off u (omega arith));
  unmarked = λ q x y. elim (cases_lt q mid) [ inl low ↦ b.marks q (λ u v. omega arith) ∙ a.unmarked q x low | inr high ↦ b.unmarked q high y ];
  marks = λ q off. b.marks q (λ u v. off (omega arith) v) ∙ a.marks q (λ u v. off u (omega arith));
}

pub clears : (p p' : Paging) (stored : List Parts) (region : ℕ) → Emptied p stored p' (region * 16) (region * 16 + 16) → Clears (store_of p stored) (store_of p' stored) region
clears p p' stored region e =
    let size : length (words_of p' stored) ≡ length (words_of p stored) = words_size p' stored ∙ ap (λ n. 256 * n) e.size ∙ sym (words_size p stored) in
    record {
      size = size;
      null = λ at r low. words_get p' stored at (omega (arith, low, words_size p stored, e.size)) ∙ ap (λ (w : Parts). Some w) (e.null at (omega arith) (omega arith));
      others = λ at ne.
          elim (cases_lt at (256 * size_of p)) [
            | inl low ↦ words_get p' stored at (omega (arith, low, e.size)) ∙ ap (λ (w : Parts). Some w) (e.others at (λ u v. ne (omega arith))) ∙ sym (words_get p stored at low)
            | inr high ↦ slice_get_past (words_of p' stored) at (omega (arith, high, size, words_size p stored)) ∙ sym (slice_get_past (words_of p stored) at (omega (arith, high, words_size p stored)))
          ];
      levels = e.levels;
      top = e.top;
      unmarked = λ q r. e.unmarked q (omega arith) (omega arith);
      marks = λ q ne. e.marks q (λ u v. ne (omega arith));
    }

-- the resident pages of the other regions remain, in their order
pub stays_ordered : (p p' : Paging) (stored : List Parts) (region : ℕ) → Emptied p stored p' (region * 16) (region * 16 + 16) → resident_of p' ≡ filter (λ page. not (page / 16 == region)) (resident_of p)
stays_ordered p p' stored region e = e.order ∙ filter_agree (is_outside (region * 16) (region * 16 + 16)) (λ page. not (page / 16 == region)) (λ x. outside_region region x) (resident_of p)

pub stays_resident : (p p' : Paging) (stored : List Parts) (region : ℕ) → Emptied p stored p' (region * 16) (region * 16 + 16) → (page : ℕ) → page / 16 ≢ region → Contains (resident_of p) page → Contains (resident_of p') page
stays_resident p p' stored region e page ne m =
    subst (λ (xs : List ℕ). Contains xs page) (sym (stays_ordered p p' stored region e)) (Contains-filter (λ q. not (q / 16 == region)) page (resident_of p) m (ap not (ne_eqb (page / 16) region ne)))
