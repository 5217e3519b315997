-- A page is brought into a frame.
use Rattle.std.proofs.Common.{ℕ, ◌≡◌, ◌≢◌, ◌+◌, ◌*◌, ◌/◌, ◌%◌, ◌<◌, ◌≤◌, ◌↔◌, Bool, false, not, eqb, List, [], ◌∷◌, ◌++◌, Some, length, length-set, slice_get, slice_set, get_or, get_or-set_same, get_or-set_other, refl, sym, ap, subst, ◌∙◌, arith, inl, inr}
use Rattle.std.specs.Prelude.{Contains, map}
use Rattle.std.proofs.lemmas.Bool.{cases_eq, cases_lt, cases_Bool, eqb-true, not-false}
use Rattle.std.proofs.lemmas.List.{set-set, map-append}
use Rattle.std.proofs.lemmas.Option.{slice_get-get_or, get_or_from_slice_get}
use Rattle.store_word.specs.Words.{Parts, null_word}
use Rattle.store_word.specs.Sets.{HasLevel}
use Rattle.store_word.specs.declared.levels.Levels.{Levels}
use Rattle.mem_port.specs.Tags.{marks_of_tag}
use Rattle.frame_pool.proofs.index_lists.ListUpdates.{Contains-push_old, Contains-push_new, Contains-push_back}
use Rattle.page_map.specs.declared.place.PagePlace.TheVariants.{Empty, InFrame, Swapped}
use Rattle.page_map.specs.Map.{Map, place_at, placed}
use Rattle.frame_pool.specs.Pool.{Pool, IsPool, Takes, page_at, tag_of, frames_of}
use Rattle.ref_table.specs.Table.{Table}
use Rattle.ref_table.specs.Sets.{no_levels, set_at}
use Rattle.paged_memory.specs.Paging.{Paging, word_at, word_in, size_of, marks_in, marks_of, resident_of, HasWord, IsPaged}
use Rattle.paged_memory.specs.Moves.{Keeps, ComesIn}
use Rattle.paged_memory.proofs.Lists.{map_agree, Contains-map_back}
use Rattle.paged_memory.proofs.Places.{placed_here, placed_other, placed_size, frame_same, swapped_framed, empty_framed, empty_swapped}
use Rattle.paged_memory.proofs.Words.{words_same, get_or_same, word_on, word_kept, marks_kept, has_both_ways, has_on, unmarked}

-- a page has taken a free frame, which has its words, and the tag if and only if the page had marks
pub record BringsIn (p : Paging) (stored : List Parts) (p' : Paging) (frame page : ℕ) (tag : Bool) : Type 0 where
  pub free : Contains p.pool.free frame
  pub inside : page < size_of p
  pub absent : (g : ℕ) → place_at p.places page ≢ InFrame g
  pub used : p'.pool.used ≡ p.pool.used ++ frame ∷ []
  pub pages : p'.pool.pages ≡ slice_set p.pool.pages frame page
  pub tags : p'.pool.tags ≡ slice_set p.pool.tags frame tag
  pub words : (k : ℕ) → k < 256 → slice_get p'.pool.words (256 * frame + k) ≡ Some (word_at p stored (256 * page + k))
  pub below : (i : ℕ) → i < 256 * frame → slice_get p'.pool.words i ≡ slice_get p.pool.words i
  pub above : (i : ℕ) → 256 * frame + 256 ≤ i → slice_get p'.pool.words i ≡ slice_get p.pool.words i
  pub sound : IsPool p'.pool
  pub sets_each : length p'.rows.sets ≡ length p.rows.sets
  pub set_here : set_at p'.rows.sets page ≡ 0
  pub set_other : (q : ℕ) → q ≢ page → set_at p'.rows.sets q ≡ set_at p.rows.sets q
  pub places : p'.places ≡ placed p.places page (InFrame frame)
  pub tag_is : tag ≡ not (eqb (marks_of p page) 0)
  pub levels : p'.levels ≡ p.levels
  pub top : p'.top ≡ p.top

-- an empty page
pub brings_new : (p : Paging) (stored : List Parts) (pool' : Pool) (places' : Map) (frame page : ℕ) → IsPaged p stored → Contains p.pool.free frame → page < size_of p → place_at p.places page ≡ Empty
    → Takes p.pool pool' frame page (λ _. Some null_word) → IsPool pool' → places' ≡ placed p.places page (InFrame frame)
    → BringsIn p stored (let v : Paging = record { pool = pool'; places = places'; rows = p.rows; levels = p.levels; top = p.top } in v) frame page false
brings_new p stored pool' places' frame page h free inside e taken sound places_are = record {
  free = free;
  inside = inside;
  absent = λ g f. empty_framed p.places page g e f;
  used = taken.used;
  pages = taken.pages;
  tags = taken.tags;
  words = λ k low. taken.words.here k low ∙ ap (λ (w : Parts). Some w) (sym (word_on p stored page k Empty low e));
  below = taken.words.below;
  above = taken.words.above;
  sound = sound;
  sets_each = refl;
  set_here = h.rowless page (λ f. empty_swapped p.places page e f);
  set_other = λ q ne. refl;
  places = places_are;
  tag_is = ap (λ n. not (eqb n 0)) (sym (ap (marks_in p page) e));
  levels = refl;
  top = refl;
}

-- a swapped page: the frame is taken with its words and tagged, and the row is removed
pub brings_back : (p : Paging) (stored buffer : List Parts) (one two : Pool) (places' : Map) (rows' : Table) (frame page : ℕ) (tag : Bool) → IsPaged p stored → Contains p.pool.free frame → place_at p.places page ≡ Swapped
    → page < size_of p → ((k : ℕ) → k < 256 → slice_get buffer k ≡ slice_get stored (256 * page + k))
    → Takes p.pool one frame page (slice_get buffer) → two ≡ record one { tags = slice_set one.tags frame tag } → IsPool two
    → tag ≡ not (eqb (set_at p.rows.sets page) 0) → rows'.sets ≡ slice_set p.rows.sets page no_levels → places' ≡ placed p.places page (InFrame frame)
    → BringsIn p stored (let v : Paging = record { pool = two; places = places'; rows = rows'; levels = p.levels; top = p.top } in v) frame page tag
brings_back p stored buffer one two places' rows' frame page tag h free e inside buffer_is taken two_is sound tag_is sets_are places_are =
    let t_words : two.words ≡ one.words = ap (λ (v : Pool). v.words) two_is in
    let row_low : page < length p.rows.sets = omega (arith, inside, h.rows_each) in
    record {
      free = free;
      inside = inside;
      absent = λ g f. swapped_framed p.places page g e f;
      used = ap (λ (v : Pool). v.used) two_is ∙ taken.used;
      pages = ap (λ (v : Pool). v.pages) two_is ∙ taken.pages;
      tags = ap (λ (v : Pool). v.tags) two_is ∙ ap (λ (ts : List Bool). slice_set ts frame tag) taken.tags ∙ set-set p.pool.tags frame false tag;
      words = λ k low. ap (λ (xs : List Parts). slice_get xs (256 * frame + k)) t_words ∙ taken.words.here k low ∙ buffer_is k low
          ∙ slice_get-get_or stored (256 * page + k) null_word (omega (arith, low, inside, h.size)) ∙ ap (λ (w : Parts). Some w) (sym (word_on p stored page k Swapped low e));
      below = λ i low. ap (λ (xs : List Parts). slice_get xs i) t_words ∙ taken.words.below i low;
      above = λ i high. ap (λ (xs : List Parts). slice_get xs i) t_words ∙ taken.words.above i high;
      sound = sound;
      sets_each = ap length sets_are ∙ length-set p.rows.sets page no_levels;
      set_here = ap (λ (xs : List Levels). set_at xs page) sets_are ∙ ap (λ (v : Levels). v.0) (get_or-set_same p.rows.sets page no_levels no_levels row_low);
      set_other = λ q ne. ap (λ (xs : List Levels). set_at xs q) sets_are ∙ ap (λ (v : Levels). v.0) (get_or-set_other p.rows.sets page q no_levels no_levels ne);
      places = places_are;
      tag_is = tag_is ∙ ap (λ n. not (eqb n 0)) (sym (ap (marks_in p page) e));
      levels = refl;
      top = refl;
    }

in_other : (p p' : Paging) (stored : List Parts) (frame page : ℕ) (tag : Bool) → BringsIn p stored p' frame page tag → (q : ℕ) → q ≢ page → place_at p'.places q ≡ place_at p.places q
in_other p p' stored frame page tag c q ne = placed_other p.places p'.places page q (InFrame frame) ne c.places

in_here : (p p' : Paging) (stored : List Parts) (frame page : ℕ) (tag : Bool) → BringsIn p stored p' frame page tag → place_at p'.places page ≡ InFrame frame
in_here p p' stored frame page tag c = placed_here p.places p'.places page (InFrame frame) c.inside c.places

-- the frame was no page's place
in_unused : (p p' : Paging) (stored : List Parts) (frame page : ℕ) (tag : Bool) → IsPaged p stored → BringsIn p stored p' frame page tag → (q g : ℕ) → place_at p.places q ≡ InFrame g → g ≢ frame
in_unused p p' stored frame page tag h c q g e f = h.pool.apart frame c.free (subst (λ n. Contains p.pool.used n) f (h.framed q g e).0)

in_tag_here : (p p' : Paging) (stored : List Parts) (frame page : ℕ) (tag : Bool) → IsPaged p stored → BringsIn p stored p' frame page tag → tag_of p'.pool frame ≡ tag
in_tag_here p p' stored frame page tag h c =
    ap (λ (xs : List Bool). get_or xs frame false) c.tags ∙ get_or-set_same p.pool.tags frame tag false (omega (arith, h.pool.tag_each, h.pool.free_in frame c.free))

in_tag_other : (p p' : Paging) (stored : List Parts) (frame page : ℕ) (tag : Bool) → BringsIn p stored p' frame page tag → (g : ℕ) → g ≢ frame → tag_of p'.pool g ≡ tag_of p.pool g
in_tag_other p p' stored frame page tag c g ne = ap (λ (xs : List Bool). get_or xs g false) c.tags ∙ get_or-set_other p.pool.tags frame g tag false ne

in_page_here : (p p' : Paging) (stored : List Parts) (frame page : ℕ) (tag : Bool) → IsPaged p stored → BringsIn p stored p' frame page tag → page_at p'.pool frame ≡ page
in_page_here p p' stored frame page tag h c = ap (λ (xs : List ℕ). get_or xs frame 0) c.pages ∙ get_or-set_same p.pool.pages frame page 0 (h.pool.free_in frame c.free)

in_page_other : (p p' : Paging) (stored : List Parts) (frame page : ℕ) (tag : Bool) → BringsIn p stored p' frame page tag → (g : ℕ) → g ≢ frame → page_at p'.pool g ≡ page_at p.pool g
in_page_other p p' stored frame page tag c g ne = ap (λ (xs : List ℕ). get_or xs g 0) c.pages ∙ get_or-set_other p.pool.pages frame g page 0 ne

-- no word has changed
in_word : (p p' : Paging) (stored : List Parts) (frame page : ℕ) (tag : Bool) → IsPaged p stored → BringsIn p stored p' frame page tag → (at : ℕ) → word_at p' stored at ≡ word_at p stored at
in_word p p' stored frame page tag h c at =
    elim (cases_eq (at / 256) page) [
      | inl e ↦ (
          let low : at % 256 < 256 = omega arith in
          let whole : 256 * page + at % 256 ≡ at = omega (arith, e) in
          ap (λ n. word_in p'.pool stored at (place_at p'.places n)) e ∙ ap (word_in p'.pool stored at) (in_here p p' stored frame page tag c)
          ∙ get_or_from_slice_get p'.pool.words (256 * frame + at % 256) (word_at p stored (256 * page + at % 256)) null_word (c.words (at % 256) low) ∙ ap (word_at p stored) whole)
      | inr ne ↦ ap (word_in p'.pool stored at) (in_other p p' stored frame page tag c (at / 256) ne)
          ∙ word_kept p.pool p'.pool stored stored at (place_at p.places (at / 256))
          (λ g e.
          let off = in_unused p p' stored frame page tag h c (at / 256) g e in
          get_or_same p'.pool.words p.pool.words (256 * g + at % 256) (256 * g + at % 256) null_word (elim (cases_lt g frame) [
            | inl low ↦ c.below (256 * g + at % 256) (omega arith)
            | inr high ↦ (let more : frame < g = omega (arith, high, λ (f : g ≡ frame). off f) in c.above (256 * g + at % 256) (omega arith))
          ]))
          (λ _. refl)
    ]

in_marks : (p p' : Paging) (stored : List Parts) (frame page : ℕ) (tag : Bool) → IsPaged p stored → BringsIn p stored p' frame page tag → (q : ℕ) → q ≢ page → marks_of p' q ≡ marks_of p q
in_marks p p' stored frame page tag h c q ne =
    ap (marks_in p' q) (in_other p p' stored frame page tag c q ne)
    ∙ marks_kept p p' q (place_at p.places q) c.top (λ g e. in_tag_other p p' stored frame page tag c g (in_unused p p' stored frame page tag h c q g e)) (c.set_other q ne)

in_marks_here : (p p' : Paging) (stored : List Parts) (frame page : ℕ) (tag : Bool) → IsPaged p stored → BringsIn p stored p' frame page tag → marks_of p' page ≡ marks_of_tag p.top tag
in_marks_here p p' stored frame page tag h c =
    ap (marks_in p' page) (in_here p p' stored frame page tag c) ∙ ap (λ n. marks_of_tag n (tag_of p'.pool frame)) c.top ∙ ap (marks_of_tag p.top) (in_tag_here p p' stored frame page tag h c)

pub in_keeps : (p p' : Paging) (stored : List Parts) (frame page : ℕ) (tag : Bool) → IsPaged p stored → BringsIn p stored p' frame page tag → Keeps p stored p' stored
in_keeps p p' stored frame page tag h c =
    let size : size_of p' ≡ size_of p = placed_size p.places p'.places page (InFrame frame) c.places in
    let here = in_here p p' stored frame page tag c in
    let other = in_other p p' stored frame page tag c in
    let unused = in_unused p p' stored frame page tag h c in
    let page_here = in_page_here p p' stored frame page tag h c in
    let page_other = in_page_other p p' stored frame page tag c in
    let same = in_word p p' stored frame page tag h c in
    let count : frames_of p'.pool ≡ frames_of p.pool = ap length c.pages ∙ length-set p.pool.pages frame page in
    record {
      paged = record {
        size = h.size ∙ ap (λ n. 256 * n) (sym size);
        few = omega (arith, size, h.few);
        regions = ap (λ (xs : List ℕ). 16 * length xs) c.levels ∙ h.regions ∙ sym size;
        low = λ region. rw c.levels (rw c.top (h.low region));
        deep = rw c.top h.deep;
        pool = c.sound;
        frames = omega (arith, h.frames, count);
        rows_each = c.sets_each ∙ h.rows_each ∙ sym size;
        taken = λ g m.
            elim (cases_eq g frame) [
              | inl e ↦ (
                  let at : page_at p'.pool g ≡ page = ap (page_at p'.pool) e ∙ page_here in
                  (omega (arith, at, c.inside, size), ap (place_at p'.places) at ∙ here ∙ ap (λ n. InFrame n) (sym e)))
              | inr ne ↦ (
                  let was = h.taken g (Contains-push_back g frame p.pool.used (subst (λ (xs : List ℕ). Contains xs g) c.used m) ne) in
                  let at = page_other g ne in
                  let off : page_at p.pool g ≢ page = λ e. c.absent g (ap (place_at p.places) (sym e) ∙ was.1) in
                  (omega (arith, was.0, at, size), ap (place_at p'.places) at ∙ other (page_at p.pool g) off ∙ was.1))
            ];
        framed = λ q g e.
            elim (cases_eq q page) [
              | inl f ↦ (
                  let g_is : g ≡ frame = frame_same g frame (sym e ∙ ap (place_at p'.places) f ∙ here) in
                  (subst (λ (xs : List ℕ). Contains xs g) (sym c.used) (subst (λ n. Contains (p.pool.used ++ frame ∷ []) n) (sym g_is) (Contains-push_new frame p.pool.used)), ap (page_at p'.pool) g_is ∙ page_here ∙ sym f))
              | inr ne ↦ (
                  let old = sym (other q ne) ∙ e in
                  let was = h.framed q g old in
                  (subst (λ (xs : List ℕ). Contains xs g) (sym c.used) (Contains-push_old g frame p.pool.used was.0), page_other g (unused q g old) ∙ was.1))
            ];
        exact = λ q e l pos.
            let ne : q ≢ page = λ f. swapped_framed p'.places page frame (ap (place_at p'.places) (sym f) ∙ e) here in
            subst (λ ls. HasLevel (set_at p'.rows.sets q) l ↔ HasWord (word_at p' stored) ls q l) (sym c.levels)
            (has_both_ways (word_at p stored) (word_at p' stored) p.levels q l (HasLevel (set_at p'.rows.sets q) l) (λ k low. sym (same (256 * q + k)))
            (subst (λ n. HasLevel n l ↔ HasWord (word_at p stored) p.levels q l) (sym (c.set_other q ne)) (h.exact q (sym (other q ne) ∙ e) l pos)));
        rowless = λ q off.
            elim (cases_eq q page) [
              | inl f ↦ ap (set_at p'.rows.sets) f ∙ c.set_here
              | inr ne ↦ c.set_other q ne ∙ h.rowless q (λ e. off (other q ne ∙ e))
            ];
        tagged = λ q g e l pos w.
            let w' = has_on (word_at p' stored) (word_at p stored) p.levels q l (λ k low. same (256 * q + k)) (subst (λ ls. HasWord (word_at p' stored) ls q l) c.levels w) in
            elim (cases_eq q page) [
              | inl f ↦ (
                  let g_is : g ≡ frame = frame_same g frame (sym e ∙ ap (place_at p'.places) f ∙ here) in
                  elim (cases_Bool tag) [
                    | inl on ↦ ap (tag_of p'.pool) g_is ∙ in_tag_here p p' stored frame page tag h c ∙ on
                    | inr off ↦ absurd (unmarked p stored page l h (eqb-true _ _ (not-false _ (sym c.tag_is ∙ off))) pos (subst (λ n. HasWord (word_at p stored) p.levels n l) f w'))
                  ])
              | inr ne ↦ (let old = sym (other q ne) ∙ e in in_tag_other p p' stored frame page tag c g (unused q g old) ∙ h.tagged q g old l pos w')
            ];
      };
      size = size;
      frames = count;
      stays = record {
        words = words_same p p' stored stored size same;
        levels = c.levels;
        top = c.top;
        unmarked = λ q m.
            elim (cases_eq q page) [
              | inl f ↦ ap (λ n. marks_of p' n) f ∙ in_marks_here p p' stored frame page tag h c
                  ∙ ap (marks_of_tag p.top) (c.tag_is ∙ ap (λ n. not (eqb n 0)) (ap (marks_of p) (sym f) ∙ m))
              | inr ne ↦ in_marks p p' stored frame page tag h c q ne ∙ m
            ];
      };
    }

pub in_comes : (p p' : Paging) (stored : List Parts) (frame page : ℕ) (tag : Bool) → IsPaged p stored → BringsIn p stored p' frame page tag → ComesIn p p' page frame
in_comes p p' stored frame page tag h c = record {
  absent = λ m.
      let at = Contains-map_back (page_at p.pool) page p.pool.used m in
      c.absent at.0 (ap (place_at p.places) (sym at.1.1) ∙ (h.taken at.0 at.1.0).1);
  there = in_here p p' stored frame page tag c;
  order = ap (map (page_at p'.pool)) c.used ∙ map-append (page_at p'.pool) p.pool.used (frame ∷ [])
      ∙ ap (λ xs. xs ++ page_at p'.pool frame ∷ []) (map_agree (page_at p'.pool) (page_at p.pool) p.pool.used
      (λ g m. in_page_other p p' stored frame page tag c g (λ f. h.pool.apart frame c.free (subst (λ n. Contains p.pool.used n) f m))))
      ∙ ap (λ n. resident_of p ++ n ∷ []) (in_page_here p p' stored frame page tag h c);
  tag = in_marks_here p p' stored frame page tag h c ∙ ap (marks_of_tag p.top) c.tag_is;
  places = in_other p p' stored frame page tag c;
  marks = in_marks p p' stored frame page tag h c;
}
