-- The lowest page of one kind or another.
use Rattle.std.proofs.Common.{ℕ, ◌≡◌, ◌≢◌, ◌+◌, ◌*◌, ◌<◌, ◌≤◌, true, min, List, Option, Some, None, length, refl, sym, ap, subst, ◌∙◌, arith, inl, inr, ◌⊎◌}
use Rattle.std.specs.Prelude.{IfSome, IfNone}
use Rattle.std.specs.Int.RustNames.{bit_and}
use Rattle.std.proofs.lemmas.Bool.{cases_eq, cases_lt, cases_Bool}
use Rattle.std.proofs.lemmas.List.{get_or_past}
use Rattle.std.proofs.lemmas.Nat.Bits.{bit_at_and, bit_at-lt, bit_at-zero, same_from_bits}
use Rattle.store_word.specs.Sets.{Meets}
use Rattle.store_word.specs.Words.{Parts}
use Rattle.store_word.specs.declared.levels.Levels.{Levels}
use Rattle.mem_port.specs.Tags.{marks_of_tag}
use Rattle.page_map.specs.declared.place.PagePlace.{PagePlace}
use Rattle.page_map.specs.declared.place.PagePlace.TheVariants.{Empty, InFrame, Swapped}
use Rattle.page_map.specs.Map.{place_at}
use Rattle.frame_pool.specs.Pool.{Pool, tag_of, frames_of}
use Rattle.ref_table.specs.Sets.{no_levels, set_at, IsMatch, NoneMeets}
use Rattle.paged_memory.specs.Paging.{Paging, size_of, words_of, marks_in, marks_of, IsPaged}
use Rattle.paged_memory.specs.Marking.{lower_of, IsFirst, IsTagged, HasTag}
use Rattle.paged_memory.proofs.Places.{past_empty, swapped_framed, empty_swapped}
use Rattle.paged_memory.proofs.Words.{words_size}

-- the same kind of page, described in another way
pub first_same : (P Q : ℕ → Type 0) (from : ℕ) (o : Option ℕ) → ((page : ℕ) → from ≤ page → P page → Q page) → ((page : ℕ) → from ≤ page → Q page → P page) → IsFirst P from o → IsFirst Q from o
first_same P Q from None there back f = λ page a q. f page a (back page a q)
first_same P Q from (Some page) there back f = (f.0, there page f.0 f.1, λ other a b q. f.2 other a b (back other a q))

-- the lower one of two is the lowest page of either kind
pub first_lower : (P Q : ℕ → Type 0) (from : ℕ) (one two : Option ℕ) → IsFirst P from one → IsFirst Q from two → IsFirst (λ page. P page ⊎ Q page) from (lower_of one two)
first_lower P Q from None None f h = λ page a d. elim d [ inl p ↦ f page a p | inr q ↦ h page a q ]
first_lower P Q from None (Some b) f h = (h.0, inr h.1, λ other a low d. elim d [ inl p ↦ f other a p | inr q ↦ h.2 other a low q ])
first_lower P Q from (Some a) None f h = (f.0, inl f.1, λ other b low d. elim d [ inl p ↦ f.2 other b low p | inr q ↦ h other b q ])
first_lower P Q from (Some a) (Some b) f h =
    let f0 = f.0 in
    let h0 = h.0 in (
      omega arith,
      elim (cases_lt b a) [
        | inl low ↦ (let e : b ≡ min a b = omega arith in inr (subst Q e h.1))
        | inr high ↦ (let e : a ≡ min a b = omega arith in inl (subst P e f.1))
      ],
      λ other from' low d. elim d [ inl p ↦ f.2 other from' (omega arith) p | inr q ↦ h.2 other from' (omega arith) q ],
    )

pub one_more_tagged : (pool : Pool) (frame from : ℕ) (o : Option ℕ) → IsFirst (λ page. HasTag pool frame page ⊎ IsTagged pool frame page) from o → IsFirst (HasTag pool (frame + 1)) from o
one_more_tagged pool frame from o = first_same (λ page. HasTag pool frame page ⊎ IsTagged pool frame page) (HasTag pool (frame + 1)) from o
    (λ page _ d. elim d [ inl old ↦ (old.0, (omega (arith, old.1.0), old.1.1)) | inr new ↦ (frame, (omega arith, new)) ])
    (λ page _ t. elim (cases_eq t.0 frame) [
      | inl e ↦ inr (subst (λ g. IsTagged pool g page) e t.1.1)
      | inr ne ↦ inl (t.0, (omega (arith, t.1.0), t.1.1))
    ])

none_meets : (levels : ℕ) → ¬ Meets 0 levels
none_meets levels m = m (same_from_bits (bit_and 0 levels) 0 (λ i. let p = bit_at_and 0 levels i in let z = bit_at-zero i in let w = bit_at-lt levels i in omega (arith, p, z, w)))

set_past : (sets : List Levels) (page : ℕ) → length sets ≤ page → set_at sets page ≡ 0
set_past sets page high = ap (λ (v : Levels). v.0) (get_or_past sets page no_levels high)

-- what the table finds
pub first_row : (sets : List Levels) (from levels : ℕ) (o : Option ℕ) → IfSome o (IsMatch sets from levels) → IfSome o (NoneMeets sets levels from) → IfNone o (NoneMeets sets levels from (length sets))
    → IsFirst (λ page. Meets (set_at sets page) levels) from o
first_row sets from levels None found lowest none = λ page a m.
    elim (cases_lt page (length sets)) [ inl low ↦ none page a low m | inr high ↦ none_meets levels (subst (λ n. Meets n levels) (set_past sets page high) m) ]
first_row sets from levels (Some page) found lowest none = (found.0, found.2, lowest)

-- a page with a row is swapped, and has the marks of its row
row_marks : (p : Paging) (stored : List Parts) (page levels : ℕ) → IsPaged p stored → Meets (set_at p.rows.sets page) levels → marks_of p page ≡ set_at p.rows.sets page
row_marks p stored page levels h m = at (place_at p.places page) refl
  where
    rowless : (place_at p.places page ≢ Swapped) → ⊥
    rowless off = none_meets levels (subst (λ n. Meets n levels) (h.rowless page off) m)

    at : (place : PagePlace) → place_at p.places page ≡ place → marks_in p page place ≡ set_at p.rows.sets page
    at Empty e = absurd (rowless (λ f. empty_swapped p.places page e f))
    at (InFrame frame) e = absurd (rowless (λ f. swapped_framed p.places page frame f e))
    at Swapped e = refl

-- a page with marks has a row, or is in a frame with the tag
marked_how : (p : Paging) (stored : List Parts) (page levels : ℕ) (place : PagePlace) → IsPaged p stored → place_at p.places page ≡ place → Meets (marks_in p page place) levels
    → (HasTag p.pool (frames_of p.pool) page × Meets (marks_of_tag p.top true) levels) ⊎ Meets (set_at p.rows.sets page) levels
marked_how p stored page levels Empty h e m = absurd (none_meets levels m)
marked_how p stored page levels Swapped h e m = inr m
marked_how p stored page levels (InFrame frame) h e m =
    let was = h.framed page frame e in
    elim (cases_Bool (tag_of p.pool frame)) [
      | inl on ↦ inl ((frame, (h.pool.used_in frame was.0, (was.0, on, was.1))), subst (λ b. Meets (marks_of_tag p.top b) levels) on m)
      | inr off ↦ absurd (none_meets levels (subst (λ b. Meets (marks_of_tag p.top b) levels) off m))
    ]

tag_marks : (p : Paging) (stored : List Parts) (page : ℕ) → IsPaged p stored → HasTag p.pool (frames_of p.pool) page → marks_of p page ≡ marks_of_tag p.top true
tag_marks p stored page h t =
    let place : place_at p.places page ≡ InFrame t.0 = ap (place_at p.places) (sym t.1.1.2) ∙ (h.taken t.0 t.1.1.0).1 in
    ap (marks_in p page) place ∙ ap (marks_of_tag p.top) t.1.1.1

-- if no frame's marks have one of these levels, the lowest page with marks is the lowest with a row
pub first_marked_row : (p : Paging) (stored : List Parts) (from levels : ℕ) (o : Option ℕ) → IsPaged p stored → ¬ Meets (marks_of_tag p.top true) levels
    → IsFirst (λ page. Meets (set_at p.rows.sets page) levels) from o → IsFirst (λ page. Meets (marks_of p page) levels) from o
first_marked_row p stored from levels o h off = first_same (λ page. Meets (set_at p.rows.sets page) levels) (λ page. Meets (marks_of p page) levels) from o
    (λ page _ m. subst (λ n. Meets n levels) (sym (row_marks p stored page levels h m)) m)
    (λ page _ m. elim (marked_how p stored page levels (place_at p.places page) h refl m) [ inl framed ↦ absurd (off framed.1) | inr row ↦ row ])

-- else it is the lowest with the tag or a row
pub first_marked : (p : Paging) (stored : List Parts) (from levels : ℕ) (o : Option ℕ) → IsPaged p stored → Meets (marks_of_tag p.top true) levels
    → IsFirst (λ page. HasTag p.pool (frames_of p.pool) page ⊎ Meets (set_at p.rows.sets page) levels) from o → IsFirst (λ page. Meets (marks_of p page) levels) from o
first_marked p stored from levels o h on = first_same (λ page. HasTag p.pool (frames_of p.pool) page ⊎ Meets (set_at p.rows.sets page) levels) (λ page. Meets (marks_of p page) levels) from o
    (λ page _ d. elim d [
      | inl tag ↦ subst (λ n. Meets n levels) (sym (tag_marks p stored page h tag)) on
      | inr row ↦ subst (λ n. Meets n levels) (sym (row_marks p stored page levels h row)) row
    ])
    (λ page _ m. elim (marked_how p stored page levels (place_at p.places page) h refl m) [ inl framed ↦ inl framed.0 | inr row ↦ inr row ])

pub first_found : (p : Paging) (stored : List Parts) (from levels : ℕ) (o : Option ℕ) → IsFirst (λ page. Meets (marks_of p page) levels) from o
    → IfSome o (λ page. (from ≤ page) × (256 * page < length (words_of p stored)) × Meets (marks_of p page) levels)
first_found p stored from levels None f = tt
first_found p stored from levels (Some page) f =
    let low : page < size_of p = elim (cases_lt page (size_of p)) [
      | inl low ↦ low
      | inr high ↦ absurd (none_meets levels (subst (λ n. Meets n levels) (ap (marks_in p page) (past_empty p.places page high)) f.1))
    ] in
    let size = words_size p stored in
    (f.0, omega arith, f.1)

pub first_lowest : (p : Paging) (from levels : ℕ) (o : Option ℕ) → IsFirst (λ page. Meets (marks_of p page) levels) from o → IfSome o (λ page. (other : ℕ) → from ≤ other → other < page → ¬ Meets (marks_of p other) levels)
first_lowest p from levels None f = tt
first_lowest p from levels (Some page) f = f.2

pub first_none : (p : Paging) (stored : List Parts) (from levels : ℕ) (o : Option ℕ) → IsFirst (λ page. Meets (marks_of p page) levels) from o
    → IfNone o ((other : ℕ) → from ≤ other → 256 * other < length (words_of p stored) → ¬ Meets (marks_of p other) levels)
first_none p stored from levels None f = λ other a _. f other a
first_none p stored from levels (Some page) f = tt
