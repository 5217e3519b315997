-- A use of a page from its moves.
use Rattle.std.proofs.Common.{ℕ, ◌≡◌, ◌≢◌, ◌<◌, ◌≤◌, false, not, eqb, List, [], ◌∷◌, ◌++◌, length, refl, sym, ap, subst, ◌∙◌, arith, inl, inr}
use Rattle.std.specs.Prelude.{Contains}
use Rattle.std.proofs.lemmas.Bool.{cases_eq}
use Rattle.store_word.specs.Words.{Parts}
use Rattle.mem_port.specs.Tags.{marks_of_tag}
use Rattle.frame_pool.proofs.index_lists.ListUpdates.{Contains-first, Contains-push_old, Contains-push_back}
use Rattle.page_map.specs.Map.{place_at}
use Rattle.frame_pool.specs.Pool.{frames_of}
use Rattle.paged_memory.specs.Paging.{Paging, marks_of, resident_of, IsPaged}
use Rattle.paged_memory.specs.Order.{HasLeft, Evicts, Uses, Stops}
use Rattle.paged_memory.specs.Moves.{Keeps, GoesOut, HasRoom, ComesIn}
use Rattle.paged_memory.proofs.Lists.{contains_rest}
use Rattle.paged_memory.proofs.Places.{swapped_framed}
use Rattle.paged_memory.proofs.FrameChanges.{resident_place}

-- the page that was evicted is no longer resident
pub out_absent : (p p' : Paging) (stored' : List Parts) (page : ℕ) → IsPaged p' stored' → GoesOut p p' page → Contains (resident_of p') page → ⊥
out_absent p p' stored' page h c m = let at = resident_place p' stored' page h m in swapped_framed p'.places page at.0 c.swapped at.1

-- and no other page was evicted
pub out_left : (p p' : Paging) (page q : ℕ) → GoesOut p p' page → HasLeft p p' q → q ≡ page
out_left p p' page q c left =
    elim (cases_eq q page) [
      | inl e ↦ e
      | inr ne ↦ absurd (left.1 (subst (λ (xs : List ℕ). Contains xs q) (sym c.order) (contains_rest page q (resident_of p) c.first left.0 ne)))
    ]

pub out_evicts : (p p' : Paging) (stored stored' : List Parts) (page : ℕ) → Keeps p stored p' stored' → GoesOut p p' page → Evicts p p'
out_evicts p p' stored stored' page k c = record {
  frames = k.frames;
  gone = λ q left. ap (place_at p'.places) (out_left p p' page q c left) ∙ c.swapped;
  others = λ q off.
      c.marks q (λ e. off (subst (λ n. HasLeft p p' n) (sym e) (Contains-first (resident_of p) page c.first, out_absent p p' stored' page k.paged c)));
}

-- nothing has moved
pub same_evicts : (p p' : Paging) → p' ≡ p → Evicts p p'
same_evicts p p' e = subst (λ (v : Paging). Evicts p v) (sym e) record { frames = refl; gone = λ q left. absurd (left.1 left.0); others = λ q off. refl }

pub same_stops : (p p' : Paging) → p' ≡ p → Stops p p'
same_stops p p' e = record { order = inl (ap resident_of e); out = same_evicts p p' e }

pub room_stops : (p p' : Paging) (stored stored' : List Parts) → Keeps p stored p' stored' → HasRoom p p' → Stops p p'
room_stops p p' stored stored' k room = elim room [
  | inl free ↦ same_stops p p' free.1
  | inr out ↦ record { order = inr (out.0, out.1.1.order); out = out_evicts p p' stored stored' out.1.0 k out.1.1 }
]

-- a page is brought in while a frame is free
uses_free : (p p' : Paging) (page frame : ℕ) → length (resident_of p) < frames_of p.pool → frames_of p'.pool ≡ frames_of p.pool → ComesIn p p' page frame → Uses p p' page false
uses_free p p' page frame free count c = record {
  frames = count;
  order = record { again = λ m. absurd (c.absent m); room = λ _ _. c.order; full = λ _ many. absurd (omega arith) };
  tag = c.tag;
  gone = λ q left. absurd (left.1 (subst (λ (xs : List ℕ). Contains xs q) (sym c.order) (Contains-push_old q page _ left.0)));
  others = λ q ne _. c.marks q ne;
}

-- a page is brought in after another one was evicted
uses_full : (p mid p' : Paging) (stored stored' : List Parts) (gone page frame : ℕ) → frames_of p.pool ≤ length (resident_of p) → Keeps p stored mid stored' → GoesOut p mid gone → frames_of p'.pool ≡ frames_of mid.pool
    → (Contains (resident_of p) page → ⊥) → ComesIn mid p' page frame → Uses p p' page false
uses_full p mid p' stored stored' gone page frame full k out count absent c =
    let first = Contains-first (resident_of p) gone out.first in
    let apart : gone ≢ page = λ e. absent (subst (λ n. Contains (resident_of p) n) e first) in
    let off = out_absent p mid stored' gone k.paged out in
    let left : HasLeft p p' gone = (first, λ m. off (Contains-push_back gone page (resident_of mid) (subst (λ (xs : List ℕ). Contains xs gone) c.order m) apart)) in
    let only : (q : ℕ) → HasLeft p p' q → q ≡ gone = λ q l.
    out_left p mid gone q out (l.0, λ m. l.1 (subst (λ (xs : List ℕ). Contains xs q) (sym c.order) (Contains-push_old q page (resident_of mid) m))) in
    record {
      frames = count ∙ k.frames;
      order = record { again = λ m. absurd (absent m); room = λ _ few. absurd (omega arith); full = λ _ _. c.order ∙ ap (λ xs. xs ++ page ∷ []) out.order };
      tag = c.tag ∙ ap (λ n. marks_of_tag n (not (eqb (marks_of mid page) 0))) k.stays.top ∙ ap (λ n. marks_of_tag p.top (not (eqb n 0))) (out.marks page (λ e. apart (sym e)));
      gone = λ q l. ap (place_at p'.places) (only q l) ∙ c.places gone apart ∙ out.swapped;
      others = λ q ne stays. c.marks q ne ∙ out.marks q (λ e. stays (subst (λ n. HasLeft p p' n) (sym e) left));
    }

pub room_uses : (p mid p' : Paging) (stored stored' : List Parts) (page frame : ℕ) → Keeps p stored mid stored' → HasRoom p mid → frames_of p'.pool ≡ frames_of mid.pool
    → (Contains (resident_of p) page → ⊥) → ComesIn mid p' page frame → Uses p p' page false
room_uses p mid p' stored stored' page frame k room count absent c = elim room [
  | inl free ↦ uses_free p p' page frame free.0 (count ∙ ap (λ (v : Paging). frames_of v.pool) free.1) (subst (λ (v : Paging). ComesIn v p' page frame) free.1 c)
  | inr out ↦ uses_full p mid p' stored stored' out.1.0 page frame out.0 k out.1.1 count absent c
]

-- if another page was evicted, the place of this page is unchanged
pub room_place : (p mid : Paging) (page : ℕ) → HasRoom p mid → (Contains (resident_of p) page → ⊥) → place_at mid.places page ≡ place_at p.places page
room_place p mid page room absent = elim room [
  | inl free ↦ ap (λ (v : Paging). place_at v.places page) free.1
  | inr out ↦ out.1.1.places page (λ e. absent (subst (λ n. Contains (resident_of p) n) (sym e) (Contains-first (resident_of p) out.1.0 out.1.1.first)))
]
