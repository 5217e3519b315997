-- The frames have changed, and no page has moved.
use Rattle.std.proofs.Common.{ℕ, ◌≡◌, ◌≢◌, ◌+◌, ◌*◌, ◌%◌, ◌≤◌, Bool, true, false, not, eqb, List, [], ◌∷◌, ◌++◌, length, get_or, refl, sym, ap, subst, ◌∙◌, arith, inl, inr}
use Rattle.std.specs.Prelude.{Contains, map}
use Rattle.std.proofs.lemmas.Bool.{cases_eq, eq-eqb, ne_eqb}
use Rattle.std.proofs.lemmas.List.{map-append}
use Rattle.store_word.specs.Words.{Parts, null_word}
use Rattle.mem_port.specs.Tags.{marks_of_tag}
use Rattle.frame_pool.specs.index_lists.Chains.{without}
use Rattle.frame_pool.proofs.index_lists.ListUpdates.{Contains-push_old, Contains-push_new, Contains-push_back, Contains-without, Contains-without_back}
use Rattle.page_map.specs.declared.place.PagePlace.TheVariants.{InFrame, Swapped}
use Rattle.page_map.specs.Map.{place_at}
use Rattle.frame_pool.specs.Pool.{Pool, IsPool, page_at, tag_of, with_latest}
use Rattle.paged_memory.specs.Paging.{Paging, word_at, marks_in, marks_of, resident_of, HasWord, IsPaged}
use Rattle.paged_memory.specs.Order.{Uses}
use Rattle.paged_memory.specs.Moves.{Keeps}
use Rattle.paged_memory.proofs.Lists.{map_without, Contains-map, Contains-map_back}
use Rattle.paged_memory.proofs.Places.{frame_same}
use Rattle.paged_memory.proofs.Words.{words_same, word_on, word_kept, marks_kept, has_both_ways, has_on}

-- the same with other frames
abbrev pub with_pool : Paging → Pool → Paging
with_pool p pool = record p { pool = pool }

-- the same frames are taken, by the same pages, and have the tag if they need it
pub record Repools (p : Paging) (stored : List Parts) (pool : Pool) : Type 0 where
  pub sound : IsPool pool
  pub pages : pool.pages ≡ p.pool.pages
  pub used_back : (g : ℕ) → Contains pool.used g → Contains p.pool.used g
  pub used_on : (g : ℕ) → Contains p.pool.used g → Contains pool.used g
  pub tagged : (q g : ℕ) → place_at p.places q ≡ InFrame g → (level : ℕ) → 1 ≤ level → HasWord (word_at (with_pool p pool) stored) p.levels q level → tag_of pool g ≡ true

pub repooled : (p : Paging) (stored : List Parts) (pool : Pool) → IsPaged p stored → Repools p stored pool → IsPaged (with_pool p pool) stored
repooled p stored pool h c =
    let at_same : (g : ℕ) → page_at pool g ≡ page_at p.pool g = λ g. ap (λ (xs : List ℕ). get_or xs g 0) c.pages in
    record {
      size = h.size;
      few = h.few;
      regions = h.regions;
      low = h.low;
      deep = h.deep;
      pool = c.sound;
      frames = omega (arith, h.frames, ap length c.pages);
      rows_each = h.rows_each;
      taken = λ g m. let was = h.taken g (c.used_back g m) in (omega (arith, was.0, at_same g), ap (place_at p.places) (at_same g) ∙ was.1);
      framed = λ q g e. let was = h.framed q g e in (c.used_on g was.0, at_same g ∙ was.1);
      exact = λ q e l pos. has_both_ways (word_at p stored) (word_at (with_pool p pool) stored) p.levels q l _
          (λ k low. word_on p stored q k Swapped low e ∙ sym (word_on (with_pool p pool) stored q k Swapped low e)) (h.exact q e l pos);
      rowless = h.rowless;
      tagged = c.tagged;
    }

-- a resident page is in a frame, and conversely
pub resident_place : (p : Paging) (stored : List Parts) (page : ℕ) → IsPaged p stored → Contains (resident_of p) page → (frame : ℕ) × (place_at p.places page ≡ InFrame frame)
resident_place p stored page h m =
    let at = Contains-map_back (page_at p.pool) page p.pool.used m in
    (at.0, ap (place_at p.places) (sym at.1.1) ∙ (h.taken at.0 at.1.0).1)

pub resident_framed : (p : Paging) (stored : List Parts) (page frame : ℕ) → IsPaged p stored → place_at p.places page ≡ InFrame frame → Contains (resident_of p) page
resident_framed p stored page frame h e =
    let was = h.framed page frame e in
    subst (λ n. Contains (resident_of p) n) was.1 (Contains-map (page_at p.pool) frame p.pool.used was.0)

touch_word : (p : Paging) (stored : List Parts) (pool : Pool) (frame : ℕ) → pool ≡ with_latest p.pool frame → (at : ℕ) → word_at (with_pool p pool) stored at ≡ word_at p stored at
touch_word p stored pool frame is at =
    word_kept p.pool pool stored stored at (place_at p.places _) (λ g _. ap (λ (v : Pool). get_or v.words (256 * g + at % 256) null_word) is) (λ _. refl)

pub touch_marks : (p : Paging) (pool : Pool) (frame : ℕ) → pool ≡ with_latest p.pool frame → (q : ℕ) → marks_of (with_pool p pool) q ≡ marks_of p q
touch_marks p pool frame is q = marks_kept p (with_pool p pool) q (place_at p.places q) refl (λ g _. ap (λ (v : Pool). tag_of v g) is) refl

-- a page is used again
pub touch_keeps : (p : Paging) (stored : List Parts) (pool : Pool) (frame : ℕ) → IsPaged p stored → Contains p.pool.used frame → pool ≡ with_latest p.pool frame → IsPool pool → Keeps p stored (with_pool p pool) stored
touch_keeps p stored pool frame h used is sound =
    let used_is : pool.used ≡ without frame p.pool.used ++ frame ∷ [] = ap (λ (v : Pool). v.used) is in
    let same = touch_word p stored pool frame is in
    record {
      paged = repooled p stored pool h record {
        sound = sound;
        pages = ap (λ (v : Pool). v.pages) is;
        used_back = λ g m.
            let m' = subst (λ (xs : List ℕ). Contains xs g) used_is m in
            elim (cases_eq g frame) [ inl e ↦ subst (λ n. Contains p.pool.used n) (sym e) used | inr ne ↦ Contains-without_back frame g p.pool.used (Contains-push_back g frame _ m' ne) ];
        used_on = λ g m. subst (λ (xs : List ℕ). Contains xs g) (sym used_is)
            (elim (cases_eq g frame) [ inl e ↦ subst (λ n. Contains (without frame p.pool.used ++ frame ∷ []) n) (sym e) (Contains-push_new frame _) | inr ne ↦ Contains-push_old g frame _ (Contains-without frame g p.pool.used ne m) ]);
        tagged = λ q g e l pos w. ap (λ (v : Pool). tag_of v g) is ∙ h.tagged q g e l pos (has_on (word_at (with_pool p pool) stored) (word_at p stored) p.levels q l (λ k low. same (256 * q + k)) w);
      };
      size = refl;
      frames = ap (λ (v : Pool). length v.pages) is;
      stays = record { words = words_same p (with_pool p pool) stored stored refl same; levels = refl; top = refl; unmarked = λ q m. touch_marks p pool frame is q ∙ m };
    }

marks_again : (top : ℕ) (t : Bool) → marks_of_tag top t ≡ marks_of_tag top (not (eqb (marks_of_tag top t) 0))
marks_again top t =
    elim (cases_eq (marks_of_tag top t) 0) [
      | inl e ↦ e ∙ sym (ap (λ b. marks_of_tag top (not b)) (eq-eqb _ _ e))
      | inr ne ↦ tagged t ne ∙ sym (ap (λ b. marks_of_tag top (not b)) (ne_eqb _ _ ne))
    ]
  where
    tagged : (b : Bool) → marks_of_tag top b ≢ 0 → marks_of_tag top b ≡ marks_of_tag top true
    tagged true ne = refl
    tagged false ne = absurd (ne refl)

pub touch_uses : (p : Paging) (stored : List Parts) (pool : Pool) (frame page : ℕ) → IsPaged p stored → place_at p.places page ≡ InFrame frame → pool ≡ with_latest p.pool frame → Uses p (with_pool p pool) page false
touch_uses p stored pool frame page h e is =
    let was = h.framed page frame e in
    let there = resident_framed p stored page frame h e in
    let order : resident_of (with_pool p pool) ≡ without page (resident_of p) ++ page ∷ [] =
    ap (λ (v : Pool). map (page_at v) v.used) is ∙ map-append (page_at p.pool) (without frame p.pool.used) (frame ∷ [])
    ∙ ap (λ xs. xs ++ page_at p.pool frame ∷ []) (map_without (page_at p.pool) frame p.pool.used
    (λ g m s. frame_same g frame (sym (h.taken g m).1 ∙ ap (place_at p.places) (s ∙ was.1) ∙ e)))
    ∙ ap (λ n. without n (resident_of p) ++ n ∷ []) was.1 in
    let stays : (q : ℕ) → Contains (resident_of p) q → Contains (resident_of (with_pool p pool)) q = λ q m.
    subst (λ (xs : List ℕ). Contains xs q) (sym order) (elim (cases_eq q page) [
      | inl f ↦ subst (λ n. Contains (without page (resident_of p) ++ page ∷ []) n) (sym f) (Contains-push_new page _)
      | inr ne ↦ Contains-push_old q page _ (Contains-without page q (resident_of p) ne m)
    ]) in
    record {
      frames = ap (λ (v : Pool). length v.pages) is;
      order = record { again = λ _. order; room = λ off. absurd (off there); full = λ off. absurd (off there) };
      tag = touch_marks p pool frame is page ∙ ap (marks_in p page) e ∙ marks_again p.top (tag_of p.pool frame) ∙ ap (λ n. marks_of_tag p.top (not (eqb n 0))) (sym (ap (marks_in p page) e));
      gone = λ q left. absurd (left.1 (stays q left.0));
      others = λ q ne _. touch_marks p pool frame is q;
    }
