-- What each call keeps of the pool.
use Rattle.std.proofs.Common.{◌≡◌, ◌≢◌, ℕ, ◌+◌, ◌*◌, ◌<◌, ◌^◌, ◌⊎◌, refl, inl, inr, Bool, true, false, eqb, Option, Some, None, List, [], ◌∷◌, ◌++◌, length, sym, ap, subst, ◌∙◌, arith, length-append}
use Rattle.std.specs.Prelude.{Contains, IfSome, MatchOption, slice_index}
use Rattle.std.specs.Option.{option_eq, unwrap_or}
use Rattle.std.proofs.lemmas.Bool.{cases_eq, eqb-true, eqb-false}
use Rattle.store_word.specs.Words.{Parts}
use Rattle.index_lists.specs.Chains.{Chains, list_at, without, with_list, last_of, IsSound}
use Rattle.index_lists.proofs.Ends.{none_last}
use Rattle.index_lists.proofs.ListUpdates.{list_at-with_list_same, list_at-with_list_other, length-with_list, length-without, without-last, Contains-without, Contains-push_old, Contains-push_new}
use Rattle.frame_pool.specs.Pool.{Pool, frames_of, with_latest, IsPool}
use Rattle.frame_pool.specs.Invariant.{pool_of, IsLatest, PoolInvariant}
use Rattle.frame_pool.proofs.FrameMoves.{moved}

-- what callers may rely on
pub pool_sound : (c : Chains) (pages : List ℕ) (tags : List Bool) (words : List Parts) → PoolInvariant c (pool_of c pages tags words) → IsPool (pool_of c pages tags words)
pool_sound c pages tags words h = record {
  few = h.few;
  tag_each = h.tag_each;
  words_each = h.words_each;
  each = h.each;
  free_in = λ frame m. rw (← h.nodes) (h.sound.within 0 frame m);
  used_in = λ frame m. rw (← h.nodes) (h.sound.within 1 frame m);
  apart = λ frame a b. let e : ◌≡◌ {A = ℕ} 0 1 = h.sound.one_list 0 1 frame a b in absurd (cc);
  free_once = h.sound.one_place 0;
  used_once = h.sound.one_place 1;
  all = h.all;
}

-- pages, tags and words are written in place
pub written_kept : (c : Chains) (pages pages' : List ℕ) (tags tags' : List Bool) (words words' : List Parts) → PoolInvariant c (pool_of c pages tags words)
    → length pages' ≡ length pages → length tags' ≡ length tags → length words' ≡ length words → PoolInvariant c (pool_of c pages' tags' words')
written_kept c pages pages' tags tags' words words' h p t w = record {
  sound = h.sound;
  two = h.two;
  nodes = h.nodes ∙ sym p;
  few = rw p h.few;
  tag_each = t ∙ h.tag_each ∙ sym p;
  words_each = w ∙ h.words_each ∙ ap (λ n. 256 * n) (sym p);
  each = λ frame b. h.each frame (omega (arith, p));
  all = h.all ∙ sym p;
}

-- a frame has gone from one list to the other
moved_kept : (c e : Chains) (pages : List ℕ) (tags : List Bool) (words : List Parts) → PoolInvariant c (pool_of c pages tags words) → IsSound e → length e.lists ≡ 2 → e.nodes ≡ c.nodes
    → ((frame : ℕ) → Contains (list_at c 0) frame ⊎ Contains (list_at c 1) frame → Contains (list_at e 0) frame ⊎ Contains (list_at e 1) frame)
    → length (list_at e 0) + length (list_at e 1) ≡ length (list_at c 0) + length (list_at c 1) → PoolInvariant e (pool_of e pages tags words)
moved_kept c e pages tags words h s two nodes each sizes = record {
  sound = s;
  two = two;
  nodes = nodes ∙ h.nodes;
  few = h.few;
  tag_each = h.tag_each;
  words_each = h.words_each;
  each = λ frame b. each frame (h.each frame b);
  all = sizes ∙ h.all;
}

swapped : {A B : Type 0} → A ⊎ B → B ⊎ A
swapped s = elim s [ inl a ↦ inr a | inr b ↦ inl b ]

-- a taken frame is free again
pub given_kept : (c d e : Chains) (pages : List ℕ) (tags : List Bool) (words : List Parts) (frame : ℕ) → PoolInvariant c (pool_of c pages tags words) → Contains (list_at c 1) frame
    → d ≡ with_list c 1 (without frame (list_at c 1)) → e ≡ with_list d 0 (list_at d 0 ++ frame ∷ []) → IsSound e → PoolInvariant e (pool_of e pages tags words)
given_kept c d e pages tags words frame h m is_d is_e s =
    let v = moved c d e 1 0 frame (omega arith) (omega arith) (λ q. absurd (cc)) h.two h.sound m is_d is_e in
    moved_kept c e pages tags words h s v.two v.nodes (λ q o. swapped (v.each q (swapped o))) (omega (arith, v.sizes))

-- a free frame is taken
pub taken_kept : (c d e : Chains) (pages : List ℕ) (tags : List Bool) (words : List Parts) (frame : ℕ) → PoolInvariant c (pool_of c pages tags words) → Contains (list_at c 0) frame
    → d ≡ with_list c 0 (without frame (list_at c 0)) → e ≡ with_list d 1 (list_at d 1 ++ frame ∷ []) → IsSound e → PoolInvariant e (pool_of e pages tags words)
taken_kept c d e pages tags words frame h m is_d is_e s =
    let v = moved c d e 0 1 frame (omega arith) (omega arith) (λ q. absurd (cc)) h.two h.sound m is_d is_e in
    moved_kept c e pages tags words h s v.two v.nodes v.each (sym v.sizes)

-- a taken frame is the most recent
pub touched_kept : (c e : Chains) (pages : List ℕ) (tags : List Bool) (words : List Parts) (frame : ℕ) → PoolInvariant c (pool_of c pages tags words) → Contains (list_at c 1) frame
    → e ≡ with_list c 1 (without frame (list_at c 1) ++ frame ∷ []) → IsSound e → PoolInvariant e (pool_of e pages tags words)
touched_kept c e pages tags words frame h m is_e s =
    let one : list_at e 1 ≡ without frame (list_at c 1) ++ frame ∷ [] = ap (λ (v : Chains). list_at v 1) is_e ∙ list_at-with_list_same c 1 _ (omega (arith, h.two)) in
    let zeroth : list_at e 0 ≡ list_at c 0 = ap (λ (v : Chains). list_at v 0) is_e ∙ list_at-with_list_other c 1 _ 0 (λ q. absurd (cc)) in
    let short = length-without frame (list_at c 1) m (h.sound.one_place 1) in
    let long : length (without frame (list_at c 1) ++ frame ∷ []) ≡ length (without frame (list_at c 1)) + 1 = simp length-append (omega arith) in
    record {
      sound = s;
      two = ap (λ (v : Chains). length v.lists) is_e ∙ length-with_list c 1 _ ∙ h.two;
      nodes = ap (λ (v : Chains). v.nodes) is_e ∙ h.nodes;
      few = h.few;
      tag_each = h.tag_each;
      words_each = h.words_each;
      each = λ q b. elim (h.each q b) [
        | inl free ↦ inl (subst (λ (xs : List ℕ). Contains xs q) (sym zeroth) free)
        | inr used ↦ inr (subst (λ (xs : List ℕ). Contains xs q) (sym one) (again q used))
      ];
      all = omega (arith, short, long, ap length one, ap length zeroth, h.all);
    }
  where
    again : (q : ℕ) → Contains (list_at c 1) q → Contains (without frame (list_at c 1) ++ frame ∷ []) q
    again q used =
        elim (cases_eq q frame) [
          | inl e ↦ subst (λ n. Contains (without frame (list_at c 1) ++ n ∷ []) q) e (Contains-push_new q _)
          | inr ne ↦ Contains-push_old q frame _ (Contains-without frame q _ ne used)
        ]

-- the most recent frame is touched
pub with_latest-last : (p : Pool) (frame : ℕ) → IsPool p → Some frame ≡ last_of p.used → with_latest p frame ≡ p
with_latest-last p frame h e = ap (λ (xs : List ℕ). (let q : Pool = record p { used = xs } in q)) (without-last frame p.used h.used_once (sym e))

-- what the owner of a frame says

pub same_option : (o : Option ℕ) (n : ℕ) → true ≡ option_eq eqb o (Some n) → o ≡ Some n
same_option None n e = absurd (cc)
same_option (Some m) n e = ap Some (eqb-true m n (sym e))

pub other_option : (o : Option ℕ) (n : ℕ) → false ≡ option_eq eqb o (Some n) → o ≢ Some n
other_option None n e s = absurd (cc)
other_option (Some m) n e s = eqb-false m n (sym e) (ap (λ (k : Option ℕ). unwrap_or k 0) s)

-- a taken frame is one of the frames
pub inside_if_used : (p : Pool) (o : Option ℕ) → IsPool p → IfSome o (Contains p.used) → IfSome o (λ frame. frame < frames_of p)
inside_if_used p None h m = tt
inside_if_used p (Some frame) h m = h.used_in frame m

-- the most recently used frame and its page

pub last-push : (xs : List ℕ) (x : ℕ) → last_of (xs ++ x ∷ []) ≡ Some x
last-push [] x = refl
last-push (y ∷ []) x = refl
last-push (y ∷ z ∷ zs) x = last-push (z ∷ zs) x

pub latest-push : (before used pages : List ℕ) (page frame : ℕ) → used ≡ before ++ frame ∷ [] → page ≡ slice_index pages frame → IsLatest used pages page frame
latest-push before used pages page frame is at =
    subst (λ (o : Option ℕ). MatchOption o (page ≡ 2 ^ 32) (λ last. (frame ≡ last) × (page ≡ slice_index pages last))) (sym (ap last_of is ∙ last-push before frame)) (refl, at)

pub latest-is : (used pages : List ℕ) (page frame : ℕ) (o : Option ℕ) → o ≡ last_of used → MatchOption o (page ≡ 2 ^ 32) (λ last. (frame ≡ last) × (page ≡ slice_index pages last)) → IsLatest used pages page frame
latest-is used pages page frame o is h = subst (λ (q : Option ℕ). MatchOption q (page ≡ 2 ^ 32) (λ last. (frame ≡ last) × (page ≡ slice_index pages last))) is h

-- a page that is below 2^32 is that of a frame
pub latest_found : (used pages : List ℕ) (page frame : ℕ) → page < 2 ^ 32 → IsLatest used pages page frame → (last_of used ≡ Some frame) × (slice_index pages frame ≡ page)
latest_found used pages page frame low h = by (last_of used) refl h
  where
    by : (o : Option ℕ) → last_of used ≡ o → MatchOption o (page ≡ 2 ^ 32) (λ last. (frame ≡ last) × (page ≡ slice_index pages last)) → (last_of used ≡ Some frame) × (slice_index pages frame ≡ page)
    by None is e = absurd (omega (arith, e))
    by (Some last) is e = (is ∙ ap (λ (n : ℕ). Some n) (sym e.0), ap (slice_index pages) e.0 ∙ sym e.1)

-- the page of the last frame is the one that is kept
pub latest_page : (used pages : List ℕ) (page frame last : ℕ) → IsLatest used pages page frame → last_of used ≡ Some last → page ≡ slice_index pages last
latest_page used pages page frame last h is = (subst (λ (o : Option ℕ). MatchOption o (page ≡ 2 ^ 32) (λ k. (frame ≡ k) × (page ≡ slice_index pages k))) is h).1

pub latest-none : (used pages : List ℕ) (frame : ℕ) → used ≡ [] → IsLatest used pages (2 ^ 32) frame
latest-none used pages frame is = latest-is used pages (2 ^ 32) frame None (sym (ap last_of is)) refl

-- if some frame is taken, the kept frame is the last
pub latest_last : (used pages : List ℕ) (page frame taken : ℕ) → Contains used taken → IsLatest used pages page frame → last_of used ≡ Some frame
latest_last used pages page frame taken m h = by (last_of used) refl h
  where
    by : (o : Option ℕ) → last_of used ≡ o → MatchOption o (page ≡ 2 ^ 32) (λ last. (frame ≡ last) × (page ≡ slice_index pages last)) → last_of used ≡ Some frame
    by None is e =
        let empty : used ≡ [] = (none_last used None (sym is)).0 refl in
        absurd (omega (arith, m.1, ap length empty))
    by (Some last) is e = is ∙ ap (λ (n : ℕ). Some n) (sym e.0)
