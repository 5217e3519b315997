-- A frame goes from one of two lists to the end of the other.
use Rattle.std.proofs.Common.{◌≡◌, ◌≢◌, ℕ, ◌+◌, ◌<◌, ◌⊎◌, inl, inr, Bool, false, Option, List, [], ◌∷◌, ◌++◌, length, sym, ap, subst, ◌∙◌, arith, length-append}
use Rattle.std.specs.Prelude.{Contains, slice_set}
use Rattle.std.proofs.lemmas.Bool.{cases_eq}
use Rattle.index_lists.specs.Chains.{Chains, list_at, without, with_list, IsSound}
use Rattle.index_lists.proofs.ListUpdates.{list_at-with_list_same, list_at-with_list_other, length-with_list, length-without, Contains-without, Contains-push_old, Contains-push_new}
use Rattle.store_word.specs.Words.{Parts}
use Rattle.frame_pool.specs.Fills.{Fills}
use Rattle.frame_pool.specs.Pool.{Pool, Takes, with_taken}
use Rattle.frame_pool.specs.Invariant.{pool_of}

-- the lists once the frame has moved
pub record IsMoved (c e : Chains) (from to frame : ℕ) : Type 0 where
  pub two : length e.lists ≡ 2
  pub nodes : e.nodes ≡ c.nodes
  pub from_is : list_at e from ≡ without frame (list_at c from)
  pub to_is : list_at e to ≡ list_at c to ++ frame ∷ []
  pub sizes : length (list_at c from) + length (list_at c to) ≡ length (list_at e from) + length (list_at e to)
  pub each : (q : ℕ) → Contains (list_at c from) q ⊎ Contains (list_at c to) q → Contains (list_at e from) q ⊎ Contains (list_at e to) q

-- each frame is still in one of the two
has_each : (frame q : ℕ) (xs ys xs' ys' : List ℕ) → xs' ≡ without frame xs → ys' ≡ ys ++ frame ∷ [] → Contains xs q ⊎ Contains ys q → Contains xs' q ⊎ Contains ys' q
has_each frame q xs ys xs' ys' e f has =
    elim (cases_eq q frame) [
      | inl same ↦ inr (subst (λ (zs : List ℕ). Contains zs q) (sym f) (subst (λ n. Contains (ys ++ n ∷ []) q) same (Contains-push_new q ys)))
      | inr ne ↦ elim has [
        | inl m ↦ inl (subst (λ (zs : List ℕ). Contains zs q) (sym e) (Contains-without frame q xs ne m))
        | inr m ↦ inr (subst (λ (zs : List ℕ). Contains zs q) (sym f) (Contains-push_old q frame ys m))
      ]
    ]

pub moved : (c d e : Chains) (from to frame : ℕ) → from < 2 → to < 2 → from ≢ to → length c.lists ≡ 2 → IsSound c → Contains (list_at c from) frame
    → d ≡ with_list c from (without frame (list_at c from)) → e ≡ with_list d to (list_at d to ++ frame ∷ []) → IsMoved c e from to frame
moved c d e from to frame f t ne two s m is_d is_e =
    let d2 : length d.lists ≡ 2 = ap (λ (v : Chains). length v.lists) is_d ∙ length-with_list c from _ ∙ two in
    let d_to : list_at d to ≡ list_at c to = ap (λ (v : Chains). list_at v to) is_d ∙ list_at-with_list_other c from _ to (λ q. ne (sym q)) in
    let d_from : list_at d from ≡ without frame (list_at c from) = ap (λ (v : Chains). list_at v from) is_d ∙ list_at-with_list_same c from _ (omega arith) in
    let e_to : list_at e to ≡ list_at d to ++ frame ∷ [] = ap (λ (v : Chains). list_at v to) is_e ∙ list_at-with_list_same d to _ (omega arith) in
    let e_from : list_at e from ≡ list_at d from = ap (λ (v : Chains). list_at v from) is_e ∙ list_at-with_list_other d to _ from ne in
    let is_from = e_from ∙ d_from in
    let is_to = e_to ∙ ap (λ (xs : List ℕ). xs ++ frame ∷ []) d_to in
    let short = length-without frame (list_at c from) m (s.one_place from) in
    let long : length (list_at c to ++ frame ∷ []) ≡ length (list_at c to) + 1 = simp length-append (omega arith) in
    record {
      two = ap (λ (v : Chains). length v.lists) is_e ∙ length-with_list d to _ ∙ d2;
      nodes = ap (λ (v : Chains). v.nodes) is_e ∙ ap (λ (v : Chains). v.nodes) is_d;
      from_is = is_from;
      to_is = is_to;
      sizes = omega (arith, short, long, ap length is_from, ap length is_to);
      each = λ q. has_each frame q _ _ _ _ is_from is_to;
    }

-- a page has taken a frame
pub claimed : (c e : Chains) (pages : List ℕ) (tags : List Bool) (words : List Parts) (frame page : ℕ) → IsMoved c e 0 1 frame
    → pool_of e (slice_set pages frame page) (slice_set tags frame false) words ≡ with_taken (pool_of c pages tags words) frame page
claimed c e pages tags words frame page v =
    ap (λ (xs : List ℕ). (let p : Pool = record { free = xs; used = list_at e 1; pages = slice_set pages frame page; tags = slice_set tags frame false; words = words } in p)) v.from_is
    ∙ ap (λ (xs : List ℕ). (let p : Pool = record { free = without frame (list_at c 0); used = xs; pages = slice_set pages frame page; tags = slice_set tags frame false; words = words } in p)) v.to_is

-- a page has taken a frame, whose words were then written
pub takes : (old mid new : Pool) (frame page : ℕ) (word : ℕ → Option Parts) → mid ≡ with_taken old frame page → Fills mid.words new.words frame word → new ≡ record mid { words = new.words }
    → Takes old new frame page word
takes old mid new frame page word taken fills rest = record {
  free = ap (λ (p : Pool). p.free) rest ∙ ap (λ (p : Pool). p.free) taken;
  used = ap (λ (p : Pool). p.used) rest ∙ ap (λ (p : Pool). p.used) taken;
  pages = ap (λ (p : Pool). p.pages) rest ∙ ap (λ (p : Pool). p.pages) taken;
  tags = ap (λ (p : Pool). p.tags) rest ∙ ap (λ (p : Pool). p.tags) taken;
  words = subst (λ (ws : List Parts). Fills ws new.words frame word) (ap (λ (p : Pool). p.words) taken) fills;
}

pub still_used : (mid new : Pool) (frame : ℕ) → Contains mid.used frame → new ≡ record mid { words = new.words } → Contains new.used frame
still_used mid new frame used rest = subst (λ (xs : List ℕ). Contains xs frame) (sym (ap (λ (p : Pool). p.used) rest)) used
