-- Uses and evictions one after another.
use Rattle.std.proofs.Common.{ℕ, zero, suc, ◌≡◌, ◌+◌, ◌<◌, false, List, [], ◌∷◌, ◌++◌, Some, length, take, drop, refl, sym, ap, subst, ◌∙◌, arith, inl, inr}
use Rattle.std.specs.Prelude.{Contains, OnErr, Result, Ok, Err, slice_index}
use Rattle.frame_pool.specs.index_lists.Chains.{first_of}
use Rattle.frame_pool.proofs.index_lists.Members.{has_from_contains, contains_from_has}
use Rattle.frame_pool.proofs.index_lists.ListUpdates.{Contains-first}
use Rattle.mem_port.specs.Frames.{EvictsFewer}
use Rattle.store_word.specs.Words.{Parts}
use Rattle.page_map.specs.Map.{place_at}
use Rattle.paged_memory.specs.Paging.{Paging, resident_of, IsPaged}
use Rattle.outer_ports.specs.Pages.{Calls, with_write, with_writes}
use Rattle.paged_memory.specs.Order.{HasLeft, Evicts, Uses, UsesEach, Stops, StopsAmong, StopsCalls, calls_to_use}
use Rattle.paged_memory.specs.Moves.{GoesOut}
use Rattle.paged_memory.proofs.Lists.{contains_or_not}
use Rattle.paged_memory.proofs.Uses.{out_left, out_absent}

-- one more use
pub uses_each_push : (old mid new : Paging) (before between now : Calls) (pages : List ℕ) (page : ℕ) → UsesEach old before mid between pages → Uses mid new page false → now ≡ calls_to_use mid page between
    → UsesEach old before new now (pages ++ page ∷ [])
uses_each_push old mid new before between now [] page e u c =
    (new, now, (subst (λ (v : Paging). Uses v new page false) (sym e.0) u, c ∙ ap (λ (v : Paging). calls_to_use v page between) (sym e.0) ∙ ap (calls_to_use old page) (sym e.1), (refl, refl)))
uses_each_push old mid new before between now (first ∷ pages) page e u c =
    (e.0, e.1, (e.2.0, e.2.1, uses_each_push e.0 mid new e.1 between now pages page e.2.2 u c))

-- a swap error at a page that is in no frame
pub stops_among : {A E : Type 0} (r : Result A E) (old mid new : Paging) (before between now : Calls) (pages : List ℕ) (done : ℕ) → done < length pages → UsesEach old before mid between (take done pages)
    → (Contains (resident_of mid) (slice_index pages done) → ⊥) → Stops mid new → StopsCalls mid (slice_index pages done) between now → OnErr r (StopsAmong old before new now pages)
stops_among (Ok x) old mid new before between now pages done low each absent stops calls = tt
stops_among (Err e) old mid new before between now pages done low each absent stops calls = (done, mid, between, (low, each, absent, stops, calls))

contains_drop : (n : ℕ) (xs : List ℕ) (q : ℕ) → Contains (drop n xs) q → Contains xs q
contains_drop zero xs q m = m
contains_drop (suc n) [] q m = m
contains_drop (suc n) (x ∷ xs) q m =
    let rest = contains_drop n xs q m in
    contains_from_has q (x ∷ xs) (λ _. has_from_contains q xs rest.0 rest.1 rest.2)

-- one more eviction
pub evicts_then : (old mid new : Paging) (stored : List Parts) (n page : ℕ) → Evicts old mid → resident_of mid ≡ drop n (resident_of old) → IsPaged new stored → GoesOut mid new page → Evicts mid new → Evicts old new
evicts_then old mid new stored n page a order h out b =
    let there : Contains (resident_of mid) page = Contains-first (resident_of mid) page out.first in
    let was : Contains (resident_of old) page = contains_drop n (resident_of old) page (subst (λ (xs : List ℕ). Contains xs page) order there) in
    let off = out_absent mid new stored page h out in
    let on : (q : ℕ) → Contains (resident_of new) q → Contains (resident_of mid) q = λ q m. contains_drop 1 (resident_of mid) q (subst (λ (xs : List ℕ). Contains xs q) out.order m) in
    record {
      frames = b.frames ∙ a.frames;
      gone = λ q l. elim (contains_or_not q (resident_of mid)) [
        | inl m ↦ ap (place_at new.places) (out_left mid new page q out (m, l.1)) ∙ out.swapped
        | inr no_more ↦ out.places q (λ e. no_more (subst (λ k. Contains (resident_of mid) k) (sym e) there)) ∙ a.gone q (l.0, no_more)
      ];
      others = λ q stays.
          out.marks q (λ e. stays (subst (λ k. HasLeft old new k) (sym e) (was, off))) ∙ a.others q (λ l. stays (l.0, λ m. l.1 (on q m)));
    }

drop_some : (n x : ℕ) (xs : List ℕ) → first_of (drop n xs) ≡ Some x → n < length xs
drop_some zero x [] e = absurd (cc)
drop_some zero x (y ∷ ys) e = omega arith
drop_some (suc n) x [] e = absurd (cc)
drop_some (suc n) x (y ∷ ys) e = let r = drop_some n x ys e in omega arith

-- one that is evicted was there
pub one_gone : (n x : ℕ) (order old : List ℕ) → order ≡ drop n old → first_of order ≡ Some x → n < length old
one_gone n x order old is first = drop_some n x old (ap first_of (sym is) ∙ first)

-- one more page was written
pub writes_more : (n : ℕ) (before mid now : Calls) → mid ≡ with_writes n before → now ≡ with_write mid → now ≡ with_writes (n + 1) before
writes_more n before mid now some one = let e : n + 1 ≡ suc n = omega arith in one ∙ ap with_write some ∙ ap (λ k. with_writes k before) (sym e)

-- an eviction fails after some
pub evicts_fewer : {A E : Type 0} (r : Result A E) (order left : List ℕ) (n count : ℕ) → n < count → left ≡ drop n order → OnErr r (EvictsFewer order left count)
evicts_fewer (Ok x) order left n count low is = tt
evicts_fewer (Err e) order left n count low is = record { gone = n; fewer = low; order = is }

pub stops_evicting : {A E : Type 0} (r : Result A E) (order left : List ℕ) (before mid now : Calls) (n count : ℕ) → n < count → left ≡ drop n order → mid ≡ with_writes n before → now ≡ with_write mid
    → OnErr r ((gone : ℕ) × (gone < count) × (left ≡ drop gone order) × (now ≡ with_writes (gone + 1) before))
stops_evicting (Ok x) order left before mid now n count low is some one = tt
stops_evicting (Err e) order left before mid now n count low is some one = (n, low, is, writes_more n before mid now some one)

pub drop_more : (n : ℕ) (xs : List ℕ) → drop 1 (drop n xs) ≡ drop (n + 1) xs
drop_more n xs = let e : n + 1 ≡ suc n = omega arith in next n xs ∙ ap (λ k. drop k xs) (sym e)
  where
    next : (k : ℕ) (ys : List ℕ) → drop 1 (drop k ys) ≡ drop (suc k) ys
    next zero ys = refl
    next (suc k) [] = refl
    next (suc k) (y ∷ ys) = next k ys
