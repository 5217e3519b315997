-- Pages that were used stay resident while others are used.
use Rattle.std.proofs.Common.{ℕ, ◌≡◌, ◌≢◌, ◌+◌, ◌<◌, ◌≤◌, List, [], ◌∷◌, ◌++◌, length, drop, get_or, refl, sym, ap, subst, ◌∙◌, arith, inl, inr, append_assoc, length-append}
use Rattle.std.specs.Prelude.{Contains}
use Rattle.std.proofs.lemmas.Bool.{cases_eq, cases_lt}
use Rattle.std.proofs.lemmas.List.Elements.{Contains-append_right}
use Rattle.frame_pool.specs.index_lists.Chains.{without}
use Rattle.frame_pool.proofs.index_lists.Members.{without_here, without_there, contains_from_has}
use Rattle.frame_pool.proofs.index_lists.ListUpdates.{Contains-push_old, Contains-push_new, Contains-without}
use Rattle.paged_memory.specs.Order.{IsUsed}
use Rattle.paged_memory.specs.Recent.{IsRecent}
use Rattle.paged_memory.proofs.Lists.{contains_or_not}

pub recent_in : (n : ℕ) (xs : List ℕ) (q : ℕ) → IsRecent n xs q → Contains xs q
recent_in n xs q r = subst (λ (v : List ℕ). Contains v q) (sym r.2.0) (Contains-append_right r.0 r.1 q r.2.2)

recent_push : (n : ℕ) (xs : List ℕ) (q page : ℕ) → IsRecent n xs q → IsRecent (n + 1) (xs ++ page ∷ []) q
recent_push n xs q page r =
    (r.0, r.1 ++ page ∷ [], (ap (λ (v : List ℕ). v ++ page ∷ []) r.2.0 ∙ append_assoc r.0 r.1 (page ∷ []), simp length-append (omega (arith, r.2.1)), Contains-push_old q page r.1 r.2.2))

without_append : (page : ℕ) (ys zs : List ℕ) → without page (ys ++ zs) ≡ without page ys ++ without page zs
without_append page [] zs = refl
without_append page (y ∷ ys) zs =
    elim (cases_eq y page) [
      | inl e ↦ without_here page y (ys ++ zs) e ∙ without_append page ys zs ∙ ap (λ (v : List ℕ). v ++ without page zs) (sym (without_here page y ys e))
      | inr ne ↦ without_there page y (ys ++ zs) ne ∙ ap (λ (v : List ℕ). y ∷ v) (without_append page ys zs) ∙ ap (λ (v : List ℕ). v ++ without page zs) (sym (without_there page y ys ne))
    ]

without_short : (page : ℕ) (zs : List ℕ) → length (without page zs) ≤ length zs
without_short page [] = omega arith
without_short page (z ∷ zs) =
    let i = without_short page zs in
    elim (cases_eq z page) [
      | inl e ↦ (let l = ap length (without_here page z zs e) in omega arith)
      | inr ne ↦ (let l = ap length (without_there page z zs ne) in omega arith)
    ]

recent_again : (n : ℕ) (xs : List ℕ) (q page : ℕ) → q ≢ page → IsRecent n xs q → IsRecent (n + 1) (without page xs ++ page ∷ []) q
recent_again n xs q page ne r =
    let short = without_short page r.1 in (
      without page r.0,
      without page r.1 ++ page ∷ [],
      (
        ap (λ (v : List ℕ). without page v ++ page ∷ []) r.2.0 ∙ ap (λ (v : List ℕ). v ++ page ∷ []) (without_append page r.0 r.1) ∙ append_assoc (without page r.0) (without page r.1) (page ∷ []),
        simp length-append (omega (arith, short, r.2.1)),
        Contains-push_old q page (without page r.1) (Contains-without page q r.1 ne r.2.2),
      ),
    )

recent_last : (n : ℕ) (xs : List ℕ) (page : ℕ) → 1 ≤ n → IsRecent n (xs ++ page ∷ []) page
recent_last n xs page pos = (xs, page ∷ [], (refl, omega arith, contains_from_has page (page ∷ []) (λ ne. absurd (ne refl))))

recent_drop_at : (n frames : ℕ) (xs : List ℕ) (q : ℕ) (ys zs : List ℕ) → n < frames → frames ≤ length xs → xs ≡ ys ++ zs → length zs ≤ n → Contains zs q → IsRecent n (drop 1 xs) q
recent_drop_at n frames xs q [] zs few many e short m = let l : length xs ≡ length zs = ap length e in absurd (omega arith)
recent_drop_at n frames xs q (y ∷ ys) zs few many e short m = (ys, zs, (ap (drop 1) e, short, m))

pub recent_used : (n frames : ℕ) (old new : List ℕ) (page q : ℕ) → IsUsed frames old new page → n < frames → IsRecent n old q → IsRecent (n + 1) new q
recent_used n frames old new page q u few r =
    elim (contains_or_not page old) [
      | inl there ↦ (elim (cases_eq q page) [
        | inl e ↦ subst (λ k. IsRecent (n + 1) new k) (sym e) (subst (λ (v : List ℕ). IsRecent (n + 1) v page) (sym (u.again there)) (recent_last (n + 1) (without page old) page (omega arith)))
        | inr ne ↦ subst (λ (v : List ℕ). IsRecent (n + 1) v q) (sym (u.again there)) (recent_again n old q page ne r)
      ])
      | inr off ↦ (elim (cases_lt (length old) frames) [
        | inl room ↦ subst (λ (v : List ℕ). IsRecent (n + 1) v q) (sym (u.room off room)) (recent_push n old q page r)
        | inr full ↦ subst (λ (v : List ℕ). IsRecent (n + 1) v q) (sym (u.full off full)) (recent_push n (drop 1 old) q page (recent_drop_at n frames old q r.0 r.1 few full r.2.0 r.2.1 r.2.2))
      ])
    ]

pub latest_used : (frames : ℕ) (old new : List ℕ) (page : ℕ) → IsUsed frames old new page → IsRecent 1 new page
latest_used frames old new page u =
    elim (contains_or_not page old) [
      | inl there ↦ subst (λ (v : List ℕ). IsRecent 1 v page) (sym (u.again there)) (recent_last 1 (without page old) page (omega arith))
      | inr off ↦ (elim (cases_lt (length old) frames) [
        | inl room ↦ subst (λ (v : List ℕ). IsRecent 1 v page) (sym (u.room off room)) (recent_last 1 old page (omega arith))
        | inr full ↦ subst (λ (v : List ℕ). IsRecent 1 v page) (sym (u.full off full)) (recent_last 1 (drop 1 old) page (omega arith))
      ])
    ]

-- a resident page that is used again causes no eviction
pub used_kept : (frames : ℕ) (old new : List ℕ) (page : ℕ) → IsUsed frames old new page → Contains old page → (q : ℕ) → Contains old q → Contains new q
used_kept frames old new page u there q m = subst (λ (v : List ℕ). Contains v q) (sym (u.again there)) (elim (cases_eq q page) [
  | inl e ↦ subst (λ k. Contains (without page old ++ page ∷ []) k) (sym e) (Contains-push_new page (without page old))
  | inr ne ↦ Contains-push_old q page (without page old) (Contains-without page q old ne m)
])

-- what the loop of a hold keeps
pub held_more : (frames : ℕ) (old new pages : List ℕ) (i page : ℕ) → i < frames → get_or pages i 0 ≡ page → IsUsed frames old new page → ((k : ℕ) → k < i → IsRecent i old (get_or pages k 0)) → (k : ℕ) → k < i + 1 → IsRecent (i + 1) new (get_or pages k 0)
held_more frames old new pages i page few at u before k low =
    elim (cases_eq k i) [
      | inr ne ↦ recent_used i frames old new page (get_or pages k 0) u few (before k (omega arith))
      | inl e ↦ (
          let last = latest_used frames old new page u in
          let same : page ≡ get_or pages k 0 = sym at ∙ ap (λ n. get_or pages n 0) (sym e) in
          subst (λ q. IsRecent (i + 1) new q) same (last.0, last.1, (last.2.0, omega (arith, last.2.1), last.2.2)))
    ]
