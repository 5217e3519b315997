-- What callers see after a node was added to a list or removed from it.
use Rattle.std.proofs.Common.{◌≡◌, ℕ, ◌<◌, List, [], ◌∷◌, ◌++◌, length, sym, ap, subst, ◌∙◌}
use Rattle.std.specs.Prelude.{Contains}
use Rattle.index_lists.specs.declared.links.Link.{Link}
use Rattle.index_lists.specs.Rings.{Holds, lists_of, shown, Attaches, Detaches, Relinks}
use Rattle.index_lists.specs.Chains.{Chains, list_at, without, with_list, IsFree, IsSound}
use Rattle.index_lists.proofs.LinkUpdates.{holds_itself, lists_of_lem}
use Rattle.index_lists.proofs.LinkReads.{IsSeen, free_from_none, at_from_contains, sound}
use Rattle.index_lists.proofs.ListUpdates.{length-with_list, list_at-with_list_same, Contains-push_new, free_from_without}

-- the links show this value to callers
pub record Shows (links : List Link) (nodes lists : ℕ) (value : Chains) : Type 0 where
  pub kept : Holds links nodes lists (lists_of links nodes lists)
  pub is : shown links nodes lists ≡ value
  pub sound : IsSound (shown links nodes lists)

-- values of equal parts are equal
pub same_chains : (n m : ℕ) (xs ys : List (List ℕ)) → n ≡ m → xs ≡ ys → (let a : Chains = record { nodes = n; lists = xs } in let b : Chains = record { nodes = m; lists = ys } in a ≡ b)
same_chains n m xs ys e f = λ i. record { nodes = e i; lists = f i }

-- links that hold the lists of a value show it
pub shows : (links : List Link) (nodes lists : ℕ) (value : Chains) → value.nodes ≡ nodes → Holds links nodes lists value.lists → Shows links nodes lists value
shows links nodes lists value e h = record {
  kept = holds_itself links nodes lists value.lists h;
  is = same_chains nodes value.nodes _ value.lists (sym e) (lists_of_lem links nodes lists value.lists h);
  sound = sound links nodes lists _ (holds_itself links nodes lists value.lists h);
}

-- after `attach`
pub after_push : (links new : List Link) (nodes lists l n : ℕ) (old : Chains) → IsSeen links nodes lists old → l < length old.lists → n < old.nodes → IsFree old n
    → Attaches links new nodes l n → Shows new nodes lists (with_list old l (list_at old l ++ n ∷ []))
after_push links new nodes lists l n old s bl bn free a =
    let low : n < nodes = rw (← s.nodes_is) bn in
    shows new nodes lists (with_list old l (list_at old l ++ n ∷ [])) s.nodes_is
    (a lists old.lists (rw (← s.holds.count) bl) low (free_from_none links nodes lists n old.lists s.holds low free) s.holds)

-- after `detach`
pub after_removal : (links new : List Link) (nodes lists l n : ℕ) (old : Chains) → IsSeen links nodes lists old → Contains (list_at old l) n → Detaches links new n
    → Shows new nodes lists (with_list old l (without n (list_at old l)))
after_removal links new nodes lists l n old s m d =
    let at = at_from_contains links nodes lists l n old.lists s.holds m in
    shows new nodes lists (with_list old l (without n (list_at old l))) s.nodes_is (d nodes lists l old.lists at.node_in at.list_in at.owner s.holds)

-- after `relink`
pub after_relink : (links new : List Link) (nodes lists l n : ℕ) (old : Chains) → IsSeen links nodes lists old → Contains (list_at old l) n → Relinks links new nodes l n
    → Shows new nodes lists (with_list old l (without n (list_at old l) ++ n ∷ []))
after_relink links new nodes lists l n old s m d =
    let at = at_from_contains links nodes lists l n old.lists s.holds m in
    shows new nodes lists (with_list old l (without n (list_at old l) ++ n ∷ [])) s.nodes_is (d lists old.lists at.list_in at.node_in at.owner s.holds)

-- the other clauses on a list that has changed

pub same_nodes : (old new : Chains) (l : ℕ) (xs : List ℕ) → new ≡ with_list old l xs → new.nodes ≡ old.nodes
same_nodes old new l xs e = ap (λ (v : Chains). v.nodes) e

pub same_lists : (old new : Chains) (l : ℕ) (xs : List ℕ) → new ≡ with_list old l xs → length new.lists ≡ length old.lists
same_lists old new l xs e = ap (λ (v : Chains). length v.lists) e ∙ length-with_list old l xs

pub listed_after : (old new : Chains) (l n : ℕ) (xs : List ℕ) → l < length old.lists → new ≡ with_list old l (xs ++ n ∷ []) → Contains (list_at new l) n
listed_after old new l n xs b e =
    subst (λ (ys : List ℕ). Contains ys n) (sym (ap (λ (v : Chains). list_at v l) e ∙ list_at-with_list_same old l _ b)) (Contains-push_new n xs)

pub free_after : (old new : Chains) (l n : ℕ) → IsSound old → Contains (list_at old l) n → new ≡ with_list old l (without n (list_at old l)) → IsFree new n
free_after old new l n s m e = subst (λ (v : Chains). IsFree v n) (sym e) (free_from_without old n l s m)
