-- What callers see: for each list its nodes, in order.
use Rattle.std.specs.Prelude.{◌≡◌, ℕ, ◌<◌, ◌==◌, eqb, not, Option, Some, None, if◌then◌else◌, List, [], ◌∷◌, filter, slice_index_or, slice_set, Contains}
use Rattle.std.specs.List.{IsDistinct}

-- the lists over the nodes 0 .. nodes, list l at index l
pub record Chains : Type 0 where
  pub nodes : ℕ
  pub lists : List (List ℕ)

-- the nodes of a list, in order; none for a number that is no list's
abbrev pub list_at : Chains → ℕ → List ℕ
list_at c l = slice_index_or c.lists l []

-- the list without the node
abbrev pub without : ℕ → List ℕ → List ℕ
without node xs = filter (λ x. not (x == node)) xs

-- the same lists except that list l is now xs
abbrev pub with_list : Chains → ℕ → List ℕ → Chains
with_list c l xs = record c { lists = slice_set c.lists l xs }

-- the node is in some list
abbrev pub IsListed : Chains → ℕ → Type 0
IsListed c node = (l : ℕ) × Contains (list_at c l) node

-- the node is in no list
abbrev pub IsFree : Chains → ℕ → Type 0
IsFree c node = (l : ℕ) → Contains (list_at c l) node → ⊥

-- the first node of a list
abbrev pub first_of : List ℕ → Option ℕ
first_of [] = None
first_of (x ∷ xs) = Some x

-- the last node of a list
abbrev pub last_of : List ℕ → Option ℕ
last_of [] = None
last_of (x ∷ []) = Some x
last_of (x ∷ y ∷ ys) = last_of (y ∷ ys)

-- the node that follows a node in a list
abbrev pub next_in : List ℕ → ℕ → Option ℕ
next_in [] node = None
next_in (x ∷ xs) node = if x == node then first_of xs else next_in xs node

-- no node is in two places, and each is one of the nodes
pub record IsSound (c : Chains) : Type 0 where
  pub within : (l node : ℕ) → Contains (list_at c l) node → node < c.nodes
  pub one_list : (l k node : ℕ) → Contains (list_at c l) node → Contains (list_at c k) node → l ≡ k
  pub one_place : (l : ℕ) → IsDistinct eqb (list_at c l)
