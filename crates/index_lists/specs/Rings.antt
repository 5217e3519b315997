-- The lists that an array of links holds. The place nodes + l is the end of the list l: it lies
-- before the first of its nodes and after the last, so that the list is a ring.
use Rattle.std.specs.Prelude.{◌≡◌, ◌≢◌, ℕ, zero, suc, ◌+◌, ◌-◌, ◌<◌, ◌^◌, ◌==◌, if◌then◌else◌, List, [], ◌∷◌, ◌++◌, length, map, slice_index_or, slice_set}
use Rattle.std.specs.List.{range_with_len}
use Rattle.index_lists.specs.declared.links.Link.{Link}
use Rattle.index_lists.specs.Link.{after_of, before_of, owner_of, Joins}
use Rattle.index_lists.specs.Members.{Has, IsApart}
use Rattle.index_lists.specs.Chains.{Chains, without}

-- the places after `place`, up to `stop`, but at most the number given third
unfoldable pub walk : List Link → ℕ → ℕ → ℕ → List ℕ
walk links stop zero place = []
walk links stop (suc more) place =
    if after_of links place == stop then [] else after_of links place ∷ walk links stop more (after_of links place)

-- the nodes of each list, found from its end
unfoldable pub lists_of : List Link → ℕ → ℕ → List (List ℕ)
lists_of links nodes lists = map (λ l. walk links (nodes + l) nodes (nodes + l)) (range_with_len 0 lists)

-- what callers see of the links
abbrev pub shown : List Link → ℕ → ℕ → Chains
shown links nodes lists = record { nodes = nodes; lists = lists_of links nodes lists }

-- xs are the places between `from` and `to`, linked both ways
abbrev pub IsPath : List Link → ℕ → List ℕ → ℕ → Type 0
IsPath links from [] to = (after_of links from ≡ to) × (before_of links to ≡ from)
IsPath links from (x ∷ xs) to = (after_of links from ≡ x) × (before_of links x ≡ from) × IsPath links x xs to

-- the elements are nodes that belong to the list l
abbrev pub AreOwned : List Link → ℕ → ℕ → List ℕ → Type 0
AreOwned links nodes l [] = Unit {0}
AreOwned links nodes l (x ∷ xs) = (owner_of links x ≡ l) × (x < nodes) × AreOwned links nodes l xs

-- xs are the nodes of the list l, from its end place round to its end place
pub record IsRing (links : List Link) (nodes l : ℕ) (xs : List ℕ) : Type 0 where
  pub path : IsPath links (nodes + l) xs (nodes + l)
  pub head : owner_of links (nodes + l) ≡ l
  pub owned : AreOwned links nodes l xs
  pub apart : IsApart xs

-- the links hold these lists, and a node that is in none of them has no owner
pub record Holds (links : List Link) (nodes lists : ℕ) (all : List (List ℕ)) : Type 0 where
  pub total : length links ≡ nodes + lists
  pub room : nodes + lists < 2 ^ 32
  pub count : length all ≡ lists
  pub rings : (l : ℕ) → l < lists → IsRing links nodes l (slice_index_or all l [])
  pub placed : (node : ℕ) → node < nodes → owner_of links node ≢ 2 ^ 32 - 1
      → (owner_of links node < lists) × Has node (slice_index_or all (owner_of links node) [])

-- a node has been joined to the place before an end, and the end to the node
pub record Enters (old new : List Link) (end node : ℕ) : Type 0 where
  pub middle : List Link
  pub first : Joins old middle (before_of old end) node
  pub second : Joins middle new node end

-- whatever lists the links held, a node that was in none is now at the end of one
abbrev pub Attaches : List Link → List Link → ℕ → ℕ → ℕ → Type 0
Attaches old new nodes list node =
    (lists : ℕ) (all : List (List ℕ)) → list < lists → node < nodes → owner_of old node ≡ 2 ^ 32 - 1
    → Holds old nodes lists all → Holds new nodes lists (slice_set all list (slice_index_or all list [] ++ node ∷ []))

-- whatever lists the links held, a node is no longer in the list that it was in
abbrev pub Detaches : List Link → List Link → ℕ → Type 0
Detaches old new node =
    (nodes lists l : ℕ) (all : List (List ℕ)) → node < nodes → l < lists → owner_of old node ≡ l
    → Holds old nodes lists all → Holds new nodes lists (slice_set all l (without node (slice_index_or all l [])))

-- whatever lists the links held, a node is now at the end of the one that it was in
abbrev pub Relinks : List Link → List Link → ℕ → ℕ → ℕ → Type 0
Relinks old new nodes list node =
    (lists : ℕ) (all : List (List ℕ)) → list < lists → node < nodes → owner_of old node ≡ list
    → Holds old nodes lists all → Holds new nodes lists (slice_set all list (without node (slice_index_or all list []) ++ node ∷ []))
