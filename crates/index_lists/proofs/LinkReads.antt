-- What a read of the links returns, in terms of the lists.
use Rattle.std.proofs.Common.{◌≡◌, ◌≢◌, ℕ, ◌+◌, ◌<◌, ◌^◌, ◌↔◌, eqb, Some, Option, List, [], ◌∷◌, length, get_or, refl, sym, ap, subst, ◌∙◌, arith, inl, inr}
use Rattle.std.specs.Prelude.{Contains, IfSome, IsNone}
use Rattle.std.specs.List.{IsDistinct}
use Rattle.std.proofs.lemmas.Bool.{cases_eq, cases_lt, eq-eqb, ne_eqb}
use Rattle.std.proofs.lemmas.List.{get_or_past}
use Rattle.index_lists.specs.declared.links.Link.{Link}
use Rattle.index_lists.specs.Link.{after_of, before_of, owner_of, unless_end}
use Rattle.index_lists.specs.Members.{Lacks, Has}
use Rattle.index_lists.specs.Rings.{IsPath, Holds, shown, lists_of}
use Rattle.index_lists.specs.Chains.{Chains, list_at, first_of, last_of, next_in, IsSound}
use Rattle.index_lists.proofs.Ends.{none_next, listed_next}
use Rattle.index_lists.proofs.Members.{has_from_contains, contains_from_has, distinct_from_apart}
use Rattle.index_lists.proofs.Paths.{before_end_ne}
use Rattle.index_lists.proofs.Rings.{has_owner, lacks_by_bound, before_end_is, before_is, after_is}

-- the links on a path

first_is : (links : List Link) (from : ℕ) (xs : List ℕ) (to : ℕ) → Lacks to xs → IsPath links from xs to → unless_end (after_of links from) to ≡ first_of xs
first_is links from [] to l p = rw (eq-eqb _ _ p.0) refl
first_is links from (x ∷ xs) to l p = rw (p.0, ne_eqb x to l.0) refl

last_cons : (links : List Link) (x : ℕ) (xs : List ℕ) (to : ℕ) → IsPath links x xs to → last_of (x ∷ xs) ≡ Some (before_of links to)
last_cons links x [] to p = ap Some (sym p.1)
last_cons links x (y ∷ ys) to p = last_cons links y ys to p.2

last_is : (links : List Link) (from : ℕ) (xs : List ℕ) (to : ℕ) → Lacks from xs → IsPath links from xs to → unless_end (before_of links to) from ≡ last_of xs
last_is links from [] to l p = rw (eq-eqb _ _ p.1) refl
last_is links from (x ∷ xs) to l p = rw (ne_eqb _ _ (before_end_ne links from x xs to l.0 l.1 p.2)) (sym (last_cons links x xs to p.2))

next_is : (links : List Link) (node from : ℕ) (xs : List ℕ) (to : ℕ) → Has node xs → Lacks to xs → IsPath links from xs to → unless_end (after_of links node) to ≡ next_in xs node
next_is links node from [] to h l p = absurd h
next_is links node from (x ∷ xs) to h l p =
    elim (cases_eq x node) [
      | inl s ↦ rw (eq-eqb x node s) (ap (λ (q : ℕ). unless_end (after_of links q) to) (sym s) ∙ first_is links x xs to l.1 p.2)
      | inr ne ↦ rw (ne_eqb x node ne) (next_is links node x xs to (h ne) l.1 p.2)
    ]

-- a node that a list contains
pub record IsAt (links : List Link) (nodes lists l node : ℕ) (all : List (List ℕ)) : Type 0 where
  pub list_in : l < lists
  pub node_in : node < nodes
  pub owner : owner_of links node ≡ l
  pub held : owner_of links node ≢ 4294967295
  pub has : Has node (get_or all l [])
  pub before_in : before_of links node < length links
  pub after_in : after_of links node < length links

pub at_from_contains : (links : List Link) (nodes lists l node : ℕ) (all : List (List ℕ)) → Holds links nodes lists all → Contains (get_or all l []) node → IsAt links nodes lists l node all
at_from_contains links nodes lists l node all h m =
    elim (cases_lt l lists) [
      | inl b ↦
          let r = h.rings l b in
          let has = has_from_contains node (get_or all l []) m.0 m.1 m.2 in
          let o = has_owner links nodes l node (get_or all l []) has r.owned in
          let room : nodes + lists < 2 ^ 32 = h.room in
          let total : length links ≡ nodes + lists = h.total in
          let owned : (q : ℕ) → Has q (get_or all l []) → q < length links = λ q k. (let s = has_owner links nodes l q (get_or all l []) k r.owned in omega arith) in
          record {
            list_in = b;
            node_in = o.1;
            owner = o.0;
            held = λ e. absurd (omega arith);
            has = has;
            before_in = before_is links (λ q. q < length links) node (nodes + l) _ (nodes + l) (omega arith) owned has r.path;
            after_in = after_is links (λ q. q < length links) node (nodes + l) _ (nodes + l) (omega arith) owned has r.path;
          }
      | inr b ↦ let none = subst (λ (ys : List ℕ). Contains ys node) (get_or_past all l [] (rw h.count b)) m in absurd (omega arith)
    ]

-- the last place of a list, or the list's own
pub last_in : (links : List Link) (nodes lists l : ℕ) (all : List (List ℕ)) → Holds links nodes lists all → l < lists → before_of links (nodes + l) < length links
last_in links nodes lists l all h b =
    let r = h.rings l b in
    let total : length links ≡ nodes + lists = h.total in
    before_end_is links (λ q. q < length links) (nodes + l) (get_or all l []) (nodes + l) (omega arith)
    (λ q k. (let s = has_owner links nodes l q (get_or all l []) k r.owned in omega arith)) r.path

-- a node that no list contains
pub free_from_none : (links : List Link) (nodes lists node : ℕ) (all : List (List ℕ)) → Holds links nodes lists all → node < nodes
    → ((l : ℕ) → Contains (get_or all l []) node → ⊥) → owner_of links node ≡ 4294967295
free_from_none links nodes lists node all h b none =
    elim (cases_eq (owner_of links node) 4294967295) [ inl e ↦ e | inr ne ↦ absurd (none _ (contains_from_has node _ (h.placed node b ne).1)) ]

pub none_from_free : (links : List Link) (nodes lists node : ℕ) (all : List (List ℕ)) → Holds links nodes lists all → owner_of links node ≡ 4294967295
    → (l : ℕ) → Contains (get_or all l []) node → ⊥
none_from_free links nodes lists node all h e l m = (at_from_contains links nodes lists l node all h m).held e

pub sound : (links : List Link) (nodes lists : ℕ) (all : List (List ℕ)) → Holds links nodes lists all → IsSound record { nodes = nodes; lists = all }
sound links nodes lists all h = record {
  within = λ l node m. (at_from_contains links nodes lists l node all h m).node_in;
  one_list = λ l k node m n. sym (at_from_contains links nodes lists l node all h m).owner ∙ (at_from_contains links nodes lists k node all h n).owner;
  one_place = λ l. elim (cases_lt l lists) [
    | inl b ↦ distinct_from_apart _ (h.rings l b).apart
    | inr b ↦ subst (IsDistinct eqb) (sym (get_or_past all l [] (rw h.count b))) (distinct_from_apart [] tt)
  ];
}

-- the value that callers see, and the links that it is read from
pub record IsSeen (links : List Link) (nodes lists : ℕ) (value : Chains) : Type 0 where
  pub holds : Holds links nodes lists value.lists
  pub nodes_is : value.nodes ≡ nodes
  pub sound : IsSound value

pub seen : (links : List Link) (nodes lists : ℕ) (value : Chains) → shown links nodes lists ≡ value → Holds links nodes lists (lists_of links nodes lists) → IsSeen links nodes lists value
seen links nodes lists value e h = record {
  holds = subst (λ (v : Chains). Holds links nodes lists v.lists) e h;
  nodes_is = sym (ap (λ (v : Chains). v.nodes) e);
  sound = subst IsSound e (sound links nodes lists _ h);
}

-- the reads of the three calls

pub first_seen : (links : List Link) (nodes lists l : ℕ) (value : Chains) → IsSeen links nodes lists value → l < length value.lists → unless_end (after_of links (nodes + l)) (nodes + l) ≡ first_of (list_at value l)
first_seen links nodes lists l value s b =
    let r = s.holds.rings l (rw (← s.holds.count) b) in
    first_is links (nodes + l) _ (nodes + l) (lacks_by_bound links nodes l (nodes + l) _ (omega arith) r.owned) r.path

pub last_seen : (links : List Link) (nodes lists l : ℕ) (value : Chains) → IsSeen links nodes lists value → l < length value.lists → unless_end (before_of links (nodes + l)) (nodes + l) ≡ last_of (list_at value l)
last_seen links nodes lists l value s b =
    let r = s.holds.rings l (rw (← s.holds.count) b) in
    last_is links (nodes + l) _ (nodes + l) (lacks_by_bound links nodes l (nodes + l) _ (omega arith) r.owned) r.path

-- what the clauses state of the node after a node
pub record IsNext (value : Chains) (l node : ℕ) (next : Option ℕ) : Type 0 where
  pub is : next ≡ next_in (list_at value l) node
  pub none : IsNone next ↔ (last_of (list_at value l) ≡ Some node)
  pub listed : IfSome next (Contains (list_at value l))

pub next_seen : (links : List Link) (nodes lists l node : ℕ) (value : Chains) → IsSeen links nodes lists value → Contains (list_at value l) node
    → IsNext value l node (unless_end (after_of links node) (nodes + owner_of links node))
next_seen links nodes lists l node value s m =
    let at = at_from_contains links nodes lists l node value.lists s.holds m in
    let r = s.holds.rings l at.list_in in
    let e : unless_end (after_of links node) (nodes + owner_of links node) ≡ next_in (list_at value l) node =
    ap (λ (q : ℕ). unless_end (after_of links node) (nodes + q)) at.owner
    ∙ next_is links node (nodes + l) _ (nodes + l) at.has (lacks_by_bound links nodes l (nodes + l) _ (omega arith) r.owned) r.path in
    record { is = e; none = none_next _ node _ at.has r.apart e; listed = listed_next _ node _ e }
