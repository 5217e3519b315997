-- The nodes of one list go to the end of another, one by one.
use Rattle.std.proofs.Common.{◌≡◌, ◌≢◌, ℕ, suc, ◌<◌, eqb, Some, None, List, [], ◌∷◌, ◌++◌, length, get_or, set, refl, sym, ap, subst, ◌∙◌, arith, inl, inr, get_or-set_same, get_or-set_other, length-set, append_assoc}
use Rattle.std.specs.List.{IsDistinct}
use Rattle.std.proofs.lemmas.Bool.{cases_eq}
use Rattle.std.proofs.lemmas.List.{ext_get_or, append-nil}
use Rattle.index_lists.specs.Chains.{Chains, list_at, without, with_list, first_of, IsSound}
use Rattle.index_lists.proofs.ChainUpdates.{same_chains}
use Rattle.index_lists.proofs.ListUpdates.{length-with_list, list_at-with_list_same, list_at-with_list_other, without-first}

pub record IsMoving (old now : Chains) (to from : ℕ) : Type 0 where
  pub same_nodes : now.nodes ≡ old.nodes
  pub same_count : length now.lists ≡ length old.lists
  pub joined : list_at now to ++ list_at now from ≡ list_at old to ++ list_at old from
  pub others : (k : ℕ) → k ≢ to → k ≢ from → list_at now k ≡ list_at old k

-- one node goes from a list to the end of another
abbrev pub moved : Chains → ℕ → ℕ → ℕ → Chains
moved c to from n = let rest = with_list c from (without n (list_at c from)) in with_list rest to (list_at rest to ++ n ∷ [])

abbrev pub appended : Chains → ℕ → ℕ → Chains
appended c to from = with_list (with_list c from []) to (list_at c to ++ list_at c from)

first_cons : (xs : List ℕ) (n : ℕ) → first_of xs ≡ Some n → (rest : List ℕ) × (xs ≡ n ∷ rest)
first_cons [] n e = absurd (cc)
first_cons (x ∷ xs) n e = (xs, cc)

first_nil : (xs : List ℕ) → first_of xs ≡ None → xs ≡ []
first_nil [] e = refl
first_nil (x ∷ xs) e = absurd (cc)

-- what one round of the loop leaves in the list that is emptied
pub from_after : (now : Chains) (to from n : ℕ) → to ≢ from → from < length now.lists → IsSound now → (rest : List ℕ) → list_at now from ≡ n ∷ rest → list_at (moved now to from n) from ≡ rest
from_after now to from n ne b s rest e =
    list_at-with_list_other (with_list now from (without n (list_at now from))) to _ from (λ t. ne (sym t)) ∙ (list_at-with_list_same now from _ b
    ∙ (ap (without n) e ∙ without-first n rest (subst (IsDistinct eqb) e (s.one_place from))))

-- one node more has moved
pub moving_more : (old now : Chains) (to from n : ℕ) → to ≢ from → to < length now.lists → from < length now.lists → IsSound now → first_of (list_at now from) ≡ Some n
    → IsMoving old now to from → IsMoving old (moved now to from n) to from
moving_more old now to from n ne bt bf s e m =
    let split = first_cons (list_at now from) n e in
    let rest = with_list now from (without n (list_at now from)) in
    let rest_to : list_at rest to ≡ list_at now to = list_at-with_list_other now from (without n (list_at now from)) to ne in
    let to_is : list_at (moved now to from n) to ≡ list_at now to ++ n ∷ [] =
    list_at-with_list_same rest to _ (rw length-with_list bt) ∙ ap (λ (xs : List ℕ). xs ++ n ∷ []) rest_to in
    let from_is = from_after now to from n ne bf s split.0 split.1 in
    record {
      same_nodes = m.same_nodes;
      same_count = length-with_list rest to _ ∙ (length-with_list now from _ ∙ m.same_count);
      joined = rw (to_is, from_is) (append_assoc (list_at now to) (n ∷ []) split.0 ∙ (ap (λ (xs : List ℕ). list_at now to ++ xs) (sym split.1) ∙ m.joined));
      others = λ k kt kf. list_at-with_list_other rest to _ k kt ∙ (list_at-with_list_other now from _ k kf ∙ m.others k kt kf);
    }

-- the list that is emptied has fewer nodes
pub moving_falls : (now : Chains) (to from n : ℕ) → to ≢ from → from < length now.lists → IsSound now → first_of (list_at now from) ≡ Some n
    → length (list_at (moved now to from n) from) < length (list_at now from)
moving_falls now to from n ne b s e =
    let split = first_cons (list_at now from) n e in
    let after : length (list_at (moved now to from n) from) ≡ length split.0 = ap length (from_after now to from n ne b s split.0 split.1) in
    let before : length (list_at now from) ≡ suc (length split.0) = ap length split.1 in
    omega arith

-- once it is empty, all have moved
pub moving_all : (old now : Chains) (to from : ℕ) → to ≢ from → to < length now.lists → from < length now.lists → first_of (list_at now from) ≡ None
    → IsMoving old now to from → now ≡ appended old to from
moving_all old now to from ne bt bf e m =
    let none = first_nil (list_at now from) e in
    let whole : list_at now to ≡ list_at old to ++ list_at old from =
    sym (append-nil (list_at now to)) ∙ (ap (λ (xs : List ℕ). list_at now to ++ xs) (sym none) ∙ m.joined) in
    let count = m.same_count in
    let cleared : List (List ℕ) = set old.lists from [] in
    let length_cleared : length cleared ≡ length old.lists = length-set old.lists from [] in
    same_chains now.nodes old.nodes now.lists (appended old to from).lists m.same_nodes
    (ext_get_or [] now.lists (appended old to from).lists (m.same_count ∙ sym (length-set cleared to (list_at old to ++ list_at old from) ∙ length_cleared))
    (λ k b. elim (cases_eq k to) [
      | inl s ↦ subst (λ (q : ℕ). get_or now.lists q [] ≡ get_or (appended old to from).lists q []) (sym s) (whole ∙ sym (get_or-set_same cleared to (list_at old to ++ list_at old from) [] (omega arith)))
      | inr kt ↦ elim (cases_eq k from) [
        | inl s ↦ subst (λ (q : ℕ). get_or now.lists q [] ≡ get_or (appended old to from).lists q []) (sym s)
            (none ∙ sym (get_or-set_other cleared to from (list_at old to ++ list_at old from) [] (λ t. ne (sym t)) ∙ get_or-set_same old.lists from [] [] (omega arith)))
        | inr kf ↦ m.others k kt kf ∙ sym (get_or-set_other cleared to k (list_at old to ++ list_at old from) [] kt ∙ get_or-set_other old.lists from k [] [] kf)
      ]
    ]))
