-- The census of a graph that shows the same by other keys.
use Rattle.std.proofs.Common.{◌≡◌, ℕ, inl, inr, true, false, refl, sym, ap, ap₂, subst, List, [], ◌∷◌, map, Some, Contains, nat_eq}
use Rattle.std.specs.Cmp.{nat_eq_equiv}
use Rattle.std.specs.List.{AllByRecursion, IsDistinct}
use Rattle.std.proofs.lemmas.Bool.{eq-eqb, ne_eqb}
use Rattle.std.proofs.lemmas.Map.Views.{list_any-from_Contains}
use Rattle.lisp_graph.specs.KeyedGraph.{KeyedGraph}
use Rattle.lisp_graph.specs.declared.walk.Seen.{Seen}
use Rattle.lisp_graph.specs.declared.walk.Seen.TheVariants.{Fix, Nil, Cons, Block}
use Rattle.world_text.specs.Numbering.{fields_of, is_numbered}
use Rattle.dump_laws.specs.Renamed.{HasSameCharges, IsRenamed, renamed}
use Rattle.dump_laws.proofs.RenamedGraphs.{fields_renamed}
use Rattle.why_held.specs.declared.rows.CensusRow.{CensusRow}
use Rattle.why_held.specs.declared.rows.Counted.{Counted}
use Rattle.why_held.specs.Census.{IsCensus}
use Rattle.why_held.specs.Reached.{AreReached, IsReached, IsReachedCensus, Refer, counted_key, from_field, from_register, key_of}
use Rattle.why_held.proofs.References.{contains_cases, contains_head, contains_none, contains_tail}

-- Keys by their names

in_list : (keys : List ℕ) (key : ℕ) → Contains keys key → is_numbered keys key ≡ true
in_list keys key c = list_any-from_Contains nat_eq_equiv key keys c

name_in : (name : ℕ → ℕ) (keys : List ℕ) (key : ℕ) → Contains keys key → Contains (map name keys) (name key)
name_in name [] key c = absurd (contains_none key c)
name_in name (first ∷ keys) key c = elim (contains_cases first key keys c) [
  | inl e ↦ (let P : ℕ → Type 0 = λ k. Contains (map name (first ∷ keys)) (name k) in subst P e (contains_head (name first) (map name keys)))
  | inr rest ↦ contains_tail (name first) (name key) (map name keys) (name_in name keys key rest)
]

-- a name is that of a key with a property
record IsNameOf (name : ℕ → ℕ) (P : ℕ → Type 0) (key : ℕ) : Type 0 where
  pub one : ℕ
  pub holds : P one
  pub is : name one ≡ key

name_from : (name : ℕ → ℕ) (keys : List ℕ) (key : ℕ) → Contains (map name keys) key → IsNameOf name (Contains keys) key
name_from name [] key c = absurd (contains_none key c)
name_from name (first ∷ keys) key c = elim (contains_cases (name first) key (map name keys) c) [
  | inl e ↦ record { one = first; holds = contains_head first keys; is = e }
  | inr rest ↦ (let w = name_from name keys key rest in record { one = w.one; holds = contains_tail first w.one keys w.holds; is = w.is })
]

-- Values

key_named : (name : ℕ → ℕ) (value : Seen) (key : ℕ) → key_of value ≡ Some key → key_of (renamed name value) ≡ Some (name key)
key_named name (Cons k) key e = let s : k ≡ key = cc (e) in ap (λ n. Some (name n)) s
key_named name (Block k) key e = let s : k ≡ key = cc (e) in ap (λ n. Some (name n)) s
key_named name Nil key e = absurd (cc (e))
key_named name (Fix number) key e = absurd (cc (e))

key_from : (name : ℕ → ℕ) (value : Seen) (key : ℕ) → key_of (renamed name value) ≡ Some key → IsNameOf name (λ one. key_of value ≡ Some one) key
key_from name (Cons k) key e = record { one = k; holds = refl; is = cc (e) }
key_from name (Block k) key e = record { one = k; holds = refl; is = cc (e) }
key_from name Nil key e = absurd (cc (e))
key_from name (Fix number) key e = absurd (cc (e))

refer_named : (name : ℕ → ℕ) (values : List Seen) (key : ℕ) → Refer values key → Refer (map (renamed name) values) (name key)
refer_named name [] key r = absurd r
refer_named name (value ∷ values) key (inl e) = inl (key_named name value key e)
refer_named name (value ∷ values) key (inr r) = inr (refer_named name values key r)

refer_from : (name : ℕ → ℕ) (values : List Seen) (key : ℕ) → Refer (map (renamed name) values) key → IsNameOf name (Refer values) key
refer_from name [] key r = absurd r
refer_from name (value ∷ values) key (inl e) = let w = key_from name value key e in record { one = w.one; holds = inl w.holds; is = w.is }
refer_from name (value ∷ values) key (inr r) = let w = refer_from name values key r in record { one = w.one; holds = inr w.holds; is = w.is }

module _ (name : ℕ → ℕ) (keys : List ℕ) (graph other : KeyedGraph) (same : IsRenamed name keys graph other) (reached : AreReached graph keys) where
  numbered : (key : ℕ) → IsReached graph key → is_numbered keys key ≡ true
  numbered key at = in_list keys key ((reached.each key).1 at)

  -- what is reached is reached by its name
  reached_named : (key : ℕ) → IsReached graph key → IsReached other (name key)
  reached_named key (from_register _ r) =
      let P : List Seen → Type 0 = λ values. Refer values (name key) in
      from_register (name key) (subst P (sym same.registers) (refer_named name graph.registers key r))
  reached_named key (from_field from _ at r) =
      let P : List Seen → Type 0 = λ values. Refer values (name key) in
      from_field (name from) (name key) (reached_named from at) (subst P (sym (fields_renamed name keys graph other from same (numbered from at))) (refer_named name (fields_of graph from) key r))

  -- and nothing else is
  reached_from : (key : ℕ) → IsReached other key → IsNameOf name (Contains keys) key
  reached_from key (from_register _ r) =
      let P : List Seen → Type 0 = λ values. Refer values key in
      let w = refer_from name graph.registers key (subst P same.registers r) in
      record { one = w.one; holds = (reached.each w.one).1 (from_register w.one w.holds); is = w.is }
  reached_from key (from_field from _ at r) =
      let f = reached_from from at in
      let Q : ℕ → Type 0 = λ k. Refer (fields_of other k) key in
      let P : List Seen → Type 0 = λ values. Refer values key in
      let w = refer_from name (fields_of graph f.one) key (subst P (fields_renamed name keys graph other f.one same (in_list keys f.one f.holds)) (subst Q (sym f.is) r)) in
      record { one = w.one; holds = (reached.each w.one).1 (from_field f.one w.one ((reached.each f.one).0 f.holds) w.holds); is = w.is }

  -- names differ if their keys do
  others_named : (key : ℕ) (part : List ℕ) → is_numbered keys key ≡ true → ((one : ℕ) → Contains part one → is_numbered keys one ≡ true)
      → AllByRecursion (λ one. nat_eq key one ≡ false) part → AllByRecursion (λ one. nat_eq (name key) one ≡ false) (map name part)
  others_named key [] is all others = tt
  others_named key (one ∷ part) is all others = (
    ne_eqb (name key) (name one) (λ e. let k : key ≡ one = same.apart key one is (all one (contains_head one part)) e in let f = others.0 in let t = eq-eqb key one k in absurd (cc (t, f))),
    others_named key part is (λ k c. all k (contains_tail one k part c)) others.1,
  )

  once_named : (part : List ℕ) → ((one : ℕ) → Contains part one → is_numbered keys one ≡ true) → IsDistinct nat_eq part → IsDistinct nat_eq (map name part)
  unfolding IsDistinct
  once_named [] all once = tt
  once_named (one ∷ part) all once = (
    others_named one part (all one (contains_head one part)) (λ k c. all k (contains_tail one k part c)) once.0,
    once_named part (λ k c. all k (contains_tail one k part c)) once.1,
  )

  are_reached : AreReached other (map name keys)
  are_reached = record {
    each = λ key. (
      (λ c. let w = name_from name keys key c in let P : ℕ → Type 0 = IsReached other in subst P w.is (reached_named w.one ((reached.each w.one).0 w.holds))),
      (λ at. let w = reached_from key at in let P : ℕ → Type 0 = λ k. Contains (map name keys) k in subst P w.is (name_in name keys w.one w.holds)),
    );
    once = once_named keys (in_list keys) reached.once;
  }

  -- they are counted the same
  counted_named : HasSameCharges name keys graph other → (part : List ℕ) → ((one : ℕ) → Contains part one → is_numbered keys one ≡ true)
      → map (counted_key other) (map name part) ≡ map (counted_key graph) part
  counted_named charges [] all = refl
  counted_named charges (one ∷ part) all =
      let is = all one (contains_head one part) in
      let counted : counted_key other (name one) ≡ counted_key graph one = rw (same.kinds one is, same.areas one is, same.codes one is, charges one is) refl in
      ap₂ (λ (first : Counted) (rest : List Counted). first ∷ rest) counted (counted_named charges part (λ k c. all k (contains_tail one k part c)))

pub same_census : (name : ℕ → ℕ) (graph other : KeyedGraph) (rows : List CensusRow) → (census : IsReachedCensus graph rows)
    → IsRenamed name census.keys graph other → HasSameCharges name census.keys graph other → IsReachedCensus other rows
same_census name graph other rows census same charges =
    let P : List Counted → Type 0 = λ counted. IsCensus counted rows in
    record {
      keys = map name census.keys;
      reached = are_reached name census.keys graph other same census.reached;
      census = subst P (sym (counted_named name census.keys graph other same census.reached charges census.keys (in_list census.keys))) census.census;
    }
