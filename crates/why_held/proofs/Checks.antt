-- Depths and chains that are checked.
use Rattle.std.proofs.Common.{◌≡◌, ◌↔◌, ℕ, suc, ◌+◌, ◌<◌, ◌≤◌, inl, inr, true, refl, sym, ◌∙◌, ap, subst, arith, List, [], ◌∷◌, ◌++◌, length, get_or, take, Option, Some, None, IsSome}
use Rattle.std.proofs.lemmas.Bool.{cases_lt, or_cases, eqb-true, eq-eqb}
use Rattle.std.proofs.lemmas.List.{get_or_past, get_or_default, take_more}
use Rattle.lisp_graph.specs.declared.object.Value.{Value}
use Rattle.lisp_graph.specs.declared.object.Value.TheVariants.{Nil, Ref}
use Rattle.lisp_graph.specs.declared.object.Body.{Body}
use Rattle.lisp_graph.specs.declared.object.Body.TheVariants.{Cons, Block}
use Rattle.lisp_graph.specs.declared.object.Object.{Object}
use Rattle.lisp_graph.specs.Graph.{Graph, IsGraph, IsObject, PartsReferBelow, RefersBelow, body_refers, is_ref, no_object, object_at, refers_in, value_at}
use Rattle.std.proofs.lemmas.List.Elements.{All-get_or}
use Rattle.std.specs.List.{All}
use Rattle.why_held.specs.declared.chain.Hop.{Hop}
use Rattle.why_held.specs.declared.chain.Held.{Held}
use Rattle.why_held.specs.declared.chain.Held.TheVariants.{Path, Free}
use Rattle.why_held.specs.Chains.{AreDepths, HasDepth, IsChain, IsHeld, IsShortest, depth_at, references}
use Rattle.why_held.specs.Checking.{IsAnswered, has_length}
use Rattle.why_held.specs.Search.{AreBounds, AreWithin, IsNextWithin, IsWithin, parts_of}
use Rattle.why_held.proofs.References.{is_ref-of, parts_refer, ref_below, ref_of, refers_at, refers_none, refers_one, refers_split, refers_which}
use Rattle.why_held.proofs.SearchSteps.{option_cases, some_get}
use Rattle.why_held.proofs.Levels.{same_depth, within_from, within_get}
use Rattle.why_held.proofs.Chains.{depths_are_bounds, free_at, shortest_at}

-- Values

module _ (depths : List (Option ℕ)) (most : ℕ) where
  pub within_none : AreWithin depths most []
  within_none o e = absurd (refers_none o e)

  pub within_plain : (v : Value) → ((n : ℕ) → v ≡ Ref n → ⊥) → AreWithin depths most (v ∷ [])
  within_plain v h o e = absurd (h o (ref_of o v (refers_one o v e)))

  pub within_ref : (object depth : ℕ) → depth_at depths object ≡ Some depth → depth ≤ most → AreWithin depths most (Ref object ∷ [])
  within_ref object depth d l o e =
      let same : Ref object ≡ Ref o = ref_of o (Ref object) (refers_one o (Ref object) e) in
      let q : object ≡ o = cc in
      within_from most depth (depth_at depths o) (ap (depth_at depths) (sym q) ∙ d) l

  pub within_here : (object : ℕ) → AreWithin depths most (Ref object ∷ []) → IsWithin most (depth_at depths object)
  within_here object w = w object (refers_at object (Ref object ∷ []) 0 (is_ref-of object (Ref object) refl))

  pub within_at : (vs : List Value) (i : ℕ) (d : Value) → i < length vs → AreWithin depths most vs → AreWithin depths most (get_or vs i d ∷ [])
  within_at vs i d l w o e = w o (refers_at o vs i (ap (is_ref o) (get_or_default vs i Nil d l) ∙ refers_one o (get_or vs i d) e))

  pub within_more : (vs : List Value) (i more : ℕ) (d : Value) → i < length vs → more ≡ i + 1 → AreWithin depths most (take i vs) → AreWithin depths most (get_or vs i d ∷ []) → AreWithin depths most (take more vs)
  within_more vs i more d l e f g o r =
      let are : take more vs ≡ take i vs ++ get_or vs i d ∷ [] = ap (λ (n : ℕ). take n vs) e ∙ take_more vs i d l in
      elim (refers_split o (take i vs) (get_or vs i d ∷ []) (ap (refers_in o) (sym are) ∙ r)) [ inl x ↦ f o x | inr x ↦ g o x ]

pub next_within : (objects : List Object) (depths : List (Option ℕ)) (from depth most : ℕ) (object : Object) → depth_at depths from ≡ Some depth → most ≡ depth + 1 → object ≡ object_at objects from
    → AreWithin depths most (parts_of object.body) ↔ IsNextWithin objects depths from
next_within objects depths from depth most object e m is = (forth, back)
  where
    same : (to : ℕ) → refers_in to (parts_of object.body) ≡ body_refers to (object_at objects from).body
    same to = parts_refer to object.body ∙ ap (λ (o : Object). body_refers to o.body) is

    forth : AreWithin depths most (parts_of object.body) → IsNextWithin objects depths from
    forth w to d f r =
        let q = same_depth (depth_at depths from) d depth f e in
        let x = within_get most (depth_at depths to) (w to (same to ∙ r)) in
        within_from (suc d) x.0 (depth_at depths to) x.1 (let l = x.2 in omega arith)

    back : IsNextWithin objects depths from → AreWithin depths most (parts_of object.body)
    back n to r =
        let x = within_get (suc depth) (depth_at depths to) (n to depth e (sym (same to) ∙ r)) in
        within_from most x.0 (depth_at depths to) x.1 (let l = x.2 in omega arith)

-- A chain

-- An answer

long_as : (depth : Option ℕ) (n hops : ℕ) → depth ≡ Some n → has_length depth hops ≡ true → hops ≡ suc n
long_as None n hops e t = absurd cc
long_as (Some m) n hops e t = sym (eqb-true (suc m) hops t) ∙ ap suc (same_depth (Some m) m n refl e)

length_some : (depth : Option ℕ) (hops : ℕ) → has_length depth hops ≡ true → (n : ℕ) × (depth ≡ Some n)
length_some None hops t = absurd cc
length_some (Some n) hops t = (n, refl)

is_long : (depth : Option ℕ) (n hops : ℕ) → depth ≡ Some n → hops ≡ suc n → has_length depth hops ≡ true
is_long depth n hops e l = let P : Option ℕ → Type 0 = λ o. has_length o hops ≡ true in subst P (sym e) (eq-eqb (suc n) hops (sym l))

pub answered_held : (graph : Graph) (depths : List (Option ℕ)) (object : ℕ) (held : Held) → AreBounds graph depths → IsAnswered graph depths object held → IsHeld graph object held
answered_held graph depths object Free bounds answered = free_at graph depths bounds object answered
answered_held graph depths object (Path hops) bounds answered =
    let n = length_some (depth_at depths object) (length hops) answered.0 in
    let l = long_as (depth_at depths object) n.0 (length hops) n.1 answered.0 in
    shortest_at graph depths bounds hops object n.0 n.1 answered.1 (omega arith)

has_some : (graph : Graph) (object : ℕ) (o : Option ℕ) (hops : List Hop) → HasDepth graph object o → IsChain graph hops object → IsSome o
has_some graph object None hops has chain = absurd (has hops chain)
has_some graph object (Some n) hops has chain = refl

has_least : (graph : Graph) (object n : ℕ) (o : Option ℕ) (hops : List Hop) → o ≡ Some n → HasDepth graph object o → IsShortest graph hops object → references hops ≡ n
has_least graph object n o hops e has shortest =
    let h = subst (HasDepth graph object) e has in
    let a = h.1.least hops shortest.chain in
    let b = shortest.least h.0 h.1.chain in
    let c = h.2 in omega arith

chain_long : (graph : Graph) (hops : List Hop) (object : ℕ) → IsChain graph hops object → length hops ≡ suc (references hops)
chain_long graph [] object c = absurd c
chain_long graph (hop ∷ hops) object c = omega arith

pub held_answered : (graph : Graph) (depths : List (Option ℕ)) (object : ℕ) (held : Held) → HasDepth graph object (depth_at depths object) → IsHeld graph object held → IsAnswered graph depths object held
held_answered graph depths object Free has free = elim (option_cases (depth_at depths object)) [
  | inl e ↦ e
  | inr x ↦ (let h = subst (HasDepth graph object) x.1 has in absurd (free h.0 h.1.chain))
]
held_answered graph depths object (Path hops) has shortest =
    let n = some_get (depth_at depths object) (has_some graph object (depth_at depths object) hops has shortest.chain) in
    let l = has_least graph object n.0 (depth_at depths object) hops n.1 has shortest in
    (is_long (depth_at depths object) n.0 (length hops) n.1 (chain_long graph hops object shortest.chain ∙ ap suc l), shortest.chain)

-- References of a graph

registers_below : (count : ℕ) (vs : List Value) → All (RefersBelow count) vs → (o : ℕ) → refers_in o vs ≡ true → o < count
registers_below count vs all o e =
    let r = refers_which o vs e in
    let l = cases_lt r.0 (length vs) in
    elim l [
      | inl m ↦ subst (RefersBelow count) r.1 (all r.0 Nil m)
      | inr m ↦ (let x : value_at vs r.0 ≡ Nil = get_or_past vs r.0 Nil m in let y = r.1 in absurd cc)
    ]

parts_below : (count : ℕ) (b : Body) → PartsReferBelow count b → (o : ℕ) → body_refers o b ≡ true → o < count
parts_below count (Cons car cdr) below o e = elim (or_cases (is_ref o car) (is_ref o cdr) e) [
  | inl x ↦ ref_below o count car x below.0
  | inr x ↦ ref_below o count cdr x below.1
]
parts_below count (Block code fields) below o e = registers_below count fields below o e

none_refers : (o : ℕ) → body_refers o no_object.body ≡ true → ⊥
none_refers o e = refers_none o e

objects_below : (graph : Graph) → IsGraph graph → (from o : ℕ) → body_refers o (object_at graph.objects from).body ≡ true → o < length graph.objects
objects_below graph is from o e = elim (cases_lt from (length graph.objects)) [
  | inl l ↦ parts_below (length graph.objects) (object_at graph.objects from).body (All-get_or (IsObject (length graph.objects)) graph.objects from no_object l is.objects).refers o e
  | inr l ↦ (let x = get_or_past graph.objects from no_object l in absurd (none_refers o (ap (λ (object : Object). body_refers o object.body) (sym x) ∙ e)))
]

pub graph_bounds : (graph : Graph) (depths : List (Option ℕ)) → IsGraph graph → AreDepths graph depths → AreBounds graph depths
graph_bounds graph depths is right = depths_are_bounds graph depths right (registers_below (length graph.objects) graph.registers is.registers) (objects_below graph is)
