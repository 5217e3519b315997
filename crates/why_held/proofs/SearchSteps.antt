-- What a search finds, value by value.
use Rattle.std.proofs.Common.{◌≡◌, ℕ, zero, suc, ◌+◌, ◌<◌, ◌≤◌, ◌⊎◌, inl, inr, true, false, refl, sym, ◌∙◌, ap, subst, arith, List, [], ◌∷◌, ◌++◌, ◌-◌, length, get_or, set, take, drop, Option, Some, None, is_some, IsSome, All, Contains, append_assoc, append-nil, length-append, length-drop, length-set, get_or-set_same, get_or-set_other}
use Rattle.std.proofs.lemmas.Bool.{cases_eq}
use Rattle.std.proofs.lemmas.List.{get_or-drop, get_or_append_left, take_more}
use Rattle.std.proofs.lemmas.List.Concat.{flat_map-append}
use Rattle.std.proofs.lemmas.List.Elements.{Contains-append_cases, Contains-append_left, Contains-append_right}
use Rattle.std.proofs.lemmas.List.Sums.{sum_by-set}
use Rattle.lisp_graph.specs.declared.object.Value.{Value}
use Rattle.lisp_graph.specs.declared.object.Value.TheVariants.{Ref}
use Rattle.lisp_graph.specs.Graph.{is_ref, refers_in}
use Rattle.why_held.specs.declared.search.Search.{Search}
use Rattle.why_held.specs.Chains.{depth_at}
use Rattle.lisp_graph.specs.declared.object.Object.{Object}
use Rattle.lisp_graph.specs.Graph.{object_at}
use Rattle.why_held.specs.Search.{Finds, IsNew, all_parts, found_in, one_where, parts_of}
use Rattle.why_held.proofs.References.{contains_cases, contains_head, contains_none, is_ref-same, ref_of, refers_head, refers_left, refers_none, refers_one, refers_right, refers_split}

-- Depths

pub option_cases : (o : Option ℕ) → (o ≡ None) ⊎ ((x : ℕ) × (o ≡ Some x))
option_cases None = inl refl
option_cases (Some x) = inr (x, refl)

pub some_is : (o : Option ℕ) (x : ℕ) → o ≡ Some x → IsSome o
some_is o x e = ap is_some e

pub none_some : (o : Option ℕ) → o ≡ None → IsSome o → ⊥
none_some o e s = let x : is_some o ≡ false = ap is_some e in absurd cc

pub some_get : (o : Option ℕ) → IsSome o → (x : ℕ) × (o ≡ Some x)
some_get None s = absurd cc
some_get (Some x) s = (x, refl)

pub not_new : (depths : List (Option ℕ)) (object : ℕ) → IsNew depths depths object → ⊥
not_new depths object n = none_some (depth_at depths object) n.0 n.1

-- No value

pub finds_none : (depth : ℕ) (s : Search) → Finds depth [] s s
finds_none depth s = record {
  size = refl;
  kept = λ o b e. e;
  finds = λ o e. absurd (refers_none o e);
  deep = λ o n. absurd (not_new s.depths o n);
  only = λ o n. absurd (not_new s.depths o n);
  added = [];
  grows = sym (append-nil s.found);
  lists = λ o n. absurd (not_new s.depths o n);
  listed = λ o c. absurd (contains_none o c);
  counts = omega arith;
}

-- a value whose object, if there is one, was found before
pub finds_same : (depth : ℕ) (v : Value) (s : Search) → ((o : ℕ) → is_ref o v ≡ true → IsSome (depth_at s.depths o)) → Finds depth (v ∷ []) s s
finds_same depth v s h = record {
  size = refl;
  kept = λ o b e. e;
  finds = λ o e. h o (refers_one o v e);
  deep = λ o n. absurd (not_new s.depths o n);
  only = λ o n. absurd (not_new s.depths o n);
  added = [];
  grows = sym (append-nil s.found);
  lists = λ o n. absurd (not_new s.depths o n);
  listed = λ o c. absurd (contains_none o c);
  counts = omega arith;
}

pub finds_plain : (depth : ℕ) (v : Value) (s : Search) → ((n : ℕ) → v ≡ Ref n → ⊥) → Finds depth (v ∷ []) s s
finds_plain depth v s h = finds_same depth v s (λ o e. absurd (h o (ref_of o v e)))

pub finds_known : (depth object : ℕ) (s : Search) → IsSome (depth_at s.depths object) → Finds depth (Ref object ∷ []) s s
finds_known depth object s known = finds_same depth (Ref object) s (λ o e. let same : Ref object ≡ Ref o = ref_of o (Ref object) e in let P : ℕ → Type 0 = λ n. IsSome (depth_at s.depths n) in let q : object ≡ o = cc in subst P q known)

-- a new object

module _ (depth object : ℕ) (s : Search) (within : object < length s.depths) (fresh : depth_at s.depths object ≡ None) where
  new : Search
  new = record { depths = set s.depths object (Some depth); found = s.found ++ object ∷ [] }

  here : depth_at (set s.depths object (Some depth)) object ≡ Some depth
  here = get_or-set_same s.depths object (Some depth) None within

  here_at : (o : ℕ) → o ≡ object → depth_at (set s.depths object (Some depth)) o ≡ Some depth
  here_at o e = ap (depth_at (set s.depths object (Some depth))) e ∙ here

  there : (o : ℕ) → (o ≡ object → ⊥) → depth_at (set s.depths object (Some depth)) o ≡ depth_at s.depths o
  there o ne = get_or-set_other s.depths object o (Some depth) None ne

  is_new : (o : ℕ) → IsNew s.depths (set s.depths object (Some depth)) o → o ≡ object
  is_new o n = elim (cases_eq o object) [ inl e ↦ e | inr ne ↦ absurd (not_new s.depths o (n.0, ap is_some (sym (there o ne)) ∙ n.1)) ]

  kept_new : (o before : ℕ) → depth_at s.depths o ≡ Some before → depth_at (set s.depths object (Some depth)) o ≡ Some before
  kept_new o before e = elim (cases_eq o object) [
    | inl same ↦ absurd (none_some (depth_at s.depths o) (ap (depth_at s.depths) same ∙ fresh) (some_is (depth_at s.depths o) before e))
    | inr ne ↦ there o ne ∙ e
  ]

  ref_same : (o : ℕ) → refers_in o (Ref object ∷ []) ≡ true → o ≡ object
  ref_same o e = let same : Ref object ≡ Ref o = ref_of o (Ref object) (refers_one o (Ref object) e) in let q : object ≡ o = cc in sym q

  refers_new : (o : ℕ) → o ≡ object → refers_in o (Ref object ∷ []) ≡ true
  refers_new o e = ap (λ (n : ℕ). refers_in n (Ref object ∷ [])) e ∙ refers_head object (Ref object) [] (is_ref-same object)

  listed_new : (o : ℕ) → Contains (object ∷ []) o → o ≡ object
  listed_new o c = elim (contains_cases object o [] c) [ inl e ↦ sym e | inr x ↦ absurd (contains_none o x) ]

  contains_new : (o : ℕ) → o ≡ object → Contains (object ∷ []) o
  contains_new o e = let P : ℕ → Type 0 = λ n. Contains (object ∷ []) n in subst P (sym e) (contains_head object [])

  news : (o : ℕ) → o ≡ object → IsNew s.depths (set s.depths object (Some depth)) o
  news o e = (ap (depth_at s.depths) e ∙ fresh, some_is (depth_at (set s.depths object (Some depth)) o) depth (here_at o e))

  counts_new : suc zero + found_in s.depths ≡ found_in (set s.depths object (Some depth))
  counts_new =
      let a = sum_by-set one_where s.depths object (Some depth) None within in
      let b : one_where (get_or s.depths object None) ≡ 0 = ap one_where fresh in
      omega arith

  finds_fresh : Finds depth (Ref object ∷ []) s new
  unfolding new
  finds_fresh = record {
    size = length-set s.depths object (Some depth);
    kept = kept_new;
    finds = λ o e. some_is (depth_at (set s.depths object (Some depth)) o) depth (here_at o (ref_same o e));
    deep = λ o n. here_at o (is_new o n);
    only = λ o n. refers_new o (is_new o n);
    added = object ∷ [];
    grows = refl;
    lists = λ o n. contains_new o (is_new o n);
    listed = λ o c. news o (listed_new o c);
    counts = counts_new;
  }

  pub finds_new : (depths : List (Option ℕ)) (found : List ℕ) → depths ≡ set s.depths object (Some depth) → found ≡ s.found ++ object ∷ []
      → Finds depth (Ref object ∷ []) s (record { depths = depths; found = found })
  unfolding new
  finds_new depths found e f =
      let P : List (Option ℕ) → Type 0 = λ d. Finds depth (Ref object ∷ []) s (record { depths = d; found = found }) in
      let Q : List ℕ → Type 0 = λ x. Finds depth (Ref object ∷ []) s (record { depths = set s.depths object (Some depth); found = x }) in
      subst P (sym e) (subst Q (sym f) finds_fresh)

-- One after another

module _ (depth : ℕ) (vs ws : List Value) (a b c : Search) (f : Finds depth vs a b) (g : Finds depth ws b c) where
  still : (o : ℕ) → IsSome (depth_at b.depths o) → IsSome (depth_at c.depths o)
  still o s = let x = some_get (depth_at b.depths o) s in some_is (depth_at c.depths o) x.0 (g.kept o x.0 x.1)

  new_cases : (o : ℕ) → IsNew a.depths c.depths o → IsNew a.depths b.depths o ⊎ IsNew b.depths c.depths o
  new_cases o n = elim (option_cases (depth_at b.depths o)) [
    | inl e ↦ inr (e, n.1)
    | inr x ↦ inl (n.0, some_is (depth_at b.depths o) x.0 x.1)
  ]

  new_first : (o : ℕ) → IsNew a.depths b.depths o → IsNew a.depths c.depths o
  new_first o n = (n.0, still o n.1)

  new_second : (o : ℕ) → IsNew b.depths c.depths o → IsNew a.depths c.depths o
  new_second o n = elim (option_cases (depth_at a.depths o)) [
    | inl e ↦ (e, n.1)
    | inr x ↦ absurd (none_some (depth_at b.depths o) n.0 (some_is (depth_at b.depths o) x.0 (f.kept o x.0 x.1)))
  ]

  pub finds_append : Finds depth (vs ++ ws) a c
  finds_append = record {
    size = g.size ∙ f.size;
    kept = λ o x e. g.kept o x (f.kept o x e);
    finds = λ o e. elim (refers_split o vs ws e) [ inl x ↦ still o (f.finds o x) | inr x ↦ g.finds o x ];
    deep = λ o n. elim (new_cases o n) [ inl x ↦ g.kept o depth (f.deep o x) | inr x ↦ g.deep o x ];
    only = λ o n. elim (new_cases o n) [ inl x ↦ refers_left o vs ws (f.only o x) | inr x ↦ refers_right o vs ws (g.only o x) ];
    added = f.added ++ g.added;
    grows = g.grows ∙ ap (λ (xs : List ℕ). xs ++ g.added) f.grows ∙ append_assoc a.found f.added g.added;
    lists = λ o n. elim (new_cases o n) [ inl x ↦ Contains-append_left f.added g.added o (f.lists o x) | inr x ↦ Contains-append_right f.added g.added o (g.lists o x) ];
    listed = λ o m. elim (Contains-append_cases f.added g.added o m) [ inl x ↦ new_first o (f.listed o x) | inr x ↦ new_second o (g.listed o x) ];
    counts = (let x = length-append f.added g.added in let y = f.counts in let z = g.counts in omega arith);
  }

pub finds_along : (depth : ℕ) (vs ws : List Value) (a b : Search) → vs ≡ ws → Finds depth vs a b → Finds depth ws a b
finds_along depth vs ws a b e f = let P : List Value → Type 0 = λ xs. Finds depth xs a b in subst P e f

-- the parts of the objects at one place after another
pub finds_next : (depth : ℕ) (objects : List Object) (names : List ℕ) (k more name : ℕ) (a b c : Search) → k < length names → get_or names k 0 ≡ name → more ≡ k + 1
    → Finds depth (all_parts objects (take k names)) a b → Finds depth (parts_of (object_at objects name).body) b c → Finds depth (all_parts objects (take more names)) a c
finds_next depth objects names k more name a b c l is e f g =
    let parts : ℕ → List Value = λ n. parts_of (object_at objects n).body in
    let one : all_parts objects (name ∷ []) ≡ parts name = append-nil (parts name) in
    let names_are : take more names ≡ take k names ++ name ∷ [] = ap (λ (n : ℕ). take n names) e ∙ take_more names k 0 l ∙ ap (λ (n : ℕ). take k names ++ n ∷ []) is in
    let all : all_parts objects (take more names) ≡ all_parts objects (take k names) ++ parts name =
    ap (all_parts objects) names_are ∙ flat_map-append parts (take k names) (name ∷ []) ∙ ap (λ (vs : List Value). all_parts objects (take k names) ++ vs) one in
    finds_along depth (all_parts objects (take k names) ++ parts name) (all_parts objects (take more names)) a c (sym all) (finds_append depth (all_parts objects (take k names)) (parts name) a b c f g)

-- an object that was found keeps its place
pub found_at : (depth : ℕ) (vs : List Value) (a b : Search) (start place : ℕ) → Finds depth vs a b → start ≤ place → place < length a.found → get_or b.found place 0 ≡ get_or (drop start a.found) (place - start) 0
found_at depth vs a b start place f l m =
    let e : start + (place - start) ≡ place = omega arith in
    ap (λ (xs : List ℕ). get_or xs place 0) f.grows ∙ get_or_append_left a.found f.added 0 place m ∙ ap (λ (n : ℕ). get_or a.found n 0) (sym e) ∙ sym (get_or-drop start a.found (place - start) 0)

pub found_within : (depth count : ℕ) (vs : List Value) (a b : Search) (start place : ℕ) → Finds depth vs a b → All (λ o. o < count) (drop start a.found) → start ≤ place → place < length a.found → get_or b.found place 0 < count
found_within depth count vs a b start place f all l m =
    let x = all (place - start) 0 (let z = length-drop start a.found in omega arith) in
    let y = found_at depth vs a b start place f l m in
    omega arith

-- one value after another
pub finds_more : (depth : ℕ) (vs : List Value) (k more : ℕ) (v d : Value) (a b c : Search) → k < length vs → get_or vs k d ≡ v → more ≡ k + 1
    → Finds depth (take k vs) a b → Finds depth (v ∷ []) b c → Finds depth (take more vs) a c
finds_more depth vs k more v d a b c l is e f g =
    let are : take more vs ≡ take k vs ++ v ∷ [] = ap (λ (n : ℕ). take n vs) e ∙ take_more vs k d l ∙ ap (λ (x : Value). take k vs ++ x ∷ []) is in
    finds_along depth (take k vs ++ v ∷ []) (take more vs) a c (sym are) (finds_append depth (take k vs) (v ∷ []) a b c f g)
