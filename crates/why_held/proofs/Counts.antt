-- What the registers of a world reach is among its objects.
use Rattle.std.proofs.Common.{◌≡◌, ◌≢◌, ◌⊎◌, inl, inr, ℕ, zero, suc, ◌+◌, ◌<◌, ◌≤◌, Bool, true, false, cond, ◌==◌, refl, sym, ◌∙◌, ap, subst, arith, List, [], ◌∷◌, length, map, get_or, set, sum_by, nat_eq, length-set, Option, Some, All, Any, Contains}
use Rattle.std.specs.List.{AllByRecursion, IsDistinct}
use Rattle.std.proofs.lemmas.Bool.{cases_Bool, cases_lt, eq-eqb}
use Rattle.std.proofs.lemmas.List.{get_or-map, get_or-set_other, get_or_default, get_or_past, length-map}
use Rattle.std.proofs.lemmas.List.Elements.{All-get_or, All-head, All-tail}
use Rattle.std.proofs.lemmas.List.Sums.{sum-map, sum_by-cons, sum_by-set}
use Rattle.lisp_graph.specs.declared.object.Value.{Value}
use Rattle.lisp_graph.specs.declared.object.Value.TheVariants as V
use Rattle.lisp_graph.specs.declared.object.Body.{Body}
use Rattle.lisp_graph.specs.declared.object.Body.TheVariants as B
use Rattle.lisp_graph.specs.declared.object.Object.{Object}
use Rattle.lisp_graph.specs.Graph.{Graph, IsGraph, IsObject, PartsReferBelow, RefersBelow, no_object, object_at, value_at}
use Rattle.lisp_graph.specs.KeyedGraph.{form_of, is_cons, keyed, part_of, keyed_value, seen_body}
use Rattle.world_text.specs.Numbering.{fields_from}
use Rattle.why_held.specs.declared.rows.CensusRow.{CensusRow}
use Rattle.why_held.specs.declared.rows.Counted.{Counted}
use Rattle.why_held.specs.Census.{IsCensus, IsRow, count_of, counted_object, is_kind}
use Rattle.why_held.specs.CensusText.{CountsAll, IsPart}
use Rattle.why_held.specs.Reached.{AreReached, IsReached, Refer, counted_form, counted_key, from_field, from_register, key_of}
use Rattle.why_held.proofs.References.{contains_cases, contains_head, contains_none, contains_tail}

-- Keys of objects

body_key : (name key : ℕ) (body : Body) → key_of (seen_body name body) ≡ Some key → name ≡ key
body_key name key (B.Cons car cdr) e = cc
body_key name key (B.Block code fields) e = cc

value_below : (objects : List Object) (count key : ℕ) (value : Value) → RefersBelow count value → key_of (keyed_value objects value) ≡ Some key → key < count
value_below objects count key (V.Fix number) below e = absurd cc
value_below objects count key V.Nil below e = absurd cc
value_below objects count key (V.Ref name) below e = let same = body_key name key (object_at objects name).body e in omega arith

values_below : (objects : List Object) (count key : ℕ) (values : List Value) → All (RefersBelow count) values → Refer (map (keyed_value objects) values) key → key < count
values_below objects count key [] all refer = absurd refer
values_below objects count key (value ∷ values) all (inl e) = value_below objects count key value (All-head (RefersBelow count) value values all) e
values_below objects count key (value ∷ values) all (inr refer) = values_below objects count key values (All-tail (RefersBelow count) value values all) refer

part_below : (count : ℕ) (body : Body) (index : ℕ) → PartsReferBelow count body → RefersBelow count (part_of body index)
part_below count (B.Cons car cdr) index below = go (index == 0)
  where
    go : (b : Bool) → RefersBelow count (cond b car cdr)
    go true = below.0
    go false = below.1
part_below count (B.Block code fields) index below = go (cases_lt index (length fields))
  where
    go : (index < length fields) ⊎ (length fields ≤ index) → RefersBelow count (value_at fields index)
    go (inl l) = below index V.Nil l
    go (inr l) = subst (RefersBelow count) (sym (get_or_past fields index V.Nil l)) tt

module _ (graph : Graph) (is : IsGraph graph) where
  fields_below : (from index left key : ℕ) → PartsReferBelow (length graph.objects) (object_at graph.objects from).body → Refer (fields_from (keyed graph) from index left) key → key < length graph.objects
  fields_below from index zero key below refer = absurd refer
  fields_below from index (suc left) key below (inl e) =
      value_below graph.objects (length graph.objects) key (part_of (object_at graph.objects from).body index) (part_below (length graph.objects) (object_at graph.objects from).body index below) e
  fields_below from index (suc left) key below (inr refer) = fields_below from (index + 1) left key below refer

  reached_below : (key : ℕ) → IsReached (keyed graph) key → key < length graph.objects
  reached_below key (from_register k refer) = values_below graph.objects (length graph.objects) k graph.registers is.registers refer
  reached_below key (from_field from k reached refer) =
      let l = reached_below from reached in
      let o = All-get_or (IsObject (length graph.objects)) graph.objects from no_object l is.objects in
      fields_below from 0 _ k o.refers refer

-- What is counted

counted_same : (area charge : ℕ) (body : Body) → (let o : Object = record { area = area; charge = charge; body = body } in counted_form (form_of o) (is_cons o.body) ≡ counted_object o)
counted_same area charge (B.Cons car cdr) = refl
counted_same area charge (B.Block code fields) = refl

key_counted : (graph : Graph) (key : ℕ) → counted_key (keyed graph) key ≡ counted_object (object_at graph.objects key)
key_counted graph key = let o = object_at graph.objects key in counted_same o.area o.charge o.body

count_cons : (one : Counted) (counted : List Counted) (area : ℕ) (code : Option ℕ) → count_of (one ∷ counted) area code ≡ cond (is_kind area code one) 1 0 + count_of counted area code
count_cons one counted area code = sum_by-cons (λ (x : Counted). cond (is_kind area code x) 1 0) one counted

abbrev one_if : Bool → ℕ
one_if b = cond b 1 0

some_counted : (counted : List Counted) (area : ℕ) (code : Option ℕ) → 0 < count_of counted area code → (one : Counted) × Contains counted one × (is_kind area code one ≡ true)
some_counted [] area code l = absurd (omega arith)
some_counted (one ∷ counted) area code l = go (cases_Bool (is_kind area code one)) (some_counted counted area code)
  where
    go : (is_kind area code one ≡ true) ⊎ (is_kind area code one ≡ false) → (0 < count_of counted area code → (x : Counted) × Contains counted x × (is_kind area code x ≡ true)) → (x : Counted) × Contains (one ∷ counted) x × (is_kind area code x ≡ true)
    go (inl is) rest = (one, contains_head one counted, is)
    go (inr other) rest = (
        let a = count_cons one counted area code in
        let b = ap one_if other in
        let r = rest (omega arith) in
        (r.0, contains_tail one r.0 counted r.1, r.2))

counted_some : (counted : List Counted) (area : ℕ) (code : Option ℕ) (one : Counted) → Contains counted one → is_kind area code one ≡ true → 0 < count_of counted area code
counted_some [] area code one c e = absurd (contains_none one c)
counted_some (first ∷ counted) area code one c e = go (contains_cases first one counted c) (counted_some counted area code one)
  where
    go : (first ≡ one) ⊎ Contains counted one → (Contains counted one → is_kind area code one ≡ true → 0 < count_of counted area code) → 0 < count_of (first ∷ counted) area code
    go (inl same) rest = (let a = count_cons first counted area code in let b = ap one_if (ap (is_kind area code) same ∙ e) in omega arith)
    go (inr there) rest = (let a = count_cons first counted area code in let b = rest there e in omega arith)

mapped : {A : Type 0} (f : A → Counted) (xs : List A) (one : Counted) → Contains (map f xs) one → (x : A) × Contains xs x × (f x ≡ one)
mapped {A} f [] one c = absurd (contains_none one c)
mapped {A} f (x ∷ xs) one c = go (contains_cases (f x) one (map f xs) c) (mapped f xs one)
  where
    go : (f x ≡ one) ⊎ Contains (map f xs) one → (Contains (map f xs) one → (y : A) × Contains xs y × (f y ≡ one)) → (y : A) × Contains (x ∷ xs) y × (f y ≡ one)
    go (inl e) rest = (x, contains_head x xs, e)
    go (inr there) rest = (let r = rest there in (r.0, contains_tail x r.0 xs r.1, r.2))

map_contains : {A : Type 0} (f : A → Counted) (xs : List A) (x : A) → Contains xs x → Contains (map f xs) (f x)
map_contains f [] x c = absurd (contains_none x c)
map_contains f (y ∷ xs) x c = go (contains_cases y x xs c) (map_contains f xs x)
  where
    go : (y ≡ x) ⊎ Contains xs x → (Contains xs x → Contains (map f xs) (f x)) → Contains (f y ∷ map f xs) (f x)
    go (inl e) rest = (let P : Counted → Type 0 = λ o. Contains (f y ∷ map f xs) o in subst P (ap f e) (contains_head (f y) (map f xs)))
    go (inr there) rest = contains_tail (f y) (f x) (map f xs) (rest there)

-- Sums over some of the numbers in a list

sum_others : (weights : List ℕ) (key : ℕ) (keys : List ℕ) → AllByRecursion (λ other. nat_eq key other ≡ false) keys
    → sum_by (λ k. get_or (set weights key 0) k 0) keys ≡ sum_by (λ k. get_or weights k 0) keys
sum_others weights key [] others = refl
sum_others weights key (other ∷ keys) others =
    let apart : other ≢ key = (λ same. let e = eq-eqb key other (sym same) in let f = others.0 in absurd (cc (e, f))) in
    let here = get_or-set_other weights key other 0 0 apart in
    let rest = sum_others weights key keys others.1 in
    let one = sum_by-cons (λ k. get_or (set weights key 0) k 0) other keys in
    let two = sum_by-cons (λ k. get_or weights k 0) other keys in
    omega (arith, one, two, here, rest)

-- those at different places are at most all
sum_some : (keys weights : List ℕ) → IsDistinct nat_eq keys → ((key : ℕ) → Contains keys key → key < length weights) → sum_by (λ k. get_or weights k 0) keys ≤ sum_by (λ x. x) weights
unfolding IsDistinct
sum_some [] weights once below = omega arith
sum_some (key ∷ keys) weights once below =
    let within = below key (contains_head key keys) in
    let rest = sum_some keys (set weights key 0) once.1 (λ k c. omega (arith, below k (contains_tail key k keys c), length-set weights key 0)) in
    let same = sum_others weights key keys once.0 in
    let all = sum_by-set (λ x. x) weights key 0 0 within in
    let one = sum_by-cons (λ k. get_or weights k 0) key keys in
    omega (arith, rest, same, all, one)

module _ (graph : Graph) (weight : Counted → ℕ) where
  weights : List ℕ
  weights = map weight (map counted_object graph.objects)

  sum_keys : (keys : List ℕ) → ((key : ℕ) → Contains keys key → key < length graph.objects)
      → sum_by weight (map (counted_key (keyed graph)) keys) ≡ sum_by (λ k. get_or weights k 0) keys
  unfolding weights
  sum_keys [] below = refl
  sum_keys (key ∷ keys) below =
      let within = below key (contains_head key keys) in
      let long : key < length (map counted_object graph.objects) = omega (arith, within, length-map graph.objects counted_object) in
      let there : get_or weights key 0 ≡ weight (counted_object (object_at graph.objects key)) =
      get_or-map weight (map counted_object graph.objects) key (counted_object no_object) 0 long ∙ ap weight (get_or-map counted_object graph.objects key no_object (counted_object no_object) within) in
      let here : weight (counted_key (keyed graph) key) ≡ get_or weights key 0 = ap weight (key_counted graph key) ∙ sym there in
      let rest = sum_keys keys (λ k c. below k (contains_tail key k keys c)) in
      let one = sum_by-cons weight (counted_key (keyed graph) key) (map (counted_key (keyed graph)) keys) in
      let two = sum_by-cons (λ k. get_or weights k 0) key keys in
      omega (arith, one, two, here, rest)

  -- the objects with these keys weigh no more than all
  sum_reached : (keys : List ℕ) → IsDistinct nat_eq keys → ((key : ℕ) → Contains keys key → key < length graph.objects)
      → sum_by weight (map (counted_key (keyed graph)) keys) ≤ sum_by weight (map counted_object graph.objects)
  unfolding weights
  sum_reached keys once below =
      let long : length weights ≡ length graph.objects = length-map (map counted_object graph.objects) weight ∙ length-map graph.objects counted_object in
      let some = sum_some keys weights once (λ key c. omega (arith, below key c, long)) in
      let all : sum_by (λ x. x) weights ≡ sum_by weight (map counted_object graph.objects) = sum-map weight (map counted_object graph.objects) in
      omega (arith, sum_keys keys below, some, all)

-- The rows of all objects have those of what is reached
pub reached_part : (graph : Graph) (keys : List ℕ) (rows reached : List CensusRow) → IsGraph graph → AreReached (keyed graph) keys → IsCensus (map counted_object graph.objects) rows → IsCensus (map (counted_key (keyed graph)) keys) reached
    → IsPart (map (counted_key (keyed graph)) keys) rows reached
reached_part graph keys rows reached is are all some = record { ordered = all.ordered; fewer = fewer; whole = whole; census = some }
  where
    below : (key : ℕ) → Contains keys key → key < length graph.objects
    below key c = reached_below graph is key ((are.each key).0 c)

    counts : (row : CensusRow) → IsRow (map counted_object graph.objects) row → CountsAll (map (counted_key (keyed graph)) keys) row
    counts row right = record {
      count = (let less = sum_reached graph (λ (one : Counted). cond (is_kind row.area row.code one) 1 0) keys are.once below in let e = right.count in omega (arith, less, e));
      charge = (let less = sum_reached graph (λ (one : Counted). cond (is_kind row.area row.code one) one.charge 0) keys are.once below in let e = right.charge in omega (arith, less, e));
    }

    fewer : All (CountsAll (map (counted_key (keyed graph)) keys)) rows
    fewer = λ k d within. counts (get_or rows k d) (all.each k d within)

    whole : (area : ℕ) (code : Option ℕ) → 0 < count_of (map (counted_key (keyed graph)) keys) area code → Any (λ row. (row.area ≡ area) × (row.code ≡ code)) rows
    whole area code l =
        let s = some_counted (map (counted_key (keyed graph)) keys) area code l in
        let m = mapped (counted_key (keyed graph)) keys s.0 s.1 in
        let below = reached_below graph is m.0 ((are.each m.0).0 m.1) in
        let there : Contains graph.objects (object_at graph.objects m.0) = (m.0, below, get_or_default graph.objects m.0 (object_at graph.objects m.0) no_object below) in
        let c = map_contains counted_object graph.objects (object_at graph.objects m.0) there in
        let kind : is_kind area code (counted_object (object_at graph.objects m.0)) ≡ true = ap (is_kind area code) (sym (key_counted graph m.0) ∙ m.2) ∙ s.2 in
        all.whole area code (counted_some (map counted_object graph.objects) area code (counted_object (object_at graph.objects m.0)) c kind)
