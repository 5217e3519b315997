-- What the registers reach, object by object.
use Rattle.std.proofs.Common.{◌≡◌, ℕ, zero, suc, ◌+◌, ◌<◌, ◌≤◌, ◌⊎◌, inl, inr, Bool, true, false, ◌==◌, refl, sym, ◌∙◌, ap, subst, arith, List, [], ◌∷◌, ◌++◌, length, get_or, take, map, Option, Some, Contains, nat_eq, slice_get, slice_index, append-nil, append_assoc, length-append}
use Rattle.std.specs.Cmp.{nat_eq_equiv}
use Rattle.std.specs.List.{IsDistinct}
use Rattle.std.proofs.lemmas.Bool.{cases_eq, eqb-true, or_cases}
use Rattle.std.proofs.lemmas.List.{get_or_append_left, get_or_default, map_more, take_all, take_more, take-append-le}
use Rattle.std.proofs.lemmas.List.Elements.{Contains-append_cases, Contains-append_left, Contains-append_right}
use Rattle.std.proofs.lemmas.Map.Keys.{IsDistinct-push}
use Rattle.std.proofs.lemmas.Option.{get_or_from_slice_get, slice_get_within}
use Rattle.lisp_graph.specs.KeyedGraph.{KeyedGraph}
use Rattle.lisp_graph.specs.declared.walk.Seen.{Seen}
use Rattle.world_text.specs.declared.writing.numbering.Numbering.{Numbering}
use Rattle.world_text.specs.Numbering.{fields_from, fields_of, is_numbered, seen_as}
use Rattle.why_held.specs.Reached.{AreReached, IsReached, IsReaching, Meets, Refer, counted_key, from_field, from_register, key_of}
use Rattle.why_held.proofs.References.{contains_cases, contains_head, contains_none, contains_tail}

-- Keys

contains_numbered : (keys : List ℕ) (key : ℕ) → is_numbered keys key ≡ true → Contains keys key
contains_numbered [] key e = absurd cc
contains_numbered (first ∷ keys) key e = elim (or_cases (key == first) (is_numbered keys key) e) [
  | inl x ↦ (let same : key ≡ first = eqb-true key first x in let P : ℕ → Type 0 = λ k. Contains (first ∷ keys) k in subst P (sym same) (contains_head first keys))
  | inr x ↦ contains_tail first key keys (contains_numbered keys key x)
]

-- Values

some_key : (m n : ℕ) (o : Option ℕ) → o ≡ Some m → o ≡ Some n → m ≡ n
some_key m n o e f = let g : Some m ≡ Some n = sym e ∙ f in cc

key_as : (cons : Bool) (key : ℕ) → key_of (seen_as cons key) ≡ Some key
key_as true key = refl
key_as false key = refl

refer_one : (value : Seen) (key : ℕ) → Refer (value ∷ []) key → key_of value ≡ Some key
refer_one value key (inl e) = e
refer_one value key (inr e) = absurd e

refer_left : (values others : List Seen) (key : ℕ) → Refer values key → Refer (values ++ others) key
refer_left [] others key r = absurd r
refer_left (value ∷ values) others key (inl e) = inl e
refer_left (value ∷ values) others key (inr r) = inr (refer_left values others key r)

refer_right : (values others : List Seen) (key : ℕ) → Refer others key → Refer (values ++ others) key
refer_right [] others key r = r
refer_right (value ∷ values) others key r = inr (refer_right values others key r)

refer_cases : (values others : List Seen) (key : ℕ) → Refer (values ++ others) key → Refer values key ⊎ Refer others key
refer_cases [] others key r = inr r
refer_cases (value ∷ values) others key (inl e) = inl (inl e)
refer_cases (value ∷ values) others key (inr r) = elim (refer_cases values others key r) [ inl x ↦ inl (inr x) | inr x ↦ inr x ]

-- What is found

pub meets_known : (cons : Bool) (key : ℕ) (s : Numbering) → is_numbered s.keys key ≡ true → Meets (seen_as cons key ∷ []) s s
meets_known cons key s known = record {
  added = [];
  grows = sym (append-nil s.keys);
  finds = λ k r. (
      let same : key ≡ k = some_key key k (key_of (seen_as cons key)) (key_as cons key) (refer_one (seen_as cons key) k r) in
      let P : ℕ → Type 0 = λ n. Contains s.keys n in subst P same (contains_numbered s.keys key known));
  only = λ k c. absurd (contains_none k c);
  once = λ d. d;
}

pub meets_new : (cons : Bool) (key : ℕ) (s t : Numbering) → is_numbered s.keys key ≡ false → t.keys ≡ s.keys ++ key ∷ [] → Meets (seen_as cons key ∷ []) s t
meets_new cons key s t fresh e = record {
  added = key ∷ [];
  grows = e;
  finds = λ k r. (
      let same : key ≡ k = some_key key k (key_of (seen_as cons key)) (key_as cons key) (refer_one (seen_as cons key) k r) in
      let P : ℕ → Type 0 = λ n. Contains t.keys n in
      let Q : List ℕ → Type 0 = λ keys. Contains keys key in
      subst P same (subst Q (sym e) (Contains-append_right s.keys (key ∷ []) key (contains_head key []))));
  only = λ k c. inl (elim (contains_cases key k [] c) [ inl same ↦ key_as cons key ∙ ap Some same | inr x ↦ absurd (contains_none k x) ]);
  once = λ d. (let P : List ℕ → Type 0 = λ keys. IsDistinct nat_eq keys in subst P (sym e) (IsDistinct-push nat_eq_equiv s.keys key d fresh));
}

meets_append : (values others : List Seen) (a b c : Numbering) → Meets values a b → Meets others b c → Meets (values ++ others) a c
meets_append values others a b c f g = record {
  added = f.added ++ g.added;
  grows = g.grows ∙ ap (λ (keys : List ℕ). keys ++ g.added) f.grows ∙ append_assoc a.keys f.added g.added;
  finds = λ key r. elim (refer_cases values others key r) [
    | inl x ↦ (let P : List ℕ → Type 0 = λ keys. Contains keys key in subst P (sym g.grows) (Contains-append_left b.keys g.added key (f.finds key x)))
    | inr x ↦ g.finds key x
  ];
  only = λ key m. elim (Contains-append_cases f.added g.added key m) [ inl x ↦ refer_left values others key (f.only key x) | inr x ↦ refer_right values others key (g.only key x) ];
  once = λ d. g.once (f.once d);
}

pub meets_more : (values more : List Seen) (value : Seen) (a b c : Numbering) → more ≡ values ++ value ∷ [] → Meets values a b → Meets (value ∷ []) b c → Meets more a c
meets_more values more value a b c e f g = let P : List Seen → Type 0 = λ vs. Meets vs a c in subst P (sym e) (meets_append values (value ∷ []) a b c f g)

pub meets_along : (values others : List Seen) (a b : Numbering) → values ≡ others → Meets values a b → Meets others a b
meets_along values others a b e f = let P : List Seen → Type 0 = λ vs. Meets vs a b in subst P e f

pub registers_more : (values : List Seen) (place more : ℕ) (value : Seen) → slice_get values place ≡ Some value → more ≡ place + 1 → take more values ≡ take place values ++ value ∷ []
registers_more values place more value is e =
    ap (λ (n : ℕ). take n values) e ∙ take_more values place value (slice_get_within values place value is) ∙ ap (λ (v : Seen). take place values ++ v ∷ []) (get_or_from_slice_get values place value value is)

fields_next : (graph : KeyedGraph) (key start count : ℕ) → fields_from graph key start (suc count) ≡ fields_from graph key start count ++ graph.field key (start + count) ∷ []
fields_next graph key start zero = let e : start ≡ start + 0 = omega arith in ap (λ (n : ℕ). graph.field key n ∷ []) e
fields_next graph key start (suc count) =
    let e : start + 1 + count ≡ start + suc count = omega arith in
    ap (λ (fields : List Seen). graph.field key start ∷ fields) (fields_next graph key (start + 1) count ∙ ap (λ (n : ℕ). fields_from graph key (start + 1) count ++ graph.field key n ∷ []) e)

pub fields_more : (graph : KeyedGraph) (key index more : ℕ) (value : Seen) → value ≡ graph.field key index → more ≡ index + 1 → fields_from graph key 0 more ≡ fields_from graph key 0 index ++ value ∷ []
fields_more graph key index more value is e =
    let m : more ≡ suc index = omega arith in
    let z : 0 + index ≡ index = omega arith in
    ap (fields_from graph key 0) m ∙ fields_next graph key 0 index ∙ ap (λ (n : ℕ). fields_from graph key 0 index ++ graph.field key n ∷ []) z ∙ ap (λ (v : Seen). fields_from graph key 0 index ++ v ∷ []) (sym is)

-- What is reached

distinct_none : IsDistinct nat_eq []
unfolding IsDistinct
distinct_none = tt

pub reaching_first : (graph : KeyedGraph) (s t : Numbering) → s.keys ≡ [] → Meets graph.registers s t → IsReaching graph 0 t
reaching_first graph s t none meets = record {
  sound = λ key c. from_register key (meets.only key (let P : List ℕ → Type 0 = λ keys. Contains keys key in subst P all c));
  registers = meets.finds;
  closed = λ place l key r. absurd (omega arith);
  within = omega arith;
  once = meets.once (let P : List ℕ → Type 0 = λ keys. IsDistinct nat_eq keys in subst P (sym none) distinct_none);
}
  where
    all : t.keys ≡ meets.added
    all = meets.grows ∙ ap (λ (keys : List ℕ). keys ++ meets.added) none

module _ (graph : KeyedGraph) (number key more : ℕ) (s t : Numbering) (reaching : IsReaching graph number s) (is : slice_get s.keys number ≡ Some key) (meets : Meets (fields_of graph key) s t) (e : more ≡ number + 1) where
  key_within : number < length s.keys
  key_within = slice_get_within s.keys number key is

  still : (k : ℕ) → Contains s.keys k → Contains t.keys k
  still k c = let P : List ℕ → Type 0 = λ keys. Contains keys k in subst P (sym meets.grows) (Contains-append_left s.keys meets.added k c)

  here : Contains s.keys key
  here = (number, key_within, get_or_from_slice_get s.keys number key key is)

  place_same : (place : ℕ) → place < length s.keys → slice_index t.keys place ≡ slice_index s.keys place
  place_same place l = ap (λ (keys : List ℕ). get_or keys place 0) meets.grows ∙ get_or_append_left s.keys meets.added 0 place l

  closed_next : (place : ℕ) → place < more → (k : ℕ) → Refer (fields_of graph (slice_index t.keys place)) k → Contains t.keys k
  closed_next place l k r = elim (cases_eq place number) [
    | inl same ↦ (
        let at : slice_index t.keys place ≡ key = ap (slice_index t.keys) same ∙ place_same number key_within ∙ get_or_from_slice_get s.keys number key 0 is in
        let P : ℕ → Type 0 = λ n. Refer (fields_of graph n) k in meets.finds k (subst P at r))
    | inr ne ↦ (
        let below : place < number = omega arith in
        let w = key_within in
        let P : ℕ → Type 0 = λ n. Refer (fields_of graph n) k in
        still k (reaching.closed place below k (subst P (place_same place (omega arith)) r)))
  ]

  pub reaching_next : IsReaching graph more t
  reaching_next = record {
    sound = λ k c. elim (Contains-append_cases s.keys meets.added k (let P : List ℕ → Type 0 = λ keys. Contains keys k in subst P meets.grows c)) [
      | inl x ↦ reaching.sound k x
      | inr x ↦ from_field key k (reaching.sound key here) (meets.only k x)
    ];
    registers = λ k r. still k (reaching.registers k r);
    closed = closed_next;
    within = (let a = ap length meets.grows in let b = length-append s.keys meets.added in let c = key_within in omega arith);
    once = meets.once reaching.once;
  }

  -- what was counted so far, and this object
  pub counted_next : map (counted_key graph) (take more t.keys) ≡ map (counted_key graph) (take number s.keys) ++ counted_key graph key ∷ []
  counted_next =
      let w = key_within in
      let l : more ≤ length s.keys = omega arith in
      let old : take more t.keys ≡ take more s.keys = ap (take more) meets.grows ∙ take-append-le more s.keys meets.added l in
      ap (map (counted_key graph)) old ∙ ap (λ (n : ℕ). map (counted_key graph) (take n s.keys)) e ∙ map_more (counted_key graph) s.keys number key w
      ∙ ap (λ (k : ℕ). map (counted_key graph) (take number s.keys) ++ counted_key graph k ∷ []) (get_or_from_slice_get s.keys number key key is)

module _ (graph : KeyedGraph) (number : ℕ) (s : Numbering) (reaching : IsReaching graph number s) (all : length s.keys ≤ number) where
  found : (key : ℕ) → IsReached graph key → Contains s.keys key
  found key (from_register k refer) = reaching.registers k refer
  found key (from_field from k reached refer) =
      let there = found from reached in
      let at : slice_index s.keys there.0 ≡ from = get_or_default s.keys there.0 0 from there.1 ∙ there.2 in
      let P : ℕ → Type 0 = λ n. Refer (fields_of graph n) k in
      reaching.closed there.0 (let l = there.1 in omega arith) k (subst P (sym at) refer)

  pub reaching_last : AreReached graph s.keys
  reaching_last = record { each = λ key. (reaching.sound key, found key); once = reaching.once }

pub counted_all : (graph : KeyedGraph) (number : ℕ) (keys : List ℕ) → length keys ≤ number → map (counted_key graph) (take number keys) ≡ map (counted_key graph) keys
counted_all graph number keys l = ap (map (counted_key graph)) (take_all number keys l)
