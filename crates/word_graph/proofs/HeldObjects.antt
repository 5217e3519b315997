-- What the registers lead to in the words of a ground are the places of held objects.
use Rattle.std.proofs.Common.{◌≡◌, ℕ, ◌<◌, ◌||◌, ◌==◌, inl, inr, Bool, true, false, ◌&&◌, if◌then◌else◌, refl, sym, ◌∙◌, ap, subst, List, length, get_or, slice_get, map, Option, Some, arith}
use Rattle.std.proofs.lemmas.Bool.{or_cases}
use Rattle.std.proofs.lemmas.Bool.Decides.{nat_tests}
use Rattle.std.proofs.lemmas.List.{get_or-map, length-map}
use Rattle.std.proofs.lemmas.List.FromFn.{length-map-range_with_len}
use Rattle.std.proofs.lemmas.Option.{slice_get-map, slice_get-get_or}
use Rattle.std.specs.Prelude.{option_map}
use Rattle.store_word.specs.Words.{Parts, null_word}
use Rattle.store_word.specs.declared.word.Content.{Content}
use Rattle.lisp_graph.specs.declared.object.Value.{Value}
use Rattle.lisp_graph.specs.declared.object.Value.TheVariants as V
use Rattle.lisp_graph.specs.declared.object.Body.{Body}
use Rattle.lisp_graph.specs.declared.object.Body.TheVariants.{Cons, Block}
use Rattle.lisp_graph.specs.declared.object.Object.{Object}
use Rattle.lisp_graph.specs.Graph.{object_at, is_ref, refers_in, body_refers, width}
use Rattle.lisp_graph.specs.KeyedGraph.{part_of, keyed_value, seen_body, code_of, is_cons, Shows}
use Rattle.mem_port.specs.Store as Memory
use Rattle.mem_port.specs.Store.{StoresNothing}
use Rattle.area_space.specs.Table.{Table}
use Rattle.lisp_ground.specs.lisp_meaning.Maps.{some_below}
use Rattle.lisp_ground.specs.lisp_meaning.State.{Store, object, is_held, in_use}
use Rattle.lisp_ground.specs.lisp_meaning.Roles.{RoleMap, value_of}
use Rattle.lisp_ground.proofs.lisp_meaning.closure.Closure.{closure_start, closure_closed, closure_inside}
use Rattle.lisp_ground.proofs.lisp_meaning.closure.ClosedSets.{refers_at, refers_each, is_ref-same}
use Rattle.lisp_ground.proofs.lisp_meaning.sums.SomeBelow.{some_below-true, some_below-which}
use Rattle.lisp_ground.specs.lisp_meaning.Invariant.{MemoryInvariant}
use Rattle.lisp_ground.specs.Image.{ground_image}
use Rattle.lisp_ground.specs.GroundInvariant.{GroundInvariant}
use Rattle.lisp_ground.specs.lisp_meaning.Interpretation.{Interpretation}
use Rattle.area_space.proofs.GroundLaws.{ground_same, named_same}
use Rattle.lisp_ground.proofs.words.FinalAddresses.{place_inside}
use Rattle.word_graph.specs.Shown.{value_in, object_in, objects_in, is_reached, shown_by, told}
use Rattle.word_graph.specs.Placed.{MeanValues, CanWalk, CanSee, HasObject}
use Rattle.word_graph.specs.Laws.{placed, placed_body, placed_object, ReachedAreHeld, RegistersAreTold, KeysAreObjects, ReachedShow, ReadsShowTheSame, WalksGoOn}
use Rattle.word_graph.proofs.Places.{value_place, value_used, part_used, object_there}

-- the address is the place of a held object
abbrev pub held_at : RoleMap → Store → ℕ → Bool
held_at k s a = some_below (λ n. is_held s n && (k.at n == a)) (length s.objects)

pub both : (a b : Bool) → a && b ≡ true → (a ≡ true) × (b ≡ true)
both true b e = (refl, e)
both false b e = absurd cc

pub same_number : (m n : ℕ) → (m == n) ≡ true → m ≡ n
same_number m n e = grind (arith, nat_tests)

pub is_same : (n : ℕ) → (n == n) ≡ true
is_same n = grind (arith, nat_tests)

-- a register's word by the place of its object
abbrev word_value : Memory.Store → Parts → Value
word_value m w = value_in m.words w.content

-- Parts that refer

ref_is : (v : Value) (a : ℕ) → is_ref a v ≡ true → v ≡ V.Ref a
ref_is (V.Fix i) a e = absurd (let x : false ≡ true = e in cc)
ref_is V.Nil a e = absurd (let x : false ≡ true = e in cc)
ref_is (V.Ref q) a e = ap V.Ref (same_number q a e)

is_the_ref : (v : Value) (a : ℕ) → v ≡ V.Ref a → is_ref a v ≡ true
is_the_ref v a e = ap (is_ref a) e ∙ is_ref-same a

-- what a body refers to is one of its parts,
refers_part : (K : ℕ → Bool) (body : Body) → ((i n : ℕ) → i < width body → part_of body i ≡ V.Ref n → K n ≡ true) → (a : ℕ) → body_refers a body ≡ true → K a ≡ true
refers_part K (Cons car cdr) each a e = elim (or_cases (is_ref a car) (is_ref a cdr) e) [
  | inl x ↦ each 0 a (omega arith) (ref_is car a x)
  | inr x ↦ each 1 a (omega arith) (ref_is cdr a x)
]
refers_part K (Block code fields) each a e = refers_each K fields (λ i n l is. each i n l (ref_is (get_or fields i V.Nil) n is)) a e

-- and each part is one that it refers to
part_refers : (body : Body) (i a : ℕ) → part_of body i ≡ V.Ref a → body_refers a body ≡ true
part_refers (Cons car cdr) i a e = go (i == 0) e
  where
    go : (b : Bool) → (if b then car else cdr) ≡ V.Ref a → is_ref a car || is_ref a cdr ≡ true
    go true e = or_first (is_ref a car) (is_ref a cdr) (is_the_ref car a e)
      where
        or_first : (x y : Bool) → x ≡ true → x || y ≡ true
        or_first true y e = refl
        or_first false y e = absurd cc
    go false e = or_second (is_ref a car) (is_ref a cdr) (is_the_ref cdr a e)
      where
        or_second : (x y : Bool) → y ≡ true → x || y ≡ true
        or_second true y e = refl
        or_second false y e = e
part_refers (Block code fields) i a e = refers_at a fields i (is_the_ref (get_or fields i V.Nil) a e)

-- a part of a placed body is the part, placed
pub part_placed : (at : ℕ → ℕ) (body : Body) (i : ℕ) → i < width body → part_of (placed_body at body) i ≡ placed at (part_of body i)
part_placed at (Cons car cdr) i l = go (i == 0)
  where
    go : (b : Bool) → (if b then placed at car else placed at cdr) ≡ placed at (if b then car else cdr)
    go true = refl
    go false = refl
part_placed at (Block code fields) i l = get_or-map (placed at) fields i V.Nil V.Nil l

pub width_placed : (at : ℕ → ℕ) (body : Body) → width (placed_body at body) ≡ width body
width_placed at (Cons car cdr) = refl
width_placed at (Block code fields) = length-map fields (placed at)

-- a placed value refers to the place of a name
pub placed_ref : (at : ℕ → ℕ) (v : Value) (a : ℕ) → placed at v ≡ V.Ref a → (q : ℕ) × (v ≡ V.Ref q) × (at q ≡ a)
placed_ref at (V.Fix i) a e = absurd cc
placed_ref at V.Nil a e = absurd cc
placed_ref at (V.Ref q) a e = (q, refl, (let x : V.Ref (at q) ≡ V.Ref a = e in cc))

module _ (m : Memory.Store) (t : Table) (it : Interpretation) (on : GroundInvariant m t it) where
  pub who_is_held : (a : ℕ) → held_at it.map it.store a ≡ true → (n : ℕ) × in_use it.store n × (it.map.at n ≡ a)
  who_is_held a e =
      let w = some_below-which (λ n. is_held it.store n && (it.map.at n == a)) (length it.store.objects) e in
      let p = both (is_held it.store w.0) (it.map.at w.0 == a) w.2 in
      (w.0, p.0, same_number (it.map.at w.0) a p.1)

  is_held_at : (n : ℕ) → in_use it.store n → held_at it.map it.store (it.map.at n) ≡ true
  is_held_at n used = some_below-true (λ x. is_held it.store x && (it.map.at x == it.map.at n)) (length it.store.objects) n (on.kept.names n used) (ap (λ (b : Bool). b && (it.map.at n == it.map.at n)) used ∙ is_same (it.map.at n))

  -- a value of a word refers to a held place
  placed_held : (c : Content) (v : Value) (a : ℕ) → value_of it.map.role c ≡ Some v → value_in m.words c ≡ V.Ref a → held_at it.map it.store a ≡ true
  placed_held c v a is e =
      let r = placed_ref it.map.at v a (sym (value_place m t it on c v is) ∙ e) in
      subst (λ (x : ℕ). held_at it.map it.store x ≡ true) r.2 (is_held_at r.0 (value_used m t it on c v r.0 is r.1))

  -- so do the parts of a held object
  parts_held : (n i a : ℕ) → in_use it.store n → i < width (placed_body it.map.at (object it.store n).body) → part_of (placed_body it.map.at (object it.store n).body) i ≡ V.Ref a → held_at it.map it.store a ≡ true
  parts_held n i a used l e =
      let low : i < width (object it.store n).body = (let w = width_placed it.map.at (object it.store n).body in omega arith) in
      let r = placed_ref it.map.at (part_of (object it.store n).body i) a (sym (part_placed it.map.at (object it.store n).body i low) ∙ e) in
      subst (λ (x : ℕ). held_at it.map it.store x ≡ true) r.2 (is_held_at r.0 (part_used m t it on n i r.0 used low r.1))

  -- what is at a held address refers to held addresses
  pub body_held : (a b : ℕ) → held_at it.map it.store a ≡ true → body_refers b (object_at (objects_in m t) a).body ≡ true → held_at it.map it.store b ≡ true
  body_held a b held r =
      let w = who_is_held a held in
      let is : object_at (objects_in m t) a ≡ placed_object it.map.at (object it.store w.0) =
      sym (ap (object_at (objects_in m t)) w.2) ∙ object_there m t it on w.0 w.1 in
      refers_part (held_at it.map it.store) (placed_body it.map.at (object it.store w.0).body) (λ i x l e. parts_held w.0 i x w.1 l e) b (sym (ap (λ (o : Object). body_refers b o.body) is) ∙ r)

  pub held_inside : (a : ℕ) → held_at it.map it.store a ≡ true → a < length m.words
  held_inside a held = let w = who_is_held a held in subst (λ (x : ℕ). x < length m.words) w.2 (place_inside m t it on w.0 w.1)

  module _ (registers : List Parts) (values : List Value) (means : MeanValues it.map registers values) where
    start : (a : ℕ) → refers_in a (map (word_value m) registers) ≡ true → held_at it.map it.store a ≡ true
    start a e = refers_each (held_at it.map it.store) (map (word_value m) registers) each a e
      where
        each : (i x : ℕ) → i < length (map (word_value m) registers) → is_ref x (get_or (map (word_value m) registers) i V.Nil) ≡ true → held_at it.map it.store x ≡ true
        each i x l is =
            let low : i < length registers = (let c = length-map registers (word_value m) in omega arith) in
            let count = means.count in
            let v = means.each i (omega arith) in
            let at : get_or (map (word_value m) registers) i V.Nil ≡ value_in m.words (get_or registers i null_word).content = get_or-map (word_value m) registers i null_word V.Nil low in
            placed_held (get_or registers i null_word).content (get_or values i V.Nil) x v (sym at ∙ ref_is (get_or (map (word_value m) registers) i V.Nil) x is)

    reached_held_at : (a : ℕ) → is_reached m t registers a ≡ true → held_at it.map it.store a ≡ true
    reached_held_at a e = closure_inside (objects_in m t) (held_at it.map it.store) (λ x. refers_in x (map (word_value m) registers)) (λ x y l held r. body_held x y held r) start a e

    pub reached_held : (a : ℕ) → is_reached m t registers a ≡ true → (n : ℕ) × in_use it.store n × (it.map.at n ≡ a)
    reached_held a e = who_is_held a (reached_held_at a e)

    -- a part of what is reached is reached
    pub part_reached : (a i b : ℕ) → is_reached m t registers a ≡ true → part_of (object_at (objects_in m t) a).body i ≡ V.Ref b → is_reached m t registers b ≡ true
    part_reached a i b reached e =
        let refers = part_refers (object_at (objects_in m t) a).body i b e in
        let held = reached_held_at a reached in
        let count = length-map-range_with_len (object_in m t) 0 (length m.words) in
        let low = held_inside a held in
        let low' = held_inside b (body_held a b held refers) in
        closure_closed (objects_in m t) (λ x. refers_in x (map (word_value m) registers)) a b (omega arith) (omega arith) reached refers

pub reached_are_held : ReachedAreHeld
reached_are_held m t it registers values on means a e = reached_held m t it on registers values means a e

-- What a walk returns

-- a reference is shown as it is, if its object is reached
shows_body : (m : Memory.Store) (t : Table) (registers : List Parts) (a : ℕ) → is_reached m t registers a ≡ true → (body : Body) → (object_at (objects_in m t) a).body ≡ body
    → Shows (shown_by m t registers) (seen_body a body)
shows_body m t registers a reached (Cons car cdr) e = (reached, ap width e, ap code_of e, ap is_cons e)
shows_body m t registers a reached (Block code fields) e = (reached, ap is_cons e)

shows_value : (m : Memory.Store) (t : Table) (registers : List Parts) (v : Value) → ((a : ℕ) → v ≡ V.Ref a → is_reached m t registers a ≡ true) → Shows (shown_by m t registers) (keyed_value (objects_in m t) v)
shows_value m t registers (V.Fix i) reached = tt
shows_value m t registers V.Nil reached = tt
shows_value m t registers (V.Ref a) reached = shows_body m t registers a (reached a refl) (object_at (objects_in m t) a).body refl

-- a register's
pub register_shows : (m : Memory.Store) (t : Table) (registers : List Parts) → CanWalk m t registers → (r : ℕ) → r < length registers → Shows (shown_by m t registers) (told m t (get_or registers r null_word).content)
register_shows m t registers w r l = shows_value m t registers (value_in m.words (get_or registers r null_word).content) reached
  where
    reached : (a : ℕ) → value_in m.words (get_or registers r null_word).content ≡ V.Ref a → is_reached m t registers a ≡ true
    reached a e =
        let at : get_or (map (word_value m) registers) r V.Nil ≡ value_in m.words (get_or registers r null_word).content = get_or-map (word_value m) registers r null_word V.Nil l in
        let refers : refers_in a (map (word_value m) registers) ≡ true = refers_at a (map (word_value m) registers) r (is_the_ref (get_or (map (word_value m) registers) r V.Nil) a (at ∙ e)) in
        closure_start (objects_in m t) (λ x. refers_in x (map (word_value m) registers)) a refers

-- a part's of what is reached
pub field_shows : (m : Memory.Store) (t : Table) (registers : List Parts) → CanWalk m t registers → (key : ℕ) → is_reached m t registers key ≡ true → (index : ℕ)
    → Shows (shown_by m t registers) (keyed_value (objects_in m t) (part_of (object_at (objects_in m t) key).body index))
field_shows m t registers w key reached index = shows_value m t registers (part_of (object_at (objects_in m t) key).body index)
    (λ a e. part_reached m t w.it w.kept registers w.values w.means key index a reached e)

pub reached_show : ReachedShow
reached_show = record { registers = register_shows; fields = field_shows }

register_can : (m : Memory.Store) (t : Table) (registers : List Parts) → CanWalk m t registers → (r : ℕ) → r < length registers → CanSee m t (get_or registers r null_word).content
register_can m t registers w r l = record {
  it = w.it;
  kept = w.kept;
  value = get_or w.values r V.Nil;
  value_is = w.means.each r (let c = w.means.count in omega arith);
}

pub register_is : (m : Memory.Store) (t : Table) (registers : List Parts) (r : ℕ) → r < length registers → slice_get (shown_by m t registers).registers r ≡ Some (told m t (get_or registers r null_word).content)
register_is m t registers r l =
    slice_get-map (keyed_value (objects_in m t)) (map (word_value m) registers) r
    ∙ ap (option_map (keyed_value (objects_in m t))) (slice_get-map (word_value m) registers r)
    ∙ ap (λ (w : Option Parts). option_map (keyed_value (objects_in m t)) (option_map (word_value m) w)) (slice_get-get_or registers r null_word l)

registers_count : (m : Memory.Store) (t : Table) (registers : List Parts) → length (shown_by m t registers).registers ≡ length registers
registers_count m t registers = length-map (map (word_value m) registers) (keyed_value (objects_in m t)) ∙ length-map registers (word_value m)

pub registers_are_told : RegistersAreTold
registers_are_told = record { count = registers_count; can = register_can; is = register_is }

key_can : (m : Memory.Store) (t : Table) (registers : List Parts) → CanWalk m t registers → (key : ℕ) → is_reached m t registers key ≡ true → HasObject m t key
key_can m t registers w key reached =
    let h = reached_held m t w.it w.kept registers w.values w.means key reached in
    record { it = w.it; kept = w.kept; name = h.0; used = h.1; place = h.2 }

key_inside : (m : Memory.Store) (t : Table) (registers : List Parts) → CanWalk m t registers → (key : ℕ) → is_reached m t registers key ≡ true → key < length m.words
key_inside m t registers w key reached = held_inside m t w.it w.kept key (reached_held_at m t w.it w.kept registers w.values w.means key reached)

pub keys_are_objects : KeysAreObjects
keys_are_objects = record { can = key_can; inside = key_inside }

abbrev with_words : Memory.Store → List Parts → Memory.Store
with_words m words = record m { words = words }

pub reads_show_the_same : ReadsShowTheSame
reads_show_the_same m m' t registers stays = ap (λ (words : List Parts). shown_by (with_words m words) t registers) stays.words

pub walks_go_on : WalksGoOn
walks_go_on m m' t registers words levels top w = record {
  it = w.it;
  kept = record {
    kept = subst (λ (ws : List Parts). MemoryInvariant (ground_image (with_words m ws) t) w.it) (sym words) w.kept.kept;
    ground = ground_same m m' t words levels top w.kept.ground;
    named = named_same m m' t words w.kept.named;
    table = w.kept.table;
    room = w.kept.room;
    agrees = w.kept.agrees;
  };
  values = w.values;
  means = w.means;
}
