-- The graph shown is that of each state that the ground and the registers represent, with other names.
use Rattle.std.proofs.Common.{◌≡◌, ℕ, ◌<◌, ◌==◌, nat_lt, Bool, true, false, ◌&&◌, refl, sym, ◌∙◌, ap, List, length, get_or, map, Option, Some, None, arith}
use Rattle.std.proofs.lemmas.Bool.Decides.{nat_tests}
use Rattle.std.proofs.lemmas.List.{get_or-map, length-map, ext_get_or}
use Rattle.store_word.specs.Words.{Parts, null_word}
use Rattle.store_word.specs.declared.word.Content.{Content}
use Rattle.store_word.specs.declared.space.Space.{Space}
use Rattle.lisp_graph.specs.declared.object.Value.{Value}
use Rattle.lisp_graph.specs.declared.object.Value.TheVariants as V
use Rattle.lisp_graph.specs.declared.object.Body.{Body}
use Rattle.lisp_graph.specs.declared.object.Body.TheVariants.{Cons, Block}
use Rattle.lisp_graph.specs.declared.object.Object.{Object}
use Rattle.lisp_graph.specs.declared.walk.Seen.TheVariants as S
use Rattle.lisp_graph.specs.declared.world.AreaRule.{AreaRule}
use Rattle.lisp_graph.specs.Graph.{object_at, width}
use Rattle.lisp_graph.specs.KeyedGraph.{KeyedGraph, Shows, keyed, part_of, keyed_value, seen_body, code_of, is_cons}
use Rattle.mem_port.specs.Store as Memory
use Rattle.area_space.specs.Table.{Table}
use Rattle.lisp_ground.specs.lisp_meaning.State.{Store, State, object, is_held, in_use}
use Rattle.lisp_ground.specs.lisp_meaning.Flip.{graph_of}
use Rattle.lisp_ground.specs.lisp_meaning.Units.{lowest}
use Rattle.lisp_ground.specs.lisp_meaning.Roles.{RoleMap, value_of, owner, name_or, kind_of}
use Rattle.lisp_ground.proofs.lisp_meaning.reading.NextUnits.{lowest-passes, lowest-none}
use Rattle.lisp_ground.proofs.lisp_meaning.maps.Patches.{begins_owner}
use Rattle.lisp_ground.specs.GroundInvariant.{GroundInvariant}
use Rattle.lisp_ground.specs.lisp_meaning.Interpretation.{interpretation}
use Rattle.world_text.specs.Numbering.{is_numbered, seen_as}
use Rattle.world_text.specs.Dump.{IsDump}
use Rattle.dump_laws.specs.Renamed.{renamed, IsRenamed, HasSameCharges}
use Rattle.dump_laws.proofs.RenamedGraphs.{at_key, dump_renamed}
use Rattle.word_graph.specs.Shown.{objects_in, is_reached, shown_by, told, value_in}
use Rattle.word_graph.specs.Placed.{MeanValues}
use Rattle.word_graph.specs.Laws.{placed, placed_body, placed_object, name_of, WalkShowsState, DumpIsOfState}
use Rattle.word_graph.proofs.Places.{value_place, value_used, part_used, object_there}
use Rattle.word_graph.proofs.HeldObjects.{both, same_number, is_same, part_placed, width_placed, reached_held}

-- Placed bodies

cons_placed : (at : ℕ → ℕ) (body : Body) → is_cons (placed_body at body) ≡ is_cons body
cons_placed at (Cons car cdr) = refl
cons_placed at (Block code fields) = refl

code_placed : (at : ℕ → ℕ) (body : Body) → code_of (placed_body at body) ≡ code_of body
code_placed at (Cons car cdr) = refl
code_placed at (Block code fields) = refl

seen_renamed : (name at : ℕ → ℕ) (n : ℕ) (body : Body) → name (at n) ≡ n → renamed name (seen_body (at n) (placed_body at body)) ≡ seen_body n body
seen_renamed name at n (Cons car cdr) e = ap S.Cons e
seen_renamed name at n (Block code fields) e = ap S.Block e

abbrev word_value : Memory.Store → Parts → Value
word_value m w = value_in m.words w.content

-- an object that is held is at an address
abbrev stands_at : RoleMap → Store → ℕ → ℕ → Bool
stands_at k s a n = is_held s n && (k.at n == a)

module _ (m : Memory.Store) (t : Table) (registers : List Parts) (k : RoleMap) (s : State) (on : GroundInvariant m t (interpretation k s)) (means : MeanValues k registers s.registers) where
  abbrev name : ℕ → ℕ
  name = name_of k s.store

  -- Names of places

  -- a place has one name
  one_name : (n q : ℕ) → in_use s.store n → in_use s.store q → k.at n ≡ k.at q → n ≡ q
  one_name n q used used' same =
      let a : owner (k.role (k.at n)) ≡ Some n = begins_owner (kind_of (object s.store n).body) (k.role (k.at n)) n (on.kept.roled.begins n used) in
      let b : owner (k.role (k.at q)) ≡ Some q = begins_owner (kind_of (object s.store q).body) (k.role (k.at q)) q (on.kept.roled.begins q used') in
      let c : owner (k.role (k.at n)) ≡ owner (k.role (k.at q)) = ap (λ (x : ℕ). owner (k.role x)) same in
      let d : Some n ≡ Some q = sym a ∙ c ∙ b in
      cc

  -- the name of a held place is its object's
  pub name_is : (n : ℕ) → in_use s.store n → name (k.at n) ≡ n
  name_is n used = go (lowest (stands_at k s.store (k.at n)) (length s.store.objects)) refl
    where
      here : stands_at k s.store (k.at n) n ≡ true
      here = ap (λ (b : Bool). b && (k.at n == k.at n)) used ∙ is_same (k.at n)

      go : (o : Option ℕ) → lowest (stands_at k s.store (k.at n)) (length s.store.objects) ≡ o → name_or (lowest (stands_at k s.store (k.at n)) (length s.store.objects)) ≡ n
      go None e = absurd (let f : false ≡ true = sym (lowest-none (stands_at k s.store (k.at n)) (length s.store.objects) e n (on.kept.names n used)) ∙ here in cc)
      go (Some q) e =
          let p = (lowest-passes (stands_at k s.store (k.at n)) (length s.store.objects) q e).1 in
          let b = both (is_held s.store q) (k.at q == k.at n) p in
          ap name_or e ∙ one_name q n b.0 used (same_number (k.at q) (k.at n) b.1)

  -- Values

  -- a value that refers to held objects only is shown by its place
  value_renamed : (v : Value) → ((q : ℕ) → v ≡ V.Ref q → in_use s.store q) → renamed name (keyed_value (objects_in m t) (placed k.at v)) ≡ keyed_value s.store.objects v
  value_renamed (V.Fix i) used = refl
  value_renamed V.Nil used = refl
  value_renamed (V.Ref q) used =
      ap (λ (o : Object). renamed name (seen_body (k.at q) o.body)) (object_there m t (interpretation k s) on q (used q refl))
      ∙ seen_renamed name k.at q (object s.store q).body (name_is q (used q refl))

  word_renamed : (c : Content) (v : Value) → value_of k.role c ≡ Some v → renamed name (told m t c) ≡ keyed_value s.store.objects v
  word_renamed c v is =
      ap (λ (x : Value). renamed name (keyed_value (objects_in m t) x)) (value_place m t (interpretation k s) on c v is)
      ∙ value_renamed v (λ q e. value_used m t (interpretation k s) on c v q is e)

  registers_renamed : (keyed (graph_of s)).registers ≡ map (renamed name) (shown_by m t registers).registers
  registers_renamed = ext_get_or S.Nil (map (keyed_value s.store.objects) s.registers) (map (renamed name) (map (keyed_value (objects_in m t)) (map (word_value m) registers))) counts each
    where
      counts : length (map (keyed_value s.store.objects) s.registers) ≡ length (map (renamed name) (map (keyed_value (objects_in m t)) (map (word_value m) registers)))
      counts =
          let a = length-map s.registers (keyed_value s.store.objects) in
          let b = length-map registers (word_value m) in
          let c = length-map (map (word_value m) registers) (keyed_value (objects_in m t)) in
          let d = length-map (map (keyed_value (objects_in m t)) (map (word_value m) registers)) (renamed name) in
          let e = means.count in
          omega arith

      each : (i : ℕ) → i < length (map (keyed_value s.store.objects) s.registers) → get_or (map (keyed_value s.store.objects) s.registers) i S.Nil ≡ get_or (map (renamed name) (map (keyed_value (objects_in m t)) (map (word_value m) registers))) i S.Nil
      each i l =
          let a = length-map s.registers (keyed_value s.store.objects) in
          let b = length-map registers (word_value m) in
          let c = length-map (map (word_value m) registers) (keyed_value (objects_in m t)) in
          let e = means.count in
          let low : i < length s.registers = omega arith in
          let low1 : i < length registers = omega arith in
          let low2 : i < length (map (word_value m) registers) = omega arith in
          let low3 : i < length (map (keyed_value (objects_in m t)) (map (word_value m) registers)) = omega arith in
          get_or-map (keyed_value s.store.objects) s.registers i V.Nil S.Nil low
          ∙ sym (word_renamed (get_or registers i null_word).content (get_or s.registers i V.Nil) (means.each i low))
          ∙ sym (ap (λ (v : Value). renamed name (keyed_value (objects_in m t) v)) (get_or-map (word_value m) registers i null_word V.Nil low1))
          ∙ sym (ap (renamed name) (get_or-map (keyed_value (objects_in m t)) (map (word_value m) registers) i V.Nil S.Nil low2))
          ∙ sym (get_or-map (renamed name) (map (keyed_value (objects_in m t)) (map (word_value m) registers)) i S.Nil S.Nil low3)

  -- Objects

  object_is : (key : ℕ) → is_reached m t registers key ≡ true → (n : ℕ) × in_use s.store n × (name key ≡ n) × (k.at n ≡ key) × (object_at (objects_in m t) key ≡ placed_object k.at (object s.store n))
  object_is key reached =
      let h = reached_held m t (interpretation k s) on registers s.registers means key reached in
      (h.0, h.1, sym (ap name h.2) ∙ name_is h.0 h.1, h.2, sym (ap (object_at (objects_in m t)) h.2) ∙ object_there m t (interpretation k s) on h.0 h.1)

  module _ (keys : List ℕ) (reached : (key : ℕ) → is_numbered keys key ≡ true → is_reached m t registers key ≡ true) where
    apart : (one two : ℕ) → is_numbered keys one ≡ true → is_numbered keys two ≡ true → name one ≡ name two → one ≡ two
    apart one two a b same =
        let x = object_is one (reached one a) in
        let y = object_is two (reached two b) in
        sym x.3 ∙ ap k.at (sym x.2 ∙ same ∙ y.2) ∙ y.3

    has : (key : ℕ) → is_numbered keys key ≡ true → nat_lt (name key) (length s.store.objects) ≡ true
    has key a =
        let x = object_is key (reached key a) in
        let l = on.kept.names x.0 x.1 in
        ap (λ (n : ℕ). nat_lt n (length s.store.objects)) x.2 ∙ (grind (arith, nat_tests))

    -- what a function that ignores names gives for an object is the same
    same_told : {A : Type 0} (f : Object → A) → ((o : Object) → f (placed_object k.at o) ≡ f o) → (key : ℕ) → is_numbered keys key ≡ true → f (object_at s.store.objects (name key)) ≡ f (object_at (objects_in m t) key)
    same_told f blind key a =
        let x = object_is key (reached key a) in
        ap (λ (n : ℕ). f (object_at s.store.objects n)) x.2 ∙ sym (blind (object s.store x.0)) ∙ sym (ap f x.4)

    field_renamed : (key index : ℕ) → is_numbered keys key ≡ true → index < width (object_at (objects_in m t) key).body
        → keyed_value s.store.objects (part_of (object_at s.store.objects (name key)).body index) ≡ renamed name (keyed_value (objects_in m t) (part_of (object_at (objects_in m t) key).body index))
    field_renamed key index a l =
        let x = object_is key (reached key a) in
        let wide : width (object_at (objects_in m t) key).body ≡ width (object s.store x.0).body = ap (λ (o : Object). width o.body) x.4 ∙ width_placed k.at (object s.store x.0).body in
        let low : index < width (object s.store x.0).body = omega arith in
        ap (λ (n : ℕ). keyed_value s.store.objects (part_of (object_at s.store.objects n).body index)) x.2
        ∙ sym (value_renamed (part_of (object s.store x.0).body index) (λ q e. part_used m t (interpretation k s) on x.0 index q x.1 low e))
        ∙ sym (ap (λ (v : Value). renamed name (keyed_value (objects_in m t) v)) (part_placed k.at (object s.store x.0).body index low))
        ∙ sym (ap (λ (o : Object). renamed name (keyed_value (objects_in m t) (part_of o.body index))) x.4)

    pub is_renamed : IsRenamed name keys (shown_by m t registers) (keyed (graph_of s))
    is_renamed = record {
      apart = apart;
      registers = registers_renamed;
      has = has;
      kinds = same_told (λ o. is_cons o.body) (λ o. cons_placed k.at o.body);
      areas = same_told (λ o. o.area) (λ o. refl);
      codes = same_told (λ o. code_of o.body) (λ o. code_placed k.at o.body);
      lengths = same_told (λ o. width o.body) (λ o. width_placed k.at o.body);
      fields = field_renamed;
    }

    pub same_charges : HasSameCharges name keys (shown_by m t registers) (keyed (graph_of s))
    same_charges = same_told (λ o. o.charge) (λ o. refl)

pub walk_shows_state : WalkShowsState
walk_shows_state = record { renamed = is_renamed; charges = same_charges }

-- the keys of a dump are reached
dumped_reached : (m : Memory.Store) (t : Table) (registers : List Parts) (space : Space) (areas : List AreaRule) (text : List ℕ) (dump : IsDump (shown_by m t registers) space areas text)
    → (key : ℕ) → is_numbered dump.keys key ≡ true → is_reached m t registers key ≡ true
dumped_reached m t registers space areas text dump key e =
    let graph = shown_by m t registers in
    shown_has graph (graph.cons key) key (at_key (λ x. Shows graph (seen_as (graph.cons x) x)) dump.keys key dump.shown.objects e)
  where
    shown_has : (graph : KeyedGraph) (cons : Bool) (key : ℕ) → Shows graph (seen_as cons key) → graph.has key ≡ true
    shown_has graph true key shows = shows.0
    shown_has graph false key shows = shows.0

pub dump_is_of_state : DumpIsOfState
dump_is_of_state m t registers k s on means space areas text dump =
    let reached = dumped_reached m t registers space areas text dump in
    dump_renamed (name_of k s.store) (shown_by m t registers) (keyed (graph_of s)) space areas text dump
    (is_renamed m t registers k s on means dump.keys reached)
    (same_charges m t registers k s on means dump.keys reached)
