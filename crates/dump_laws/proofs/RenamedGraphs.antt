-- Dumps of graphs that show the same by other keys.
use Rattle.std.proofs.Common.{◌≡◌, ℕ, zero, suc, ◌+◌, ◌<◌, List, [], ◌∷◌, ◌++◌, length, map, get_or, Bool, true, false, Option, Some, None, inl, inr, refl, ap, sym, ◌∙◌, subst, arith}
use Rattle.std.specs.Prelude.{◌==◌, if◌then◌else◌, option_map}
use Rattle.std.specs.List.{All}
use Rattle.std.proofs.lemmas.List.{length-map, map-append}
use Rattle.std.proofs.lemmas.List.Elements.{All-cons, All-get_or, All-head, All-map, All-nil, All-tail}
use Rattle.std.proofs.lemmas.Option.{slice_get-map}
use Rattle.trace_text.specs.store_word.declared.space.Space.{Space}
use Rattle.trace_text.specs.lisp_graph.KeyedGraph.{KeyedGraph, Shows}
use Rattle.trace_text.specs.lisp_graph.declared.object.Object.{Object}
use Rattle.trace_text.specs.lisp_graph.declared.walk.Seen.{Seen}
use Rattle.trace_text.specs.lisp_graph.declared.walk.Seen.TheVariants.{Fix, Nil, Cons, Block}
use Rattle.trace_text.specs.lisp_graph.declared.world.AreaRule.{AreaRule}
use Rattle.trace_text.specs.world_text.Numbering.{AllVisited, Chained, Visited, Walked, IsNumbering, done, ends, fields_from, fields_of, goes, is_numbered, more, next_cons, none, seen_as, step}
use Rattle.trace_text.specs.world_text.File.{file_text}
use Rattle.trace_text.specs.world_text.Dump.{AreShown, IsDump, dump_of, dumped_object, dumped_value, reference}
use Rattle.trace_text.proofs.world_text.writing_laws.Visits.{next_shows}
use Rattle.trace_text.proofs.world_text.writing_laws.Numbers.{number_cons, number_of}
use Rattle.dump_laws.specs.Renamed.{HasSameCharges, IsRenamed, renamed}
use Rattle.dump_laws.proofs.KeyNumbers.{Within, names_agree, numbered_at, numbered_first, numbered_front, numbered_last, numbered_place, numbered_renamed, numbered_tail, within_front}
use Rattle.dump_laws.proofs.NumberingGrowth.{HasNumber, all_grow, chain_grows, grows_within, numbering_fields, numbering_one, numbering_registers, walk_grows}

-- what is true of all keys is true of one of them
pub at_key : (P : ℕ → Type 0) (keys : List ℕ) (key : ℕ) → All P keys → is_numbered keys key ≡ true → P key
at_key P keys key holds is =
    let place = numbered_place keys key is in
    subst P place.2 (All-get_or P keys place.0 key place.1 holds)

-- Fields

pub field_from : (graph : KeyedGraph) (key start size index : ℕ) (default : Seen) → index < size → get_or (fields_from graph key start size) index default ≡ graph.field key (start + index)
field_from graph key start zero index default within = absurd (omega arith)
field_from graph key start (suc size) zero default within = ap (graph.field key) (omega arith)
field_from graph key start (suc size) (suc index) default within = field_from graph key (start + 1) size index default (omega arith) ∙ ap (graph.field key) (omega arith)

pub fields_long : (graph : KeyedGraph) (key start size : ℕ) → length (fields_from graph key start size) ≡ size
fields_long graph key start zero = refl
fields_long graph key start (suc size) = ap suc (fields_long graph key (start + 1) size)

-- what is true of all fields is true of one of them
pub at_field : (P : Seen → Type 0) (graph : KeyedGraph) (key index : ℕ) → All P (fields_of graph key) → index < (graph.form key).length → P (graph.field key index)
at_field P graph key index holds within =
    let e : get_or (fields_of graph key) index Nil ≡ graph.field key index = field_from graph key 0 (graph.form key).length index Nil within ∙ ap (graph.field key) (omega arith) in
    subst P e (All-get_or P (fields_of graph key) index Nil (omega (arith, fields_long graph key 0 (graph.form key).length)) holds)

fields_renamed_from : (name : ℕ → ℕ) (graph other : KeyedGraph) (key start size : ℕ)
    → ((index : ℕ) → index < start + size → other.field (name key) index ≡ renamed name (graph.field key index))
    → fields_from other (name key) start size ≡ map (renamed name) (fields_from graph key start size)
fields_renamed_from name graph other key start zero same = refl
fields_renamed_from name graph other key start (suc size) same =
    rw (same start (omega arith), fields_renamed_from name graph other key (start + 1) size (λ index within. same index (omega arith))) refl

pub fields_renamed : (name : ℕ → ℕ) (keys : List ℕ) (graph other : KeyedGraph) (key : ℕ) → IsRenamed name keys graph other → is_numbered keys key ≡ true
    → fields_of other (name key) ≡ map (renamed name) (fields_of graph key)
fields_renamed name keys graph other key same is =
    ap (fields_from other (name key) 0) (same.lengths key is) ∙ fields_renamed_from name graph other key 0 (graph.form key).length (λ index within. same.fields key index is (omega arith))

-- What is known of a graph whose objects have numbers

pub record IsWhole (graph : KeyedGraph) (all : List ℕ) : Type 0 where
  pub shown : AreShown graph all
  pub numbered : (key : ℕ) → is_numbered all key ≡ true → All (HasNumber all) (fields_of graph key)

pub whole_graph : (graph : KeyedGraph) (all : List ℕ) → IsNumbering graph all → AreShown graph all → IsWhole graph all
whole_graph graph all numbering shown = record {
  shown = shown;
  numbered = λ key is. let place = numbered_place all key is in numbering_fields graph all place.0 key numbering place.3;
}

-- Visits

next_renamed : (name : ℕ → ℕ) (all keys : List ℕ) (graph other : KeyedGraph) (value : Seen) → IsRenamed name all graph other → Within keys all → HasNumber all value
    → next_cons (map name keys) (renamed name value) ≡ option_map name (next_cons keys value)
next_renamed name all keys graph other (Fix number) same within has = refl
next_renamed name all keys graph other Nil same within has = refl
next_renamed name all keys graph other (Block key) same within has = refl
next_renamed name all keys graph other (Cons key) same within has = rw (numbered_renamed name all keys key same.apart within has) (either (is_numbered keys key))
  where
    either : (b : Bool) → (if b then None else Some (name key)) ≡ option_map name (if b then None else Some key)
    either true = refl
    either false = refl

-- the cdr of a cons that is chained
cdr_renamed : (name : ℕ → ℕ) (all keys : List ℕ) (key : ℕ) (graph other : KeyedGraph) → IsRenamed name all graph other → IsWhole graph all → Shows graph (Cons key) → Within (keys ++ key ∷ []) all
    → next_cons (map name keys ++ name key ∷ []) (other.field (name key) 1) ≡ option_map name (next_cons (keys ++ key ∷ []) (graph.field key 1))
cdr_renamed name all keys key graph other same whole shows within =
    let is = within key (numbered_last keys key) in
    let second : 1 < (graph.form key).length = omega (arith, shows.1) in
    let has = at_field (HasNumber all) graph key 1 (whole.numbered key is) second in
    ap (λ (l : List ℕ). next_cons l (other.field (name key) 1)) (sym (map-append name keys (key ∷ [])))
    ∙ ap (next_cons (map name (keys ++ key ∷ []))) (same.fields key 1 is second)
    ∙ next_renamed name all (keys ++ key ∷ []) graph other (graph.field key 1) same within has

chain_renamed : {graph : KeyedGraph} {keys : List ℕ} {key : ℕ} {last : List ℕ} (name : ℕ → ℕ) (all : List ℕ) (other : KeyedGraph) → Chained graph keys key last → IsRenamed name all graph other → IsWhole graph all
    → Shows graph (Cons key) → Within last all → Chained other (map name keys) (name key) (map name last)
chain_renamed {graph} name all other (ends keys key last) same whole shows within =
    let cdr = cdr_renamed name all keys key graph other same whole shows within ∙ ap (option_map name) last in
    subst (λ (l : List ℕ). Chained other (map name keys) (name key) l) (sym (map-append name keys (key ∷ []))) (ends (map name keys) (name key) cdr)
chain_renamed {graph} {last = last} name all other (goes keys key next rest later chained) same whole shows within =
    let front : Within (keys ++ key ∷ []) all = λ one is. within one (grows_within (chain_grows chained) one (numbered_front (keys ++ key ∷ []) (next ∷ []) one is)) in
    let cdr = cdr_renamed name all keys key graph other same whole shows front ∙ ap (option_map name) later in
    let fields = at_key (λ k. All (Shows graph) (fields_of graph k)) all key whole.shown.fields (front key (numbered_last keys key)) in
    let second : 1 < (graph.form key).length = omega (arith, shows.1) in
    let again = next_shows graph (keys ++ key ∷ []) (graph.field key 1) next later (at_field (Shows graph) graph key 1 fields second) in
    goes (map name keys) (name key) (name next) (map name rest) cdr
    (subst (λ (l : List ℕ). Chained other l (name next) (map name rest)) (map-append name keys (key ∷ [])) (chain_renamed name all other chained same whole again within))

visit_renamed : (name : ℕ → ℕ) (all : List ℕ) (graph other : KeyedGraph) (keys last : List ℕ) (value : Seen) → Visited graph keys value last → IsRenamed name all graph other → IsWhole graph all
    → Shows graph value → Within last all → Visited other (map name keys) (renamed name value) (map name last)
visit_renamed name all graph other keys last (Fix number) is same whole shows within = ap (map name) is
visit_renamed name all graph other keys last Nil is same whole shows within = ap (map name) is
visit_renamed name all graph other keys last (Cons key) (inl old) same whole shows within =
    let front : Within keys all = subst (λ (l : List ℕ). Within l all) old.1 within in
    inl (numbered_renamed name all keys key same.apart front (front key old.0) ∙ old.0, ap (map name) old.1)
visit_renamed name all graph other keys last (Cons key) (inr new) same whole shows within =
    let behind : Within (keys ++ key ∷ []) all = λ one is. within one (grows_within (chain_grows new.1) one is) in
    inr (numbered_renamed name all keys key same.apart (within_front keys (key ∷ []) all behind) (behind key (numbered_last keys key)) ∙ new.0, chain_renamed name all other new.1 same whole shows within)
visit_renamed name all graph other keys last (Block key) (inl old) same whole shows within =
    let front : Within keys all = subst (λ (l : List ℕ). Within l all) old.1 within in
    inl (numbered_renamed name all keys key same.apart front (front key old.0) ∙ old.0, ap (map name) old.1)
visit_renamed name all graph other keys last (Block key) (inr new) same whole shows within =
    let behind : Within (keys ++ key ∷ []) all = subst (λ (l : List ℕ). Within l all) new.1 within in
    inr (numbered_renamed name all keys key same.apart (within_front keys (key ∷ []) all behind) (behind key (numbered_last keys key)) ∙ new.0, ap (map name) new.1 ∙ map-append name keys (key ∷ []))

all_renamed : {graph : KeyedGraph} {keys : List ℕ} {values : List Seen} {last : List ℕ} (name : ℕ → ℕ) (all : List ℕ) (other : KeyedGraph) → AllVisited graph keys values last → IsRenamed name all graph other → IsWhole graph all
    → All (Shows graph) values → Within last all → AllVisited other (map name keys) (map (renamed name) values) (map name last)
all_renamed name all other (none keys) same whole shows within = none (map name keys)
all_renamed {graph} name all other (more keys middle last value values one rest) same whole shows within =
    let front : Within middle all = λ key is. within key (grows_within (all_grow rest) key is) in
    more (map name keys) (map name middle) (map name last) (renamed name value) (map (renamed name) values)
    (visit_renamed name all graph other keys middle value one same whole (All-head (Shows graph) value values shows) front)
    (all_renamed name all other rest same whole (All-tail (Shows graph) value values shows) within)

walk_renamed : {graph : KeyedGraph} {keys : List ℕ} {number : ℕ} {last : List ℕ} (name : ℕ → ℕ) (all : List ℕ) (other : KeyedGraph) → Walked graph keys number last → IsRenamed name all graph other → IsWhole graph all
    → Within last all → Walked other (map name keys) number (map name last)
walk_renamed name all other (done keys number past) same whole within = done (map name keys) number (omega (arith, length-map keys name))
walk_renamed {graph} name all other (step keys middle last number key at one rest) same whole within =
    let front : Within middle all = λ k is. within k (grows_within (walk_grows rest) k is) in
    let is : is_numbered all key ≡ true = front key (grows_within (all_grow one) key (numbered_at keys number key at)) in
    let shows = at_key (λ k. All (Shows graph) (fields_of graph k)) all key whole.shown.fields is in
    let visited = all_renamed name all other one same whole shows front in
    step (map name keys) (map name middle) (map name last) number (name key) (slice_get-map name keys number ∙ ap (option_map name) at)
    (subst (λ (values : List Seen). AllVisited other (map name keys) values (map name middle)) (sym (fields_renamed name all graph other key same is)) visited)
    (walk_renamed name all other rest same whole within)

pub numbering_renamed : (name : ℕ → ℕ) (graph other : KeyedGraph) (all : List ℕ) → IsNumbering graph all → IsRenamed name all graph other → IsWhole graph all → IsNumbering other (map name all)
numbering_renamed name graph other all numbering same whole =
    let roots : Within numbering.roots all = grows_within (walk_grows numbering.objects) in
    let visited = all_renamed name all other numbering.registers same whole whole.shown.registers roots in
    record {
      roots = map name numbering.roots;
      registers = subst (λ (values : List Seen). AllVisited other [] values (map name numbering.roots)) (sym same.registers) visited;
      objects = walk_renamed name all other numbering.objects same whole (λ key is. is);
    }

-- What is shown

shows_renamed : (name : ℕ → ℕ) (all : List ℕ) (graph other : KeyedGraph) (value : Seen) → IsRenamed name all graph other → HasNumber all value → Shows graph value → Shows other (renamed name value)
shows_renamed name all graph other (Fix number) same has shows = tt
shows_renamed name all graph other Nil same has shows = tt
shows_renamed name all graph other (Cons key) same has shows = (same.has key has, same.lengths key has ∙ shows.1, same.codes key has ∙ shows.2, same.kinds key has ∙ shows.3)
shows_renamed name all graph other (Block key) same has shows = (same.has key has, same.kinds key has ∙ shows.1)

all_show : (name : ℕ → ℕ) (all : List ℕ) (graph other : KeyedGraph) (values : List Seen) → IsRenamed name all graph other → All (HasNumber all) values → All (Shows graph) values → All (Shows other) (map (renamed name) values)
all_show name all graph other values same has shows =
    All-map (Shows other) (renamed name) values (λ index default within. shows_renamed name all graph other _ same (has index default within) (shows index default within))

-- what is known of a key is known of its name
all_names : (P Q : ℕ → Type 0) (name : ℕ → ℕ) (keys : List ℕ) → ((key : ℕ) → is_numbered keys key ≡ true → P key → Q (name key)) → All P keys → All Q (map name keys)
all_names P Q name [] tells holds = All-nil Q
all_names P Q name (key ∷ keys) tells holds =
    All-cons Q (name key) (map name keys) (tells key (numbered_first key keys) (All-head P key keys holds))
    (all_names P Q name keys (λ one is. tells one (numbered_tail key keys one is)) (All-tail P key keys holds))

object_shows : (graph other : KeyedGraph) (name : ℕ → ℕ) (all : List ℕ) (key : ℕ) → IsRenamed name all graph other → is_numbered all key ≡ true → Shows graph (seen_as (graph.cons key) key)
    → Shows other (seen_as (other.cons (name key)) (name key))
object_shows graph other name all key same is shows = rw (same.kinds key is) (kind (graph.cons key) shows)
  where
    kind : (b : Bool) → Shows graph (seen_as b key) → Shows other (seen_as b (name key))
    kind true one = shows_renamed name all graph other (Cons key) same is one
    kind false one = shows_renamed name all graph other (Block key) same is one

pub shown_renamed : (name : ℕ → ℕ) (graph other : KeyedGraph) (all : List ℕ) → IsNumbering graph all → IsRenamed name all graph other → IsWhole graph all → AreShown other (map name all)
shown_renamed name graph other all numbering same whole = record {
  objects = all_names (λ key. Shows graph (seen_as (graph.cons key) key)) (λ key. Shows other (seen_as (other.cons key) key)) name all
      (λ key is shows. object_shows graph other name all key same is shows) whole.shown.objects;
  registers = subst (All (Shows other)) (sym same.registers) (all_show name all graph other graph.registers same (numbering_registers graph all numbering) whole.shown.registers);
  fields = all_names (λ key. All (Shows graph) (fields_of graph key)) (λ key. All (Shows other) (fields_of other key)) name all
      (λ key is shows. subst (All (Shows other)) (sym (fields_renamed name all graph other key same is)) (all_show name all graph other (fields_of graph key) same (whole.numbered key is) shows)) whole.shown.fields;
}

-- What is written

number_renamed : (name : ℕ → ℕ) (all keys : List ℕ) (key : ℕ) (graph other : KeyedGraph) → IsRenamed name all graph other → Within keys all → is_numbered all key ≡ true
    → number_of (map name keys) (name key) ≡ number_of keys key
number_renamed name all [] key graph other same within is = refl
number_renamed name all (first ∷ keys) key graph other same within is =
    let one = names_agree name all key first same.apart is (within first (numbered_first first keys)) in
    let rest = number_renamed name all keys key graph other same (λ k more. within k (numbered_tail first keys k more)) is in
    number_cons (name first) (map name keys) (name key)
    ∙ ap (λ b. if b then Some 0 else option_map (λ k. 1 + k) (number_of (map name keys) (name key))) one
    ∙ ap (λ (o : Option ℕ). if key == first then Some 0 else option_map (λ k. 1 + k) o) rest
    ∙ sym (number_cons first keys key)

pub value_renamed : (name : ℕ → ℕ) (all : List ℕ) (graph other : KeyedGraph) (value : Seen) → IsRenamed name all graph other → HasNumber all value
    → dumped_value (map name all) (renamed name value) ≡ dumped_value all value
value_renamed name all graph other (Fix number) same has = refl
value_renamed name all graph other Nil same has = refl
value_renamed name all graph other (Cons key) same has = ap reference (number_renamed name all all key graph other same (λ k is. is) has)
value_renamed name all graph other (Block key) same has = ap reference (number_renamed name all all key graph other same (λ k is. is) has)

pub values_renamed : (name : ℕ → ℕ) (all : List ℕ) (graph other : KeyedGraph) (values : List Seen) → IsRenamed name all graph other → All (HasNumber all) values
    → map (dumped_value (map name all)) (map (renamed name) values) ≡ map (dumped_value all) values
values_renamed name all graph other [] same has = refl
values_renamed name all graph other (value ∷ values) same has =
    rw (value_renamed name all graph other value same (All-head (HasNumber all) value values has), values_renamed name all graph other values same (All-tail (HasNumber all) value values has)) refl

pub fields_dumped : (name : ℕ → ℕ) (all : List ℕ) (graph other : KeyedGraph) (key : ℕ) → IsRenamed name all graph other → IsWhole graph all → is_numbered all key ≡ true
    → map (dumped_value (map name all)) (fields_of other (name key)) ≡ map (dumped_value all) (fields_of graph key)
fields_dumped name all graph other key same whole is =
    ap (map (dumped_value (map name all))) (fields_renamed name all graph other key same is) ∙ values_renamed name all graph other (fields_of graph key) same (whole.numbered key is)

object_renamed : (name : ℕ → ℕ) (all : List ℕ) (graph other : KeyedGraph) (key : ℕ) → IsRenamed name all graph other → HasSameCharges name all graph other → IsWhole graph all → is_numbered all key ≡ true
    → dumped_object other (map name all) (name key) ≡ dumped_object graph all key
object_renamed name all graph other key same charges whole is =
    rw (same.areas key is, charges key is, same.kinds key is, same.codes key is, fields_dumped name all graph other key same whole is) refl

-- mapping a list of names gives the same as mapping the list of keys
pub names_map : {X : Type 0} (f g : ℕ → X) (name : ℕ → ℕ) (keys : List ℕ) → ((key : ℕ) → is_numbered keys key ≡ true → f (name key) ≡ g key) → map f (map name keys) ≡ map g keys
names_map f g name [] same = refl
names_map f g name (key ∷ keys) same = rw (same key (numbered_first key keys), names_map f g name keys (λ one is. same one (numbered_tail key keys one is))) refl

pub dump_renamed : (name : ℕ → ℕ) (graph other : KeyedGraph) (space : Space) (areas : List AreaRule) (text : List ℕ) (dump : IsDump graph space areas text)
    → IsRenamed name dump.keys graph other → HasSameCharges name dump.keys graph other → IsDump other space areas text
dump_renamed name graph other space areas text dump same charges =
    let all : List ℕ = dump.keys in
    let whole = whole_graph graph all dump.numbering dump.shown in
    let objects : map (dumped_object other (map name all)) (map name all) ≡ map (dumped_object graph all) all =
    names_map (dumped_object other (map name all)) (dumped_object graph all) name all (λ key is. object_renamed name all graph other key same charges whole is) in
    let registers : map (dumped_value (map name all)) other.registers ≡ map (dumped_value all) graph.registers =
    ap (map (dumped_value (map name all))) same.registers ∙ values_renamed name all graph other graph.registers same (numbering_registers graph all dump.numbering) in
    record {
      keys = map name all;
      numbering = numbering_renamed name graph other all dump.numbering same whole;
      shown = shown_renamed name graph other all dump.numbering same whole;
      few = omega (arith, dump.few, length-map all name);
      is = dump.is ∙ ap (λ (o : List Object). file_text space areas o (map (dumped_value all) graph.registers)) (sym objects)
          ∙ ap (file_text space areas (map (dumped_object other (map name all)) (map name all))) (sym registers);
    }

pub dump_one : (graph : KeyedGraph) (space : Space) (areas : List AreaRule) (this other : List ℕ) → IsDump graph space areas this → IsDump graph space areas other → this ≡ other
dump_one graph space areas this other first second =
    let e : first.keys ≡ second.keys = numbering_one graph first.keys second.keys first.numbering second.numbering in
    first.is ∙ ap (λ (keys : List ℕ). dump_of graph keys space areas) e ∙ sym second.is
