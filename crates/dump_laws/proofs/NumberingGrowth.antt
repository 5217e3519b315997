-- What visiting adds to a numbering.
use Rattle.std.proofs.Common.{◌≡◌, ℕ, ◌+◌, ◌≤◌, ◌⊎◌, List, [], ◌∷◌, ◌++◌, length, true, false, Some, None, inl, inr, refl, ap, sym, ◌∙◌, subst, arith, length-append}
use Rattle.std.specs.Prelude.{slice_get}
use Rattle.std.specs.List.{All}
use Rattle.std.proofs.lemmas.List.Elements.{All-cons, All-nil}
use Rattle.std.proofs.lemmas.Option.{slice_get_within}
use Rattle.trace_text.specs.lisp_graph.KeyedGraph.{KeyedGraph}
use Rattle.trace_text.specs.lisp_graph.declared.walk.Seen.{Seen}
use Rattle.trace_text.specs.lisp_graph.declared.walk.Seen.TheVariants.{Fix, Nil, Cons, Block}
use Rattle.trace_text.specs.world_text.Numbering.{AllVisited, Chained, Visited, Walked, IsNumbering, done, ends, fields_of, goes, is_numbered, more, next_cons, none, step}
use Rattle.trace_text.proofs.world_text.reading_laws.AreaLaws.{before_or_last, get_front}
use Rattle.trace_text.proofs.world_text.writing_laws.Visits.{next_fresh}
use Rattle.dump_laws.proofs.KeyNumbers.{OnceEach, Within, numbered_front, numbered_last, once_push}
pub use Rattle.trace_text.specs.world_text.writing.Visits.{Grows}
pub use Rattle.trace_text.proofs.world_text.writing_laws.Numbers.{all_grow, chain_grows, grows_none, grows_one, grows_twice, walk_grows}

-- More keys after those before

pub grows_within : {keys all : List ℕ} → Grows keys all → Within keys all
grows_within {keys} {all} grows = λ key is. subst (λ (l : List ℕ). is_numbered l key ≡ true) (sym grows.is) (numbered_front keys grows.later key is)

pub grows_at : {keys all : List ℕ} (number key : ℕ) → Grows keys all → slice_get keys number ≡ Some key → slice_get all number ≡ Some key
grows_at {keys} {all} number key grows is = ap (λ (l : List ℕ). slice_get l number) grows.is ∙ get_front keys grows.later number (slice_get_within keys number key is) ∙ is

pub grows_long : {keys all : List ℕ} → Grows keys all → length keys ≤ length all
grows_long {keys} {all} grows = omega (arith, ap length grows.is, length-append keys grows.later)

-- Each key once

pub chain_once : {graph : KeyedGraph} {keys : List ℕ} {key : ℕ} {all : List ℕ} → Chained graph keys key all → OnceEach keys → is_numbered keys key ≡ false → OnceEach all
chain_once (ends keys key last) once fresh = once_push keys key once fresh
chain_once {graph} (goes keys key next all later rest) once fresh =
    chain_once rest (once_push keys key once fresh) (next_fresh (keys ++ key ∷ []) (graph.field key 1) next later)

visit_once : (graph : KeyedGraph) (keys all : List ℕ) (value : Seen) → Visited graph keys value all → OnceEach keys → OnceEach all
visit_once graph keys all (Fix number) is once = subst OnceEach (sym is) once
visit_once graph keys all Nil is once = subst OnceEach (sym is) once
visit_once graph keys all (Cons key) (inl old) once = subst OnceEach (sym old.1) once
visit_once graph keys all (Cons key) (inr new) once = chain_once new.1 once new.0
visit_once graph keys all (Block key) (inl old) once = subst OnceEach (sym old.1) once
visit_once graph keys all (Block key) (inr new) once = subst OnceEach (sym new.1) (once_push keys key once new.0)

all_once : {graph : KeyedGraph} {keys : List ℕ} {values : List Seen} {all : List ℕ} → AllVisited graph keys values all → OnceEach keys → OnceEach all
all_once (none keys) once = once
all_once {graph} (more keys middle all value values one rest) once = all_once rest (visit_once graph keys middle value one once)

walk_once : {graph : KeyedGraph} {keys : List ℕ} {number : ℕ} {all : List ℕ} → Walked graph keys number all → OnceEach keys → OnceEach all
walk_once (done keys number past) once = once
walk_once {graph} (step keys middle all number key at one rest) once = walk_once rest (all_once one once)

pub numbering_once : (graph : KeyedGraph) (all : List ℕ) → IsNumbering graph all → OnceEach all
numbering_once graph all numbering =
    let none_yet : OnceEach [] = λ number key is. absurd (cc (is)) in
    walk_once numbering.objects (all_once numbering.registers none_yet)

-- Each reference has a number

-- a value isn't a reference, or is one to an object with a number
abbrev pub HasNumber : List ℕ → Seen → Type 0
HasNumber all (Fix number) = Unit {0}
HasNumber all Nil = Unit {0}
HasNumber all (Cons key) = is_numbered all key ≡ true
HasNumber all (Block key) = is_numbered all key ≡ true

pub number_stays : (keys all : List ℕ) (value : Seen) → Within keys all → HasNumber keys value → HasNumber all value
number_stays keys all (Fix number) within has = tt
number_stays keys all Nil within has = tt
number_stays keys all (Cons key) within has = within key has
number_stays keys all (Block key) within has = within key has

visit_numbers : (graph : KeyedGraph) (keys all : List ℕ) (value : Seen) → Visited graph keys value all → HasNumber all value
visit_numbers graph keys all (Fix number) is = tt
visit_numbers graph keys all Nil is = tt
visit_numbers graph keys all (Cons key) (inl old) = subst (λ (l : List ℕ). is_numbered l key ≡ true) (sym old.1) old.0
visit_numbers graph keys all (Cons key) (inr new) = grows_within (chain_grows new.1) key (numbered_last keys key)
visit_numbers graph keys all (Block key) (inl old) = subst (λ (l : List ℕ). is_numbered l key ≡ true) (sym old.1) old.0
visit_numbers graph keys all (Block key) (inr new) = subst (λ (l : List ℕ). is_numbered l key ≡ true) (sym new.1) (numbered_last keys key)

pub all_numbered : {graph : KeyedGraph} {keys : List ℕ} {values : List Seen} {all : List ℕ} → AllVisited graph keys values all → All (HasNumber all) values
all_numbered (none keys) = All-nil (HasNumber keys)
all_numbered {graph} (more keys middle all value values one rest) =
    All-cons (HasNumber all) value values (number_stays middle all value (grows_within (all_grow rest)) (visit_numbers graph keys middle value one)) (all_numbered rest)

-- the fields of each object from this number on
walk_numbers : {graph : KeyedGraph} {keys : List ℕ} {number : ℕ} {all : List ℕ} → Walked graph keys number all
    → (place key : ℕ) → number ≤ place → slice_get all place ≡ Some key → All (HasNumber all) (fields_of graph key)
walk_numbers (done keys number past) place key behind at = absurd (omega (arith, slice_get_within keys place key at))
walk_numbers {graph} (step keys middle all number key found one rest) place other behind at = elim (here_or_behind number place behind) [
  | inl here ↦
      let now = grows_at number key (grows_twice (all_grow one) (walk_grows rest)) found in
      let e : key ≡ other = let f = sym now ∙ ap (slice_get all) here ∙ at in cc (f) in
      let fields : All (HasNumber all) (fields_of graph key) = λ index default within. number_stays middle all _ (grows_within (walk_grows rest)) (all_numbered one index default within) in
      subst (λ (k : ℕ). All (HasNumber all) (fields_of graph k)) e fields
  | inr later ↦ walk_numbers rest place other later at
]
  where
    here_or_behind : (number place : ℕ) → number ≤ place → (number ≡ place) ⊎ (number + 1 ≤ place)
    here_or_behind number place behind = elim (before_or_last number place (omega arith)) [
      | inl later ↦ inr (omega arith)
      | inr here ↦ inl here
    ]

pub numbering_registers : (graph : KeyedGraph) (all : List ℕ) → IsNumbering graph all → All (HasNumber all) graph.registers
numbering_registers graph all numbering = λ index default within. number_stays numbering.roots all _ (grows_within (walk_grows numbering.objects)) (all_numbered numbering.registers index default within)

pub numbering_fields : (graph : KeyedGraph) (all : List ℕ) (place key : ℕ) → IsNumbering graph all → slice_get all place ≡ Some key → All (HasNumber all) (fields_of graph key)
numbering_fields graph all place key numbering at = walk_numbers numbering.objects place key (omega arith) at

-- One numbering

chain_end : {graph : KeyedGraph} {keys : List ℕ} {key : ℕ} {other : List ℕ} → Chained graph keys key other → next_cons (keys ++ key ∷ []) (graph.field key 1) ≡ None → keys ++ key ∷ [] ≡ other
chain_end (ends keys key last) is = refl
chain_end (goes keys key next all later rest) is = absurd (cc (later, is))

chain_next : {graph : KeyedGraph} {keys : List ℕ} {key : ℕ} {other : List ℕ} (next : ℕ) → Chained graph keys key other → next_cons (keys ++ key ∷ []) (graph.field key 1) ≡ Some next
    → Chained graph (keys ++ key ∷ []) next other
chain_next next (ends keys key last) is = absurd (cc (last, is))
chain_next {graph} next (goes keys key there all later rest) is =
    let e : there ≡ next = cc (later, is) in
    subst (λ (k : ℕ). Chained graph (keys ++ key ∷ []) k all) e rest

chain_one : {graph : KeyedGraph} {keys : List ℕ} {key : ℕ} {this other : List ℕ} → Chained graph keys key this → Chained graph keys key other → this ≡ other
chain_one (ends keys key last) other = chain_end other last
chain_one (goes keys key next all later rest) other = chain_one rest (chain_next next other later)

visit_one : (graph : KeyedGraph) (keys this other : List ℕ) (value : Seen) → Visited graph keys value this → Visited graph keys value other → this ≡ other
visit_one graph keys this other (Fix number) first second = first ∙ sym second
visit_one graph keys this other Nil first second = first ∙ sym second
visit_one graph keys this other (Cons key) (inl old) (inl again) = old.1 ∙ sym again.1
visit_one graph keys this other (Cons key) (inl old) (inr new) = absurd (cc (old.0, new.0))
visit_one graph keys this other (Cons key) (inr new) (inl old) = absurd (cc (old.0, new.0))
visit_one graph keys this other (Cons key) (inr new) (inr again) = chain_one new.1 again.1
visit_one graph keys this other (Block key) (inl old) (inl again) = old.1 ∙ sym again.1
visit_one graph keys this other (Block key) (inl old) (inr new) = absurd (cc (old.0, new.0))
visit_one graph keys this other (Block key) (inr new) (inl old) = absurd (cc (old.0, new.0))
visit_one graph keys this other (Block key) (inr new) (inr again) = new.1 ∙ sym again.1

all_end : {graph : KeyedGraph} {keys other : List ℕ} → AllVisited graph keys [] other → keys ≡ other
all_end (none keys) = refl

all_next : {graph : KeyedGraph} {keys other : List ℕ} {value : Seen} {values : List Seen} → AllVisited graph keys (value ∷ values) other
    → (middle : List ℕ) × Visited graph keys value middle × AllVisited graph middle values other
all_next (more keys middle all value values one rest) = (middle, one, rest)

all_one : {graph : KeyedGraph} {keys : List ℕ} {values : List Seen} {this other : List ℕ} → AllVisited graph keys values this → AllVisited graph keys values other → this ≡ other
all_one (none keys) other = all_end other
all_one {graph} {keys} {values} {this} {other} (more first middle all value others one rest) second =
    let next = all_next second in
    let e : middle ≡ next.0 = visit_one graph first middle next.0 value one next.1 in
    all_one rest (subst (λ (l : List ℕ). AllVisited graph l others other) (sym e) next.2)

walk_end : {graph : KeyedGraph} {keys : List ℕ} {number : ℕ} {other : List ℕ} → Walked graph keys number other → length keys ≤ number → keys ≡ other
walk_end (done keys number past) is = refl
walk_end (step keys middle all number key at one rest) is = absurd (omega (arith, slice_get_within keys number key at))

walk_next : {graph : KeyedGraph} {keys : List ℕ} {number : ℕ} {other : List ℕ} (key : ℕ) → Walked graph keys number other → slice_get keys number ≡ Some key
    → (middle : List ℕ) × AllVisited graph keys (fields_of graph key) middle × Walked graph middle (number + 1) other
walk_next key (done keys number past) is = absurd (omega (arith, slice_get_within keys number key is))
walk_next {graph} key (step keys middle all number there at one rest) is =
    let e : there ≡ key = cc (at, is) in
    (middle, subst (λ (k : ℕ). AllVisited graph keys (fields_of graph k) middle) e one, rest)

walk_one : {graph : KeyedGraph} {keys : List ℕ} {number : ℕ} {this other : List ℕ} → Walked graph keys number this → Walked graph keys number other → this ≡ other
walk_one (done keys number past) other = walk_end other past
walk_one {graph} {keys} {number} {this} {other} (step first middle all place key at one rest) second =
    let next = walk_next key second at in
    let e : middle ≡ next.0 = all_one one next.1 in
    walk_one rest (subst (λ (l : List ℕ). Walked graph l (place + 1) other) (sym e) next.2)

pub numbering_one : (graph : KeyedGraph) (this other : List ℕ) → IsNumbering graph this → IsNumbering graph other → this ≡ other
numbering_one graph this other first second =
    let e : first.roots ≡ second.roots = all_one first.registers second.registers in
    walk_one first.objects (subst (λ (l : List ℕ). Walked graph l 0 other) (sym e) second.objects)
