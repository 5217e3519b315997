-- What is kept of a walk.
use Rattle.std.proofs.Common.{◌≡◌, ℕ, zero, suc, ◌+◌, ◌<◌, ◌≤◌, ◌^◌, List, [], ◌∷◌, ◌++◌, drop, length, take, get_or, Bool, true, false, map, Option, Some, None, refl, ap, sym, ◌∙◌, subst, inl, inr, arith}
use Rattle.std.specs.Prelude.{slice_get, if◌then◌else◌}
use Rattle.std.specs.List.{All}
use Rattle.std.proofs.lemmas.List.{drop-append-le, drop-drop, get_or-drop, length-append, length-drop, length-map, map-append, take-append-le, take_all, take_more}
use Rattle.std.proofs.lemmas.List.Elements.{All-nil, All-push, All-get_or, All-tail}
use Rattle.std.proofs.lemmas.Option.{get_or_from_slice_get, slice_get_within}
use Rattle.lisp_graph.specs.Graph.{value_at}
use Rattle.lisp_graph.specs.KeyedGraph.{KeyedGraph, Shows, cons_at}
use Rattle.lisp_graph.specs.declared.object.Value.{Value}
use Rattle.lisp_graph.specs.declared.object.Value.TheVariants.{Ref}
use Rattle.lisp_graph.specs.declared.object.Body.{Body}
use Rattle.lisp_graph.specs.declared.object.Body.TheVariants as B
use Rattle.lisp_graph.specs.declared.object.Object.{Object}
use Rattle.lisp_graph.specs.declared.walk.Form.{Form}
use Rattle.lisp_graph.specs.declared.walk.Seen.{Seen}
use Rattle.lisp_graph.specs.declared.walk.Seen.TheVariants.{Cons, Block}
use Rattle.lisp_graph.specs.declared.walk.SeenCons.{SeenCons}
use Rattle.world_text.specs.declared.writing.visit.VisitedObjects.{VisitedObjects}
use Rattle.store_word.specs.declared.space.Space.{Space}
use Rattle.lisp_graph.specs.declared.world.AreaRule.{AreaRule}
use Rattle.world_text.specs.writing.File.{file_text}
use Rattle.world_text.specs.writing.Dump.{IsDump, dumped_body, dumped_object, dumped_value, reference}
use Rattle.world_text.specs.writing.Numbering.{AllVisited, Chained, Visited, Walked, done, fields_from, fields_of, is_numbered, more, none, seen_as, step}
use Rattle.world_text.specs.writing.Visits.{AreDumped, AreVisited, AreVisits, Grows, IsDumped, IsVisit, IsWalk, ShowsParts, kept_of}
use Rattle.world_text.proofs.reading_laws.AreaLaws.{get_front}
use Rattle.world_text.proofs.writing_laws.Visits.{AreKnown, item_read, item_shows, one_more_known}
use Rattle.world_text.proofs.writing_laws.Numbers.{all_grow, grows_none, grows_twice, number_chained, number_next, number_of, number_stays, numbered_some, visit_grows, walk_grows}

-- The walk shows the same graph at each moment.

-- An object gets a number

-- one more object, with what is kept of it
pub visits_more : (graph : KeyedGraph) (old new : VisitedObjects) (key : ℕ) (cons : Bool) (kept : Option SeenCons) → AreVisits graph old → Shows graph (seen_as cons key) → ShowsParts graph kept → kept ≡ kept_of graph key
    → new.keys ≡ old.keys ++ key ∷ [] → new.waiting ≡ old.waiting ++ kept ∷ [] → new.taken ≡ old.taken → AreVisits graph new
visits_more graph old new key cons kept visits shows shown is keys waiting same =
    let had = map (kept_of graph) old.keys in
    let long : old.taken ≤ length had = omega (arith, visits.within, length-map old.keys (kept_of graph)) in record {
      known = subst (AreKnown graph) (sym keys) (one_more_known graph old.keys key cons visits.known shows);
      within = omega (arith, ap length keys, length-append old.keys (key ∷ []), visits.within, same);
      waiting = waiting ∙ ap (λ (l : List (Option SeenCons)). l ++ kept ∷ []) visits.waiting ∙ sym (drop-append-le old.taken had (kept ∷ []) long) ∙ ap (λ (x : Option SeenCons). drop old.taken (had ++ x ∷ [])) is
          ∙ ap (drop old.taken) (sym (map-append (kept_of graph) old.keys (key ∷ []))) ∙ ap (λ (l : List ℕ). drop old.taken (map (kept_of graph) l)) (sym keys)
          ∙ ap (λ (n : ℕ). drop n (map (kept_of graph) new.keys)) (sym same);
      shown = subst (All (ShowsParts graph)) (sym waiting) (All-push (ShowsParts graph) old.waiting kept visits.shown shown);
    }

-- a cons is kept as it is shown, and of a block nothing
pub kept_of_cons : (graph : KeyedGraph) (key : ℕ) → graph.cons key ≡ true → kept_of graph key ≡ Some (cons_at graph key)
kept_of_cons graph key cons = ap (λ (b : Bool). if b then Some (cons_at graph key) else None) cons

pub kept_of_block : (graph : KeyedGraph) (key : ℕ) → graph.cons key ≡ false → kept_of graph key ≡ None
kept_of_block graph key block = ap (λ (b : Bool). if b then Some (cons_at graph key) else None) block

-- one more cons
pub cons_more : (now graph : KeyedGraph) (old new : VisitedObjects) (key : ℕ) (cons : SeenCons) → now ≡ graph → AreVisits graph old → Shows graph (Cons key) → cons ≡ cons_at now key
    → Shows now cons.car → Shows now cons.cdr → new.keys ≡ old.keys ++ key ∷ [] → new.waiting ≡ old.waiting ++ Some cons ∷ [] → new.taken ≡ old.taken → AreVisits graph new
cons_more now graph old new key cons one visits shows is car cdr keys waiting same =
    let parts : ShowsParts graph (Some cons) = subst (λ (g : KeyedGraph). ShowsParts g (Some cons)) one (car, cdr) in
    let kept : Some cons ≡ kept_of graph key = ap Some (is ∙ ap (λ (g : KeyedGraph). cons_at g key) one) ∙ sym (kept_of_cons graph key shows.3) in
    visits_more graph old new key true (Some cons) visits shows parts kept keys waiting same

-- An object is taken

map_at : {X Y : Type 0} (f : X → Y) (items : List X) (number : ℕ) (item : X) → slice_get items number ≡ Some item → slice_get (map f items) number ≡ Some (f item)
map_at f [] number item is = absurd (cc (is))
map_at f (x ∷ items) zero item is = let e : x ≡ item = cc (is) in ap (λ o. Some (f o)) e
map_at f (x ∷ items) (suc number) item is = map_at f items number item is

-- what is kept of the object with this number
pub first_kept : (graph : KeyedGraph) (visits : VisitedObjects) (number key : ℕ) (first : Option SeenCons) (rest : List (Option SeenCons)) → AreVisits graph visits → visits.taken ≡ number
    → slice_get visits.keys number ≡ Some key → visits.waiting ≡ first ∷ rest → first ≡ kept_of graph key
first_kept graph visits number key first rest are turn at is =
    let kept = map (kept_of graph) visits.keys in
    let place : visits.taken + 0 ≡ number = omega (arith, turn) in
    let front : List (Option SeenCons) → Option SeenCons = λ (l : List (Option SeenCons)). get_or l 0 None in
    ap front (sym is) ∙ ap front are.waiting ∙ get_or-drop visits.taken kept 0 None ∙ ap (λ (n : ℕ). get_or kept n None) place
    ∙ get_or_from_slice_get kept number (kept_of graph key) None (map_at (kept_of graph) visits.keys number key at)

-- it is a cons if and only if one is kept
pub kept_cons : (graph : KeyedGraph) (key : ℕ) (cons : SeenCons) → Some cons ≡ kept_of graph key → (graph.cons key ≡ true) × (cons ≡ cons_at graph key)
kept_cons graph key cons is = of_test (graph.cons key) is
  where
    of_test : (b : Bool) → Some cons ≡ (if b then Some (cons_at graph key) else None) → (b ≡ true) × (cons ≡ cons_at graph key)
    of_test true same = (refl, cc (same))
    of_test false same = absurd (cc (same))

pub kept_block : (graph : KeyedGraph) (key : ℕ) → None ≡ kept_of graph key → graph.cons key ≡ false
kept_block graph key is = of_test (graph.cons key) is
  where
    of_test : (b : Bool) → None ≡ (if b then Some (cons_at graph key) else None) → b ≡ false
    of_test true same = absurd (cc (same))
    of_test false same = refl

-- the object with this number is shown
pub first_shown : (graph : KeyedGraph) (visits : VisitedObjects) (number key : ℕ) (cons : Bool) → AreVisits graph visits → slice_get visits.keys number ≡ Some key → graph.cons key ≡ cons → Shows graph (seen_as cons key)
first_shown graph visits number key cons are at is =
    let P : ℕ → Type 0 = λ k. Shows graph (seen_as (graph.cons k) k) in
    let there = subst P (get_or_from_slice_get visits.keys number key 0 at) (All-get_or P visits.keys number 0 (slice_get_within visits.keys number key at) are.known) in
    subst (λ (b : Bool). Shows graph (seen_as b key)) is there

-- those after it wait
pub first_taken : (graph : KeyedGraph) (old new : VisitedObjects) (first : Option SeenCons) → AreVisits graph old → old.waiting ≡ first ∷ new.waiting → new.taken ≡ old.taken + 1 → new.keys ≡ old.keys → AreVisits graph new
first_taken graph old new first are is turn same =
    let kept = map (kept_of graph) old.keys in record {
      known = subst (AreKnown graph) (sym same) are.known;
      within = omega (arith, ap length is, ap length are.waiting, length-drop old.taken kept, length-map old.keys (kept_of graph), turn, ap length same);
      waiting = ap (drop 1) (sym is) ∙ ap (drop 1) are.waiting ∙ drop-drop 1 old.taken kept ∙ ap (λ (n : ℕ). drop n kept) (sym turn)
          ∙ ap (λ (l : List ℕ). drop new.taken (map (kept_of graph) l)) (sym same);
      shown = All-tail (ShowsParts graph) first new.waiting (subst (All (ShowsParts graph)) is are.shown);
    }

-- A value is visited

pub cons_before : (graph : KeyedGraph) (visits : VisitedObjects) (key number : ℕ) → AreVisits graph visits → number_of visits.keys key ≡ Some number → IsVisit graph (Cons key) visits visits (Ref number)
cons_before graph visits key number are is = record {
  visited = inl (numbered_some visits.keys key number is, refl);
  visits = are;
  same = refl;
  is = λ all grows. sym (ap reference (number_stays key number grows is));
}

pub cons_now : (graph : KeyedGraph) (old new : VisitedObjects) (key : ℕ) → is_numbered old.keys key ≡ false → Chained graph old.keys key new.keys → AreVisits graph new
    → new.taken ≡ old.taken → IsVisit graph (Cons key) old new (Ref (length old.keys))
cons_now graph old new key fresh chained are same = record {
  visited = inr (fresh, chained);
  visits = are;
  same = same;
  is = λ all grows. sym (ap reference (number_chained old.keys key chained grows fresh));
}

pub block_before : (graph : KeyedGraph) (visits : VisitedObjects) (key number : ℕ) → AreVisits graph visits → number_of visits.keys key ≡ Some number → IsVisit graph (Block key) visits visits (Ref number)
block_before graph visits key number are is = record {
  visited = inl (numbered_some visits.keys key number is, refl);
  visits = are;
  same = refl;
  is = λ all grows. sym (ap reference (number_stays key number grows is));
}

pub block_now : (graph : KeyedGraph) (old new : VisitedObjects) (key : ℕ) → is_numbered old.keys key ≡ false → AreVisits graph old → Shows graph (Block key)
    → new.keys ≡ old.keys ++ key ∷ [] → new.waiting ≡ old.waiting ++ None ∷ []
    → new.taken ≡ old.taken → IsVisit graph (Block key) old new (Ref (length old.keys))
block_now graph old new key fresh are shows keys waiting same = record {
  visited = inr (fresh, keys);
  visits = visits_more graph old new key false None are shows tt (sym (kept_of_block graph key shows.1)) keys waiting same;
  same = same;
  is = λ all grows. sym (ap reference (number_next old.keys key (subst (λ (l : List ℕ). Grows l all) keys grows) fresh));
}

pub visit_same : {now graph : KeyedGraph} {seen : Seen} {old new : VisitedObjects} {value : Value} → now ≡ graph → IsVisit now seen old new value → IsVisit graph seen old new value
visit_same {now} {graph} {seen} {old} {new} {value} same visit = subst (λ (g : KeyedGraph). IsVisit g seen old new value) same visit

-- Values are visited

visited_last : {graph : KeyedGraph} {keys middle : List ℕ} {values : List Seen} (last : List ℕ) (value : Seen) → AllVisited graph keys values middle → Visited graph middle value last → AllVisited graph keys (values ++ value ∷ []) last
visited_last last value (none keys) visited = more keys last last value [] visited (none last)
visited_last last value (more keys next middle first values one rest) visited = more keys next last first (values ++ value ∷ []) one (visited_last last value rest visited)

pub visited_none : (graph : KeyedGraph) (visits : VisitedObjects) → AreVisits graph visits → AreVisited graph [] visits visits []
visited_none graph visits are = record {
  visited = none visits.keys;
  visits = are;
  same = refl;
  shown = All-nil (Shows graph);
  is = λ all grows. refl;
}

pub visited_more : (graph : KeyedGraph) (seen : List Seen) (old middle new : VisitedObjects) (values : List Value) (one : Seen) (value : Value) → AreVisited graph seen old middle values
    → IsVisit graph one middle new value → Shows graph one → AreVisited graph (seen ++ one ∷ []) old new (values ++ value ∷ [])
visited_more graph seen old middle new values one value before now shows = record {
  visited = visited_last new.keys one before.visited now.visited;
  visits = now.visits;
  same = now.same ∙ before.same;
  shown = All-push (Shows graph) seen one before.shown shows;
  is = λ all grows.
      ap (λ (l : List Value). l ++ value ∷ []) (before.is all (grows_twice (visit_grows graph middle.keys new.keys one now.visited) grows))
      ∙ ap (λ (v : Value). map (dumped_value all) seen ++ v ∷ []) (now.is all grows) ∙ sym (map-append (dumped_value all) seen (one ∷ []));
}

-- one more of these
pub visited_next : (first second graph : KeyedGraph) (items : List Seen) (old middle new : VisitedObjects) (values pushed : List Value) (count : ℕ) (one : Seen) (value : Value)
    → first ≡ graph → second ≡ graph → slice_get items count ≡ Some one → AreVisited graph (take count items) old middle values
    → IsVisit second one middle new value → Shows first one → pushed ≡ values ++ value ∷ [] → AreVisited graph (take (count + 1) items) old new pushed
visited_next first second graph items old middle new values pushed count one value same_first same_second at before visit shows is =
    let now = visit_same same_second visit in
    let shown = subst (λ (g : KeyedGraph). Shows g one) same_first shows in
    let front : take (count + 1) items ≡ take count items ++ one ∷ [] =
    take_more items count one (slice_get_within items count one at) ∙ ap (λ (x : Seen). take count items ++ x ∷ []) (get_or_from_slice_get items count one one at) in
    let all = visited_more graph (take count items) old middle new values one value before now shown in
    subst (λ (l : List Value). AreVisited graph (take (count + 1) items) old new l) (sym is) (subst (λ (l : List Seen). AreVisited graph l old new (values ++ value ∷ [])) (sym front) all)

-- all of them
pub visited_whole : (graph : KeyedGraph) (items : List Seen) (old new : VisitedObjects) (values : List Value) (count : ℕ) → length items ≤ count
    → AreVisited graph (take count items) old new values → AreVisited graph items old new values
visited_whole graph items old new values count long visited = subst (λ (l : List Seen). AreVisited graph l old new values) (take_all count items long) visited

pub visited_long : {graph : KeyedGraph} {seen : List Seen} {old new : VisitedObjects} {values : List Value} → AreVisited graph seen old new values → length values ≡ length seen
visited_long {graph} {seen} {old} {new} visited =
    ap length (visited.is new.keys (grows_none new.keys)) ∙ length-map seen (dumped_value new.keys)

-- The fields of an object

from_long : (graph : KeyedGraph) (key index left : ℕ) → length (fields_from graph key index left) ≡ left
from_long graph key index zero = refl
from_long graph key index (suc left) = ap suc (from_long graph key (index + 1) left)

from_at : (graph : KeyedGraph) (key index left place : ℕ) → place < left → slice_get (fields_from graph key index left) place ≡ Some (graph.field key (index + place))
from_at graph key index zero place within = absurd (omega arith)
from_at graph key index (suc left) zero within = let e : index ≡ index + 0 = omega arith in ap (λ (i : ℕ). Some (graph.field key i)) e
from_at graph key index (suc left) (suc place) within =
    let e : index + 1 + place ≡ index + suc place = omega arith in
    from_at graph key (index + 1) left place (omega arith) ∙ ap (λ (i : ℕ). Some (graph.field key i)) e

pub fields_long : (graph : KeyedGraph) (key : ℕ) → length (fields_of graph key) ≡ (graph.form key).length
fields_long graph key = from_long graph key 0 (graph.form key).length

-- the field that a walk shows
pub field_at : (now graph : KeyedGraph) (key index : ℕ) (field : Seen) → now ≡ graph → index < (graph.form key).length → field ≡ now.field key index → slice_get (fields_of graph key) index ≡ Some field
field_at now graph key index field same within is =
    let e : 0 + index ≡ index = omega arith in
    from_at graph key 0 (graph.form key).length index within ∙ ap (λ (i : ℕ). Some (graph.field key i)) e ∙ ap Some (sym (is ∙ ap (λ (g : KeyedGraph). g.field key index) same))

-- of a cons the car, then the cdr
pub cons_fields : (graph : KeyedGraph) (key : ℕ) → (graph.form key).length ≡ 2 → fields_of graph key ≡ graph.field key 0 ∷ graph.field key 1 ∷ []
cons_fields graph key two = ap (fields_from graph key 0) two

-- An object is visited

pub is_block : (now graph : KeyedGraph) (key : ℕ) (form : Form) (old new : VisitedObjects) (fields : List Value) → now ≡ graph → graph.cons key ≡ false → form ≡ graph.form key
    → AreVisited now (fields_of now key) old new fields → IsDumped graph key old new (record { area = form.area; charge = form.charge; body = B.Block form.code fields })
is_block now graph key form old new fields same block is shown =
    let visited = subst (λ (g : KeyedGraph). AreVisited g (fields_of g key) old new fields) same shown in record {
      visited = visited.visited;
      visits = visited.visits;
      shown = visited.shown;
      is = λ all grows.
          let one : Form → List Value → Object = λ (f : Form) (l : List Value). record { area = f.area; charge = f.charge; body = B.Block f.code l } in
          ap (λ (f : Form). one f fields) is ∙ ap (one (graph.form key)) (visited.is all grows)
          ∙ sym (ap (λ (b : Bool). record { area = (graph.form key).area; charge = (graph.form key).charge; body = dumped_body b (graph.form key).code (map (dumped_value all) (fields_of graph key)) }) block);
    }

pub is_cons : (graph : KeyedGraph) (key : ℕ) (old middle new : VisitedObjects) (cons : SeenCons) (first second : Value) → AreVisits graph old → Shows graph (Cons key)
    → cons ≡ cons_at graph key → ShowsParts graph (Some cons) → IsVisit graph cons.car old middle first → IsVisit graph cons.cdr middle new second
    → IsDumped graph key old new (record { area = cons.area; charge = cons.charge; body = B.Cons first second })
is_cons graph key old middle new cons first second are shows is parts one two =
    let both = visited_more graph (cons.car ∷ []) old middle new (first ∷ []) cons.cdr second (visited_more graph [] old old middle [] cons.car first (visited_none graph old are) one parts.0) two parts.1 in
    let fields : cons.car ∷ cons.cdr ∷ [] ≡ fields_of graph key = ap (λ (x : SeenCons). x.car ∷ x.cdr ∷ []) is ∙ sym (cons_fields graph key shows.1) in
    let visited = subst (λ (l : List Seen). AreVisited graph l old new (first ∷ second ∷ [])) fields both in record {
      visited = visited.visited;
      visits = visited.visits;
      shown = visited.shown;
      is = λ all grows.
          let object : SeenCons → Body → Object = λ (x : SeenCons) (b : Body). record { area = x.area; charge = x.charge; body = b } in
          ap (λ (x : SeenCons). object x (B.Cons first second)) is
          ∙ ap (λ (l : List Value). object (cons_at graph key) (B.Cons (value_at l 0) (value_at l 1))) (visited.is all grows)
          ∙ sym (ap (λ (b : Bool). object (cons_at graph key) (dumped_body b (graph.form key).code (map (dumped_value all) (fields_of graph key)))) shows.3);
    }

-- Objects are visited

-- the first `number` of the objects that have numbers are visited
pub record AreFirst (graph : KeyedGraph) (old now : VisitedObjects) (number : ℕ) (objects : List Object) : Type 0 where
  pub visits : AreVisits graph now
  pub shown : All (λ key. All (Shows graph) (fields_of graph key)) (take number now.keys)
  pub is : (all : List ℕ) → Grows now.keys all → objects ≡ map (dumped_object graph all) (take number now.keys)
  pub goes : (all : List ℕ) → Walked graph now.keys number all → Walked graph old.keys 0 all

pub first_none : (graph : KeyedGraph) (visits : VisitedObjects) → AreVisits graph visits → AreFirst graph visits visits 0 []
first_none graph visits are = record {
  visits = are;
  shown = All-nil (λ key. All (Shows graph) (fields_of graph key));
  is = λ all grows. refl;
  goes = λ all rest. rest;
}

pub first_next : (walked graph : KeyedGraph) (start old new : VisitedObjects) (number key : ℕ) (objects pushed : List Object) (object : Object) → walked ≡ graph → slice_get old.keys number ≡ Some key
    → AreFirst graph start old number objects → IsDumped walked key old new object → pushed ≡ objects ++ object ∷ [] → AreFirst graph start new (number + 1) pushed
first_next walked graph start old new number key objects pushed object same at before visited is =
    let now = subst (λ (g : KeyedGraph). IsDumped g key old new object) same visited in
    let grows = all_grow now.visited in
    let within = slice_get_within old.keys number key at in
    let kept : take number new.keys ≡ take number old.keys =
    ap (take number) grows.is ∙ take-append-le number old.keys grows.later (omega (arith, within)) in
    let there : slice_get new.keys number ≡ Some key =
    ap (λ (l : List ℕ). slice_get l number) grows.is ∙ get_front old.keys grows.later number within ∙ at in
    let P : ℕ → Type 0 = λ k. All (Shows graph) (fields_of graph k) in record {
      visits = now.visits;
      shown = item_shows P new.keys number key there (subst (All P) (sym kept) before.shown) now.shown;
      is = λ all later.
          item_read (dumped_object graph all) new.keys number key objects pushed there
          (before.is all (grows_twice grows later) ∙ ap (map (dumped_object graph all)) (sym kept)) (is ∙ ap (λ (o : Object). objects ++ o ∷ []) (now.is all later));
      goes = λ all rest. before.goes all (step old.keys new.keys all number key at now.visited rest);
    }

pub first_whole : (graph : KeyedGraph) (old now : VisitedObjects) (number : ℕ) (objects : List Object) → length now.keys ≤ number → AreFirst graph old now number objects → AreDumped graph old now objects
first_whole graph old now number objects past first =
    let whole = take_all number now.keys past in record {
      visited = first.goes now.keys (done now.keys number past);
      visits = first.visits;
      shown = subst (All (λ key. All (Shows graph) (fields_of graph key))) whole first.shown;
      is = first.is now.keys (grows_none now.keys) ∙ ap (map (dumped_object graph now.keys)) whole;
    }

-- The registers are visited, and then the objects

pub is_walk : (walked graph : KeyedGraph) (empty middle last : VisitedObjects) (registers : List Value) (objects : List Object) → walked ≡ graph → empty.keys ≡ []
    → AreVisited graph graph.registers empty middle registers → AreDumped walked middle last objects → IsWalk graph last.keys objects registers
is_walk walked graph empty middle last registers objects same none_yet visited dumped =
    let now = subst (λ (g : KeyedGraph). AreDumped g middle last objects) same dumped in record {
      numbering = record {
        roots = middle.keys;
        registers = subst (λ (l : List ℕ). AllVisited graph l graph.registers middle.keys) none_yet visited.visited;
        objects = now.visited;
      };
      known = now.visits.known;
      objects_are = now.is;
      registers_are = visited.is last.keys (walk_grows now.visited);
      fields_shown = now.shown;
      registers_shown = visited.shown;
    }

pub is_dump : (graph : KeyedGraph) (space : Space) (areas : List AreaRule) (keys : List ℕ) (objects : List Object) (registers : List Value) (text : List ℕ) → length keys < 2 ^ 32
    → IsWalk graph keys objects registers → text ≡ file_text space areas objects registers → IsDump graph space areas text
is_dump graph space areas keys objects registers text few walk is = record {
  keys = keys;
  numbering = walk.numbering;
  shown = record { objects = walk.known; registers = walk.registers_shown; fields = walk.fields_shown };
  few = few;
  is = is ∙ ap (λ (o : List Object). file_text space areas o registers) walk.objects_are
      ∙ ap (file_text space areas (map (dumped_object graph keys) keys)) walk.registers_are;
}
