-- Keys that get numbers.
use Rattle.std.proofs.Common.{◌≡◌, ℕ, ◌+◌, List, [], ◌∷◌, ◌++◌, take, subst, Bool, true, map, Some, None, refl, ap, sym, ◌∙◌}
use Rattle.std.specs.Prelude.{slice_get, false, if◌then◌else◌}
use Rattle.std.proofs.lemmas.List.{map-append, map_more}
use Rattle.std.proofs.lemmas.List.Elements.{All-more, All-push}
use Rattle.std.specs.List.{All}
use Rattle.std.proofs.lemmas.Option.{get_or_from_slice_get, slice_get_within}
use Rattle.lisp_graph.specs.KeyedGraph.{KeyedGraph, Shows}
use Rattle.lisp_graph.specs.declared.walk.Seen.{Seen}
use Rattle.lisp_graph.specs.declared.walk.Seen.TheVariants.{Fix, Nil, Cons, Block}
use Rattle.world_text.specs.declared.writing.numbering.Numbering.{Numbering}
use Rattle.world_text.specs.writing.Numbering.{Chained, IsKnown, ends, goes, is_numbered, next_cons, seen_as}

shown_kind : (graph : KeyedGraph) (cons : Bool) (key : ℕ) → Shows graph (seen_as cons key) → graph.cons key ≡ cons
shown_kind graph true key shows = shows.3
shown_kind graph false key shows = shows.1

-- The cons to which a value refers, if it has no number

pub next_shows : (graph : KeyedGraph) (keys : List ℕ) (value : Seen) (next : ℕ) → next_cons keys value ≡ Some next → Shows graph value → Shows graph (Cons next)
next_shows graph keys (Fix n) next is shows = absurd (cc)
next_shows graph keys Nil next is shows = absurd (cc)
next_shows graph keys (Block key) next is shows = absurd (cc)
next_shows graph keys (Cons key) next is shows = shown_of graph key next (is_numbered keys key) is shows
  where
    shown_of : (graph : KeyedGraph) (key next : ℕ) (b : Bool) → (if b then None else Some key) ≡ Some next → Shows graph (Cons key) → Shows graph (Cons next)
    shown_of graph key next true is shows = absurd (cc)
    shown_of graph key next false is shows = let e : key ≡ next = cc in let P : ℕ → Type 0 = λ k. Shows graph (Cons k) in subst P e shows

pub next_fresh : (keys : List ℕ) (value : Seen) (next : ℕ) → next_cons keys value ≡ Some next → is_numbered keys next ≡ false
next_fresh keys (Fix n) next is = absurd (cc)
next_fresh keys Nil next is = absurd (cc)
next_fresh keys (Block key) next is = absurd (cc)
next_fresh keys (Cons key) next is = fresh_of keys key next (is_numbered keys key) refl is
  where
    fresh_of : (keys : List ℕ) (key next : ℕ) (b : Bool) → is_numbered keys key ≡ b → (if b then None else Some key) ≡ Some next → is_numbered keys next ≡ false
    fresh_of keys key next true numbered is = absurd (cc)
    fresh_of keys key next false numbered is = let e : key ≡ next = cc in let P : ℕ → Type 0 = λ k. is_numbered keys k ≡ false in subst P e numbered

-- The first and the last step of each loop. The walk shows the same graph at each moment.

pub chain_ends : (now graph : KeyedGraph) (keys had start : List ℕ) (key first : ℕ) (cdr : Seen)
    → now ≡ graph → had ≡ keys ++ key ∷ [] → cdr ≡ now.field key 1 → next_cons had cdr ≡ None
    → ((all : List ℕ) → Chained graph keys key all → Chained graph start first all) → Chained graph start first had
chain_ends now graph keys had start key first cdr same pushed is last so_far =
    let v : cdr ≡ graph.field key 1 = is ∙ ap (λ (g : KeyedGraph). g.field key 1) same in
    let e : next_cons (keys ++ key ∷ []) (graph.field key 1) ≡ None = ap (λ (ks : List ℕ). next_cons ks (graph.field key 1)) (sym pushed) ∙ ap (next_cons had) (sym v) ∙ last in
    so_far had (rw pushed (ends keys key e))

pub chain_goes : (now graph : KeyedGraph) (keys had start : List ℕ) (key first next : ℕ) (cdr : Seen)
    → now ≡ graph → had ≡ keys ++ key ∷ [] → cdr ≡ now.field key 1 → next_cons had cdr ≡ Some next
    → ((all : List ℕ) → Chained graph keys key all → Chained graph start first all) → (all : List ℕ) → Chained graph had next all → Chained graph start first all
chain_goes now graph keys had start key first next cdr same pushed is later so_far all rest =
    let v : cdr ≡ graph.field key 1 = is ∙ ap (λ (g : KeyedGraph). g.field key 1) same in
    let e : next_cons (keys ++ key ∷ []) (graph.field key 1) ≡ Some next = ap (λ (ks : List ℕ). next_cons ks (graph.field key 1)) (sym pushed) ∙ ap (next_cons had) (sym v) ∙ later in
    let P : List ℕ → Type 0 = λ ks. Chained graph ks next all in
    so_far all (goes keys key next all e (subst P pushed rest))

pub known_same : (now graph : KeyedGraph) (numbering : Numbering) → now ≡ graph → IsKnown now numbering → IsKnown graph numbering
known_same now graph numbering same known = let P : KeyedGraph → Type 0 = λ g. IsKnown g numbering in subst P same known

-- one more object, of the given kind
pub known_more : (graph : KeyedGraph) (old new : Numbering) (key : ℕ) (cons : Bool) → IsKnown graph old → Shows graph (seen_as cons key)
    → new.keys ≡ old.keys ++ key ∷ [] → new.conses ≡ old.conses ++ cons ∷ [] → IsKnown graph new
known_more graph old new key cons known shows keys conses =
    let kind = shown_kind graph cons key shows in
    let P : ℕ → Type 0 = λ k. Shows graph (seen_as (graph.cons k) k) in
    let one : map graph.cons (key ∷ []) ≡ cons ∷ [] = ap (λ b. b ∷ []) kind in
    record {
      all = rw keys (All-push P old.keys key known.all (rw kind shows));
      conses = conses ∙ ap (λ (kinds : List Bool). kinds ++ cons ∷ []) known.conses ∙ ap (λ (kinds : List Bool). map graph.cons old.keys ++ kinds) (sym one) ∙ sym (map-append graph.cons old.keys (key ∷ [])) ∙ ap (map graph.cons) (sym keys);
    }

-- the objects with these keys are shown
abbrev pub AreKnown : KeyedGraph → List ℕ → Type 0
AreKnown graph keys = All (λ key. Shows graph (seen_as (graph.cons key) key)) keys

pub one_more_known : (graph : KeyedGraph) (keys : List ℕ) (key : ℕ) (cons : Bool) → AreKnown graph keys → Shows graph (seen_as cons key) → AreKnown graph (keys ++ key ∷ [])
one_more_known graph keys key cons known shows =
    let kind = shown_kind graph cons key shows in
    All-push (λ k. Shows graph (seen_as (graph.cons k) k)) keys key known (rw kind shows)

-- What is read

-- one item more of a list is read
pub item_read : {X Y : Type 0} (f : X → Y) (items : List X) (number : ℕ) (item : X) (old new : List Y)
    → slice_get items number ≡ Some item → old ≡ map f (take number items) → new ≡ old ++ f item ∷ [] → new ≡ map f (take (number + 1) items)
item_read f items number item old new is so_far pushed =
    let e = get_or_from_slice_get items number item item is in
    let one = map_more f items number item (slice_get_within items number item is) in
    pushed ∙ ap (λ (all : List _). all ++ f item ∷ []) so_far ∙ ap (λ x. map f (take number items) ++ f x ∷ []) (sym e) ∙ sym one

-- What is read is shown as it is

-- one item more of a list is shown
pub item_shows : {X : Type 0} (P : X → Type 0) (items : List X) (number : ℕ) (item : X) → slice_get items number ≡ Some item → All P (take number items) → P item → All P (take (number + 1) items)
item_shows P items number item at so_far shows =
    All-more P items number item (slice_get_within items number item at) so_far (subst P (sym (get_or_from_slice_get items number item item at)) shows)
