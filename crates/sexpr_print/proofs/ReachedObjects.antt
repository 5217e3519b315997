-- The objects that the registers reach, value by value.
use Rattle.std.proofs.Common.{◌≡◌, ℕ, ◌+◌, ◌<◌, refl, sym, ◌∙◌, ap, subst, List, [], ◌∷◌, ◌++◌, length, map, take, get_or, append_assoc, length-append}
use Rattle.std.proofs.lemmas.List.{map-append, take_more}
use Rattle.lisp_graph.specs.Graph.{Graph, object_at, value_at, width}
use Rattle.lisp_graph.specs.KeyedGraph.{KeyedGraph, keyed, keyed_value, part_of}
use Rattle.lisp_graph.specs.declared.object.Body.{Body}
use Rattle.lisp_graph.specs.declared.object.Body.TheVariants.{Cons, Block}
use Rattle.lisp_graph.specs.declared.object.Value.{Value}
use Rattle.lisp_graph.specs.declared.walk.Seen.{Seen}
use Rattle.world_text.specs.Numbering.{AllVisited, Visited, fields_from, fields_of, more, none}
use Rattle.sexpr_print.specs.Places.{parts}

-- Values

visited_last : {graph : KeyedGraph} {keys middle : List ℕ} {values : List Seen} (last : List ℕ) (value : Seen) → AllVisited graph keys values middle → Visited graph middle value last → AllVisited graph keys (values ++ value ∷ []) last
visited_last last value (none keys) visited = more keys last last value [] visited (none last)
visited_last last value (more keys next middle first values one rest) visited = more keys next last first (values ++ value ∷ []) one (visited_last last value rest visited)

-- one more of these values
pub visited_more : (graph : KeyedGraph) (seen : Value → Seen) (values : List Value) (count next : ℕ) (value default : Value) (keys middle last : List ℕ) → count < length values → get_or values count default ≡ value → next ≡ count + 1
    → AllVisited graph keys (map seen (take count values)) middle → Visited graph middle (seen value) last → AllVisited graph keys (map seen (take next values)) last
visited_more graph seen values count next value default keys middle last within is e before one =
    let are : take next values ≡ take count values ++ value ∷ [] = ap (λ (n : ℕ). take n values) e ∙ take_more values count default within ∙ ap (λ (x : Value). take count values ++ x ∷ []) is in
    let all : map seen (take next values) ≡ map seen (take count values) ++ seen value ∷ [] = ap (map seen) are ∙ map-append seen (take count values) (value ∷ []) in
    subst (λ (l : List Seen). AllVisited graph keys l last) (sym all) (visited_last last (seen value) before one)

-- The parts of an object

get_seam : (front back : List Value) (value : Value) → value_at (front ++ value ∷ back) (length front) ≡ value
get_seam [] back value = refl
get_seam (one ∷ front) back value = get_seam front back value

fields_at : (graph : KeyedGraph) (seen : Value → Seen) (name : ℕ) (values front back : List Value) → ((index : ℕ) → graph.field name index ≡ seen (value_at values index)) → front ++ back ≡ values
    → fields_from graph name (length front) (length back) ≡ map seen back
fields_at graph seen name values front [] at is = refl
fields_at graph seen name values front (value ∷ back) at is =
    let here : graph.field name (length front) ≡ seen value = at (length front) ∙ ap (λ (l : List Value). seen (value_at l (length front))) (sym is) ∙ ap seen (get_seam front back value) in
    let long : length front + 1 ≡ length (front ++ value ∷ []) = sym (length-append front (value ∷ [])) in
    let rest = fields_at graph seen name values (front ++ value ∷ []) back at (append_assoc front (value ∷ []) back ∙ is) in
    ap (λ (x : Seen). x ∷ fields_from graph name (length front + 1) (length back)) here
    ∙ ap (λ (n : ℕ). seen value ∷ fields_from graph name n (length back)) long
    ∙ ap (λ (l : List Seen). seen value ∷ l) rest

-- a walk shows them in their order
pub fields_are_parts : (graph : Graph) (name : ℕ) → fields_of (keyed graph) name ≡ map (keyed_value graph.objects) (parts (object_at graph.objects name).body)
fields_are_parts graph name = of_body (object_at graph.objects name).body refl
  where
    seen : Value → Seen
    seen = keyed_value graph.objects

    of_body : (body : Body) → (object_at graph.objects name).body ≡ body → fields_of (keyed graph) name ≡ map seen (parts body)
    of_body (Cons car cdr) is =
        let long : ((keyed graph).form name).length ≡ 2 = ap width is in
        let at : (index : ℕ) → (keyed graph).field name index ≡ seen (part_of (Cons car cdr) index) = λ index. ap (λ (b : Body). seen (part_of b index)) is in
        ap (fields_from (keyed graph) name 0) long
        ∙ ap (λ (x : Seen). x ∷ (keyed graph).field name 1 ∷ []) (at 0)
        ∙ ap (λ (x : Seen). seen car ∷ x ∷ []) (at 1)
    of_body (Block code fields) is =
        let long : ((keyed graph).form name).length ≡ length fields = ap width is in
        let at : (index : ℕ) → (keyed graph).field name index ≡ seen (value_at fields index) = λ index. ap (λ (b : Body). seen (part_of b index)) is in
        ap (fields_from (keyed graph) name 0) long ∙ fields_at (keyed graph) seen name fields [] fields at refl
