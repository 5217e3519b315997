-- A dump is the one that the function computes.
use Rattle.std.proofs.Common.{◌≡◌, ℕ, zero, suc, ◌+◌, ◌^◌, ◌≤◌, inl, inr, Bool, refl, sym, ◌∙◌, ap, List, [], ◌∷◌, ◌++◌, length, slice_get, Option, cond, arith}
use Rattle.std.proofs.lemmas.List.{length-append}
use Rattle.std.proofs.lemmas.Option.{slice_get_past, slice_get_within}
use Rattle.trace_text.specs.lisp_graph.declared.walk.Seen.{Seen}
use Rattle.trace_text.specs.lisp_graph.declared.walk.Seen.TheVariants.{Cons, Block, Nil, Fix}
use Rattle.trace_text.specs.lisp_graph.declared.world.World.{World}
use Rattle.trace_text.specs.lisp_graph.KeyedGraph.{KeyedGraph, keyed}
use Rattle.trace_text.specs.lisp_graph.World.{opening}
use Rattle.trace_text.specs.world_text.Numbering.{next_cons, fields_of, Chained, ends, goes, Visited, AllVisited, none, more, Walked, done, step, IsNumbering}
use Rattle.trace_text.specs.world_text.Dump.{dump_of, IsDump}
use Rattle.dump_laws.specs.Written.{onto_next, chained, visited, all_visited, at_key, walked, numbered, dumped}

longer : (keys : List ℕ) (key : ℕ) → length (keys ++ key ∷ []) ≡ length keys + 1
longer keys key = length-append keys (key ∷ [])

chained-suc : (n : ℕ) (graph : KeyedGraph) (keys : List ℕ) (key : ℕ)
    → chained (suc n) graph keys key ≡ onto_next (next_cons (keys ++ key ∷ []) (graph.field key 1)) (keys ++ key ∷ []) (chained n graph (keys ++ key ∷ []))
unfolding chained
chained-suc n graph keys key = refl

all-none : (n : ℕ) (graph : KeyedGraph) (keys : List ℕ) → all_visited n graph keys [] ≡ keys
unfolding all_visited
all-none n graph keys = refl

all-more : (n : ℕ) (graph : KeyedGraph) (keys : List ℕ) (value : Seen) (values : List Seen) → all_visited n graph keys (value ∷ values) ≡ all_visited n graph (visited n graph keys value) values
unfolding all_visited
all-more n graph keys value values = refl

walked-zero : (n : ℕ) (graph : KeyedGraph) (keys : List ℕ) (number : ℕ) → walked 0 n graph keys number ≡ keys
unfolding walked
walked-zero n graph keys number = refl

walked-suc : (left n : ℕ) (graph : KeyedGraph) (keys : List ℕ) (number : ℕ)
    → walked (suc left) n graph keys number ≡ at_key (slice_get keys number) keys (λ key. walked left n graph (all_visited n graph keys (fields_of graph key)) (number + 1))
unfolding walked
walked-suc left n graph keys number = refl

-- keys are only added
chain_grows : (graph : KeyedGraph) (keys all : List ℕ) (key : ℕ) → Chained graph keys key all → length keys + 1 ≤ length all
chain_grows graph keys all key (ends _ _ e) = let l = longer keys key in omega arith
chain_grows graph keys all key (goes _ _ next _ e rest) = let l = longer keys key in let h = chain_grows graph (keys ++ key ∷ []) all next rest in omega arith

visit_grows : (graph : KeyedGraph) (keys all : List ℕ) (value : Seen) → Visited graph keys value all → length keys ≤ length all
visit_grows graph keys all (Cons key) (inl x) = let e = ap length x.1 in omega arith
visit_grows graph keys all (Cons key) (inr x) = let h = chain_grows graph keys all key x.1 in omega arith
visit_grows graph keys all (Block key) (inl x) = let e = ap length x.1 in omega arith
visit_grows graph keys all (Block key) (inr x) = let e = ap length x.1 in let l = longer keys key in omega arith
visit_grows graph keys all Nil x = let e = ap length x in omega arith
visit_grows graph keys all (Fix i) x = let e = ap length x in omega arith

visits_grow : (graph : KeyedGraph) (keys all : List ℕ) (values : List Seen) → AllVisited graph keys values all → length keys ≤ length all
visits_grow graph keys all [] (none _) = omega arith
visits_grow graph keys all (value ∷ values) (more _ middle _ _ _ x rest) =
    let a = visit_grows graph keys middle value x in let b = visits_grow graph middle all values rest in omega arith

walk_grows : (graph : KeyedGraph) (keys all : List ℕ) (number : ℕ) → Walked graph keys number all → length keys ≤ length all
walk_grows graph keys all number (done _ _ l) = omega arith
walk_grows graph keys all number (step _ middle _ _ key e x rest) =
    let a = visits_grow graph keys middle (fields_of graph key) x in let b = walk_grows graph middle all (number + 1) rest in omega arith

-- each is what the function computes, if it may take enough steps
chain_is : (n : ℕ) (graph : KeyedGraph) (keys all : List ℕ) (key : ℕ) → Chained graph keys key all → length all ≤ length keys + n → chained n graph keys key ≡ all
chain_is zero graph keys all key x few = absurd (let g = chain_grows graph keys all key x in omega arith)
chain_is (suc n) graph keys all key (ends _ _ e) few = chained-suc n graph keys key ∙ ap (λ (o : Option ℕ). onto_next o (keys ++ key ∷ []) (chained n graph (keys ++ key ∷ []))) e
chain_is (suc n) graph keys all key (goes _ _ next _ e rest) few =
    let l = longer keys key in
    chained-suc n graph keys key ∙ ap (λ (o : Option ℕ). onto_next o (keys ++ key ∷ []) (chained n graph (keys ++ key ∷ []))) e
    ∙ chain_is n graph (keys ++ key ∷ []) all next rest (omega arith)

visit_is : (n : ℕ) (graph : KeyedGraph) (keys all : List ℕ) (value : Seen) → Visited graph keys value all → length all ≤ n → visited n graph keys value ≡ all
visit_is n graph keys all (Cons key) (inl x) few = ap (λ (b : Bool). cond b keys (chained n graph keys key)) x.0 ∙ sym x.1
visit_is n graph keys all (Cons key) (inr x) few = ap (λ (b : Bool). cond b keys (chained n graph keys key)) x.0 ∙ chain_is n graph keys all key x.1 (omega arith)
visit_is n graph keys all (Block key) (inl x) few = ap (λ (b : Bool). cond b keys (keys ++ key ∷ [])) x.0 ∙ sym x.1
visit_is n graph keys all (Block key) (inr x) few = ap (λ (b : Bool). cond b keys (keys ++ key ∷ [])) x.0 ∙ sym x.1
visit_is n graph keys all Nil x few = sym x
visit_is n graph keys all (Fix i) x few = sym x

visits_are : (n : ℕ) (graph : KeyedGraph) (keys all : List ℕ) (values : List Seen) → AllVisited graph keys values all → length all ≤ n → all_visited n graph keys values ≡ all
visits_are n graph keys all [] (none _) few = all-none n graph keys
visits_are n graph keys all (value ∷ values) (more _ middle _ _ _ x rest) few =
    let g = visits_grow graph middle all values rest in
    all-more n graph keys value values ∙ ap (λ (ks : List ℕ). all_visited n graph ks values) (visit_is n graph keys middle value x (omega arith)) ∙ visits_are n graph middle all values rest few

walk_is : (left n : ℕ) (graph : KeyedGraph) (keys all : List ℕ) (number : ℕ) → Walked graph keys number all → length all ≤ n → length all ≤ number + left → walked left n graph keys number ≡ all
walk_is zero n graph keys all number (done _ _ l) few far = walked-zero n graph keys number
walk_is (suc left) n graph keys all number (done _ _ l) few far = walked-suc left n graph keys number
    ∙ ap (λ (o : Option ℕ). at_key o keys (λ key. walked left n graph (all_visited n graph keys (fields_of graph key)) (number + 1))) (slice_get_past keys number l)
walk_is zero n graph keys all number (step _ middle _ _ key e x rest) few far =
    absurd (let low = slice_get_within keys number key e in let a = visits_grow graph keys middle (fields_of graph key) x in let b = walk_grows graph middle all (number + 1) rest in omega arith)
walk_is (suc left) n graph keys all number (step _ middle _ _ key e x rest) few far =
    let b = walk_grows graph middle all (number + 1) rest in
    walked-suc left n graph keys number
    ∙ ap (λ (o : Option ℕ). at_key o keys (λ key. walked left n graph (all_visited n graph keys (fields_of graph key)) (number + 1))) e
    ∙ ap (λ (ks : List ℕ). walked left n graph ks (number + 1)) (visits_are n graph keys middle (fields_of graph key) x (omega arith))
    ∙ walk_is left n graph middle all (number + 1) rest few (omega arith)

numbering_is : (n : ℕ) (graph : KeyedGraph) (all : List ℕ) → IsNumbering graph all → length all ≤ n → numbered n graph ≡ all
numbering_is n graph all x few =
    let g = walk_grows graph x.roots all 0 x.objects in
    ap (λ (ks : List ℕ). walked n n graph ks 0) (visits_are n graph [] x.roots graph.registers x.registers (omega arith)) ∙ walk_is n n graph x.roots all 0 x.objects few (omega arith)

pub dump_is_function : (w : World) (text : List ℕ) → IsDump (keyed (opening w)) w.space w.areas text → text ≡ dumped w
dump_is_function w text d =
    let few = d.few in
    d.is ∙ ap (λ (ks : List ℕ). dump_of (keyed (opening w)) ks w.space w.areas) (sym (numbering_is (2 ^ 32) (keyed (opening w)) d.keys d.numbering (omega arith)))
