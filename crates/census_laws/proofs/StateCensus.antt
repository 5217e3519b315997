-- The census of what is reached in the graph shown is that of each state that is represented.
use Rattle.std.proofs.Common.{◌≡◌, ℕ, zero, suc, ◌+◌, ◌<◌, inl, inr, true, sym, ◌∙◌, ap, subst, List, [], ◌∷◌, length, get_or, map, Some, arith}
use Rattle.std.specs.Prelude.{nat_eq}
use Rattle.std.proofs.lemmas.Map.Views.{Contains-from_any}
use Rattle.std.proofs.lemmas.List.{length-map}
use Rattle.std.proofs.lemmas.Option.{get_or_from_slice_get}
use Rattle.store_word.specs.Words.{Parts, null_word}
use Rattle.lisp_graph.specs.declared.object.Value.{Value}
use Rattle.lisp_graph.specs.declared.walk.Seen.{Seen}
use Rattle.lisp_graph.specs.declared.walk.Seen.TheVariants as S
use Rattle.lisp_graph.specs.KeyedGraph.{KeyedGraph, Shows, keyed, keyed_value}
use Rattle.mem_port.specs.Store as Memory
use Rattle.area_space.specs.Table.{Table}
use Rattle.world_text.specs.Numbering.{is_numbered, fields_from}
use Rattle.why_held.specs.Reached.{key_of, Refer, IsReached, from_register, from_field}
use Rattle.why_held.proofs.SameCensus.{same_census}
use Rattle.word_graph.specs.Shown.{is_reached, objects_in, shown_by, told, value_in}
use Rattle.word_graph.specs.Placed.{CanWalk}
use Rattle.word_graph.specs.Laws.{name_of}
use Rattle.word_graph.specs.lisp_meaning.Flip.{graph_of}
use Rattle.word_graph.proofs.HeldObjects.{same_number, field_shows, register_is, register_shows}
use Rattle.word_graph.proofs.RenamedGraph.{is_renamed, same_charges}
use Rattle.lisp_heap.specs.HeapView.{store_of}
use Rattle.lisp_heap.proofs.HeapWalks.{stands_mean}
use Rattle.census_laws.specs.Censuses.{OfGround, OfHeap}
use Rattle.word_graph.specs.lisp_meaning.Interpretation.{interpretation}

-- a value that is shown as it is refers to a key
shown_has : (graph : KeyedGraph) (value : Seen) (key : ℕ) → Shows graph value → key_of value ≡ Some key → graph.has key ≡ true
shown_has graph (S.Fix i) key shows e = absurd cc
shown_has graph S.Nil key shows e = absurd cc
shown_has graph (S.Cons a) key shows e = let same : a ≡ key = cc in subst (λ (x : ℕ). graph.has x ≡ true) same shows.0
shown_has graph (S.Block a) key shows e = let same : a ≡ key = cc in subst (λ (x : ℕ). graph.has x ≡ true) same shows.0

-- one of the values does
one_refers : (values : List Seen) (key : ℕ) → Refer values key → (i : ℕ) × (i < length values) × (key_of (get_or values i S.Nil) ≡ Some key)
one_refers [] key refer = absurd refer
one_refers (value ∷ values) key (inl here) = (0, omega arith, here)
one_refers (value ∷ values) key (inr there) = let w = one_refers values key there in (suc w.0, (let l = w.1 in omega arith), w.2)

-- one of the fields does
one_field : (graph : KeyedGraph) (from key left index : ℕ) → Refer (fields_from graph from index left) key → (i : ℕ) × (key_of (graph.field from i) ≡ Some key)
one_field graph from key zero index refer = absurd refer
one_field graph from key (suc left) index (inl here) = (index, here)
one_field graph from key (suc left) index (inr there) = one_field graph from key left (index + 1) there

abbrev word_value : Memory.Store → Parts → Value
word_value m w = value_in m.words w.content

module _ (m : Memory.Store) (t : Table) (registers : List Parts) (can : CanWalk m t registers) where
  -- what is reached along the values has a key
  reached_has : (key : ℕ) → IsReached (shown_by m t registers) key → is_reached m t registers key ≡ true
  reached_has key (from_register key' refer) =
      let shown = (shown_by m t registers).registers in
      let w = one_refers shown key refer in
      let low : w.0 < length registers = (let l = w.1 in let a = length-map registers (word_value m) in let b = length-map (map (word_value m) registers) (keyed_value (objects_in m t)) in omega arith) in
      let is : get_or shown w.0 S.Nil ≡ told m t (get_or registers w.0 null_word).content = get_or_from_slice_get shown w.0 (told m t (get_or registers w.0 null_word).content) S.Nil (register_is m t registers w.0 low) in
      shown_has (shown_by m t registers) (told m t (get_or registers w.0 null_word).content) key (register_shows m t registers can w.0 low) (sym (ap key_of is) ∙ w.2)
  reached_has key (from_field from key' reached refer) =
      let w = one_field (shown_by m t registers) from key ((shown_by m t registers).form from).length 0 refer in
      shown_has (shown_by m t registers) ((shown_by m t registers).field from w.0) key (field_shows m t registers can from (reached_has from reached) w.0) w.1

pub of_ground : OfGround
of_ground m t registers k s on means rows census =
    let can : CanWalk m t registers = record { it = interpretation k s; kept = on; values = s.registers; means = means } in
    let reached : (key : ℕ) → is_numbered census.keys key ≡ true → is_reached m t registers key ≡ true =
    λ key e. (reached_has m t registers can key ((census.reached.each key).0 (Contains-from_any {eq = nat_eq} same_number key census.keys e))) in
    same_census (name_of k s.store) (shown_by m t registers) (keyed (graph_of s)) rows census
    (is_renamed m t registers k s on means census.keys reached)
    (same_charges m t registers k s on means census.keys reached)

pub of_heap : OfHeap
of_heap h s st rows census = of_ground (store_of h.memory) h.table h.registers st.map s st.represents.represents.kept (stands_mean h s st) rows census
