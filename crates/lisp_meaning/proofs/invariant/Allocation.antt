-- New objects keep the invariant.
use Rattle.std.proofs.Common.{◌≡◌, ℕ, suc, ◌+◌, ◌<◌, refl, arith, Some, [], ◌∷◌, length, get_or}
use Rattle.std.specs.Prelude.{slice_get}
use Rattle.std.proofs.lemmas.Option.{slice_get-get_or}
use Rattle.lisp_graph.specs.declared.object.Value.{Value}
use Rattle.lisp_graph.specs.declared.object.Value.TheVariants as V
use Rattle.lisp_graph.specs.declared.object.Body.TheVariants.{Cons, Block}
use Rattle.lisp_graph.specs.declared.object.Object.{Object}
use Rattle.lisp_graph.specs.Effect.{list_from}
use Rattle.lisp_meaning.specs.machine.State.{Store}
use Rattle.lisp_meaning.specs.machine.Changes.{with_made}
use Rattle.lisp_meaning.specs.reading.Image.{Image, word}
use Rattle.lisp_meaning.specs.reading.Classes.{classes, in_old}
use Rattle.lisp_meaning.specs.invariants.Roles.{Kind, AsCons, AsBlock, RoleMap, names_as, value_of, Refines}
use Rattle.lisp_meaning.specs.invariants.ChargesIn.{charges_in}
use Rattle.lisp_meaning.specs.invariants.Laid.{APair, ABlock, newly_laid, scratched, cells_laid}
use Rattle.lisp_meaning.specs.invariants.Invariant.{MemoryInvariant}
use Rattle.lisp_meaning.specs.invariants.Interpretation.{Interpretation}
use Rattle.lisp_meaning.specs.keeping.After.{After}
use Rattle.lisp_meaning.specs.keeping.Allocation.{PairMade, BlockMade, ListMade}
use Rattle.lisp_meaning.proofs.invariant.NewObject.{kept_pair_made, pair_made_old, pair_made_refines, kept_block_made, block_made_old, block_made_refines}
use Rattle.lisp_meaning.proofs.invariant.NewList.{kept_list_made, list_made_old, list_made_refines}
use Rattle.lisp_meaning.proofs.reading.ReferenceMeaning.{laid_named, run_named, one_named}
use Rattle.lisp_meaning.proofs.sums.OldCharges.{standing_less}

-- the invariant by a later map, if what was in old regions still is
pub after_same : (g g' : Image) (it : Interpretation) (map : RoleMap) (s' : Store) (kind : Kind) (b count : ℕ) (name : ℕ → ℕ)
    → MemoryInvariant g it → MemoryInvariant g' (record it { map = map; store = s' }) → Refines it.map.role map.role → ((i : ℕ) → i < count → names_as kind (map.role (b + i)) ≡ Some (name i))
    → charges_in s' map.at (classes g') in_old ≡ charges_in it.store it.map.at (classes g) in_old → After g g' it s' 0 kind b count name
after_same g g' it map s' kind b count name h kept refines there old = record {
  map = map;
  kept = kept;
  refines = refines;
  there = there;
  old = standing_less g g' it map s' 0 h kept (let z : charges_in s' map.at (classes g') in_old + 0 ≡ charges_in it.store it.map.at (classes g) in_old = omega arith in z);
}

pub pair_made : PairMade
pair_made g g1 it b area level charge car cdr h low fits w =
    let o : Object = record { area = area; charge = charge; body = Cons car cdr } in
    let n = length it.store.objects in
    after_same g g1 it (newly_laid it.map n b APair) (with_made it.store (o ∷ []) level) AsCons b 1 (λ i. n) h
    (kept_pair_made g g1 it h b area level o refl (omega arith) fits car cdr refl w.placed w.charged w.marks w.car_is w.car_code w.cdr_is w.cdr_code)
    (pair_made_refines g g1 it h b area level o refl (omega arith) fits car cdr refl w.placed w.charged w.marks w.car_is w.car_code w.cdr_is w.cdr_code)
    (one_named (newly_laid it.map n b APair) AsCons b n (laid_named (scratched it.map b 2) n 0 0 b APair _ _ 0))
    (pair_made_old g g1 it h b area level o refl (omega arith) fits car cdr refl w.placed w.charged w.marks w.car_is w.car_code w.cdr_is w.cdr_code)

pub block_made : BlockMade
block_made g g1 it b area level code fields h low fits w =
    let o : Object = record { area = area; charge = suc (length fields); body = Block code fields } in
    let n = length it.store.objects in
    let values : (j : ℕ) → j < length fields → (v : Value) × (slice_get fields j ≡ Some v) × (value_of it.map.role (word g1 (suc b + j)).content ≡ Some v) =
    λ j l. (get_or fields j V.Nil, slice_get-get_or fields j V.Nil l, w.fields_are j l) in
    after_same g g1 it (newly_laid it.map n b (ABlock (length fields))) (with_made it.store (o ∷ []) level) AsBlock b 1 (λ i. n) h
    (kept_block_made g g1 it h b area level o refl (omega arith) fits code fields refl refl w.placed w.charged w.marks w.header w.header_code values)
    (block_made_refines g g1 it h b area level o refl (omega arith) fits code fields refl refl w.placed w.charged w.marks w.header w.header_code values)
    (one_named (newly_laid it.map n b (ABlock (length fields))) AsBlock b n (laid_named (scratched it.map b (suc (length fields))) n 0 0 b (ABlock (length fields)) _ _ 0))
    (block_made_old g g1 it h b area level o refl (omega arith) fits code fields refl refl w.placed w.charged w.marks w.header w.header_code values)

pub list_made : ListMade
list_made g g1 it b area level values h low fits few w =
    let n = length it.store.objects in
    after_same g g1 it (cells_laid it.map n b (length values)) (with_made it.store (list_from area n values) level) AsCons b (length values) (λ i. n + i) h
    (kept_list_made g g1 it h b area level values few w.placed w.charged w.marks (omega arith) fits w.cars_are w.next w.last)
    (list_made_refines g g1 it h b area level values few w.placed w.charged w.marks (omega arith) fits w.cars_are w.next w.last)
    (λ i l. run_named (scratched it.map b (length values)) n b (length values) i l)
    (list_made_old g g1 it h b area level values few w.placed w.charged w.marks (omega arith) fits w.cars_are w.next w.last)
