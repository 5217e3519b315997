-- Which pages get marks when a field is written.
use Rattle.std.proofs.Common.{◌≡◌, ℕ, suc, ◌+◌, sym, ◌∙◌, ap, subst, arith, List, length, Some}
use Rattle.store_word.specs.Words.{Parts}
use Rattle.store_word.specs.declared.word.Content.{Content}
use Rattle.store_word.specs.declared.word.Content.TheVariants.{Struct as StructAt}
use Rattle.area_space.specs.lisp_graph.declared.object.Value.{Value}
use Rattle.area_space.specs.lisp_graph.declared.object.Value.TheVariants as V
use Rattle.mem_port.specs.Store.{Stores, StoresNothing}
use Rattle.mem_port.specs.Store as Memory
use Rattle.area_space.specs.Table.{Table}
use Rattle.obj_layout.specs.Forwards.{word_at, Final}
use Rattle.transporter.specs.lisp_meaning.Roles.{AsBlock, names_as, value_of}
use Rattle.transporter.specs.Marking.{IsForward, MarksFollowBut}
use Rattle.transporter.specs.Settling.{reference_of}
use Rattle.transporter.proofs.lisp_ground.words.FinalAddresses.{one_final}
use Rattle.transporter.proofs.PageMarks.{marks-read, marks-stored, marks-then_but}
use Rattle.block_store.specs.Fields.{CanSet, IsFieldPlace, MarksField}
use Rattle.block_store.proofs.FieldReads.{ref_value}
use Rattle.block_store.proofs.GrowthRoom.{words_plain}

pub field_marks : (m n m' : Memory.Store) (t : Table) (content : Content) (index at : ℕ) (value : Parts) → CanSet m t content value → IsFieldPlace m.words content index at → StoresNothing m n → (w : Parts) → w.content ≡ value.content → Stores n m' at w → MarksField m t m' t content index
field_marks m n m' t content index at value x p reads w is stores reference to refers final =
    let base : p.head.at ≡ to = one_final m.words reference p.head.at to (subst (λ (c : ℕ). Final m.words c p.head.at) (same_reference p.is.reference reference (sym p.is.is ∙ refers)) p.is.final) final in
    let place : at ≡ suc to + index = p.place ∙ ap (λ (a : ℕ). suc a + index) base in
    let low = p.low in
    let inside = p.is.inside in
    let there = p.place in
    let size = ap (λ (ws : List Parts). length ws) reads.words in
    subst (MarksFollowBut m t m' t) place (marks-then_but (marks-read t reads) (marks-stored t at w stores (omega arith) plain (λ old. x.young (old.0, ap reference_of (sym is) ∙ old.1, old.2))))
  where
    same_reference : (a b : ℕ) → StructAt a ≡ StructAt b → a ≡ b
    same_reference a b e = cc

    meant : (n : ℕ) × (x.value ≡ V.Ref n)
    meant = ref_value (names_as AsBlock (x.it.map.role p.is.reference)) x.value (ap (value_of x.it.map.role) (sym p.is.is) ∙ x.value_is)

    plain : IsForward (word_at n.words at) → ⊥
    plain f =
        let low = p.low in
        let place = p.place in
        let there : at ≡ p.head.at + suc index = omega arith in
        words_plain m t content p.head p.is x.it x.kept meant.0 (x.value_is ∙ ap (λ (v : Value). Some v) meant.1) (suc index) (omega arith)
        (subst (λ (a : ℕ). IsForward (word_at m.words a)) there (subst (λ (ws : List Parts). IsForward (word_at ws at)) reads.words f))
