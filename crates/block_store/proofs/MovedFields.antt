-- The words that move as a field is read.
use Rattle.std.proofs.Common.{ℕ, suc, ◌≡◌, ◌+◌, sym, ◌∙◌, ap, subst}
use Rattle.store_word.specs.declared.word.Content.{Content}
use Rattle.store_word.specs.declared.word.Content.TheVariants.{Struct as StructAt}
use Rattle.mem_port.specs.Store as Memory
use Rattle.mem_port.specs.Store.{StoresNothing}
use Rattle.area_space.specs.Table.{Table}
use Rattle.obj_layout.specs.Forwards.{Final}
use Rattle.transporter.specs.Moving.{FetchMoves}
use Rattle.transporter.proofs.TransportSequences.{fetch_moves-read, same-stores}
use Rattle.transporter.proofs.lisp_ground.words.FinalAddresses.{one_final}
use Rattle.block_store.specs.Fields.{IsFieldPlace}

pub field_moved : (m m1 m2 : Memory.Store) (t t2 : Table) (content : Content) (index at : ℕ) (p : IsFieldPlace m.words content index at) → StoresNothing m m1 → FetchMoves m1 t m2 t2 at
    → (reference to : ℕ) → content ≡ StructAt reference → Final m.words reference to → FetchMoves m t m2 t2 (suc to + index)
field_moved m m1 m2 t t2 content index at p read moves reference to refers final =
    let base : p.head.at ≡ to = one_final m.words reference p.head.at to (subst (λ (c : ℕ). Final m.words c p.head.at) (same_reference p.is.reference reference (sym p.is.is ∙ refers)) p.is.final) final in
    subst (λ (a : ℕ). FetchMoves m t m2 t2 a) (p.place ∙ ap (λ (a : ℕ). suc a + index) base) (fetch_moves-read read moves same-stores)
  where
    same_reference : (a b : ℕ) → StructAt a ≡ StructAt b → a ≡ b
    same_reference a b e = cc
