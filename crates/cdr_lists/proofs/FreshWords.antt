-- Fresh words stay fresh.
use Rattle.std.proofs.Common.{◌≡◌, ℕ, inl, inr, sym, ◌∙◌, ap, subst, List, Some, None}
use Rattle.store_word.specs.Words.{Parts, address_of}
use Rattle.store_word.specs.declared.word.Content.{Content}
use Rattle.store_word.specs.declared.word.Content.TheVariants.{Null, Nil as NilWord, List as ListAt, Struct as StructAt, Header, HeaderForward, GcForward, Fixnum}
use Rattle.mem_port.specs.Store.{StoresNothing}
use Rattle.mem_port.specs.Store as Memory
use Rattle.area_space.specs.Table.{Table}
use Rattle.obj_layout.specs.Forwards.{word_at, forward_of, IsFinal}
use Rattle.transporter.specs.Marking.{IsForward}
use Rattle.transporter.proofs.PageMarks.{no-forward}
use Rattle.transporter.specs.LiveWordsUnchanged.{IsLiveWord}
use Rattle.transporter.specs.Settling.{RefersToOld, reference_of}
use Rattle.transporter.specs.Preserving.{NoOldAddresses, FreshOn, PreservesScanned}

-- a reference's address is that of the word
reference_is : (c : Content) (at : ℕ) → reference_of c ≡ Some at → address_of c ≡ Some at
reference_is (ListAt a) at e = e
reference_is (StructAt a) at e = e
reference_is (HeaderForward a) at e = absurd (let x : None ≡ Some at = e in cc)
reference_is (GcForward a) at e = absurd (let x : None ≡ Some at = e in cc)
reference_is (Header i j) at e = absurd (let x : None ≡ Some at = e in cc)
reference_is (Fixnum i) at e = absurd (let x : None ≡ Some at = e in cc)
reference_is Null at e = absurd (let x : None ≡ Some at = e in cc)
reference_is NilWord at e = absurd (let x : None ≡ Some at = e in cc)

-- a fresh word has no old reference
fresh_word : (t : Table) (word : Parts) → FreshOn t word.content → RefersToOld t word → ⊥
fresh_word t word fresh old = fresh old.0 (reference_is word.content old.0 old.1) old.2

pub live_fresh : (m : Memory.Store) (t : Table) (a : ℕ) → NoOldAddresses m t → IsLiveWord t a → RefersToOld t (word_at m.words a) → ⊥
live_fresh m t a all live = fresh_word t (word_at m.words a) (all a live)

-- a call that doesn't change the table leaves the words of live regions unchanged, or makes them fresh
pub still_stays_fresh : {m m1 : Memory.Store} (t : Table) → PreservesScanned m t m1 t → NoOldAddresses m t → NoOldAddresses m1 t
still_stays_fresh {m} {m1} t preserves all a live = elim (preserves.words a live) [
  | inl same ↦ subst (λ (w : Parts). FreshOn t w.content) (sym same) (all a live)
  | inr fresh ↦ fresh
]

-- A word may be overwritten, and if it is, its page gets marks as others do

-- a final address has no forward, nor does it after reads
pub final_plain : {m n : Memory.Store} {at : ℕ} → IsFinal m.words at → StoresNothing m n → IsForward (word_at n.words at) → ⊥
final_plain {m} {n} {at} last reads f = no-forward _ (ap (λ (ws : List Parts). forward_of (word_at ws at).content) reads.words ∙ last.no_forward) f

-- what was stored has an old address if the value has
pub young_stored : (t : Table) (w value : Parts) → w.content ≡ value.content → (RefersToOld t value → ⊥) → RefersToOld t w → ⊥
young_stored t w value is young old = young (old.0, ap reference_of (sym is) ∙ old.1, old.2)
