-- A field is written.
use Rattle.std.proofs.Common.{◌≡◌, ℕ, suc, ◌+◌, ◌<◌, ◌≤◌, refl, sym, ◌∙◌, ap, subst, arith, List, length, slice_get, slice_set, Some}
use Rattle.store_word.specs.Words.{Parts}
use Rattle.store_word.specs.declared.word.Content.{Content}
use Rattle.store_word.specs.declared.word.Content.TheVariants.{Struct as StructAt}
use Rattle.area_space.specs.lisp_graph.declared.object.Value.{Value}
use Rattle.area_space.specs.lisp_graph.declared.object.Value.TheVariants as V
use Rattle.area_space.specs.lisp_graph.declared.object.Body.TheVariants.{Block}
use Rattle.mem_port.specs.Store.{Stores, StoresNothing, level_of_word}
use Rattle.mem_port.specs.Store as Memory
use Rattle.area_space.specs.Table.{Table}
use Rattle.obj_layout.specs.Forwards.{word_at, Final, IsFinal}
use Rattle.obj_layout.proofs.ForwardChains.{word_at-read}
use Rattle.transporter.specs.lisp_meaning.State.{object}
use Rattle.transporter.specs.lisp_meaning.Roles.{AsBlock, header_of, value_of}
use Rattle.transporter.specs.lisp_ground.GroundInvariant.{GroundInvariant}
use Rattle.transporter.specs.lisp_meaning.Interpretation.{Interpretation}
use Rattle.transporter.specs.lisp_ground.After.{old_on}
use Rattle.transporter.proofs.lisp_ground.words.FinalAddresses.{one_final, stands_there}
use Rattle.transporter.proofs.lisp_ground.invariant.WordStores.{kept_on_same}
use Rattle.transporter.proofs.lisp_ground.invariant.Stores.{field_stored_on, same_header_size}
use Rattle.transporter.specs.Preserving.{FreshOn, PreservesScanned}
use Rattle.transporter.proofs.ScannedWords.{fresh-value, read-preserves, stored-preserves, preserves-then}
use Rattle.block_store.specs.Headers.{HasMeaning, TellsLength}
use Rattle.block_store.specs.Fields.{CanSet, IsFieldPlace, LacksField, SetsField, WritesField}
use Rattle.block_store.proofs.BlockReferences.{head_tells, ref_named, tells_length}

-- a reference that can be written through has a value
pub set_meaning : (m : Memory.Store) (t : Table) (content : Content) (written : Parts) → CanSet m t content written → HasMeaning m t content
set_meaning m t content written x = record { it = x.it; kept = x.kept; value = x.value; value_is = x.value_is }

-- the number of fields, whether there is one of this index or not
pub place_tells : (m : Memory.Store) (t : Table) (content : Content) (index at : ℕ) → IsFieldPlace m.words content index at → (count : ℕ) × TellsLength m t content count × (index < count)
place_tells m t content index at p = (p.head.length, tells_length m t content p.head p.is, p.low)

pub lack_tells : (m : Memory.Store) (t : Table) (content : Content) (index count : ℕ) → LacksField m.words content index count → TellsLength m t content count × (count ≤ index)
lack_tells m t content index count x = (subst (λ (c : ℕ). TellsLength m t content c) (sym x.count_is) (tells_length m t content x.head x.is), x.past)

-- the index is that of a field of the object
pub place_low : (m : Memory.Store) (t : Table) (content : Content) (index at : ℕ) → IsFieldPlace m.words content index at → (it : Interpretation) (n code : ℕ) (fields : List Value)
    → GroundInvariant m t it → value_of it.map.role content ≡ Some (V.Ref n) → (object it.store n).body ≡ Block code fields → index < length fields
place_low m t content index at p it n code fields on value body =
    let tells = head_tells m t content p.head p.is it n on value in
    let size = same_header_size (header_of (object it.store n).body) (p.head.code, p.head.length) (code, length fields) tells (ap header_of body) in
    let low = p.low in
    omega arith

-- A word is stored after reads

stores_after : (m n m' : Memory.Store) (at : ℕ) (w : Parts) → StoresNothing m n → Stores n m' at w → Stores m m' at w
stores_after m n m' at w reads st = record {
  words = st.words ∙ ap (λ (ws : List Parts). slice_set ws at w) reads.words;
  levels = st.levels ∙ reads.levels;
  top = st.top ∙ reads.top;
  unmarked = λ page clean zero. st.unmarked page (reads.unmarked page clean) (λ e. ap (λ (ls : List ℕ). level_of_word ls w) reads.levels ∙ zero e);
}

module _ (m n m' : Memory.Store) (t : Table) (content : Content) (index at : ℕ) (p : IsFieldPlace m.words content index at) (reads : StoresNothing m n) (old w value : Parts) (found : slice_get n.words at ≡ Some old) (is : w ≡ record value { cdr = old.cdr }) (stores : Stores n m' at w) where
  code_is : w.cdr ≡ (word_at n.words at).cdr
  code_is = ap (λ (x : Parts). x.cdr) is ∙ ap (λ (x : Parts). x.cdr) (sym (word_at-read n.words n.words at old refl found))

  pub field_set : SetsField m t m' content index value.content
  field_set it name code fields new on refers body value_is =
      let named = ref_named it.map content p.is.reference name p.is.is refers in
      let there = kept_on_same m n t it on reads in
      let st = stands_there n t it there AsBlock p.is.reference name named p.head.at (subst (λ (ws : List Parts). Final ws p.is.reference p.head.at) (sym reads.words) p.is.final)
      (subst (λ (ws : List Parts). IsFinal ws p.head.at) (sym reads.words) p.is.last) in
      let low = place_low m t content index at p it name code fields on refers body in
      let after = field_stored_on n m' t it p.head.at name index code fields new there st body low (record {
        stored = w;
        stores = subst (λ (a : ℕ). Stores n m' a w) p.place stores;
        value_is = ap (λ (x : Parts). value_of it.map.role x.content) is ∙ value_is;
        code = code_is ∙ ap (λ (a : ℕ). (word_at n.words a).cdr) p.place;
      }) in
      let same : old_on n t it.store it.aim it.map.at ≡ old_on m t it.store it.aim it.map.at = refl in
      record { kept = after.kept; old = after.old ∙ same }

  pub field_written : WritesField m m' content index value
  field_written reference to refers final =
      let base : p.head.at ≡ to = one_final m.words reference p.head.at to (subst (λ (c : ℕ). Final m.words c p.head.at) (same_reference p.is.reference reference (sym p.is.is ∙ refers)) p.is.final) final in
      let place : at ≡ suc to + index = p.place ∙ ap (λ (a : ℕ). suc a + index) base in
      let word : w ≡ record value { cdr = (word_at m.words (suc to + index)).cdr } =
      is ∙ ap (λ (x : Parts). record value { cdr = x.cdr }) (sym (word_at-read m.words n.words at old reads.words found)) ∙ ap (λ (a : ℕ). record value { cdr = (word_at m.words a).cdr }) place in
      subst (λ (a : ℕ). Stores m m' a (record value { cdr = (word_at m.words (suc to + index)).cdr })) place (subst (λ (x : Parts). Stores m m' at x) word (stores_after m n m' at w reads stores))
    where
      same_reference : (a b : ℕ) → StructAt a ≡ StructAt b → a ≡ b
      same_reference a b e = cc

-- A word that isn't old was stored after reads

pub field_preserves : (m n m' : Memory.Store) (t : Table) (content : Content) (index at : ℕ) (value : Parts) → CanSet m t content value → IsFieldPlace m.words content index at → StoresNothing m n → (w : Parts) → w.content ≡ value.content → Stores n m' at w → PreservesScanned m t m' t
field_preserves m n m' t content index at value x p reads w is stores =
    let low = p.low in
    let within = p.is.inside in
    let place = p.place in
    let size = ap length reads.words in
    let fresh = fresh-value x.it.map.role t value.content x.new x.new_is x.young in
    preserves-then (read-preserves t reads) (stored-preserves t at w stores (omega arith) (subst (FreshOn t) (sym is) fresh))
