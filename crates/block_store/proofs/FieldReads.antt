-- What is read of a block is settled and written back.
use Rattle.std.proofs.Common.{◌≡◌, ℕ, suc, ◌+◌, ◌/◌, ◌<◌, ◌⊎◌, inl, inr, refl, sym, ◌∙◌, ap, subst, arith, List, length, Option, Some, None, slice_get}
use Rattle.store_word.specs.Words.{Parts}
use Rattle.store_word.specs.declared.word.Content.{Content}
use Rattle.store_word.specs.declared.word.Content.TheVariants.{Struct as StructAt}
use Rattle.area_space.specs.lisp_graph.declared.object.Value.{Value}
use Rattle.area_space.specs.lisp_graph.declared.object.Value.TheVariants as V
use Rattle.area_space.specs.lisp_graph.declared.object.Body.{Body}
use Rattle.area_space.specs.lisp_graph.declared.object.Body.TheVariants.{Cons, Block}
use Rattle.area_space.specs.lisp_graph.Graph.{is_ref, value_at}
use Rattle.mem_port.specs.Store.{Stores, StoresNothing}
use Rattle.mem_port.specs.Store as Memory
use Rattle.area_space.specs.Table.{Table, IsOld}
use Rattle.obj_layout.specs.Forwards.{word_at, Final}
use Rattle.transporter.specs.lisp_meaning.State.{object}
use Rattle.transporter.specs.lisp_meaning.Sound.{is_kept}
use Rattle.transporter.specs.lisp_meaning.Roles.{AsBlock, as_ref, header_of, names_as, value_of}
use Rattle.transporter.proofs.lisp_meaning.closure.ClosedSets.{field_inside, is_ref-same}
use Rattle.transporter.specs.lisp_ground.After.{old_on}
use Rattle.transporter.specs.lisp_ground.GroundInvariant.{GroundInvariant}
use Rattle.transporter.specs.lisp_meaning.Interpretation.{Interpretation}
use Rattle.transporter.proofs.lisp_ground.words.FinalAddresses.{final_is_place, name_in_use, one_final}
use Rattle.transporter.proofs.lisp_ground.invariant.WordStores.{kept_on_same}
use Rattle.transporter.specs.LiveWordsUnchanged.{IsLiveWord, LiveWordsUnchangedExcept}
use Rattle.transporter.specs.Settling.{CanSettle, RefersToOld, IsKeptValue, IsSettleable, Settles, readdressed, reference_of, SettlesAlways, RemainsRepresented}
use Rattle.transporter.specs.Transports.{RepresentedByLaterMap}
use Rattle.transporter.proofs.FetchedWords.{later-read, settles-read}
use Rattle.transporter.proofs.TransportSequences.{moves-after_read, stored-writes, writes-moves}
use Rattle.transporter.specs.Moving.{MovesAtMost}
use Rattle.obj_layout.proofs.ForwardChains.{word_at-read}
use Rattle.block_store.specs.Headers.{CanFind}
use Rattle.transporter.specs.Settled.{SettlesAt}
use Rattle.block_store.specs.Fields.{CanRead, CanSet, IsFieldPlace, IsReadable, KeepsBlock, ReadsField}
use Rattle.block_store.proofs.BlockReferences.{can_find, header_there, ref_named}
use Rattle.block_store.proofs.LiveFields.{field_live, field_value}
use Rattle.block_store.proofs.FieldStores.{place_low}

-- a word that can be read through has a value, and refers to a block that can be found
pub read_can_find : (m : Memory.Store) (t : Table) (of : Parts) → IsReadable m t of → CanFind m.words of.content
read_can_find m t of x =
    can_find m t of.content (record { it = x.it; kept = x.can.kept; value = x.value; value_is = x.can.value_is })

-- only reads were made
pub reads_block : (m m1 : Memory.Store) (t : Table) (content : Content) → StoresNothing m m1 → KeepsBlock m t m1 t content
reads_block m m1 t content stays it registers v can = later-read m m1 t it can.kept stays

later_after : (m m1 m2 : Memory.Store) (t t2 : Table) (it : Interpretation) → StoresNothing m m1 → RepresentedByLaterMap m1 t m2 t2 it → RepresentedByLaterMap m t m2 t2 it
later_after m m1 m2 t t2 it stays x =
    let same : old_on m1 t it.store it.aim it.map.at ≡ old_on m t it.store it.aim it.map.at = refl in
    record { map = x.map; kept = x.kept; refines = x.refines; work = (let w = x.work in omega arith) }

-- the value of a reference to a block
pub ref_value : (o : Option ℕ) (v : Value) → as_ref o ≡ Some v → (n : ℕ) × (v ≡ V.Ref n)
ref_value None v e = absurd (let x : None ≡ Some v = e in cc)
ref_value (Some i) v e = (i, let x : Some (V.Ref i) ≡ Some v = e in cc)

-- a header is that of a block
pub is_block : (body : Body) (code count : ℕ) → header_of body ≡ Some (code, count) → (c : ℕ) × (fields : List Value) × (body ≡ Block c fields)
is_block (Cons a d) code count e = absurd (let x : None ≡ Some (code, count) = e in cc)
is_block (Block c fields) code count e = (c, fields, refl)

module _ (m : Memory.Store) (t : Table) (content : Content) (index at : ℕ) (p : IsFieldPlace m.words content index at) where
  -- what the content refers to is a block, by every map
  refers : (it : Interpretation) (v : Value) → GroundInvariant m t it → value_of it.map.role content ≡ Some v
      → (n : ℕ) × (code : ℕ) × (fields : List Value) × (v ≡ V.Ref n) × ((object it.store n).body ≡ Block code fields)
  refers it v on value =
      let n = ref_value (names_as AsBlock (it.map.role p.is.reference)) v (ap (value_of it.map.role) (sym p.is.is) ∙ value) in
      let named = ref_named it.map content p.is.reference n.0 p.is.is (value ∙ ap Some n.1) in
      let h = header_there m t it on p.is.reference n.0 named p.head.at p.is.final in
      let b = is_block (object it.store n.0).body h.0 h.1 h.3 in
      (n.0, b.0, b.1, n.1, b.2)

  module _ (m1 : Memory.Store) (stays : StoresNothing m m1) where
    module _ (it : Interpretation) (registers : List Value) (n code : ℕ) (fields : List Value) (can : CanRead m t it registers content (V.Ref n)) (body : (object it.store n).body ≡ Block code fields) where
      named : names_as AsBlock (it.map.role p.is.reference) ≡ Some n
      named = ref_named it.map content p.is.reference n p.is.is can.value_is

      low : index < length fields
      low = place_low m t content index at p it n code fields can.kept can.value_is body

      place : suc (it.map.at n) + index ≡ at
      place = ap (λ (a : ℕ). suc a + index) (sym (final_is_place m t it can.kept AsBlock p.is.reference n named p.head.at p.is.final)) ∙ sym p.place

      on1 : GroundInvariant m1 t it
      on1 = kept_on_same m m1 t it can.kept stays

      value_there : value_of it.map.role (word_at m1.words at).content ≡ Some (value_at fields index)
      value_there = ap (λ (a : ℕ). value_of it.map.role (word_at m1.words a).content) (sym place) ∙ field_value m1 t it on1 p.is.reference n named code fields body index low

      live_there : (IsOld t (p.is.reference / 4096) → ⊥) → IsLiveWord t at
      live_there fresh = subst (λ (a : ℕ). IsLiveWord t a) place (field_live m t it can.kept p.is.reference n named code fields body index low fresh)

      -- which a collection keeps
      field_kept : (region : ℕ) → IsOld t region → IsKeptValue t registers it.store it.aim (value_at fields index)
      field_kept region old =
          let x = can.survives region old in
          let below = can.kept.kept.names n (name_in_use m t it can.kept AsBlock p.is.reference n named) in
          record {
            running = x.running;
            reaches = x.reaches;
            name = λ i e. field_inside (record { registers = registers; objects = it.store.objects }) (is_kept it.store it.aim) x.reaches.closed n below (x.name n refl) code fields index body i (ap (is_ref i) e ∙ is_ref-same i);
          }

      settles_there : CanSettle m1 t it registers (word_at m1.words at) (value_at fields index)
      settles_there = record { kept = on1; value = λ a ref. value_there; survives = λ old. field_kept (old.0 / 4096) old.2 }

    -- it was settled
    pub field_fetched : (m2 : Memory.Store) (t2 : Table) (new word : Parts)
        → SettlesAlways m1 t m2 t2 (word_at m1.words at) new
        → word.content ≡ new.content → ReadsField m t m2 t2 content index word
    field_fetched m2 t2 new word settles is it registers n code fields can body =
        let x = settles it registers (value_at fields index) (settles_there it registers n code fields can body) in
        let y = settles-read m m1 m2 t t2 it (word_at m1.words at) new stays x in
        record {
          later = y.later;
          value_is = ap (value_of y.later.map.role) is ∙ y.value (value_at fields index) (value_there it registers n code fields can body);
        }

    -- or a swap error occurred
    pub field_faulted : (m2 : Memory.Store) (t2 : Table) → RemainsRepresented m1 t m2 t2 (word_at m1.words at)
        → KeepsBlock m t m2 t2 content
    field_faulted m2 t2 later it registers v can =
        let r = refers it v can.kept can.value_is in
        let there = subst (λ (x : Value). CanRead m t it registers content x) r.3 can in
        later_after m m1 m2 t t2 it stays (later it registers (value_at r.2 index) (settles_there it registers r.0 r.1 r.2 there r.4))

-- Before it is settled

module _ (m m1 : Memory.Store) (t : Table) (of : Parts) (index at : ℕ) (x : IsReadable m t of) (p : IsFieldPlace m.words of.content index at) (stays : StoresNothing m m1) where
  pub field_is_live : IsLiveWord t at
  field_is_live =
      let r = refers m t of.content index at p x.it x.value x.can.kept x.can.value_is in
      let there = subst (λ (v : Value). CanRead m t x.it x.registers of.content v) r.3 x.can in
      live_there m t of.content index at p m1 stays x.it x.registers r.0 r.1 r.2 there r.4
      (λ old. x.fresh (p.is.reference, ap reference_of p.is.is, old))

  pub field_is_settleable : IsSettleable m1 t (word_at m1.words at)
  field_is_settleable =
      let r = refers m t of.content index at p x.it x.value x.can.kept x.can.value_is in
      let there = subst (λ (v : Value). CanRead m t x.it x.registers of.content v) r.3 x.can in
      record {
        it = x.it;
        registers = x.registers;
        value = value_at r.2 index;
        can = settles_there m t of.content index at p m1 stays x.it x.registers r.0 r.1 r.2 there r.4;
      }

-- After it

settled_code : {t t' : Table} {old new : Parts} → Settles t t' old new → new.cdr ≡ old.cdr
settled_code {t} {t'} {old} {new} x = go x.is
  where
    go : (new ≡ old) ⊎ ((to : ℕ) × RefersToOld t old × (new ≡ readdressed old to)) → new.cdr ≡ old.cdr
    go (inl e) = ap (λ (w : Parts). w.cdr) e
    go (inr e) = ap (λ (w : Parts). w.cdr) e.2

pub field_settled : (m m1 m2 : Memory.Store) (t t2 : Table) (content : Content) (index at : ℕ) (p : IsFieldPlace m.words content index at) (new : Parts) (word : Content) → StoresNothing m m1 → Settles t t2 (word_at m1.words at) new → word_at m2.words at ≡ new → LiveWordsUnchangedExcept m1 t m2 t2 at
    → word ≡ new.content → (reference to : ℕ) → content ≡ StructAt reference → Final m.words reference to → SettlesAt m t m2 t2 (suc to + index) word
field_settled m m1 m2 t t2 content index at p new word stays settles written others is reference to refers final =
    let base : p.head.at ≡ to = one_final m.words reference p.head.at to (subst (λ (c : ℕ). Final m.words c p.head.at) (same_reference p.is.reference reference (sym p.is.is ∙ refers)) p.is.final) final in
    subst (λ (a : ℕ). SettlesAt m t m2 t2 a word) (p.place ∙ ap (λ (a : ℕ). suc a + index) base) (record {
      code = ap (λ (w : Parts). w.cdr) written ∙ settled_code settles ∙ ap (λ (ws : List Parts). (word_at ws at).cdr) stays.words;
      settled = ap (λ (w : Parts). w.content) written ∙ sym is;
      others = record { table = others.table; words = λ i ne w. others.words i ne w ∙ ap (λ (ws : List Parts). word_at ws i) stays.words };
    })
  where
    same_reference : (a b : ℕ) → StructAt a ≡ StructAt b → a ≡ b
    same_reference a b e = cc

-- A field of a block that isn't old is written

module _ (m : Memory.Store) (t : Table) (content : Content) (index at : ℕ) (written : Parts) (x : CanSet m t content written) (p : IsFieldPlace m.words content index at) (fresh : (a : ℕ) → reference_of content ≡ Some a → IsOld t (a / 4096) → ⊥) where
  written_live : IsLiveWord t at
  written_live =
      let r = refers m t content index at p x.it x.value x.kept x.value_is in
      let value = x.value_is ∙ ap (λ (v : Value). Some v) r.3 in
      let named = ref_named x.it.map content p.is.reference r.0 p.is.is value in
      let low = place_low m t content index at p x.it r.0 r.1 r.2 x.kept value r.4 in
      let place : suc (x.it.map.at r.0) + index ≡ at = ap (λ (a : ℕ). suc a + index) (sym (final_is_place m t x.it x.kept AsBlock p.is.reference r.0 named p.head.at p.is.final)) ∙ sym p.place in
      subst (λ (a : ℕ). IsLiveWord t a) place (field_live m t x.it x.kept p.is.reference r.0 named r.1 r.2 r.4 index low (fresh p.is.reference (ap reference_of p.is.is)))

  -- nothing moves
  pub field_moves : (n m' : Memory.Store) → StoresNothing m n → (old w : Parts) → slice_get n.words at ≡ Some old → w ≡ record written { cdr = old.cdr } → Stores n m' at w → MovesAtMost m t m' t 0
  field_moves n m' reads old w found is stores =
      let code : w.cdr ≡ (word_at n.words at).cdr = ap (λ (x : Parts). x.cdr) is ∙ ap (λ (x : Parts). x.cdr) (sym (word_at-read n.words n.words at old refl found)) in
      let low = p.low in
      let within = p.is.inside in
      let place = p.place in
      let size = ap (λ (ws : List Parts). length ws) reads.words in
      moves-after_read reads (writes-moves (stored-writes at w written_live (omega arith) code stores.words))
