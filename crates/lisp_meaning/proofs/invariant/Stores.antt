-- A store into a part of an object, and a word that is settled, from the invariant to the invariant: one word is written, the map stays.
use Rattle.std.proofs.Common.{◌≡◌, ℕ, ◌<◌, ◌⊎◌, inl, inr, refl, sym, ◌∙◌, ap, Some, List, length, set}
use Rattle.std.proofs.lemmas.Bool.{cases_eq}
use Rattle.std.proofs.Math.ListN.{length-set}
use Rattle.lisp_graph.specs.store_word.Words.{Parts}
use Rattle.lisp_graph.specs.declared.object.Value.{Value}
use Rattle.lisp_graph.specs.declared.object.Body.{Body}
use Rattle.lisp_graph.specs.declared.object.Body.TheVariants.{Cons, Block}
use Rattle.lisp_graph.specs.declared.object.Object.{Object}
use Rattle.lisp_meaning.specs.machine.State.{Store, object, in_use}
use Rattle.lisp_meaning.specs.machine.Changes.{put_body}
use Rattle.lisp_meaning.specs.reading.Image.{Image, word}
use Rattle.lisp_meaning.specs.reading.Classes.{classes}
use Rattle.lisp_meaning.specs.reading.Marks.{Marks}
use Rattle.lisp_meaning.specs.invariants.Roles.{PairHead, PairTail, Cell, Field, value_of, kind_of, car_of, cdr_of, field_of, header_of}
use Rattle.lisp_meaning.specs.invariants.Invariant.{MemoryInvariant}
use Rattle.lisp_meaning.specs.invariants.Interpretation.{Interpretation}
use Rattle.lisp_meaning.proofs.maps.StoreChanges.{object_put, object_kept, stored_body, body_put, field_set, field_kept}
use Rattle.lisp_meaning.proofs.layout.Stores.{store_head, store_tail, store_cell, store_field, resettled}
use Rattle.lisp_meaning.proofs.invariant.AfterWrite.{SameSizes, kept_written}

-- other parts are no other size
pub same_put : (s : Store) (n : ℕ) (b : Body) → n < length s.objects → SameSizes s (put_body s n b)
same_put s n b l = record {
  size = length-set s.objects n (record (object s n) { body = b });
  held = λ m. refl;
  area = λ m. area m (cases_eq m n);
  charge = λ m. charge m (cases_eq m n);
  husks = λ x y. refl;
}
  where
    area : (m : ℕ) → (m ≡ n) ⊎ (m ≡ n → ⊥) → (object (put_body s n b) m).area ≡ (object s m).area
    area m (inl z) = ap (λ (i : ℕ). (object (put_body s n b) i).area) z ∙ ap (λ (o : Object). o.area) (object_put s n (record (object s n) { body = b }) l) ∙ ap (λ (i : ℕ). (object s i).area) (sym z)
    area m (inr ne) = ap (λ (o : Object). o.area) (object_kept s n (record (object s n) { body = b }) m ne)

    charge : (m : ℕ) → (m ≡ n) ⊎ (m ≡ n → ⊥) → (object (put_body s n b) m).charge ≡ (object s m).charge
    charge m (inl z) = ap (λ (i : ℕ). (object (put_body s n b) i).charge) z ∙ ap (λ (o : Object). o.charge) (object_put s n (record (object s n) { body = b }) l) ∙ ap (λ (i : ℕ). (object s i).charge) (sym z)
    charge m (inr ne) = ap (λ (o : Object). o.charge) (object_kept s n (record (object s n) { body = b }) m ne)

module _ (g : Image) (it : Interpretation) (h : MemoryInvariant g it) (n a : ℕ) (ws : List Parts) (marks : Marks (record g { words = ws }))
    (used : in_use it.store n) (others : (c : ℕ) → (c ≡ a → ⊥) → word (record g { words = ws }) c ≡ word g c) (code : (word (record g { words = ws }) a).cdr ≡ (word g a).cdr) where
  below : n < length it.store.objects
  below = h.names n used

  module _ (car cdr new : Value) (body : (object it.store n).body ≡ Cons car cdr) (has : value_of it.map.role (word (record g { words = ws }) a).content ≡ Some new) where
    -- the car of a pair, or of a cell
    pub kept_car_stored : (it.map.role a ≡ PairHead n) ⊎ ((i : ℕ) × (it.map.role a ≡ Cell n i)) → MemoryInvariant (record g { words = ws }) (record it { store = put_body it.store n (Cons new cdr) })
    kept_car_stored (inl r) =
        kept_written g it (put_body it.store n (Cons new cdr)) ws h (same_put it.store n (Cons new cdr) below)
        (store_head (word g) (word (record g { words = ws })) (classes g) it.map it.store (put_body it.store n (Cons new cdr)) h.roled n a (stored_body it.store n (Cons new cdr) below (sym (ap kind_of body))) others code r
        (new, ap car_of (body_put it.store n (Cons new cdr) below), has) (ap cdr_of (body_put it.store n (Cons new cdr) below) ∙ sym (ap cdr_of body))) marks
    kept_car_stored (inr r) =
        kept_written g it (put_body it.store n (Cons new cdr)) ws h (same_put it.store n (Cons new cdr) below)
        (store_cell (word g) (word (record g { words = ws })) (classes g) it.map it.store (put_body it.store n (Cons new cdr)) h.roled n a (stored_body it.store n (Cons new cdr) below (sym (ap kind_of body))) others code r.0 r.1
        (new, ap car_of (body_put it.store n (Cons new cdr) below), has) (ap cdr_of (body_put it.store n (Cons new cdr) below) ∙ sym (ap cdr_of body))) marks

    -- the cdr of a pair
    pub kept_cdr_stored : it.map.role a ≡ PairTail n → MemoryInvariant (record g { words = ws }) (record it { store = put_body it.store n (Cons car new) })
    kept_cdr_stored r =
        kept_written g it (put_body it.store n (Cons car new)) ws h (same_put it.store n (Cons car new) below)
        (store_tail (word g) (word (record g { words = ws })) (classes g) it.map it.store (put_body it.store n (Cons car new)) h.roled n a (stored_body it.store n (Cons car new) below (sym (ap kind_of body))) others code r
        (new, ap cdr_of (body_put it.store n (Cons car new) below), has) (ap car_of (body_put it.store n (Cons car new) below) ∙ sym (ap car_of body))) marks

  -- a field of a block
  pub kept_field_stored : (i kind : ℕ) (fields : List Value) (new : Value) → (object it.store n).body ≡ Block kind fields → i < length fields → it.map.role a ≡ Field n i
      → value_of it.map.role (word (record g { words = ws }) a).content ≡ Some new → MemoryInvariant (record g { words = ws }) (record it { store = put_body it.store n (Block kind (set fields i new)) })
  kept_field_stored i kind fields new body l r has =
      let put = body_put it.store n (Block kind (set fields i new)) below in
      kept_written g it (put_body it.store n (Block kind (set fields i new))) ws h (same_put it.store n (Block kind (set fields i new)) below)
      (store_field (word g) (word (record g { words = ws })) (classes g) it.map it.store (put_body it.store n (Block kind (set fields i new))) h.roled n a (stored_body it.store n (Block kind (set fields i new)) below (sym (ap kind_of body))) others code i r
      (new, ap (λ (b : Body). field_of b i) put ∙ field_set fields i new l, has)
      (ap header_of put ∙ ap (λ (x : ℕ). Some (kind, x)) (length-set fields i new) ∙ sym (ap header_of body))
      (λ j ne. ap (λ (b : Body). field_of b j) put ∙ field_kept fields i new j ne ∙ sym (ap (λ (b : Body). field_of b j) body))) marks

-- a word that has a value gets another content with that value: the memory represents the same state
pub kept_settled : (g : Image) (it : Interpretation) → MemoryInvariant g it → (a : ℕ) (ws : List Parts) → Marks (record g { words = ws })
    → ((c : ℕ) → (c ≡ a → ⊥) → word (record g { words = ws }) c ≡ word g c) → (word (record g { words = ws }) a).cdr ≡ (word g a).cdr
    → (v : Value) → value_of it.map.role (word g a).content ≡ Some v → value_of it.map.role (word (record g { words = ws }) a).content ≡ Some v → MemoryInvariant (record g { words = ws }) it
kept_settled g it h a ws marks others code v had has =
    kept_written g it it.store ws h (record { size = refl; held = λ m. refl; area = λ m. refl; charge = λ m. refl; husks = λ x y. refl })
    (resettled (word g) (word (record g { words = ws })) (classes g) it.map it.store h.roled a v others code had has) marks
