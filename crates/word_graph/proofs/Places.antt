-- Words show the objects that a ground represents, by their places.
use Rattle.std.proofs.Common.{◌≡◌, ℕ, zero, suc, ◌+◌, ◌<◌, ◌==◌, inl, inr, Bool, true, false, if◌then◌else◌, refl, sym, ◌∙◌, ap, subst, List, length, get_or, map, Option, Some, None, arith}
use Rattle.std.specs.List.{range_with_len}
use Rattle.std.proofs.lemmas.List.{get_or-map, length-map, ext_get_or}
use Rattle.std.proofs.lemmas.List.FromFn.{get_or-map-range_with_len, length-map-range_with_len}
use Rattle.store_word.specs.Words.{Parts}
use Rattle.store_word.specs.declared.word.Content.{Content}
use Rattle.store_word.specs.declared.word.Content.TheVariants.{Null, Nil as NilWord, Fixnum, List as ListAt, Struct as StructAt, Header, HeaderForward, GcForward}
use Rattle.lisp_graph.specs.declared.object.Value.{Value}
use Rattle.lisp_graph.specs.declared.object.Value.TheVariants as V
use Rattle.lisp_graph.specs.declared.object.Body.{Body}
use Rattle.lisp_graph.specs.declared.object.Body.TheVariants.{Cons, Block}
use Rattle.lisp_graph.specs.Graph.{object_at, no_object, width}
use Rattle.lisp_graph.specs.KeyedGraph.{part_of}
use Rattle.mem_port.specs.Store as Memory
use Rattle.area_space.specs.Table.{Table}
use Rattle.lisp_ground.specs.lisp_meaning.State.{object, in_use}
use Rattle.lisp_ground.specs.lisp_meaning.Roles.{Kind, AsCons, AsBlock, names_as, as_ref, value_of, kind_of, Begins, Role}
use Rattle.obj_layout.specs.Forwards.{word_at, forward_of, here, on}
use Rattle.obj_layout.specs.Shapes.{charge_at}
use Rattle.lisp_ground.specs.GroundInvariant.{GroundInvariant}
use Rattle.lisp_ground.specs.lisp_meaning.Interpretation.{Interpretation}
use Rattle.lisp_ground.specs.Leading.{IsConsIn, IsBlockIn, car_in, cdr_in}
use Rattle.lisp_ground.proofs.words.FinalAddresses.{final_place, name_in_use, place_inside}
use Rattle.lisp_ground.proofs.words.References.{references_lead}
use Rattle.lisp_ground.proofs.words.Shapes.{pair_charged, cell_charged, head_charged}
use Rattle.word_graph.specs.Shown.{onward, led, place_of, value_in, body_by, object_in, objects_in, part_in}
use Rattle.word_graph.specs.Laws.{placed, placed_body, placed_object, LeadsThere, ValuesArePlaces, ObjectsArePlaces}

-- Forwards are followed

led-zero : (words : List Parts) (at : ℕ) → led 0 words at ≡ at
unfolding led
led-zero words at = refl

led-suc : (n : ℕ) (words : List Parts) (at : ℕ) → led (suc n) words at ≡ onward (forward_of (word_at words at).content) at (led n words)
unfolding led
led-suc n words at = refl

stays : (fuel : ℕ) (words : List Parts) (at : ℕ) → forward_of (word_at words at).content ≡ None → led fuel words at ≡ at
stays zero words at none = led-zero words at
stays (suc n) words at none = led-suc n words at ∙ ap (λ (o : Option ℕ). onward o at (led n words)) none

pub leads_there : LeadsThere
leads_there words fuel zero at to (here none) few = stays fuel words at none
leads_there words zero (suc count) at to (on forward rest) few = absurd (omega arith)
leads_there words (suc fuel) (suc count) at to (on {next = next} forward rest) few =
    led-suc fuel words at ∙ ap (λ (o : Option ℕ). onward o at (led fuel words)) forward ∙ leads_there words fuel count next to rest (omega arith)

-- Values

pub some_same : {A : Type 0} (x y : A) → Some x ≡ Some y → x ≡ y
some_same x y e = cc

ref_named : (o : Option ℕ) (v : Value) → as_ref o ≡ Some v → (n : ℕ) × (o ≡ Some n) × (v ≡ V.Ref n)
ref_named None v e = absurd cc
ref_named (Some n) v e = (n, refl, sym (some_same (V.Ref n) v e))

named_by : (o : Option ℕ) (q : ℕ) → as_ref o ≡ Some (V.Ref q) → o ≡ Some q
named_by None q e = absurd cc
named_by (Some n) q e = let same : n ≡ q = cc in ap Some same

-- if a word has a value, it isn't a header
no_header_body : (words : List Parts) (role : ℕ → Role) (c : Content) (v : Value) (at : ℕ) → value_of role c ≡ Some v → body_by words at c ≡ Cons (value_in words (car_in words at)) (value_in words (cdr_in words at))
no_header_body words role Null v at e = absurd cc
no_header_body words role NilWord v at e = refl
no_header_body words role (Fixnum i) v at e = refl
no_header_body words role (ListAt a) v at e = refl
no_header_body words role (StructAt a) v at e = refl
no_header_body words role (Header code n) v at e = absurd cc
no_header_body words role (HeaderForward a) v at e = absurd cc
no_header_body words role (GcForward a) v at e = absurd cc

no_header_part : (words : List Parts) (role : ℕ → Role) (c : Content) (v : Value) (at index : ℕ) → value_of role c ≡ Some v → part_in words at index c ≡ (if index == 0 then car_in words at else cdr_in words at)
no_header_part words role Null v at index e = absurd cc
no_header_part words role NilWord v at index e = refl
no_header_part words role (Fixnum i) v at index e = refl
no_header_part words role (ListAt a) v at index e = refl
no_header_part words role (StructAt a) v at index e = refl
no_header_part words role (Header code n) v at index e = absurd cc
no_header_part words role (HeaderForward a) v at index e = absurd cc
no_header_part words role (GcForward a) v at index e = absurd cc

either_value : (role : ℕ → Role) (b : Bool) (x y : Content) (v w : Value) → value_of role x ≡ Some v → value_of role y ≡ Some w → value_of role (if b then x else y) ≡ Some (if b then v else w)
either_value role true x y v w e f = e
either_value role false x y v w e f = f

module _ (m : Memory.Store) (t : Table) (it : Interpretation) (on_ground : GroundInvariant m t it) where
  place_is : (kind : Kind) (a n : ℕ) → names_as kind (it.map.role a) ≡ Some n → place_of m.words a ≡ it.map.at n
  place_is kind a n named =
      let f = final_place m t it on_ground kind a n named in
      leads_there m.words 12 f.0 a (it.map.at n) f.2 (let few = f.1 in few)

  by_reference : (kind : Kind) (a : ℕ) (v : Value) → as_ref (names_as kind (it.map.role a)) ≡ Some v → V.Ref (place_of m.words a) ≡ placed it.map.at v
  by_reference kind a v e =
      let r = ref_named (names_as kind (it.map.role a)) v e in
      ap V.Ref (place_is kind a r.0 r.1) ∙ sym (ap (placed it.map.at) r.2)

  pub value_place : (c : Content) (v : Value) → value_of it.map.role c ≡ Some v → value_in m.words c ≡ placed it.map.at v
  value_place Null v e = absurd cc
  value_place NilWord v e = ap (placed it.map.at) (some_same V.Nil v e)
  value_place (Fixnum i) v e = ap (placed it.map.at) (some_same (V.Fix i) v e)
  value_place (ListAt a) v e = by_reference AsCons a v e
  value_place (StructAt a) v e = by_reference AsBlock a v e
  value_place (Header code n) v e = absurd cc
  value_place (HeaderForward a) v e = absurd cc
  value_place (GcForward a) v e = absurd cc

  -- the name in a value of a word is used
  pub value_used : (c : Content) (v : Value) (q : ℕ) → value_of it.map.role c ≡ Some v → v ≡ V.Ref q → in_use it.store q
  value_used Null v q e r = absurd cc
  value_used NilWord v q e r = absurd cc
  value_used (Fixnum i) v q e r = absurd cc
  value_used (ListAt a) v q e r = name_in_use m t it on_ground AsCons a q (named_by (names_as AsCons (it.map.role a)) q (e ∙ ap Some r))
  value_used (StructAt a) v q e r = name_in_use m t it on_ground AsBlock a q (named_by (names_as AsBlock (it.map.role a)) q (e ∙ ap Some r))
  value_used (Header code n) v q e r = absurd cc
  value_used (HeaderForward a) v q e r = absurd cc
  value_used (GcForward a) v q e r = absurd cc

  -- Bodies

  cons_in : (n : ℕ) → in_use it.store n → kind_of (object it.store n).body ≡ AsCons → IsConsIn m.words it.map it.store n
  cons_in n used is = references_lead.conses m t it on_ground n used is

  block_in : (n : ℕ) → in_use it.store n → kind_of (object it.store n).body ≡ AsBlock → IsBlockIn m.words it.map it.store n
  block_in n used is = references_lead.blocks m t it on_ground n used is

  cons_body : (n : ℕ) → IsConsIn m.words it.map it.store n → body_by m.words (it.map.at n) (word_at m.words (it.map.at n)).content ≡ placed_body it.map.at (object it.store n).body
  cons_body n c =
      no_header_body m.words it.map.role (word_at m.words (it.map.at n)).content c.car (it.map.at n) c.car_value
      ∙ ap (λ (x : Value). Cons x (value_in m.words (cdr_in m.words (it.map.at n)))) (value_place (car_in m.words (it.map.at n)) c.car c.car_value)
      ∙ ap (λ (x : Value). Cons (placed it.map.at c.car) x) (value_place (cdr_in m.words (it.map.at n)) c.cdr c.cdr_value)
      ∙ sym (ap (placed_body it.map.at) c.body)

  -- the fields of a block, one by one
  fields_same : (fields : List Value) (f : ℕ → Value) → ((i : ℕ) → i < length fields → f i ≡ placed it.map.at (get_or fields i V.Nil)) → map f (range_with_len 0 (length fields)) ≡ map (placed it.map.at) fields
  fields_same fields f each = ext_get_or V.Nil (map f (range_with_len 0 (length fields))) (map (placed it.map.at) fields)
      (length-map-range_with_len f 0 (length fields) ∙ sym (length-map fields (placed it.map.at)))
      (λ i l. (let low : i < length fields = (let n = length-map-range_with_len f 0 (length fields) in omega arith) in
      get_or-map-range_with_len f 0 (length fields) i i V.Nil low (omega arith) ∙ each i low ∙ sym (get_or-map (placed it.map.at) fields i V.Nil V.Nil low)))

  block_body : (n : ℕ) → IsBlockIn m.words it.map it.store n → body_by m.words (it.map.at n) (word_at m.words (it.map.at n)).content ≡ placed_body it.map.at (object it.store n).body
  block_body n b =
      ap (body_by m.words (it.map.at n)) b.header
      ∙ ap (Block b.code) (fields_same b.fields (λ i. value_in m.words (word_at m.words (suc (it.map.at n) + i)).content) (λ i l. value_place (word_at m.words (suc (it.map.at n) + i)).content (get_or b.fields i V.Nil) (b.field_values i l)))
      ∙ sym (ap (placed_body it.map.at) b.body)

  pub body_place : (n : ℕ) → in_use it.store n → body_by m.words (it.map.at n) (word_at m.words (it.map.at n)).content ≡ placed_body it.map.at (object it.store n).body
  body_place n used = go (kind_of (object it.store n).body) refl
    where
      go : (kind : Kind) → kind_of (object it.store n).body ≡ kind → body_by m.words (it.map.at n) (word_at m.words (it.map.at n)).content ≡ placed_body it.map.at (object it.store n).body
      go AsCons is = cons_body n (cons_in n used is)
      go AsBlock is = block_body n (block_in n used is)

  -- the word of a part of a held object has the part's value
  cons_part : (n index : ℕ) → IsConsIn m.words it.map it.store n → value_of it.map.role (part_in m.words (it.map.at n) index (word_at m.words (it.map.at n)).content) ≡ Some (part_of (object it.store n).body index)
  cons_part n index c =
      ap (value_of it.map.role) (no_header_part m.words it.map.role (word_at m.words (it.map.at n)).content c.car (it.map.at n) index c.car_value)
      ∙ either_value it.map.role (index == 0) (car_in m.words (it.map.at n)) (cdr_in m.words (it.map.at n)) c.car c.cdr c.car_value c.cdr_value
      ∙ sym (ap (λ (b : Body). Some (part_of b index)) c.body)

  block_part : (n index : ℕ) → index < width (object it.store n).body → IsBlockIn m.words it.map it.store n → value_of it.map.role (part_in m.words (it.map.at n) index (word_at m.words (it.map.at n)).content) ≡ Some (part_of (object it.store n).body index)
  block_part n index l b =
      ap (λ (c : Content). value_of it.map.role (part_in m.words (it.map.at n) index c)) b.header
      ∙ b.field_values index (subst (λ (x : Body). index < width x) b.body l)
      ∙ sym (ap (λ (x : Body). Some (part_of x index)) b.body)

  pub part_value : (n index : ℕ) → in_use it.store n → index < width (object it.store n).body → value_of it.map.role (part_in m.words (it.map.at n) index (word_at m.words (it.map.at n)).content) ≡ Some (part_of (object it.store n).body index)
  part_value n index used l = go (kind_of (object it.store n).body) refl
    where
      go : (kind : Kind) → kind_of (object it.store n).body ≡ kind → value_of it.map.role (part_in m.words (it.map.at n) index (word_at m.words (it.map.at n)).content) ≡ Some (part_of (object it.store n).body index)
      go AsCons is = cons_part n index (cons_in n used is)
      go AsBlock is = block_part n index l (block_in n used is)

  -- so the names in it are used
  pub part_used : (n index q : ℕ) → in_use it.store n → index < width (object it.store n).body → part_of (object it.store n).body index ≡ V.Ref q → in_use it.store q
  part_used n index q used l e = value_used (part_in m.words (it.map.at n) index (word_at m.words (it.map.at n)).content) (part_of (object it.store n).body index) q (part_value n index used l) e

  -- Objects

  charge_place : (n : ℕ) → in_use it.store n → charge_at m.words (it.map.at n) ≡ (object it.store n).charge
  charge_place n used = go (kind_of (object it.store n).body) (on_ground.kept.roled.begins n used)
    where
      go : (kind : Kind) → Begins kind (it.map.role (it.map.at n)) n → charge_at m.words (it.map.at n) ≡ (object it.store n).charge
      go AsCons (inl r) = pair_charged m t it on_ground (it.map.at n) n r
      go AsCons (inr r) = cell_charged m t it on_ground (it.map.at n) n r.0 r.1
      go AsBlock r = head_charged m t it on_ground (it.map.at n) n r

  pub object_place : (n : ℕ) → in_use it.store n → object_in m t (it.map.at n) ≡ placed_object it.map.at (object it.store n)
  object_place n used =
      ap (λ (a : ℕ). record { area = a; charge = charge_at m.words (it.map.at n); body = body_by m.words (it.map.at n) (word_at m.words (it.map.at n)).content }) (on_ground.kept.classes_of.area n used)
      ∙ ap (λ (c : ℕ). record { area = (object it.store n).area; charge = c; body = body_by m.words (it.map.at n) (word_at m.words (it.map.at n)).content }) (charge_place n used)
      ∙ ap (λ (b : Body). record { area = (object it.store n).area; charge = (object it.store n).charge; body = b }) (body_place n used)

  -- in the graph it is at its place
  pub object_there : (n : ℕ) → in_use it.store n → object_at (objects_in m t) (it.map.at n) ≡ placed_object it.map.at (object it.store n)
  object_there n used =
      get_or-map-range_with_len (object_in m t) 0 (length m.words) (it.map.at n) (it.map.at n) no_object (place_inside m t it on_ground n used) (omega arith)
      ∙ object_place n used

pub values_are_places : ValuesArePlaces
values_are_places m t it on_ground c v e = value_place m t it on_ground c v e

pub objects_are_places : ObjectsArePlaces
objects_are_places m t it on_ground n used = object_place m t it on_ground n used
