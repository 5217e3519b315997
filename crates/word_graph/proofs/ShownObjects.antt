-- Words and objects as they are shown.
use Rattle.std.proofs.Common.{◌≡◌, ◌≢◌, ◌==◌, if◌then◌else◌, ℕ, suc, ◌+◌, ◌<◌, ◌/◌, inl, inr, Bool, true, false, refl, sym, ◌∙◌, ap, subst, List, length, Some, None, Contains, arith}
use Rattle.std.proofs.lemmas.List.FromFn.{get_or-map-range_with_len, length-map-range_with_len}
use Rattle.std.proofs.lemmas.Bool.{ne_eqb}
use Rattle.store_word.specs.Words.{Parts}
use Rattle.store_word.specs.declared.word.Content.{Content}
use Rattle.store_word.specs.declared.word.Content.TheVariants.{Null, Nil as NilWord, Fixnum, List as ListAt, Struct as StructAt, Header, HeaderForward, GcForward}
use Rattle.lisp_graph.specs.declared.object.Value.{Value}
use Rattle.lisp_graph.specs.declared.object.Body.{Body}
use Rattle.lisp_graph.specs.declared.object.Body.TheVariants.{Cons, Block}
use Rattle.lisp_graph.specs.declared.object.Object.{Object}
use Rattle.lisp_graph.specs.declared.walk.Form.{Form}
use Rattle.lisp_graph.specs.declared.walk.Seen.TheVariants as S
use Rattle.lisp_graph.specs.Graph.{object_at, no_object, width}
use Rattle.lisp_graph.specs.KeyedGraph.{part_of, keyed_value, seen_body, code_of, form_of}
use Rattle.mem_port.specs.Store.{Store, StoresNothing}
use Rattle.area_space.specs.declared.classes.Class.{Class}
use Rattle.area_space.specs.Table.{Table, levels_of, slot_of, chain, class_from, class_number, IsUnclassed}
use Rattle.lisp_ground.specs.lisp_meaning.Image.{Region, is_free, region}
use Rattle.lisp_ground.specs.lisp_meaning.State.{in_use, object}
use Rattle.lisp_ground.proofs.lisp_meaning.maps.Patches.{begins_owner}
use Rattle.lisp_ground.specs.lisp_meaning.Roles.{AsCons, AsBlock, Kind, Role, Blank, kind_of, owner, value_of, Begins}
use Rattle.obj_layout.specs.Forwards.{word_at, forward_of, Final, HasFinal}
use Rattle.obj_layout.specs.Shapes.{charge_at, IsWhole}
use Rattle.lisp_ground.specs.Image.{ground_image, no_rest}
use Rattle.lisp_ground.specs.GroundInvariant.{GroundInvariant}
use Rattle.lisp_ground.specs.lisp_meaning.Interpretation.{Interpretation}
use Rattle.lisp_ground.specs.Leading.{Refers, HasCdr, car_in, cdr_in, reference}
use Rattle.lisp_ground.proofs.words.FinalAddresses.{place_inside}
use Rattle.lisp_ground.proofs.words.References.{references_lead}
use Rattle.lisp_ground.proofs.regions.Regions.{region_is, region_live, region_old}
use Rattle.lisp_ground.proofs.words.Shapes.{pair_whole, cell_whole, head_whole}
use Rattle.lisp_ground.proofs.regions.OldAndLive.{free_standing}
use Rattle.lisp_ground.proofs.regions.Slots.{slot_area}
use Rattle.lisp_ground.proofs.invariant.WordStores.{kept_on_same}
use Rattle.word_graph.specs.Shown.{value_in, body_by, object_in, objects_in, told, form_in, field_in, parts_in, part_in, code_in, count_in}
use Rattle.word_graph.specs.Placed.{CanSee, HasObject}
use Rattle.word_graph.specs.Words.{HasPart}
use Rattle.word_graph.specs.Laws.{placed, placed_body}
use Rattle.word_graph.proofs.Places.{value_place, part_value, object_there}
use Rattle.word_graph.proofs.HeldObjects.{part_placed, width_placed}

-- Words

as_cons : (a : ℕ) (body : Body) → kind_of body ≡ AsCons → seen_body a body ≡ S.Cons a
as_cons a (Cons car cdr) is = refl
as_cons a (Block code fields) is = absurd cc

as_block : (a : ℕ) (body : Body) → kind_of body ≡ AsBlock → seen_body a body ≡ S.Block a
as_block a (Cons car cdr) is = absurd cc
as_block a (Block code fields) is = refl

kind_placed : (at : ℕ → ℕ) (body : Body) → kind_of (placed_body at body) ≡ kind_of body
kind_placed at (Cons car cdr) = refl
kind_placed at (Block code fields) = refl

module _ (m : Store) (t : Table) where
  refers : (kind : Kind) (a : ℕ) (can : CanSee m t (reference kind a)) → Refers m.words can.it.map can.it.store kind a can.value
  refers kind a can = references_lead.values m t can.it can.kept kind a can.value can.value_is

  -- a reference has a final address
  has_final : (kind : Kind) (a : ℕ) → CanSee m t (reference kind a) → HasFinal m.words a
  has_final kind a can = let r = refers kind a can in (can.it.map.at r.name, r.leads.inside, r.leads.final)

  pub list_final : (c : Content) (a : ℕ) → CanSee m t c → c ≡ ListAt a → HasFinal m.words a
  list_final c a can is = has_final AsCons a (subst (CanSee m t) is can)

  pub struct_final : (c : Content) (a : ℕ) → CanSee m t c → c ≡ StructAt a → HasFinal m.words a
  struct_final c a can is = has_final AsBlock a (subst (CanSee m t) is can)

  -- and is shown by it, and by its kind
  told_there : (kind : Kind) (a to : ℕ) (can : CanSee m t (reference kind a)) → Final m.words a to → (body : Body) × (kind_of body ≡ kind) × (told m t (reference kind a) ≡ seen_body to body)
  told_there kind a to can final =
      let r = refers kind a can in
      let body = (object can.it.store r.name).body in (
        placed_body can.it.map.at body,
        kind_placed can.it.map.at body ∙ r.leads.kind_is,
        ap (keyed_value (objects_in m t)) (value_place m t can.it can.kept (reference kind a) can.value can.value_is ∙ ap (placed can.it.map.at) r.value)
            ∙ ap (λ (o : Object). seen_body (can.it.map.at r.name) o.body) (object_there m t can.it can.kept r.name r.leads.used)
            ∙ ap (λ (x : ℕ). seen_body x (placed_body can.it.map.at body)) (sym (r.leads.only to final)),
      )

  pub told_cons : (c : Content) (a to : ℕ) → CanSee m t c → c ≡ ListAt a → Final m.words a to → S.Cons to ≡ told m t c
  told_cons c a to can is final =
      let there = told_there AsCons a to (subst (CanSee m t) is can) final in
      sym (as_cons to there.0 there.1) ∙ sym there.2 ∙ sym (ap (told m t) is)

  pub told_block : (c : Content) (a to : ℕ) → CanSee m t c → c ≡ StructAt a → Final m.words a to → S.Block to ≡ told m t c
  told_block c a to can is final =
      let there = told_there AsBlock a to (subst (CanSee m t) is can) final in
      sym (as_block to there.0 there.1) ∙ sym there.2 ∙ sym (ap (told m t) is)

-- Objects

abbrev with_words : Store → List Parts → Store
with_words m words = record m { words = words }

abbrev pub form_made : ℕ → ℕ → ℕ → ℕ → Form
form_made area code count charge = record { area = area; code = code; length = count; charge = charge }

code_told : (words : List Parts) (at : ℕ) (c : Content) → code_of (body_by words at c) ≡ code_in c
code_told words at Null = refl
code_told words at NilWord = refl
code_told words at (Fixnum i) = refl
code_told words at (ListAt a) = refl
code_told words at (StructAt a) = refl
code_told words at (Header code n) = refl
code_told words at (HeaderForward a) = refl
code_told words at (GcForward a) = refl

count_told : (words : List Parts) (at : ℕ) (c : Content) → width (body_by words at c) ≡ count_in c
count_told words at Null = refl
count_told words at NilWord = refl
count_told words at (Fixnum i) = refl
count_told words at (ListAt a) = refl
count_told words at (StructAt a) = refl
count_told words at (Header code n) = length-map-range_with_len (λ i. value_in words (word_at words (suc at + i)).content) 0 n
count_told words at (HeaderForward a) = refl
count_told words at (GcForward a) = refl

-- if a word has a value or is a header, it isn't a forward
no_forward : (role : ℕ → Role) (c : Content) (v : Value) → value_of role c ≡ Some v → forward_of c ≡ None
no_forward role Null v e = absurd cc
no_forward role NilWord v e = refl
no_forward role (Fixnum i) v e = refl
no_forward role (ListAt a) v e = refl
no_forward role (StructAt a) v e = refl
no_forward role (Header code n) v e = absurd cc
no_forward role (HeaderForward a) v e = absurd cc
no_forward role (GcForward a) v e = absurd cc

-- a part of a cons is in the memory if its cdr is
cons_part_inside : (words : List Parts) (role : ℕ → Role) (at index : ℕ) (c : Content) (v : Value) → value_of role c ≡ Some v → HasCdr words at → HasPart words at index c
cons_part_inside words role at index Null v e cdr = absurd cc
cons_part_inside words role at index NilWord v e cdr = cdr
cons_part_inside words role at index (Fixnum i) v e cdr = cdr
cons_part_inside words role at index (ListAt a) v e cdr = cdr
cons_part_inside words role at index (StructAt a) v e cdr = cdr
cons_part_inside words role at index (Header code n) v e cdr = absurd cc
cons_part_inside words role at index (HeaderForward a) v e cdr = absurd cc
cons_part_inside words role at index (GcForward a) v e cdr = absurd cc

module _ (m : Store) (t : Table) (it : Interpretation) (on : GroundInvariant m t it) (n : ℕ) (used : in_use it.store n) where
  place_whole : IsWhole m.words (it.map.at n)
  place_whole = go (kind_of (object it.store n).body) (on.kept.roled.begins n used)
    where
      go : (kind : Kind) → Begins kind (it.map.role (it.map.at n)) n → IsWhole m.words (it.map.at n)
      go AsCons (inl r) = pair_whole m t it on (it.map.at n) n r
      go AsCons (inr r) = cell_whole m t it on (it.map.at n) n r.0 r.1
      go AsBlock r = head_whole m t it on (it.map.at n) n r

  place_part : (index : ℕ) → index < width (object it.store n).body → HasPart m.words (it.map.at n) index (word_at m.words (it.map.at n)).content
  place_part index l = go (kind_of (object it.store n).body) refl
    where
      go : (kind : Kind) → kind_of (object it.store n).body ≡ kind → HasPart m.words (it.map.at n) index (word_at m.words (it.map.at n)).content
      go AsCons is =
          let c = references_lead.conses m t it on n used is in
          cons_part_inside m.words it.map.role (it.map.at n) index (word_at m.words (it.map.at n)).content c.car c.car_value c.second
      go AsBlock is =
          let b = references_lead.blocks m t it on n used is in
          let low : index < length b.fields = subst (λ (x : Body). index < width x) b.body l in
          let inside = b.inside in
          let there : suc (it.map.at n) + index < length m.words = omega arith in
          subst (HasPart m.words (it.map.at n) index) (sym b.header) there

  place_classed : IsUnclassed t (it.map.at n / 4096) → ⊥
  place_classed free =
      let blank : it.map.role (it.map.at n) ≡ Blank = on.kept.covered.free (it.map.at n) (ap is_free (free_standing m t no_rest on.table (it.map.at n) free)) in
      let owned : owner (it.map.role (it.map.at n)) ≡ Some n = begins_owner (kind_of (object it.store n).body) (it.map.role (it.map.at n)) n (on.kept.roled.begins n used) in
      let none : None ≡ Some n = sym (ap owner blank) ∙ owned in
      cc

module _ (m : Store) (t : Table) (at : ℕ) (o : HasObject m t at) where
  pub object_inside : at < length m.words
  object_inside = subst (λ (x : ℕ). x < length m.words) o.place (place_inside m t o.it o.kept o.name o.used)

  pub object_whole : IsWhole m.words at
  object_whole = subst (IsWhole m.words) o.place (place_whole m t o.it o.kept o.name o.used)

  -- its region has a class
  pub object_classed : IsUnclassed t (at / 4096) → ⊥
  object_classed free = place_classed m t o.it o.kept o.name o.used (subst (λ (x : ℕ). IsUnclassed t (x / 4096)) (sym o.place) free)

  -- the area of that class is its area
  pub class_area : (class : Class) → Contains (chain t (class_number t class)) (at / 4096) → class.level < levels_of t → (region (ground_image m t) at).area ≡ class.area
  class_area class inside low = go class.stale refl ∙ slot_area t class.area class.level low
    where
      go : (old : Bool) → class.stale ≡ old → (region (ground_image m t) at).area ≡ slot_of t class.area class.level / levels_of t
      go true is = ap (λ (r : Region). r.area) (region_is m t no_rest (at / 4096) o.kept.table ∙ region_old t (at / 4096) (slot_of t class.area class.level) o.kept.table (subst (λ (b : Bool). Contains (chain t (class_from b (slot_of t class.area class.level))) (at / 4096)) is inside))
      go false is = ap (λ (r : Region). r.area) (region_is m t no_rest (at / 4096) o.kept.table ∙ region_live t (at / 4096) (slot_of t class.area class.level) o.kept.table (subst (λ (b : Bool). Contains (chain t (class_from b (slot_of t class.area class.level))) (at / 4096)) is inside))

  pub object_here : object_at (objects_in m t) at ≡ object_in m t at
  object_here = get_or-map-range_with_len (object_in m t) 0 (length m.words) at at no_object object_inside (omega arith)

  pub form_told : (class : Class) (first : Parts) (code count charge : ℕ) → Contains (chain t (class_number t class)) (at / 4096) → class.level < levels_of t
      → word_at m.words at ≡ first → code ≡ code_in first.content → count ≡ count_in first.content → charge ≡ charge_at m.words at
      → form_made class.area code count charge ≡ form_in m t at
  form_told class first code count charge inside low is code_is count_is charge_is =
      let body = body_by m.words at (word_at m.words at).content in
      let code_same : code ≡ code_of body = code_is ∙ sym (code_told m.words at first.content) ∙ sym (ap (λ (w : Parts). code_of (body_by m.words at w.content)) is) in
      let count_same : count ≡ width body = count_is ∙ sym (count_told m.words at first.content) ∙ sym (ap (λ (w : Parts). width (body_by m.words at w.content)) is) in
      ap (λ (a : ℕ). form_made a code count charge) (sym (class_area class inside low))
      ∙ ap (λ (x : ℕ). form_made (region (ground_image m t) at).area x count charge) code_same
      ∙ ap (λ (x : ℕ). form_made (region (ground_image m t) at).area (code_of body) x charge) count_same
      ∙ ap (λ (x : ℕ). form_made (region (ground_image m t) at).area (code_of body) (width body) x) charge_is
      ∙ sym (ap form_of object_here)

  -- Its parts

  body_there : (object_at (objects_in m t) at).body ≡ placed_body o.it.map.at (object o.it.store o.name).body
  body_there = ap (λ (x : Object). x.body) (sym (ap (object_at (objects_in m t)) o.place) ∙ object_there m t o.it o.kept o.name o.used)

  low_index : (index : ℕ) → index < parts_in m t at → index < width (object o.it.store o.name).body
  low_index index l = let same : parts_in m t at ≡ width (object o.it.store o.name).body = ap width body_there ∙ width_placed o.it.map.at (object o.it.store o.name).body in omega arith

  pub object_part : (index : ℕ) → index < parts_in m t at → HasPart m.words at index (word_at m.words at).content
  object_part index l = subst (λ (x : ℕ). HasPart m.words x index (word_at m.words x).content) o.place (place_part m t o.it o.kept o.name o.used index (low_index index l))

  part_means : (index : ℕ) → index < parts_in m t at → value_of o.it.map.role (part_in m.words at index (word_at m.words at).content) ≡ Some (part_of (object o.it.store o.name).body index)
  part_means index l = subst (λ (x : ℕ). value_of o.it.map.role (part_in m.words x index (word_at m.words x).content) ≡ Some (part_of (object o.it.store o.name).body index)) o.place
      (part_value m t o.it o.kept o.name index o.used (low_index index l))

  pub part_can : (m' : Store) (index : ℕ) (c : Content) → index < parts_in m t at → StoresNothing m m' → c ≡ part_in m.words at index (word_at m.words at).content → CanSee m' t c
  part_can m' index c l stays is = record {
    it = o.it;
    kept = kept_on_same m m' t o.it o.kept stays;
    value = part_of (object o.it.store o.name).body index;
    value_is = ap (value_of o.it.map.role) is ∙ part_means index l;
  }

  pub part_told : (m' : Store) (index : ℕ) (c : Content) → index < parts_in m t at → StoresNothing m m' → c ≡ part_in m.words at index (word_at m.words at).content → told m' t c ≡ field_in m t at index
  part_told m' index c l stays is =
      let part = part_of (object o.it.store o.name).body index in
      ap (λ (words : List Parts). told (with_words m words) t c) stays.words
      ∙ ap (told m t) is
      ∙ ap (keyed_value (objects_in m t)) (value_place m t o.it o.kept (part_in m.words at index (word_at m.words at).content) part (part_means index l)
      ∙ sym (part_placed o.it.map.at (object o.it.store o.name).body index (low_index index l))
      ∙ sym (ap (λ (b : Body). part_of b index) body_there))

-- the word of the cdr of a cons
pub cdr_part : (words : List Parts) (at index : ℕ) (c : Content) → ((code count : ℕ) → c ≡ Header code count → ⊥) → index ≢ 0 → part_in words at index c ≡ cdr_in words at
cdr_part words at index c not_header not_first = go c refl
  where
    second : (if index == 0 then car_in words at else cdr_in words at) ≡ cdr_in words at
    second = ap (λ (b : Bool). if b then car_in words at else cdr_in words at) (ne_eqb index 0 not_first)

    go : (x : Content) → c ≡ x → part_in words at index x ≡ cdr_in words at
    go Null e = second
    go NilWord e = second
    go (Fixnum n) e = second
    go (ListAt a) e = second
    go (StructAt a) e = second
    go (Header code n) e = absurd (not_header code n e)
    go (HeaderForward a) e = second
    go (GcForward a) e = second
