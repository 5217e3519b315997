-- The words of a cons as they are shown.
use Rattle.std.proofs.Common.{◌≡◌, ◌==◌, if◌then◌else◌, ℕ, ◌<◌, ◌/◌, true, refl, sym, ◌∙◌, ap, subst, List, Contains, arith}
use Rattle.store_word.specs.Words.{Parts}
use Rattle.store_word.specs.declared.word.CdrCode.{CdrCode}
use Rattle.store_word.specs.declared.word.Content.{Content}
use Rattle.store_word.specs.declared.word.Content.TheVariants.{Null, Nil as NilWord, Fixnum, List as ListAt, Struct as StructAt, Header, HeaderForward, GcForward}
use Rattle.lisp_graph.specs.declared.object.Body.{Body}
use Rattle.lisp_graph.specs.declared.object.Body.TheVariants.{Cons, Block}
use Rattle.lisp_graph.specs.declared.object.Object.{Object}
use Rattle.lisp_graph.specs.declared.walk.Seen.{Seen}
use Rattle.lisp_graph.specs.declared.walk.SeenCons.{SeenCons}
use Rattle.lisp_graph.specs.Graph.{object_at, width}
use Rattle.lisp_graph.specs.KeyedGraph.{is_cons}
use Rattle.mem_port.specs.Store.{Store, StoresNothing}
use Rattle.area_space.specs.declared.classes.Class.{Class}
use Rattle.area_space.specs.Table.{Table, levels_of, chain, class_number}
use Rattle.obj_layout.specs.Forwards.{word_at}
use Rattle.obj_layout.specs.Shapes.{charge_at, cons_shape, shape_from, shape_of}
use Rattle.lisp_ground.specs.Leading.{HasCdr, car_in, cdr_in}
use Rattle.word_graph.specs.Shown.{body_by, cons_in, field_in, form_in, is_cons_in, objects_in, part_in, parts_in, told}
use Rattle.word_graph.specs.Placed.{CanSee, HasObject}
use Rattle.word_graph.specs.Words.{HasPart}
use Rattle.word_graph.proofs.ShownObjects.{class_area, object_here, object_part, part_can, part_told}

-- A cons has two parts, and no header.

two_parts : (body : Body) → is_cons body ≡ true → width body ≡ 2
two_parts (Cons car cdr) is = refl
two_parts (Block code fields) is = absurd cc

-- the shape and the parts of a cons that begins with this content
record BeginsCons (words : List Parts) (at : ℕ) (c : Content) : Type 0 where
  shape : (code : CdrCode) → shape_from c code ≡ cons_shape code
  part : (index : ℕ) → part_in words at index c ≡ (if index == 0 then car_in words at else cdr_in words at)
  second : HasPart words at 1 c → HasCdr words at

begins_cons : (words : List Parts) (at : ℕ) (c : Content) → is_cons (body_by words at c) ≡ true → BeginsCons words at c
begins_cons words at Null is = record { shape = λ code. refl; part = λ index. refl; second = λ has. has }
begins_cons words at NilWord is = record { shape = λ code. refl; part = λ index. refl; second = λ has. has }
begins_cons words at (Fixnum i) is = record { shape = λ code. refl; part = λ index. refl; second = λ has. has }
begins_cons words at (ListAt a) is = record { shape = λ code. refl; part = λ index. refl; second = λ has. has }
begins_cons words at (StructAt a) is = record { shape = λ code. refl; part = λ index. refl; second = λ has. has }
begins_cons words at (Header code n) is = absurd cc
begins_cons words at (HeaderForward a) is = record { shape = λ code. refl; part = λ index. refl; second = λ has. has }
begins_cons words at (GcForward a) is = record { shape = λ code. refl; part = λ index. refl; second = λ has. has }

abbrev pub cons_made : ℕ → ℕ → Seen → Seen → SeenCons
cons_made area charge car cdr = record { area = area; charge = charge; car = car; cdr = cdr }

module _ (m : Store) (t : Table) (at : ℕ) (o : HasObject m t at) (pair : is_cons_in m t at ≡ true) where
  begins : BeginsCons m.words at (word_at m.words at).content
  begins = begins_cons m.words at (word_at m.words at).content (sym (ap (λ (x : Object). is_cons x.body) (object_here m t at o)) ∙ pair)

  first_part : 0 < parts_in m t at
  first_part = let two : parts_in m t at ≡ 2 = two_parts (object_at (objects_in m t) at).body pair in omega arith

  second_part : 1 < parts_in m t at
  second_part = let two : parts_in m t at ≡ 2 = two_parts (object_at (objects_in m t) at).body pair in omega arith

  -- its first word has the shape of a cons, and its cdr is in the memory
  pub cons_shaped : (first : Parts) → word_at m.words at ≡ first → shape_of first ≡ cons_shape first.cdr
  cons_shaped first is = subst (λ (w : Parts). shape_from w.content w.cdr ≡ cons_shape w.cdr) is (begins.shape (word_at m.words at).cdr)

  pub cons_cdr : HasCdr m.words at
  cons_cdr = begins.second (object_part m t at o 1 second_part)

  module _ (m' : Store) (c : Content) (stays : StoresNothing m m') where
    -- the words of its car and of its cdr can be seen, and show its two fields
    pub car_can : c ≡ car_in m.words at → CanSee m' t c
    car_can is = part_can m t at o m' 0 c first_part stays (is ∙ sym (begins.part 0))

    pub cdr_can : c ≡ cdr_in m.words at → CanSee m' t c
    cdr_can is = part_can m t at o m' 1 c second_part stays (is ∙ sym (begins.part 1))

    pub car_told : c ≡ car_in m.words at → told m' t c ≡ field_in m t at 0
    car_told is = part_told m t at o m' 0 c first_part stays (is ∙ sym (begins.part 0))

    pub cdr_told : c ≡ cdr_in m.words at → told m' t c ≡ field_in m t at 1
    cdr_told is = part_told m t at o m' 1 c second_part stays (is ∙ sym (begins.part 1))

-- what is returned of a cons
pub cons_told : (m : Store) (t : Table) (at : ℕ) → HasObject m t at → (class : Class) (charge : ℕ) (car cdr : Seen) → Contains (chain t (class_number t class)) (at / 4096) → class.level < levels_of t
    → charge ≡ charge_at m.words at → car ≡ field_in m t at 0 → cdr ≡ field_in m t at 1
    → cons_made class.area charge car cdr ≡ cons_in m t at
cons_told m t at o class charge car cdr inside low charge_is car_is cdr_is =
    let here : object_at (objects_in m t) at ≡ _ = object_here m t at o in
    let area_same : class.area ≡ (form_in m t at).area = sym (class_area m t at o class inside low) ∙ sym (ap (λ (x : Object). x.area) here) in
    let charge_same : charge ≡ (form_in m t at).charge = charge_is ∙ sym (ap (λ (x : Object). x.charge) here) in
    ap (λ (a : ℕ). cons_made a charge car cdr) area_same
    ∙ ap (λ (x : ℕ). cons_made (form_in m t at).area x car cdr) charge_same
    ∙ ap (λ (x : Seen). cons_made (form_in m t at).area (form_in m t at).charge x cdr) car_is
    ∙ ap (cons_made (form_in m t at).area (form_in m t at).charge (field_in m t at 0)) cdr_is
