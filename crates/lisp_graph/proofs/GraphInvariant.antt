-- Each command keeps a graph in which no reference dangles.
use Rattle.std.proofs.Common.{◌≡◌, ℕ, zero, suc, ◌+◌, ◌*◌, ◌-◌, ◌≤◌, pos, List, [], ◌∷◌, length, get_or, set, map, replicate, Bool, true, false, Option, Some, None, refl, sym, ap, ◌∙◌, subst, arith, length-set, length-append}
use Rattle.std.specs.Prelude.{if◌then◌else◌, nat_lt, nat_le}
use Rattle.std.specs.List.{All}
use Rattle.std.specs.Option.{IfSome, IsSomeAnd}
use Rattle.std.specs.Prelude.{Result, Ok, Err, IfOk, OnErr}
use Rattle.std.proofs.lemmas.List.{length-map, length-replicate}
use Rattle.std.proofs.lemmas.List.Elements.{All-append, All-cons, All-head, All-map, All-nil, All-replicate, All-set, All-tail, All-weaker}
use Rattle.lisp_graph.specs.declared.object.Value.{Value}
use Rattle.lisp_graph.specs.declared.object.Value.TheVariants as V
use Rattle.lisp_graph.specs.declared.object.Body.{Body}
use Rattle.lisp_graph.specs.declared.object.Body.TheVariants as B
use Rattle.lisp_graph.specs.declared.object.Object.{Object}
use Rattle.lisp_graph.specs.declared.command.Command.{Command}
use Rattle.lisp_graph.specs.declared.command.Command.TheVariants as C
use Rattle.lisp_graph.specs.declared.reply.Reply.{Reply}
use Rattle.lisp_graph.specs.declared.reply.Reply.TheVariants as R
use Rattle.lisp_graph.specs.Graph.{Graph, IsGraph, IsObject, RefersBelow, PartsReferBelow, object_at, value_at, no_object, width}
use Rattle.lisp_graph.specs.Effect.{Answers, Effect, effect, with_register, with_object, with_body, list_from, link, made, grown_length, grown_block, block_of, when_cons, when_cons_body, when_block, when_block_body, grown, when_field, stored, fetched, answered}
use Rattle.lisp_graph.specs.Commands.{InLimits, IsPlain}

-- More objects

refers_more : (m n : ℕ) → m ≤ n → (value : Value) → RefersBelow m value → RefersBelow n value
refers_more m n l (V.Ref name) h = omega arith
refers_more m n l V.Nil h = tt
refers_more m n l (V.Fix number) h = tt

parts_more : (m n : ℕ) → m ≤ n → (body : Body) → PartsReferBelow m body → PartsReferBelow n body
parts_more m n l (B.Cons car cdr) h = (refers_more m n l car h.0, refers_more m n l cdr h.1)
parts_more m n l (B.Block code fields) h = All-weaker (RefersBelow m) (RefersBelow n) (refers_more m n l) fields h

object_more : (m n : ℕ) → m ≤ n → (object : Object) → IsObject m object → IsObject n object
object_more m n l object h = record { refers = parts_more m n l object.body h.refers; wide = h.wide }

-- Elements

at_or : {X : Type 0} (P : X → Type 0) (xs : List X) (i : ℕ) (d : X) → P d → All P xs → P (get_or xs i d)
at_or P [] i d p h = p
at_or P (x ∷ xs) zero d p h = All-head P x xs h
at_or P (x ∷ xs) (suc i) d p h = at_or P xs i d p (All-tail P x xs h)

pub value_below : (n : ℕ) (values : List Value) (i : ℕ) → All (RefersBelow n) values → RefersBelow n (value_at values i)
value_below n values i h = at_or (RefersBelow n) values i V.Nil tt h

pub object_in : (n : ℕ) (objects : List Object) (i : ℕ) → All (IsObject n) objects → IsObject n (object_at objects i)
object_in n objects i h = at_or (IsObject n) objects i no_object (record { refers = All-nil (RefersBelow n); wide = omega arith }) h

-- Changes of a graph

-- a graph with n objects
is_graph : (n : ℕ) (registers : List Value) (objects : List Object) → length objects ≡ n → All (RefersBelow n) registers → All (IsObject n) objects
    → IsGraph (record { registers = registers; objects = objects })
is_graph n registers objects e r o =
    let P : ℕ → Type 0 = λ m. All (RefersBelow m) registers in
    let Q : ℕ → Type 0 = λ m. All (IsObject m) objects in
    record { registers = subst P (sym e) r; objects = subst Q (sym e) o }

keeps_register : (graph : Graph) (to : ℕ) (value : Value) → IsGraph graph → RefersBelow (length graph.objects) value → IsGraph (with_register graph to value)
keeps_register graph to value h v =
    is_graph (length graph.objects) _ graph.objects refl (All-set (RefersBelow (length graph.objects)) graph.registers to value v h.registers) h.objects

keeps_object : (graph : Graph) (name : ℕ) (object : Object) → IsGraph graph → IsObject (length graph.objects) object → IsGraph (with_object graph name object)
keeps_object graph name object h o =
    is_graph (length graph.objects) graph.registers _ (length-set graph.objects name object) h.registers
    (All-set (IsObject (length graph.objects)) graph.objects name object o h.objects)

keeps_body : (graph : Graph) (name : ℕ) (body : Body) → IsGraph graph → PartsReferBelow (length graph.objects) body → width body ≤ 2047 → IsGraph (with_body graph name body)
keeps_body graph name body h r w = keeps_object graph name _ h (record { refers = r; wide = w })

-- objects get the next names
keeps_made : (graph : Graph) (to area charge : ℕ) (objects : List Object) → 1 ≤ length objects → IsGraph graph
    → All (IsObject (length graph.objects + length objects)) objects → IsGraph (made graph to area charge objects).graph
keeps_made graph to area charge objects some h o =
    let n = length graph.objects in
    let m = n + length objects in
    is_graph m _ _ (length-append graph.objects objects)
    (All-set (RefersBelow m) graph.registers to (V.Ref n) (omega arith) (All-weaker (RefersBelow n) (RefersBelow m) (refers_more n m (omega arith)) graph.registers h.registers))
    (All-append (IsObject m) graph.objects objects (All-weaker (IsObject n) (IsObject m) (object_more n m (omega arith)) graph.objects h.objects) o)

-- the conses of a list refer to each other
cells_in : (area name n : ℕ) (values : List Value) → All (RefersBelow n) values → name + length values ≤ n → All (IsObject n) (list_from area name values)
unfolding list_from
cells_in area name n [] h l = All-nil (IsObject n)
cells_in area name n (car ∷ cars) h l =
    All-cons (IsObject n) _ _
    (record { refers = (All-head (RefersBelow n) car cars h, link_below name n cars (omega arith)); wide = omega arith })
    (cells_in area (suc name) n cars (All-tail (RefersBelow n) car cars h) (omega arith))
  where
    link_below : (name n : ℕ) (values : List Value) → suc name + length values ≤ n → RefersBelow n (link name values)
    link_below name n [] l = tt
    link_below name n (value ∷ values) l = omega arith

pub length-list_from : (area name : ℕ) (values : List Value) → length (list_from area name values) ≡ length values
unfolding list_from
length-list_from area name [] = refl
length-list_from area name (car ∷ cars) = ap suc (length-list_from area (suc name) cars)

-- The cases of a command

keeps_cons_body : (n : ℕ) (body : Body) (found : Value → Value → Effect) (other : Effect) → PartsReferBelow n body
    → ((car cdr : Value) → RefersBelow n car → RefersBelow n cdr → IsGraph (found car cdr).graph) → IsGraph other.graph → IsGraph (when_cons_body body found other).graph
keeps_cons_body n (B.Cons car cdr) found other r f o = f car cdr r.0 r.1
keeps_cons_body n (B.Block code fields) found other r f o = o

keeps_cons : (graph : Graph) (value : Value) (found : ℕ → Value → Value → Effect) (other : Effect) → IsGraph graph
    → ((name : ℕ) (car cdr : Value) → RefersBelow (length graph.objects) car → RefersBelow (length graph.objects) cdr → IsGraph (found name car cdr).graph)
    → IsGraph other.graph → IsGraph (when_cons graph.objects value found other).graph
keeps_cons graph (V.Ref name) found other h f o =
    keeps_cons_body (length graph.objects) (object_at graph.objects name).body (found name) other (object_in (length graph.objects) graph.objects name h.objects).refers (f name) o
keeps_cons graph V.Nil found other h f o = o
keeps_cons graph (V.Fix number) found other h f o = o

keeps_block_body : (n : ℕ) (body : Body) (found : ℕ → List Value → Effect) (other : Effect) → PartsReferBelow n body → width body ≤ 2047
    → ((code : ℕ) (fields : List Value) → All (RefersBelow n) fields → length fields ≤ 2047 → IsGraph (found code fields).graph) → IsGraph other.graph
    → IsGraph (when_block_body body found other).graph
keeps_block_body n (B.Cons car cdr) found other r w f o = o
keeps_block_body n (B.Block code fields) found other r w f o = f code fields r w

keeps_block : (graph : Graph) (value : Value) (found : ℕ → ℕ → List Value → Effect) (other : Effect) → IsGraph graph
    → ((name code : ℕ) (fields : List Value) → All (RefersBelow (length graph.objects)) fields → length fields ≤ 2047 → IsGraph (found name code fields).graph)
    → IsGraph other.graph → IsGraph (when_block graph.objects value found other).graph
keeps_block graph (V.Ref name) found other h f o =
    let object = object_in (length graph.objects) graph.objects name h.objects in
    keeps_block_body (length graph.objects) (object_at graph.objects name).body (found name) other object.refers object.wide (f name) o
keeps_block graph V.Nil found other h f o = o
keeps_block graph (V.Fix number) found other h f o = o

keeps_if : (test : Bool) (this other : Effect) → IsGraph this.graph → IsGraph other.graph → IsGraph (if test then this else other).graph
keeps_if true this other t o = t
keeps_if false this other t o = o

keeps_field : (graph : Graph) (fields : List Value) (index : ℕ) (found : Effect) → IsGraph graph → IsGraph found.graph → IsGraph (when_field graph fields index found).graph
keeps_field graph fields index found h f =
    keeps_if (nat_lt index (length fields)) found (answered (R.NoField (length fields)) graph) f h

keeps_grown : (graph : Graph) (name code : ℕ) (fields : List Value) (wanted : ℕ) → IsGraph graph → All (RefersBelow (length graph.objects)) fields
    → length fields ≤ 2047 → wanted ≤ 2047 → IsGraph (grown graph name code fields wanted).graph
keeps_grown graph name code fields wanted h r l w =
    let n = length graph.objects in
    let count = grown_length (length fields) wanted in
    let wider : IsObject n (grown_block (object_at graph.objects name).area code fields count) = record {
      refers = All-append (RefersBelow n) fields _ r (All-replicate (RefersBelow n) (count - length fields) V.Nil tt);
      wide = omega (arith, length-append fields (replicate (count - length fields) V.Nil), length-replicate (count - length fields) V.Nil);
    } in
    keeps_if (nat_le wanted (length fields)) (answered R.Fine graph) _ h (keeps_object graph name _ h wider)

-- a command of the program keeps a graph
pub effect_keeps : (graph : Graph) (command : Command) → IsGraph graph → InLimits command → IfSome (effect graph command) (λ effect. IsGraph effect.graph)
effect_keeps graph (C.Set to value) h l = keeps_register graph to value h (plain (length graph.objects) value l)
  where
    plain : (n : ℕ) (value : Value) → IsPlain value → RefersBelow n value
    plain n (V.Fix number) p = tt
    plain n V.Nil p = tt
    plain n (V.Ref name) p = absurd p
effect_keeps graph (C.Move to from) h l = keeps_register graph to _ h (value_below _ graph.registers from h.registers)
effect_keeps graph (C.Cons to area car cdr) h l =
    let n = length graph.objects in
    keeps_made graph to area 2 _ (omega arith) h
    (All-cons (IsObject (n + 1)) _ []
    (record {
      refers = (refers_more n (n + 1) (omega arith) _ (value_below n graph.registers car h.registers), refers_more n (n + 1) (omega arith) _ (value_below n graph.registers cdr h.registers));
      wide = omega arith;
    })
    (All-nil (IsObject (n + 1))))
effect_keeps graph (C.List to area items) h l =
    let n = length graph.objects in
    let values = map (value_at graph.registers) items in
    let count : length (list_from area n values) ≡ length items = length-list_from area n values ∙ length-map items (value_at graph.registers) in
    let m = n + length (list_from area n values) in
    keeps_made graph to area (3 * length items) (list_from area n values) (omega (arith, count, l.0)) h
    (cells_in area n m values
    (All-map (RefersBelow m) (value_at graph.registers) items
    (λ k d b. refers_more n m (omega arith) _ (value_below n graph.registers (get_or items k d) h.registers)))
    (omega (arith, length-list_from area n values)))
effect_keeps graph (C.Make to area code count) h l =
    let n = length graph.objects in
    keeps_made graph to area (suc count) _ (omega arith) h
    (All-cons (IsObject (n + 1)) (block_of area code count) []
    (record { refers = All-replicate (RefersBelow (n + 1)) count V.Nil tt; wide = omega (arith, length-replicate count V.Nil) })
    (All-nil (IsObject (n + 1))))
effect_keeps graph (C.Grow target count) h l =
    keeps_block graph (value_at graph.registers target) _ (answered R.WrongType graph) h (λ name code fields r w. keeps_grown graph name code fields count h r w l) h
effect_keeps graph (C.Car to from) h l =
    keeps_cons graph (value_at graph.registers from) (λ name car cdr. fetched graph to car) (answered R.WrongType graph) h (λ name car cdr a d. keeps_register graph to car h a) h
effect_keeps graph (C.Cdr to from) h l =
    keeps_cons graph (value_at graph.registers from) (λ name car cdr. fetched graph to cdr) (answered R.WrongType graph) h (λ name car cdr a d. keeps_register graph to cdr h d) h
effect_keeps graph (C.Rplaca target from) h l =
    keeps_cons graph (value_at graph.registers target) (λ name car cdr. stored graph name (B.Cons (value_at graph.registers from) cdr)) (answered R.WrongType graph) h
    (λ name car cdr a d. keeps_body graph name _ h (value_below _ graph.registers from h.registers, d) (omega arith)) h
effect_keeps graph (C.Rplacd target from) h l =
    keeps_cons graph (value_at graph.registers target) (λ name car cdr. stored graph name (B.Cons car (value_at graph.registers from))) (answered R.WrongType graph) h
    (λ name car cdr a d. keeps_body graph name _ h (a, value_below _ graph.registers from h.registers) (omega arith)) h
effect_keeps graph (C.Get to from index) h l =
    keeps_block graph (value_at graph.registers from) (λ name code fields. when_field graph fields index (fetched graph to (value_at fields index))) (answered R.WrongType graph) h
    (λ name code fields r w. keeps_field graph fields index _ h (keeps_register graph to _ h (value_below _ fields index r))) h
effect_keeps graph (C.Put target index from) h l =
    let n = length graph.objects in
    let value = value_at graph.registers from in
    keeps_block graph (value_at graph.registers target) (λ name code fields. when_field graph fields index (stored graph name (B.Block code (set fields index value)))) (answered R.WrongType graph) h
    (λ name code fields r w. keeps_field graph fields index _ h
    (keeps_body graph name _ h (All-set (RefersBelow n) fields index value (value_below n graph.registers from h.registers) r) (omega (arith, length-set fields index value)))) h
effect_keeps graph (C.Size of) h l =
    keeps_block graph (value_at graph.registers of) (λ name code fields. answered (R.Number (pos (length fields))) graph) (answered R.WrongType graph) h (λ name code fields r w. h) h
effect_keeps graph (C.Eq left right) h l = h
effect_keeps graph (C.Flip what) h l = tt
effect_keeps graph (C.Scavenge count) h l = tt
effect_keeps graph C.Reclaim h l = tt
effect_keeps graph (C.PageOut count) h l = tt
effect_keeps graph C.Stats h l = tt
effect_keeps graph C.Dump h l = tt

-- so does an answer, and a refusal
pub answer_keeps : {E : Type 0} (result : Result Reply E) (old new : Graph) (command : Command) → IsGraph old → InLimits command
    → IfOk result (λ reply. Answers old command reply new) → OnErr result (new ≡ old) → IsGraph new
answer_keeps (Ok reply) old new command h l answers err = after (effect old command) (effect_keeps old command h l) answers
  where
    after : (o : Option Effect) → IfSome o (λ effect. IsGraph effect.graph) → IsSomeAnd o (λ effect. (reply ≡ effect.reply) × (new ≡ effect.graph)) → IsGraph new
    after None k a = absurd a
    after (Some effect) k a = subst IsGraph (sym a.1) k
answer_keeps (Err error) old new command h l answers err = subst IsGraph (sym err) h
