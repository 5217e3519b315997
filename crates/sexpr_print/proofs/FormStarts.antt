-- The beginnings of forms.
use Rattle.std.proofs.Common.{◌≡◌, ◌∷◌, ◌++◌, ◌<◌, [], ◌∙◌, ℕ, Bool, List, Some, None, true, false, refl, sym, ap, subst, arith, length}
use Rattle.std.specs.Prelude.{pos, Result, Ok, Err, OnOk, ◌&&◌, not, Option, if◌then◌else◌}
use Rattle.std.specs.Option.{option_map}
use Rattle.lisp_graph.specs.Graph.{IsGraph, RefersBelow, object_at}
use Rattle.lisp_graph.specs.World.{opening}
use Rattle.lisp_graph.specs.declared.object.Object.{Object}
use Rattle.lisp_graph.specs.declared.object.Body.TheVariants as B
use Rattle.lisp_graph.specs.declared.object.Value.{Value}
use Rattle.lisp_graph.specs.declared.object.Value.TheVariants.{Fix, Nil, Ref}
use Rattle.lisp_graph.specs.declared.world.World.{World}
use Rattle.lisp_graph.specs.Groups.{is_nil}
use Rattle.sexpr_text.specs.declared.bracket.Bracket.{Bracket}
use Rattle.sexpr_text.specs.declared.bracket.Bracket.TheVariants.{Curly}
use Rattle.sexpr_text.specs.declared.token.Token.TheVariants.{Again, Atom, Dot, Open}
use Rattle.sexpr_print.specs.declared.task.PrintTask.TheVariants as K
use Rattle.sexpr_print.specs.declared.printer.Printer.{Printer}
use Rattle.sexpr_print.specs.declared.printer.Next.{Next}
use Rattle.sexpr_print.specs.Places.{is_among, is_cons_like}
use Rattle.sexpr_print.specs.Printing.{Prints, again, bracket_of, label_of, next_of}
use Rattle.sexpr_print.specs.Marks.{Marks, label_in, shared_in}
use Rattle.sexpr_print.specs.Writing.{Adds}
use Rattle.sexpr_print.specs.Tasks.{AllPrint, Opens, Steps}
use Rattle.sexpr_print.proofs.TaskLaws.{block_opens, list_opens, rest_dotted}
use Rattle.sexpr_print.proofs.Steps.{cons_sound, fields_few, object_sound, one_sound, steps_level, two_sound, work_one, work_two}

-- the conses of a list form become tasks
pub list_begun : (world : World) (name : ℕ) (object : Object) (car cdr : Value) (old new : Printer) → object ≡ object_at world.objects name → object.body ≡ B.Cons car cdr → IsGraph (opening world) → name < length world.objects
    → new.tasks.items ≡ old.tasks.items ++ (K.Rest object.area object.charge cdr ∷ K.Value car ∷ []) → new.printed ≡ old.printed → Adds world.areas (Open (Some object.area) (bracket_of object.charge) ∷ []) old.text new.text
    → Opens world name old new
list_begun world name object car cdr old new at body graph within stack printed adds =
    let here = object_at world.objects name in
    let names : new.printed.names ≡ old.printed.names = ap (λ (m : Marks). m.names) printed in
    let count = length world.objects in
    let is : here.body ≡ B.Cons car cdr = ap (λ (o : Object). o.body) (sym at) ∙ body in
    let area : object.area ≡ here.area = ap (λ (o : Object). o.area) at in
    let charge : object.charge ≡ here.charge = ap (λ (o : Object). o.charge) at in
    let pushed = K.Rest here.area here.charge cdr ∷ K.Value car ∷ [] in
    let P : Object → Type 0 = λ o. new.tasks.items ≡ old.tasks.items ++ (K.Rest o.area o.charge cdr ∷ K.Value car ∷ []) in
    let Q : Object → Type 0 = λ o. Adds world.areas (Open (Some o.area) (bracket_of o.charge) ∷ []) old.text new.text in
    record {
      pushed = pushed;
      tokens = Open (Some here.area) (bracket_of here.charge) ∷ [];
      tasks = subst P at stack;
      adds = subst Q at adds;
      printed = printed;
      prints = λ others after all.
          list_opens world.objects (shared_in old.printed.counts) here.area here.charge car cdr here.body old.printed.names after others is
          (let R : List ℕ → Type 0 = λ ns. AllPrint world.objects (shared_in old.printed.counts) pushed ns others after in subst R names all);
      sound = cons_sound count here.area here.charge here car cdr is (object_sound world name graph within);
      few = (let a = work_two world.objects (K.Rest here.area here.charge cdr) (K.Value car) in omega (arith, a));
    }

block_opened : (world : World) (name : ℕ) (object : Object) (code : ℕ) (fields : List Value) (old new : Printer) → object ≡ object_at world.objects name → object.body ≡ B.Block code fields → IsGraph (opening world) → name < length world.objects
    → new.tasks.items ≡ old.tasks.items ++ K.Fields name 0 ∷ [] → new.printed ≡ old.printed → Adds world.areas (Open (Some object.area) Curly ∷ Atom (Fix (pos code)) ∷ []) old.text new.text
    → Opens world name old new
block_opened world name object code fields old new at body graph within stack printed adds =
    let here = object_at world.objects name in
    let names : new.printed.names ≡ old.printed.names = ap (λ (m : Marks). m.names) printed in
    let count = length world.objects in
    let is : here.body ≡ B.Block code fields = ap (λ (o : Object). o.body) (sym at) ∙ body in
    let pushed = K.Fields name 0 ∷ [] in
    let Q : Object → Type 0 = λ o. Adds world.areas (Open (Some o.area) Curly ∷ Atom (Fix (pos code)) ∷ []) old.text new.text in
    record {
      pushed = pushed;
      tokens = Open (Some here.area) Curly ∷ Atom (Fix (pos code)) ∷ [];
      tasks = stack;
      adds = subst Q at adds;
      printed = printed;
      prints = λ others after all.
          block_opens world.objects (shared_in old.printed.counts) here.area here.charge code name fields old.printed.names after others is
          (let R : List ℕ → Type 0 = λ ns. AllPrint world.objects (shared_in old.printed.counts) pushed ns others after in subst R names all);
      sound = one_sound count (K.Fields name 0) within;
      few = (
          let a = work_one world.objects (K.Fields name 0) in
          let b = fields_few here.body in
          let d = (object_sound world name graph within).wide in
          omega (arith, a, b, d));
    }

-- the fields of a block become a task
pub block_begun : {E : Type 0} (world : World) (name : ℕ) (object : Object) (code : ℕ) (fields : List Value) (result : Result (Unit {0}) E) (old new : Printer) → object ≡ object_at world.objects name → object.body ≡ B.Block code fields
    → IsGraph (opening world) → name < length world.objects → OnOk result (new.tasks.items ≡ old.tasks.items ++ K.Fields name 0 ∷ []) → new.printed ≡ old.printed
    → OnOk result (Adds world.areas (Open (Some object.area) Curly ∷ Atom (Fix (pos code)) ∷ []) old.text new.text) → OnOk result (Opens world name old new)
block_begun world name object code fields (Ok x) old new at body graph within stack printed adds = block_opened world name object code fields old new at body graph within stack printed adds
block_begun world name object code fields (Err e) old new at body graph within stack printed adds = tt

-- What follows a car

pub next_some : (result : Option Next) (next : Next) (o : Option ℕ) → result ≡ Some next → option_map (λ (n : Next). n.name) result ≡ o → o ≡ Some next.name
next_some result next o is same = sym same ∙ ap (option_map (λ (n : Next). n.name)) is

pub next_none : (result : Option Next) (o : Option ℕ) → result ≡ None → option_map (λ (n : Next). n.name) result ≡ o → o ≡ None
next_none result o is same = sym same ∙ ap (option_map (λ (n : Next). n.name)) is

-- a cons that continues a list form wasn't printed
pub next_fresh : (objects : List Object) (marks : Marks) (area charge name : ℕ) (cdr : Value) → next_of objects (shared_in marks.counts) marks.names area charge cdr ≡ Some name → label_in marks name ≡ None
next_fresh objects marks area charge name (Fix n) is = absurd cc
next_fresh objects marks area charge name Nil is = absurd cc
next_fresh objects marks area charge name (Ref other) is =
    let e = next_case (is_cons_like area charge (object_at objects other)) (shared_in marks.counts other) (is_among marks.names other) other name is in
    none_of (is_among marks.names name) (label_of (shared_in marks.counts) marks.names name) (ap (is_among marks.names) (sym e.1) ∙ e.0)
  where
    next_case : (like shared among : Bool) (other name : ℕ) → (if like && not shared && not among then Some other else None) ≡ Some name → (among ≡ false) × (other ≡ name)
    next_case true false false other name is = (refl, cc)
    next_case true false true other name is = absurd cc
    next_case true true among other name is = absurd cc
    next_case false shared among other name is = absurd cc

    none_of : (among : Bool) (label : ℕ) → among ≡ false → (if among then Some label else None) ≡ None
    none_of false label e = refl
    none_of true label e = absurd cc

dotted_steps_to : (world : World) (area charge : ℕ) (cdr : Value) (bracket : Bracket) (old new : Printer) → bracket ≡ bracket_of charge → is_nil cdr ≡ false
    → next_of world.objects (shared_in old.printed.counts) old.printed.names area charge cdr ≡ None → RefersBelow (length world.objects) cdr
    → new.tasks.items ≡ old.tasks.items ++ (K.Close bracket ∷ K.Value cdr ∷ []) → new.printed ≡ old.printed → Adds world.areas (Dot ∷ []) old.text new.text → Steps world (K.Rest area charge cdr) old.tasks.items old new
dotted_steps_to world area charge cdr bracket old new is some last refers stack printed adds =
    let P : Bracket → Type 0 = λ b. new.tasks.items ≡ old.tasks.items ++ (K.Close b ∷ K.Value cdr ∷ []) in
    let pushed = K.Close (bracket_of charge) ∷ K.Value cdr ∷ [] in
    steps_level world (K.Rest area charge cdr) old.tasks.items pushed old new (Dot ∷ []) (subst P is stack) adds printed
    (λ others after all. rest_dotted world.objects (shared_in old.printed.counts) area charge cdr old.printed.names after others some last all)
    (two_sound (length world.objects) (K.Close (bracket_of charge)) (K.Value cdr) tt refers)
    (let a = work_two world.objects (K.Close (bracket_of charge)) (K.Value cdr) in omega (arith, a))

-- the dot and the last cdr
pub dotted_steps : {E : Type 0} (world : World) (area charge : ℕ) (cdr : Value) (bracket : Bracket) (result : Result (Unit {0}) E) (old new : Printer) → bracket ≡ bracket_of charge → is_nil cdr ≡ false
    → next_of world.objects (shared_in old.printed.counts) old.printed.names area charge cdr ≡ None → RefersBelow (length world.objects) cdr
    → OnOk result (new.tasks.items ≡ old.tasks.items ++ (K.Close bracket ∷ K.Value cdr ∷ [])) → new.printed ≡ old.printed → OnOk result (Adds world.areas (Dot ∷ []) old.text new.text)
    → OnOk result (Steps world (K.Rest area charge cdr) old.tasks.items old new)
dotted_steps world area charge cdr bracket (Ok x) old new is some last refers stack printed adds = dotted_steps_to world area charge cdr bracket old new is some last refers stack printed adds
dotted_steps world area charge cdr bracket (Err e) old new is some last refers stack printed adds = tt

-- An object that was printed

again_case : (among : Bool) (at label : ℕ) → (if among then Some at else None) ≡ Some label → (among ≡ true) × (at ≡ label)
again_case true at label is = (refl, cc)
again_case false at label is = absurd cc

pub prints_again : (objects : List Object) (marks : Marks) (value : Value) (name label : ℕ) → value ≡ Ref name → label_in marks name ≡ Some label
    → Prints objects (shared_in marks.counts) marks.names value (Again label ∷ []) marks.names
prints_again objects marks value name label is given =
    let e = again_case (is_among marks.names name) (label_of (shared_in marks.counts) marks.names name) label given in
    let P : Value → Type 0 = λ v. Prints objects (shared_in marks.counts) marks.names v (Again label ∷ []) marks.names in
    let Q : ℕ → Type 0 = λ n. Prints objects (shared_in marks.counts) marks.names (Ref name) (Again n ∷ []) marks.names in
    subst P (sym is) (subst Q e.1 (again marks.names name e.0))
