-- Steps of printing.
use Rattle.std.proofs.Common.{◌≡◌, ℕ, ◌+◌, ◌-◌, ◌*◌, ◌<◌, ◌≤◌, Bool, true, false, refl, sym, ◌∙◌, ap, subst, arith, List, [], ◌∷◌, ◌++◌, length, append_assoc, length-append, Option, Some, None}
use Rattle.std.specs.Prelude.{count_by, sum_by, slice_get, slice_index_or, Result, Ok, Err, OnOk, if◌then◌else◌}
use Rattle.std.specs.List.{All}
use Rattle.std.proofs.lemmas.List.{append-nil}
use Rattle.std.proofs.lemmas.List.Sums.{sum_by-append}
use Rattle.std.proofs.lemmas.List.Elements.{All-append, All-nil, All-cons, All-get_or, All-pop}
use Rattle.std.proofs.lemmas.Option.{get_or_from_slice_get, slice_get_within}
use Rattle.lisp_graph.specs.Graph.{IsGraph, IsObject, PartsReferBelow, RefersBelow, no_object, object_at, width}
use Rattle.lisp_graph.specs.World.{opening}
use Rattle.lisp_graph.specs.declared.object.Body.{Body}
use Rattle.lisp_graph.specs.declared.object.Body.TheVariants as B
use Rattle.lisp_graph.specs.declared.object.Value.{Value}
use Rattle.lisp_graph.specs.declared.object.Value.TheVariants.{Ref}
use Rattle.lisp_graph.specs.declared.object.Object.{Object}
use Rattle.lisp_graph.specs.declared.world.World.{World}
use Rattle.sexpr_text.specs.declared.token.Token.{Token}
use Rattle.sexpr_text.specs.declared.token.Token.TheVariants as T
use Rattle.sexpr_print.specs.declared.sharing.References.{References}
use Rattle.sexpr_print.specs.declared.token_text.TokenText.{TokenText}
use Rattle.sexpr_print.specs.declared.task.PrintTask.{PrintTask}
use Rattle.sexpr_print.specs.declared.task.PrintTask.TheVariants as K
use Rattle.sexpr_print.specs.declared.printer.Printer.{Printer}
use Rattle.sexpr_print.specs.Printing.{Prints, PrintsForm, first, mark}
use Rattle.sexpr_print.specs.Marks.{Marks, label_in, new_label, shared_in}
use Rattle.sexpr_print.specs.Writing.{Adds, label_tokens}
use Rattle.sexpr_print.specs.Tasks.{AllPrint, DoesPrint, IsTask, Opens, Ran, Steps, Wrote, fields_in, work_left, work_of}
use Rattle.sexpr_print.proofs.ObjectLabels.{not_among}
use Rattle.sexpr_print.proofs.Writes.{adds_none, adds_then}
use Rattle.sexpr_print.proofs.TaskLaws.{no_task, one_task, tasks_join, tasks_split}

-- the work of one task, and of two
pub work_one : (objects : List Object) (task : PrintTask) → sum_by (work_of objects) (task ∷ []) ≡ work_of objects task
work_one objects task = omega arith

pub work_two : (objects : List Object) (one other : PrintTask) → sum_by (work_of objects) (one ∷ other ∷ []) ≡ work_of objects one + work_of objects other
work_two objects one other = omega arith

-- A step that enters no object

pub steps_level : (world : World) (task : PrintTask) (before pushed : List PrintTask) (old new : Printer) (tokens : List Token) → new.tasks.items ≡ before ++ pushed → Adds world.areas tokens old.text new.text → new.printed ≡ old.printed
    → ((others : List Token) (after : List ℕ) → AllPrint world.objects (shared_in old.printed.counts) pushed old.printed.names others after → DoesPrint world.objects (shared_in old.printed.counts) task old.printed.names (tokens ++ others) after)
    → All (IsTask (length world.objects)) pushed → sum_by (work_of world.objects) pushed < work_of world.objects task → Steps world task before old new
steps_level world task before pushed old new tokens stack adds same prints sound less =
    let P : List ℕ → List Token → List ℕ → Type 0 = λ names others after. AllPrint world.objects (shared_in old.printed.counts) pushed names others after in
    record {
      pushed = pushed;
      tokens = tokens;
      tasks = stack;
      adds = adds;
      counts = ap (λ (m : Marks). m.counts) same;
      prints = λ others after all. prints others after (subst (λ (m : Marks). P m.names others after) same all);
      sound = sound;
      less = (
          let a : 5000 * (length new.printed.counts - length new.printed.names) ≡ 5000 * (length old.printed.counts - length old.printed.names) = ap (λ (m : Marks). 5000 * (length m.counts - length m.names)) same in
          let b = work_one world.objects task in
          omega (arith, a, b, less));
    }

-- A step that ends a task

pub steps_end : (world : World) (task : PrintTask) (before : List PrintTask) (old new : Printer) (tokens : List Token) → new.tasks.items ≡ before → Adds world.areas tokens old.text new.text → new.printed ≡ old.printed
    → DoesPrint world.objects (shared_in old.printed.counts) task old.printed.names tokens old.printed.names → 0 < work_of world.objects task → Steps world task before old new
steps_end world task before old new tokens stack adds same does some =
    steps_level world task before [] old new tokens (stack ∙ sym (append-nil before)) adds same
    (λ others after all. no_task world.objects (shared_in old.printed.counts) task old.printed.names old.printed.names after tokens others does all)
    (All-nil _) some

-- A step that enters an object

pub steps_enter : (world : World) (task : PrintTask) (before pushed : List PrintTask) (old new : Printer) (tokens : List Token) (name : ℕ) → new.tasks.items ≡ before ++ pushed → Adds world.areas tokens old.text new.text
    → new.printed.counts ≡ old.printed.counts → new.printed.names ≡ old.printed.names ++ name ∷ [] → length new.printed.names ≤ length new.printed.counts
    → ((others : List Token) (after : List ℕ) → AllPrint world.objects (shared_in old.printed.counts) pushed (old.printed.names ++ name ∷ []) others after
    → DoesPrint world.objects (shared_in old.printed.counts) task old.printed.names (tokens ++ others) after)
    → All (IsTask (length world.objects)) pushed → sum_by (work_of world.objects) pushed ≤ 4500 → Steps world task before old new
steps_enter world task before pushed old new tokens name stack adds counts names room prints sound few =
    record {
      pushed = pushed;
      tokens = tokens;
      tasks = stack;
      adds = adds;
      counts = counts;
      prints = λ others after all. prints others after (let P : List ℕ → Type 0 = λ ns. AllPrint world.objects (shared_in old.printed.counts) pushed ns others after in subst P names all);
      sound = sound;
      less = (
          let a : length new.printed.counts ≡ length old.printed.counts = ap length counts in
          let b : length new.printed.names ≡ length old.printed.names + 1 = ap length names ∙ length-append old.printed.names (name ∷ []) in
          let d = work_one world.objects task in
          omega (arith, a, b, d, room, few));
    }

-- An object that is printed for the first time

mark_if : (b : Bool) (label : ℕ) → (if b then T.Label label ∷ [] else []) ≡ label_tokens (if b then Some label else None)
mark_if true label = refl
mark_if false label = refl

marked : (marks : Marks) (name : ℕ) → mark (shared_in marks.counts) marks.names name ≡ label_tokens (new_label marks name)
marked marks name = mark_if (shared_in marks.counts name) (count_by (shared_in marks.counts) marks.names)

pub first_steps : (world : World) (name : ℕ) (label : Option ℕ) (old middle new : Printer) → label_in old.printed name ≡ None → label ≡ new_label old.printed name
    → middle.tasks.items ≡ old.tasks.items → Adds world.areas (label_tokens label) old.text middle.text → middle.printed.counts ≡ old.printed.counts → middle.printed.names ≡ old.printed.names ++ name ∷ []
    → length middle.printed.names ≤ length middle.printed.counts → Opens world name middle new → Steps world (K.Value (Ref name)) old.tasks.items old new
first_steps world name label old middle new fresh is stack adds counts names room opens =
    let objects = world.objects in
    let object = object_at objects name in
    let P : Marks → Type 0 = λ m. length m.names ≤ length m.counts in
    let Q : List References → List ℕ → List Token → List ℕ → Type 0 = λ cs ns others after. AllPrint objects (shared_in cs) opens.pushed ns others after in
    let R : List References → List ℕ → List Token → List ℕ → Type 0 = λ cs ns others after. PrintsForm objects (shared_in cs) object.area object.charge ns object.body (opens.tokens ++ others) after in
    let S : List Token → List ℕ → Type 0 = λ tokens after. Prints objects (shared_in old.printed.counts) old.printed.names (Ref name) tokens after in
    steps_enter world (K.Value (Ref name)) old.tasks.items opens.pushed old new (label_tokens label ++ opens.tokens) name
    (opens.tasks ∙ ap (λ (ts : List PrintTask). ts ++ opens.pushed) stack)
    (adds_then world.areas (label_tokens label) opens.tokens old.text middle.text new.text adds opens.adds)
    (ap (λ (m : Marks). m.counts) opens.printed ∙ counts)
    (ap (λ (m : Marks). m.names) opens.printed ∙ names)
    (subst P (sym opens.printed) room)
    (λ others after all. (
    let here : Q middle.printed.counts new.printed.names others after = subst (λ cs. Q cs new.printed.names others after) (sym counts) (subst (λ ns. Q old.printed.counts ns others after) (sym (ap (λ (m : Marks). m.names) opens.printed ∙ names)) all) in
    let form : R old.printed.counts (old.printed.names ++ name ∷ []) others after =
    subst (λ cs. R cs (old.printed.names ++ name ∷ []) others after) counts (subst (λ ns. R middle.printed.counts ns others after) names (opens.prints others after here)) in
    let e : mark (shared_in old.printed.counts) old.printed.names name ++ (opens.tokens ++ others) ≡ (label_tokens label ++ opens.tokens) ++ others =
    ap (λ (ts : List Token). ts ++ (opens.tokens ++ others)) (marked old.printed name ∙ ap label_tokens (sym is)) ∙ sym (append_assoc (label_tokens label) opens.tokens others) in
    subst (λ ts. S ts after) e (first old.printed.names after name (opens.tokens ++ others) (not_among old.printed name fresh) form)))
    opens.sound opens.few

-- The objects of tasks exist

pub object_sound : (world : World) (name : ℕ) → IsGraph (opening world) → name < length world.objects → IsObject (length world.objects) (object_at world.objects name)
object_sound world name graph within = All-get_or (IsObject (length world.objects)) world.objects name no_object within graph.objects

pub two_sound : (count : ℕ) (one other : PrintTask) → IsTask count one → IsTask count other → All (IsTask count) (one ∷ other ∷ [])
two_sound count one other here there = All-cons (IsTask count) one (other ∷ []) here (All-cons (IsTask count) other [] there (All-nil _))

pub one_sound : (count : ℕ) (one : PrintTask) → IsTask count one → All (IsTask count) (one ∷ [])
one_sound count one here = All-cons (IsTask count) one [] here (All-nil _)

pub cons_sound : (count area charge : ℕ) (object : Object) (car cdr : Value) → object.body ≡ B.Cons car cdr → IsObject count object → All (IsTask count) (K.Rest area charge cdr ∷ K.Value car ∷ [])
cons_sound count area charge object car cdr is sound =
    let refers : RefersBelow count car × RefersBelow count cdr = subst (PartsReferBelow count) is sound.refers in
    two_sound count (K.Rest area charge cdr) (K.Value car) refers.1 refers.0

get_sound : (P : Value → Type 0) (values : List Value) (index : ℕ) (value : Value) → slice_get values index ≡ Some value → All P values → P value
get_sound P values index value is all =
    let within = slice_get_within values index value is in
    let e : slice_index_or values index value ≡ value = get_or_from_slice_get values index value value is in
    subst P e (All-get_or P values index value within all)

pub field_sound : (count index : ℕ) (body : Body) (value : Value) → slice_get (fields_in body) index ≡ Some value → PartsReferBelow count body → RefersBelow count value
field_sound count index (B.Cons car cdr) value is refers = absurd cc
field_sound count index (B.Block code fields) value is refers = get_sound (RefersBelow count) fields index value is refers

pub fields_few : (body : Body) → length (fields_in body) ≤ width body
fields_few (B.Cons car cdr) = omega arith
fields_few (B.Block code fields) = omega arith

-- What a call causes is passed on

pub on_ok : {A E : Type 0} (one : Result A E) (P Q : Type 0) → (P → Q) → OnOk one P → OnOk one Q
on_ok (Ok x) P Q leads here = leads here
on_ok (Err e) P Q leads here = tt

-- All tasks

pub record Goes (world : World) (first now : Printer) : Type 0 where
  pub tokens : List Token
  pub adds : Adds world.areas tokens first.text now.text
  pub counts : now.printed.counts ≡ first.printed.counts
  pub prints : (others : List Token) (after : List ℕ) → AllPrint world.objects (shared_in first.printed.counts) now.tasks.items now.printed.names others after
      → AllPrint world.objects (shared_in first.printed.counts) first.tasks.items first.printed.names (tokens ++ others) after
  pub sound : All (IsTask (length world.objects)) now.tasks.items

pub goes_none : (world : World) (now : Printer) → All (IsTask (length world.objects)) now.tasks.items → Goes world now now
goes_none world now sound = record {
  tokens = [];
  adds = adds_none world.areas now.text;
  counts = refl;
  prints = λ others after all. all;
  sound = sound;
}

single : (objects : List Object) (shared : ℕ → Bool) (task : PrintTask) (printed after : List ℕ) (tokens : List Token) → DoesPrint objects shared task printed tokens after → AllPrint objects shared (task ∷ []) printed tokens after
single objects shared task printed after tokens does = record { front = []; middle = printed; back = tokens; first = (refl, refl); others = does; is = refl }

pub goes_step : (world : World) (task : PrintTask) (before : List PrintTask) (start old middle new : Printer) → old.tasks.items ≡ before ++ task ∷ [] → middle.text ≡ old.text → middle.printed ≡ old.printed
    → Goes world start old → Steps world task before middle new → Goes world start new
goes_step world task before start old middle new items text printed goes steps =
    let objects = world.objects in
    let shared = shared_in start.printed.counts in
    let counts : middle.printed.counts ≡ start.printed.counts = ap (λ (m : Marks). m.counts) printed ∙ goes.counts in
    let names : middle.printed.names ≡ old.printed.names = ap (λ (m : Marks). m.names) printed in
    let A : TokenText → Type 0 = λ t. Adds world.areas steps.tokens t new.text in
    let B : List PrintTask → List ℕ → List Token → List ℕ → Type 0 = λ ts ns tokens after. AllPrint objects shared ts ns tokens after in
    let D : List References → List ℕ → List Token → List ℕ → Type 0 = λ cs ns tokens after. DoesPrint objects (shared_in cs) task ns tokens after in
    let F : List References → List Token → List ℕ → Type 0 = λ cs tokens after. AllPrint objects (shared_in cs) steps.pushed new.printed.names tokens after in
    let stayed = (All-pop (IsTask (length objects)) old.tasks.items before (Some task) items goes.sound).0 in
    let S : List PrintTask → Type 0 = All (IsTask (length objects)) in
    record {
      tokens = goes.tokens ++ steps.tokens;
      adds = adds_then world.areas goes.tokens steps.tokens start.text old.text new.text goes.adds (subst A text steps.adds);
      counts = steps.counts ∙ counts;
      prints = λ others after all. (
          let both = tasks_split objects shared before steps.pushed new.printed.names after others (subst (λ ts. B ts new.printed.names others after) steps.tasks all) in
          let does = steps.prints both.front both.middle (subst (λ cs. F cs both.front both.middle) (sym counts) both.first) in
          let here : D start.printed.counts old.printed.names (steps.tokens ++ both.front) both.middle =
          subst (λ ns. D start.printed.counts ns (steps.tokens ++ both.front) both.middle) names (subst (λ cs. D cs middle.printed.names (steps.tokens ++ both.front) both.middle) counts does) in
          let joined = tasks_join objects shared before (task ∷ []) old.printed.names both.middle after (steps.tokens ++ both.front) both.back
          (single objects shared task old.printed.names both.middle (steps.tokens ++ both.front) here) both.others in
          let whole = goes.prints ((steps.tokens ++ both.front) ++ both.back) after (subst (λ ts. B ts old.printed.names ((steps.tokens ++ both.front) ++ both.back) after) (sym items) joined) in
          let e : goes.tokens ++ ((steps.tokens ++ both.front) ++ both.back) ≡ (goes.tokens ++ steps.tokens) ++ others =
          ap (λ (ts : List Token). goes.tokens ++ ts) (append_assoc steps.tokens both.front both.back ∙ ap (λ (ts : List Token). steps.tokens ++ ts) (sym both.is)) ∙ sym (append_assoc goes.tokens steps.tokens others) in
          subst (λ ts. B start.tasks.items start.printed.names ts after) e whole);
      sound = subst S (sym steps.tasks) (All-append (IsTask (length objects)) before steps.pushed stayed steps.sound);
    }

pub goes_less : (world : World) (task : PrintTask) (before : List PrintTask) (old middle new : Printer) → old.tasks.items ≡ before ++ task ∷ [] → middle.printed ≡ old.printed → Steps world task before middle new
    → work_left world.objects new.tasks.items new.printed < work_left world.objects old.tasks.items old.printed
goes_less world task before old middle new items printed steps =
    let work = sum_by (work_of world.objects) in
    let a : work new.tasks.items ≡ work before + work steps.pushed = ap work steps.tasks ∙ sum_by-append (work_of world.objects) before steps.pushed in
    let b : work old.tasks.items ≡ work before + work (task ∷ []) = ap work items ∙ sum_by-append (work_of world.objects) before (task ∷ []) in
    let d : 5000 * (length middle.printed.counts - length middle.printed.names) ≡ 5000 * (length old.printed.counts - length old.printed.names) = ap (λ (m : Marks). 5000 * (length m.counts - length m.names)) printed in
    omega (arith, a, b, d, steps.less)

pub ran : (world : World) (start old now : Printer) → old.tasks.items ≡ [] → now.tasks.items ≡ [] → now.text ≡ old.text → now.printed ≡ old.printed → Goes world start old → Ran world start now
ran world start old now ended idle text printed goes =
    let names : now.printed.names ≡ old.printed.names = ap (λ (m : Marks). m.names) printed in
    let P : List Token → List ℕ → Type 0 = λ ts after. AllPrint world.objects (shared_in start.printed.counts) start.tasks.items start.printed.names ts after in
    let Q : List PrintTask → Type 0 = λ ts. AllPrint world.objects (shared_in start.printed.counts) ts old.printed.names [] old.printed.names in
    let A : TokenText → Type 0 = λ t. Adds world.areas goes.tokens start.text t in
    record {
      tokens = goes.tokens;
      adds = subst A (sym text) goes.adds;
      counts = ap (λ (m : Marks). m.counts) printed ∙ goes.counts;
      prints = subst (λ ns. P goes.tokens ns) (sym names) (subst (λ ts. P ts old.printed.names) (append-nil goes.tokens) (goes.prints [] old.printed.names (subst Q (sym ended) (refl, refl))));
      idle = idle;
    }

pub wrote : (world : World) (value : Value) (old middle new : Printer) → middle.tasks.items ≡ K.Value value ∷ [] → middle.text ≡ old.text → middle.printed ≡ old.printed → Ran world middle new → Wrote world value old new
wrote world value old middle new items text printed run =
    let A : TokenText → Type 0 = λ t. Adds world.areas run.tokens t new.text in
    let P : List PrintTask → Type 0 = λ ts. AllPrint world.objects (shared_in middle.printed.counts) ts middle.printed.names run.tokens new.printed.names in
    let Q : Marks → Type 0 = λ m. Prints world.objects (shared_in m.counts) m.names value run.tokens new.printed.names in
    record {
      tokens = run.tokens;
      adds = subst A text run.adds;
      counts = run.counts ∙ ap (λ (m : Marks). m.counts) printed;
      prints = subst Q printed (one_task world.objects (shared_in middle.printed.counts) (K.Value value) middle.printed.names new.printed.names run.tokens (subst P items run.prints));
    }
