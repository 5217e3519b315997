-- What remains to be printed of the forms that have begun, as a list of tasks: so nesting needs none of the machine's stack.
use Rattle.std.specs.Prelude.{◌≡◌, ℕ, ◌+◌, ◌-◌, ◌*◌, ◌<◌, ◌≤◌, List, [], ◌∷◌, ◌++◌, length, drop, sum_by, Bool, ⊤}
use Rattle.std.specs.List.{All}
use Rattle.lisp_graph.specs.Graph.{RefersBelow, object_at}
use Rattle.lisp_graph.specs.declared.object.Value.{Value}
use Rattle.lisp_graph.specs.declared.object.Body.{Body}
use Rattle.lisp_graph.specs.declared.object.Body.TheVariants as B
use Rattle.lisp_graph.specs.declared.object.Object.{Object}
use Rattle.lisp_graph.specs.declared.world.World.{World}
use Rattle.sexpr_text.specs.declared.bracket.Bracket.TheVariants.{Curly}
use Rattle.sexpr_text.specs.declared.token.Token.{Token}
use Rattle.sexpr_text.specs.declared.token.Token.TheVariants as T
use Rattle.sexpr_print.specs.declared.task.PrintTask.{PrintTask}
use Rattle.sexpr_print.specs.declared.task.PrintTask.TheVariants as K
use Rattle.sexpr_print.specs.declared.printer.Printer.{Printer}
use Rattle.sexpr_print.specs.Printing.{Prints, PrintsConses, PrintsFields, PrintsForm}
use Rattle.sexpr_print.specs.Marks.{Marks, shared_in}
use Rattle.sexpr_print.specs.Writing.{Adds}

-- the fields of a block
abbrev pub fields_in : Body → List Value
fields_in (B.Cons car cdr) = []
fields_in (B.Block code fields) = fields

-- fields, and the bracket after them
pub record PrintsBlock (objects : List Object) (shared : ℕ → Bool) (printed : List ℕ) (values : List Value) (tokens : List Token) (after : List ℕ) : Type 0 where
  pub fields : List Token
  pub prints : PrintsFields objects shared printed values fields after
  pub is : tokens ≡ fields ++ T.Close Curly ∷ []

-- a task prints these tokens; after a car these are the rest of its list form, whatever the car is
abbrev pub DoesPrint : List Object → (ℕ → Bool) → PrintTask → List ℕ → List Token → List ℕ → Type 0
DoesPrint objects shared (K.Value value) printed tokens after = Prints objects shared printed value tokens after
DoesPrint objects shared (K.Rest area charge cdr) printed tokens after =
    (before : List ℕ) (car : Value) (element : List Token) → Prints objects shared before car element printed → PrintsConses objects shared area charge before (B.Cons car cdr) (element ++ tokens) after
DoesPrint objects shared (K.Fields name index) printed tokens after = PrintsBlock objects shared printed (drop index (fields_in (object_at objects name).body)) tokens after
DoesPrint objects shared (K.Close bracket) printed tokens after = (tokens ≡ T.Close bracket ∷ []) × (after ≡ printed)

-- some tokens and then others
pub record PrintsBoth (First : List Token → List ℕ → Type 0) (Then : List ℕ → List Token → Type 0) (tokens : List Token) : Type 0 where
  pub front : List Token
  pub middle : List ℕ
  pub back : List Token
  pub first : First front middle
  pub others : Then middle back
  pub is : tokens ≡ front ++ back

-- tasks print these tokens, the last one first
abbrev pub AllPrint : List Object → (ℕ → Bool) → List PrintTask → List ℕ → List Token → List ℕ → Type 0
AllPrint objects shared [] printed tokens after = (tokens ≡ []) × (after ≡ printed)
AllPrint objects shared (task ∷ tasks) printed tokens after =
    PrintsBoth (λ front middle. AllPrint objects shared tasks printed front middle) (λ middle back. DoesPrint objects shared task middle back after) tokens

-- the objects of a task exist
abbrev pub IsTask : ℕ → PrintTask → Type 0
IsTask count (K.Value value) = RefersBelow count value
IsTask count (K.Rest area charge cdr) = RefersBelow count cdr
IsTask count (K.Fields name index) = name < count
IsTask count (K.Close bracket) = ⊤

-- how much work a task needs if it enters no object
abbrev pub work_of : List Object → PrintTask → ℕ
work_of objects (K.Value value) = 1
work_of objects (K.Rest area charge cdr) = 3
work_of objects (K.Fields name index) = 2 * (length (fields_in (object_at objects name).body) - index) + 2
work_of objects (K.Close bracket) = 1

-- How much work remains. To enter an object is counted as 5,000, which is more than its form needs: a block has at most 2,047 fields.
abbrev pub work_left : List Object → List PrintTask → Marks → ℕ
work_left objects tasks marks = sum_by (work_of objects) tasks + 5000 * (length marks.counts - length marks.names)

-- A step: some tokens are added, and the tasks that replace one print the rest of its tokens.
pub record Steps (world : World) (task : PrintTask) (before : List PrintTask) (old new : Printer) : Type 0 where
  pub pushed : List PrintTask
  pub tokens : List Token
  pub tasks : new.tasks.items ≡ before ++ pushed
  pub adds : Adds world.areas tokens old.text new.text
  pub counts : new.printed.counts ≡ old.printed.counts
  pub prints : (others : List Token) (after : List ℕ) → AllPrint world.objects (shared_in old.printed.counts) pushed new.printed.names others after
      → DoesPrint world.objects (shared_in old.printed.counts) task old.printed.names (tokens ++ others) after
  pub sound : All (IsTask (length world.objects)) pushed
  pub less : work_left world.objects pushed new.printed < work_left world.objects (task ∷ []) old.printed

-- The form of an object begins: some tokens are added, and some tasks print the rest.
pub record Opens (world : World) (name : ℕ) (old new : Printer) : Type 0 where
  pub pushed : List PrintTask
  pub tokens : List Token
  pub tasks : new.tasks.items ≡ old.tasks.items ++ pushed
  pub adds : Adds world.areas tokens old.text new.text
  pub printed : new.printed ≡ old.printed
  pub prints : (others : List Token) (after : List ℕ) → AllPrint world.objects (shared_in old.printed.counts) pushed new.printed.names others after
      → PrintsForm world.objects (shared_in old.printed.counts) (object_at world.objects name).area (object_at world.objects name).charge old.printed.names (object_at world.objects name).body (tokens ++ others) after
  pub sound : All (IsTask (length world.objects)) pushed
  pub few : sum_by (work_of world.objects) pushed ≤ 4500

-- All tasks were done: some tokens were added.
pub record Ran (world : World) (old new : Printer) : Type 0 where
  pub tokens : List Token
  pub adds : Adds world.areas tokens old.text new.text
  pub counts : new.printed.counts ≡ old.printed.counts
  pub prints : AllPrint world.objects (shared_in old.printed.counts) old.tasks.items old.printed.names tokens new.printed.names
  pub idle : new.tasks.items ≡ []

-- A value was printed.
pub record Wrote (world : World) (value : Value) (old new : Printer) : Type 0 where
  pub tokens : List Token
  pub adds : Adds world.areas tokens old.text new.text
  pub counts : new.printed.counts ≡ old.printed.counts
  pub prints : Prints world.objects (shared_in old.printed.counts) old.printed.names value tokens new.printed.names
