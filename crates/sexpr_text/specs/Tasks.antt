-- What remains to be read of the forms that have begun, as a list of tasks: so nesting needs none of the machine's stack.
use Rattle.std.specs.Prelude.{◌≡◌, ℕ, ◌<◌, ◌≤◌, List, [], ◌∷◌, ◌++◌, length, drop, if◌then◌else◌, slice_set, ⊤, Result, Ok, Err}
use Rattle.std.specs.List.{All}
use Rattle.lisp_graph.specs.declared.object.Value.{Value}
use Rattle.lisp_graph.specs.declared.object.Object.{Object}
use Rattle.world_text.specs.Next.{◌>>=◌}
use Rattle.world_text.specs.Objects.{block_with}
use Rattle.sexpr_text.specs.declared.token.Piece.{Piece}
use Rattle.sexpr_text.specs.declared.fault.SexprFault.{SexprFault}
use Rattle.sexpr_text.specs.declared.task.ParseTask.{ParseTask}
use Rattle.sexpr_text.specs.declared.task.ParseTask.TheVariants.{Conses, Behind, Close, Fields}
use Rattle.sexpr_text.specs.declared.bracket.Bracket.TheVariants.{Round}
use Rattle.sexpr_text.specs.declared.begun.Inside.{Inside}
use Rattle.sexpr_text.specs.declared.begun.Inside.TheVariants as I
use Rattle.lisp_graph.specs.declared.object.Value.TheVariants.{Nil}
use Rattle.sexpr_text.specs.declared.forms.Forms.{Forms}
use Rattle.sexpr_text.specs.Pieces.{token_at}
use Rattle.sexpr_text.specs.Reading.{IsFault, Read, cdr_behind, closes, conses, cons_in, expression, fields, misplaced, refused}

-- the objects, the labels and the pieces between two steps
pub record TaskState : Type 0 where
  pub objects : List Object
  pub labels : List (ℕ × ℕ)
  pub pieces : List Piece

abbrev pub state_of : Forms → TaskState
state_of forms = record { objects = forms.objects; labels = forms.labels; pieces = forms.pieces }

-- the state after what was read; the objects that it made follow those before
abbrev pub grown : {A : Type 0} → (A → List Object) → Result (Read A) SexprFault → Result TaskState SexprFault
grown had read = read >>= λ r. Ok (record { objects = had r.value ++ r.objects; labels = r.labels; pieces = r.rest })

-- the value that was read, beside that state
abbrev pub grown_value : List Object → Result (Read Value) SexprFault → Result (Value × TaskState) SexprFault
grown_value had read = read >>= λ r. Ok (r.value, record { objects = had ++ r.objects; labels = r.labels; pieces = r.rest })

-- what takes the place of a block whose fields aren't read yet
abbrev pub hole : Object
hole = cons_in 0 Round Nil Nil

-- the tasks of a form that is entered, and the place that its block takes
abbrev pub tasks_in : Inside → ℕ → List ParseTask
tasks_in I.Nothing next = []
tasks_in (I.Conses area bracket) next = Conses area bracket ∷ []
tasks_in (I.Block area code) next = Fields next area code [] ∷ []

abbrev pub holes_in : Inside → List Object
holes_in I.Nothing = []
holes_in (I.Conses area bracket) = []
holes_in (I.Block area code) = hole ∷ []

-- a depth and a count that are enough for these pieces
pub record Enough (pieces : List Piece) (Is : ℕ → ℕ → Type 0) : Type 0 where
  pub depth : ℕ
  pub many : ℕ
  pub deep : length pieces ≤ depth
  pub few : length pieces ≤ many
  pub is : Is depth many

-- the state after a closing bracket
abbrev pub shut : TaskState → ParseTask → Result TaskState SexprFault
shut state (Close bracket) =
    if closes bracket (token_at state.pieces) then Ok (record state { pieces = drop 1 state.pieces })
    else refused state.pieces (misplaced (token_at state.pieces))
shut state _ = Ok state

-- a task leads from a state to this one
abbrev pub Does : ParseTask → TaskState → Result TaskState SexprFault → Type 0
Does (Conses area bracket) state after =
    Enough state.pieces (λ depth many. after ≡ grown (λ _. state.objects) (conses (expression depth) many area bracket (length state.objects) state.labels state.pieces))
Does (Behind name area bracket car) state after =
    Enough state.pieces (λ depth many. after ≡ grown (λ cdr. slice_set state.objects name (cons_in area bracket car cdr))
    (cdr_behind (conses (expression depth) many area bracket) (expression depth) bracket (length state.objects) state.labels state.pieces))
Does (Close bracket) state after = after ≡ shut state (Close bracket)
Does (Fields name area code values) state after =
    Enough state.pieces (λ depth many. after ≡ grown (λ others. slice_set state.objects name (block_with area code (values ++ others)))
    (fields (expression depth) many (length values) (length state.objects) state.labels state.pieces))

-- a refusal remains
abbrev pub Leads : ParseTask → Result TaskState SexprFault → Result TaskState SexprFault → Type 0
Leads task (Ok state) after = Does task state after
Leads task (Err fault) after = after ≡ Err fault

-- tasks, the last one first
abbrev pub AllLead : List ParseTask → Result TaskState SexprFault → Result TaskState SexprFault → Type 0
AllLead [] now after = now ≡ after
AllLead (task ∷ tasks) now after = (between : Result TaskState SexprFault) × AllLead tasks now between × Leads task between after

-- the objects of a task exist, and a block has at most 2,047 fields
abbrev pub IsMade : ℕ → ParseTask → Type 0
IsMade count (Conses area bracket) = ⊤
IsMade count (Behind name area bracket car) = name < count
IsMade count (Close bracket) = ⊤
IsMade count (Fields name area code values) = (name < count) × (length values ≤ 2047)

-- A step: the tasks that replace one lead from the new state to the state to which that one led from the old state, and pieces were taken.
pub record Steps (task : ParseTask) (before : List ParseTask) (old : TaskState) (now : List ParseTask) (new : TaskState) : Type 0 where
  pub pushed : List ParseTask
  pub tasks : now ≡ before ++ pushed
  pub leads : (after : Result TaskState SexprFault) → Does task old after → AllLead pushed (Ok new) after
  pub made : All (IsMade (length new.objects)) pushed
  pub grows : length old.objects ≤ length new.objects
  pub takes : length new.pieces < length old.pieces

-- a task leads from a state to this refusal
abbrev pub Fails : ParseTask → TaskState → SexprFault → Type 0
Fails task state fault = (after : Result TaskState SexprFault) → Does task state after → IsFault fault after
