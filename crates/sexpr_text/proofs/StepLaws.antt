-- The tasks that replace a task lead to the state to which it led.
use Rattle.std.proofs.Common.{◌≡◌, ℕ, ◌+◌, ◌-◌, ◌<◌, ◌≤◌, List, [], ◌∷◌, ◌++◌, length, drop, Bool, true, false, Some, Result, Ok, Err, refl, ap, sym, subst, ◌∙◌, arith, append_assoc, length-append, length-drop}
use Rattle.std.specs.Prelude.{IfOk, IfErr, OnOk, if◌then◌else◌, nat_le, slice_set}
use Rattle.std.specs.List.{All}
use Rattle.std.proofs.lemmas.List.{append-nil, length-set, set-append_left}
use Rattle.std.proofs.lemmas.Bool.Decides.{nat_tests}
use Rattle.std.proofs.Math.Seq.{set-append_seam}
use Rattle.std.proofs.lemmas.List.Elements.{All-append, All-cons, All-nil, All-pop, All-weaker}
use Rattle.lisp_graph.specs.declared.object.Value.{Value}
use Rattle.lisp_graph.specs.declared.object.Value.TheVariants.{Nil, Ref}
use Rattle.lisp_graph.specs.declared.object.Object.{Object}
use Rattle.world_text.specs.Next.{◌>>=◌}
use Rattle.world_text.specs.Objects.{block_with}
use Rattle.sexpr_text.specs.declared.bracket.Bracket.{Bracket}
use Rattle.sexpr_text.specs.declared.bracket.Bracket.TheVariants.{Curly}
use Rattle.sexpr_text.specs.declared.token.Piece.{Piece}
use Rattle.sexpr_text.specs.declared.token.Token.{Token}
use Rattle.sexpr_text.specs.declared.token.Token.TheVariants.{Root, EndSexpr, Dot, Atom, Label, Again, Open, Close as Shut, Unknown, End}
use Rattle.sexpr_text.specs.declared.fault.SexprFault.{SexprFault}
use Rattle.sexpr_text.specs.declared.fault.SexprFault.TheVariants.{Bad, TooSmall, NoMemory}
use Rattle.sexpr_text.specs.declared.begun.Inside.{Inside}
use Rattle.sexpr_text.specs.declared.begun.Inside.TheVariants as I
use Rattle.sexpr_text.specs.declared.task.ParseTask.{ParseTask}
use Rattle.sexpr_text.specs.declared.task.ParseTask.TheVariants.{Conses, Behind, Close, Fields}
use Rattle.sexpr_text.specs.Pieces.{is_end, line_at, token_at}
use Rattle.sexpr_text.specs.Reading.{Beginning, IsFault, MayGive, Read, Reader, begun, cdr_behind, closed, closes, conses, cons_in, expression, fields, is_dot, misplaced, read_inside, refused, surplus}
use Rattle.sexpr_text.specs.Tasks.{AllLead, Does, Fails, IsMade, Leads, TaskState, Steps, grown, grown_value, hole, holes_in, tasks_in}
use Rattle.sexpr_text.proofs.RemainingPieces.{begun_fewer, expression_takes, inside_fewer}
use Rattle.sexpr_text.proofs.ReaderResults.{conses_is, conses_value, element, expression_is, field_more, fields_here, fields_is, inside_value}

abbrev pub state : List Object → List (ℕ × ℕ) → List Piece → TaskState
state objects labels pieces = record { objects = objects; labels = labels; pieces = pieces }

-- both facts of what was read
both_ok : {A E : Type 0} (one : Result A E) (P Q : A → Type 0) → IfOk one P → IfOk one Q → IfOk one (λ x. P x × Q x)
both_ok (Ok x) P Q first second = (first, second)
both_ok (Err e) P Q first second = tt

-- Entering a form

count_more : (objects : List Object) (one : Object) → length (objects ++ one ∷ []) ≡ length objects + 1
count_more objects one = length-append objects (one ∷ [])

conses_wait : (objects : List Object) (value : Value) (all : Result (Read Value) SexprFault)
    → grown (λ _. objects) (all >>= λ all. Ok (record { value = value; objects = all.objects; labels = all.labels; rest = all.rest })) ≡ grown (λ _. objects) all
conses_wait objects value (Ok all) = refl
conses_wait objects value (Err fault) = refl

fields_wait : (objects : List Object) (value : Value) (area code : ℕ) (all : Result (Read (List Value)) SexprFault)
    → grown (λ _. objects) (all >>= λ all. Ok (record { value = value; objects = block_with area code all.value ∷ all.objects; labels = all.labels; rest = all.rest }))
    ≡ grown (λ others. slice_set (objects ++ hole ∷ []) (length objects) (block_with area code ([] ++ others))) all
fields_wait objects value area code (Ok all) =
    let e : slice_set (objects ++ hole ∷ []) (length objects) (block_with area code all.value) ≡ objects ++ block_with area code all.value ∷ [] = set-append_seam objects hole [] (block_with area code all.value) in
    ap (λ (os : List Object). Ok (state os all.labels all.rest)) (sym (append_assoc objects (block_with area code all.value ∷ []) all.objects) ∙ ap (λ (os : List Object). os ++ all.objects) (sym e))
fields_wait objects value area code (Err fault) = refl

-- the tasks of a form that is entered lead to what is inside
pub enters : (inside : Inside) (depth : ℕ) (value : Value) (objects : List Object) (labels : List (ℕ × ℕ)) (pieces : List Piece) → length pieces ≤ depth
    → AllLead (tasks_in inside (length objects)) (Ok (state (objects ++ holes_in inside) labels pieces)) (grown (λ _. objects) (read_inside (expression depth) (length objects) value inside labels pieces))
enters I.Nothing depth value objects labels pieces deep = refl
enters (I.Conses area bracket) depth value objects labels pieces deep = (
  Ok (state (objects ++ []) labels pieces),
  refl,
  record {
    depth = depth;
    many = length pieces;
    deep = deep;
    few = omega arith;
    is = conses_wait objects value (conses (expression depth) (length pieces) area bracket (length objects) labels pieces)
        ∙ ap (λ (os : List Object). grown (λ _. os) (conses (expression depth) (length pieces) area bracket (length os) labels pieces)) (sym (append-nil objects));
  },
)
enters (I.Block area code) depth value objects labels pieces deep = (
  Ok (state (objects ++ hole ∷ []) labels pieces),
  refl,
  record {
    depth = depth;
    many = length pieces;
    deep = deep;
    few = omega arith;
    is = fields_wait objects value area code (fields (expression depth) (length pieces) 0 (length objects + 1) labels pieces)
        ∙ ap (λ n. grown (λ others. slice_set (objects ++ hole ∷ []) (length objects) (block_with area code ([] ++ others))) (fields (expression depth) (length pieces) 0 n labels pieces)) (sym (count_more objects hole));
  },
)

pub entered_made : (inside : Inside) (objects : List Object) → All (IsMade (length (objects ++ holes_in inside))) (tasks_in inside (length objects))
entered_made I.Nothing objects = All-nil _
entered_made (I.Conses area bracket) objects = All-cons (IsMade (length (objects ++ []))) (Conses area bracket) [] tt (All-nil _)
entered_made (I.Block area code) objects =
    let here : IsMade (length (objects ++ hole ∷ [])) (Fields (length objects) area code []) = (omega (arith, count_more objects hole), omega arith) in
    All-cons (IsMade (length (objects ++ hole ∷ []))) (Fields (length objects) area code []) [] here (All-nil _)

-- A beginning that is refused

refused_first : {A : Type 0} (fault : SexprFault) (first : Result Beginning SexprFault) (next : Beginning → Result A SexprFault) → IsFault fault first → IsFault fault (first >>= next)
refused_first (Bad line reason) first next is = ap (λ f. f >>= next) is
refused_first (TooSmall line) first next is = ap (λ f. f >>= next) is
refused_first NoMemory first next is = tt

refused_then : {A B : Type 0} (fault : SexprFault) (first : Result A SexprFault) (next : A → Result B SexprFault) → IsFault fault first → IsFault fault (first >>= next)
refused_then (Bad line reason) first next is = ap (λ f. f >>= next) is
refused_then (TooSmall line) first next is = ap (λ f. f >>= next) is
refused_then NoMemory first next is = tt

fault_of : {A : Type 0} (fault : SexprFault) (one other : Result A SexprFault) → one ≡ other → IsFault fault other → IsFault fault one
fault_of {A} fault one other same is = let P : Result A SexprFault → Type 0 = λ r. IsFault fault r in subst P (sym same) is

-- an expression whose beginning is refused
expression_fails : (fault : SexprFault) (depth next : ℕ) (labels : List (ℕ × ℕ)) (pieces : List Piece) → length pieces ≤ depth → IsFault fault (begun next labels pieces) → IsFault fault (expression depth next labels pieces)
expression_fails fault depth next labels pieces deep is =
    fault_of fault _ _ (expression_is depth next labels pieces deep)
    (refused_first fault (begun next labels pieces) (λ b. read_inside (expression (depth - 1)) next b.value b.inside b.labels b.rest) is)

-- an expression whose beginning was read
expression_goes : (depth next : ℕ) (labels : List (ℕ × ℕ)) (pieces : List Piece) (b : Beginning) → length pieces ≤ depth → begun next labels pieces ≡ Ok b
    → expression depth next labels pieces ≡ read_inside (expression (depth - 1)) next b.value b.inside b.labels b.rest
expression_goes depth next labels pieces b deep is =
    expression_is depth next labels pieces deep ∙ ap (λ (f : Result Beginning SexprFault). f >>= λ b. read_inside (expression (depth - 1)) next b.value b.inside b.labels b.rest) is

fewer_of : (next : ℕ) (labels : List (ℕ × ℕ)) (pieces : List Piece) (b : Beginning) → begun next labels pieces ≡ Ok b → length b.rest < length pieces
fewer_of next labels pieces b is = let P : Result Beginning SexprFault → Type 0 = λ r. IfOk r (λ b. length b.rest < length pieces) in subst P is (begun_fewer next labels pieces)

-- The conses of a list form

pub cons_fails : (fault : SexprFault) (area : ℕ) (bracket : Bracket) (old : TaskState) → IsFault fault (begun (length old.objects + 1) old.labels old.pieces) → Fails (Conses area bracket) old fault
cons_fails fault area bracket old is after does =
    let next = length old.objects in
    let read : Reader = expression does.depth in
    fault_of fault after _ does.is
    (refused_then fault (conses read does.many area bracket next old.labels old.pieces) _
    (fault_of fault _ _ (conses_is does.depth does.many area bracket next old.labels old.pieces does.few)
    (refused_then fault (read (next + 1) old.labels old.pieces) (element read (does.many - 1) area bracket next) (expression_fails fault does.depth (next + 1) old.labels old.pieces does.deep is))))

-- the beginning that was requested
pub next_name : (fault : SexprFault) (next : ℕ) (old : TaskState) → next ≡ length old.objects + 1 → IsFault fault (begun next old.labels old.pieces) → IsFault fault (begun (length old.objects + 1) old.labels old.pieces)
next_name fault next old at is = fault_of fault (begun (length old.objects + 1) old.labels old.pieces) (begun next old.labels old.pieces) (ap (λ n. begun n old.labels old.pieces) (sym at)) is

pub fault_at : (fault : SexprFault) (labels : List (ℕ × ℕ)) (one other : ℕ) (first second : List Piece) → one ≡ other → first ≡ second → IsFault fault (begun one labels first) → IsFault fault (begun other labels second)
fault_at fault labels one other first second same equal is =
    fault_of fault (begun other labels second) (begun one labels first) (ap (λ n. begun n labels second) (sym same) ∙ ap (begun one labels) (sym equal)) is

pub begun_at : (labels : List (ℕ × ℕ)) (one other : ℕ) (first second : List Piece) (b : Beginning) → one ≡ other → first ≡ second → begun one labels first ≡ Ok b → begun other labels second ≡ Ok b
begun_at labels one other first second b same equal is = ap (λ n. begun n labels second) (sym same) ∙ ap (begun one labels) (sym equal) ∙ is

-- what a call causes is passed on
pub on_ok_of : {A E : Type 0} (one : Result A E) (P Q : Type 0) → (P → Q) → OnOk one P → OnOk one Q
on_ok_of (Ok x) P Q leads here = leads here
on_ok_of (Err e) P Q leads here = tt

pub if_err_of : {A E : Type 0} (one : Result A E) (P Q : E → Type 0) → ((e : E) → P e → Q e) → IfErr one P → IfErr one Q
if_err_of (Ok x) P Q leads here = tt
if_err_of (Err e) P Q leads here = leads e here

pub same_token : {A : Type 0} (f : Token → A) (pieces : List Piece) (token : Token) (value : A) → token ≡ token_at pieces → value ≡ f token → f (token_at pieces) ≡ value
same_token f pieces token value is same = ap f (sym is) ∙ sym same

behind_is : (area : ℕ) (bracket : Bracket) (objects : List Object) (first : Value) (car : Read Value) (name : ℕ) → car.value ≡ first → name ≡ length objects → (cdr : Result (Read Value) SexprFault)
    → grown (λ _. objects) (cdr >>= λ cdr. Ok (record { value = Ref name; objects = cons_in area bracket car.value cdr.value ∷ (car.objects ++ cdr.objects); labels = cdr.labels; rest = cdr.rest }))
    ≡ grown (λ cdr. slice_set ((objects ++ cons_in area bracket first Nil ∷ []) ++ car.objects) name (cons_in area bracket first cdr)) cdr
behind_is area bracket objects first car name same here (Err fault) = refl
behind_is area bracket objects first car name same here (Ok cdr) =
    let old : Object = cons_in area bracket first Nil in
    let new : Object = cons_in area bracket first cdr.value in
    let e : slice_set ((objects ++ old ∷ []) ++ car.objects) name new ≡ objects ++ new ∷ car.objects =
    ap (λ (os : List Object). slice_set os name new) (append_assoc objects (old ∷ []) car.objects) ∙ ap (λ n. slice_set (objects ++ old ∷ car.objects) n new) here ∙ set-append_seam objects old car.objects new in
    ap (λ (os : List Object). Ok (state os cdr.labels cdr.rest))
    (ap (λ v. objects ++ cons_in area bracket v cdr.value ∷ (car.objects ++ cdr.objects)) same ∙ sym (append_assoc objects (new ∷ car.objects) cdr.objects) ∙ ap (λ (os : List Object). os ++ cdr.objects) (sym e))

behind_waits : (depth many area : ℕ) (bracket : Bracket) (objects : List Object) (first : Value) (limit : ℕ) (after : Result TaskState SexprFault) → limit ≤ depth → limit ≤ many → (car : Result (Read Value) SexprFault)
    → IfOk car (λ r. (length r.rest ≤ limit) × (r.value ≡ first))
    → after ≡ grown (λ _. objects) (car >>= element (expression depth) many area bracket (length objects))
    → Leads (Behind (length objects) area bracket first) (grown (λ _. objects ++ cons_in area bracket first Nil ∷ []) car) after
behind_waits depth many area bracket objects first limit after deep few (Err fault) known is = is
behind_waits depth many area bracket objects first limit after deep few (Ok car) known is =
    let made : List Object = (objects ++ cons_in area bracket first Nil ∷ []) ++ car.objects in
    let count : length objects + 1 + length car.objects ≡ length made = omega (arith, length-append (objects ++ cons_in area bracket first Nil ∷ []) car.objects, count_more objects (cons_in area bracket first Nil)) in
    record {
      depth = depth;
      many = many;
      deep = omega arith;
      few = omega arith;
      is = is
          ∙ behind_is area bracket objects first car (length objects) known.1 refl (cdr_behind (conses (expression depth) many area bracket) (expression depth) bracket (length objects + 1 + length car.objects) car.labels car.rest)
          ∙ ap (λ n. grown (λ cdr. slice_set made (length objects) (cons_in area bracket first cdr)) (cdr_behind (conses (expression depth) many area bracket) (expression depth) bracket n car.labels car.rest)) count;
    }

cons_leads : (area : ℕ) (bracket : Bracket) (old : TaskState) (b : Beginning) (after : Result TaskState SexprFault) → begun (length old.objects + 1) old.labels old.pieces ≡ Ok b
    → Does (Conses area bracket) old after
    → AllLead (Behind (length old.objects) area bracket b.value ∷ tasks_in b.inside (length (old.objects ++ cons_in area bracket b.value Nil ∷ [])))
    (Ok (state ((old.objects ++ cons_in area bracket b.value Nil ∷ []) ++ holes_in b.inside) b.labels b.rest)) after
cons_leads area bracket old b after is does =
    let objects = old.objects in
    let made : List Object = objects ++ cons_in area bracket b.value Nil ∷ [] in
    let less = fewer_of (length objects + 1) old.labels old.pieces b is in
    let read : Reader = expression (does.depth - 1) in
    let car : Result (Read Value) SexprFault = read_inside read (length made) b.value b.inside b.labels b.rest in
    let known = both_ok car (λ r. length r.rest ≤ length b.rest) (λ r. r.value ≡ b.value) (inside_fewer read (length made) b.value b.inside b.labels b.rest (expression_takes (does.depth - 1))) (inside_value read (length made) b.value b.inside b.labels b.rest) in
    let e : expression does.depth (length objects + 1) old.labels old.pieces ≡ car =
    expression_goes does.depth (length objects + 1) old.labels old.pieces b does.deep is ∙ ap (λ n. read_inside read n b.value b.inside b.labels b.rest) (sym (count_more objects (cons_in area bracket b.value Nil))) in (
      grown (λ _. made) car,
      enters b.inside (does.depth - 1) b.value made b.labels b.rest (omega (arith, does.deep)),
      behind_waits does.depth (does.many - 1) area bracket objects b.value (length b.rest) after (omega (arith, does.deep)) (omega (arith, does.few)) car known
          (does.is ∙ ap (grown (λ _. objects)) (conses_is does.depth does.many area bracket (length objects) old.labels old.pieces does.few ∙ ap (λ r. r >>= element (expression does.depth) (does.many - 1) area bracket (length objects)) e)),
    )

grown_count : (objects others : List Object) (one : Object) → length objects ≤ length ((objects ++ one ∷ []) ++ others)
grown_count objects others one = omega (arith, length-append (objects ++ one ∷ []) others, count_more objects one)

-- the next cons, whose car has begun
pub cons_steps : (area : ℕ) (bracket : Bracket) (before now : List ParseTask) (old new : TaskState) (b : Beginning) (next : ℕ)
    → begun next old.labels old.pieces ≡ Ok b → next ≡ length old.objects + 1
    → now ≡ (before ++ Behind (length old.objects) area bracket b.value ∷ []) ++ tasks_in b.inside (length (old.objects ++ cons_in area bracket b.value Nil ∷ []))
    → new ≡ state ((old.objects ++ cons_in area bracket b.value Nil ∷ []) ++ holes_in b.inside) b.labels b.rest
    → Steps (Conses area bracket) before old now new
cons_steps area bracket before now old new b next is at tasks there =
    let made : List Object = old.objects ++ cons_in area bracket b.value Nil ∷ [] in
    let first : begun (length old.objects + 1) old.labels old.pieces ≡ Ok b = ap (λ n. begun n old.labels old.pieces) (sym at) ∙ is in
    let pushed : List ParseTask = Behind (length old.objects) area bracket b.value ∷ tasks_in b.inside (length made) in
    let less = fewer_of (length old.objects + 1) old.labels old.pieces b first in
    let count = grown_count old.objects (holes_in b.inside) (cons_in area bracket b.value Nil) in
    let more : length old.objects < length (made ++ holes_in b.inside) = omega (arith, length-append made (holes_in b.inside), count_more old.objects (cons_in area bracket b.value Nil)) in
    let P : TaskState → Type 0 = λ s. Steps (Conses area bracket) before old now s in
    subst P (sym there) (record {
      pushed = pushed;
      tasks = tasks ∙ append_assoc before (Behind (length old.objects) area bracket b.value ∷ []) (tasks_in b.inside (length made));
      leads = λ after does. cons_leads area bracket old b after first does;
      made = All-cons (IsMade (length (made ++ holes_in b.inside))) (Behind (length old.objects) area bracket b.value) (tasks_in b.inside (length made)) more (entered_made b.inside made);
      grows = count;
      takes = less;
    })

-- a step after which nothing remains to be done
done : (task : ParseTask) (before : List ParseTask) (old new : TaskState) → ((after : Result TaskState SexprFault) → Does task old after → Ok new ≡ after) → length old.objects ≤ length new.objects → length new.pieces < length old.pieces
    → Steps task before old before new
done task before old new leads grows takes =
    record { pushed = []; tasks = sym (append-nil before); leads = leads; made = All-nil _; grows = grows; takes = takes }

fewer_behind : (pieces : List Piece) (token : Token) → token_at pieces ≡ token → is_end token ≡ false → length (drop 1 pieces) < length pieces
fewer_behind [] token is goes = absurd (cc)
fewer_behind (piece ∷ pieces) token is goes = omega arith

-- Closing brackets

closing_goes : (bracket : Bracket) (token : Token) → closes bracket token ≡ true → is_end token ≡ false
closing_goes bracket (Shut other) is = refl
closing_goes bracket Root is = refl
closing_goes bracket EndSexpr is = refl
closing_goes bracket Dot is = refl
closing_goes bracket (Atom value) is = refl
closing_goes bracket (Label label) is = refl
closing_goes bracket (Again label) is = refl
closing_goes bracket (Open area other) is = refl
closing_goes bracket Unknown is = refl
closing_goes bracket End is = absurd (cc)

-- The cdr after an element

-- the objects with this cdr in the cons
abbrev pub with_cdr : List Object → ℕ → ℕ → Bracket → Value → Value → List Object
with_cdr objects name area bracket car cdr = slice_set objects name (cons_in area bracket car cdr)

cdr_shut : (goes read : Reader) (bracket : Bracket) (next : ℕ) (labels : List (ℕ × ℕ)) (pieces : List Piece) → closes bracket (token_at pieces) ≡ true
    → cdr_behind goes read bracket next labels pieces ≡ Ok (record { value = Nil; objects = []; labels = labels; rest = drop 1 pieces })
unfolding cdr_behind
cdr_shut goes read bracket next labels pieces shuts = rw shuts refl

cdr_dotted : (goes read : Reader) (bracket : Bracket) (next : ℕ) (labels : List (ℕ × ℕ)) (pieces : List Piece) → closes bracket (token_at pieces) ≡ false → is_dot (token_at pieces) ≡ true
    → cdr_behind goes read bracket next labels pieces ≡ read next labels (drop 1 pieces) >>= closed bracket
unfolding cdr_behind
cdr_dotted goes read bracket next labels pieces not_shut dot = rw (not_shut, dot) refl

cdr_goes : (goes read : Reader) (bracket : Bracket) (next : ℕ) (labels : List (ℕ × ℕ)) (pieces : List Piece) → closes bracket (token_at pieces) ≡ false → is_dot (token_at pieces) ≡ false
    → cdr_behind goes read bracket next labels pieces ≡ goes next labels pieces
unfolding cdr_behind
cdr_goes goes read bracket next labels pieces not_shut no_dot = rw (not_shut, no_dot) refl

-- a closing bracket after an element
pub shut_steps : (name area : ℕ) (bracket : Bracket) (car : Value) (before : List ParseTask) (old new : TaskState) → closes bracket (token_at old.pieces) ≡ true
    → new ≡ state (with_cdr old.objects name area bracket car Nil) old.labels (drop 1 old.pieces) → Steps (Behind name area bracket car) before old before new
shut_steps name area bracket car before old new shuts there =
    let objects : List Object = with_cdr old.objects name area bracket car Nil in
    let P : TaskState → Type 0 = λ s. Steps (Behind name area bracket car) before old before s in
    subst P (sym there) (done (Behind name area bracket car) before old (state objects old.labels (drop 1 old.pieces))
    (λ after does.
    let e : after ≡ Ok (state (objects ++ []) old.labels (drop 1 old.pieces)) =
    does.is ∙ ap (grown (with_cdr old.objects name area bracket car)) (cdr_shut (conses (expression does.depth) does.many area bracket) (expression does.depth) bracket (length old.objects) old.labels old.pieces shuts) in
    ap (λ (os : List Object). Ok (state os old.labels (drop 1 old.pieces))) (sym (append-nil objects)) ∙ sym e)
    (omega (arith, length-set old.objects name (cons_in area bracket car Nil)))
    (fewer_behind old.pieces (token_at old.pieces) refl (closing_goes bracket (token_at old.pieces) shuts)))

-- a dot closes nothing
pub at_dot : (bracket : Bracket) (token : Token) → is_dot token ≡ true → closes bracket token ≡ false
at_dot bracket Dot is = refl
at_dot bracket Root is = refl
at_dot bracket EndSexpr is = refl
at_dot bracket (Atom value) is = refl
at_dot bracket (Label label) is = refl
at_dot bracket (Again label) is = refl
at_dot bracket (Open area other) is = refl
at_dot bracket (Shut other) is = absurd (cc)
at_dot bracket Unknown is = refl
at_dot bracket End is = refl

-- another element after it
goes_same : (objects : List Object) (name area : ℕ) (bracket : Bracket) (car first : Value) (all : Result (Read Value) SexprFault) → IfOk all (λ r. r.value ≡ first)
    → grown (with_cdr objects name area bracket car) all ≡ grown (λ _. with_cdr objects name area bracket car first) all
goes_same objects name area bracket car first (Err fault) is = refl
goes_same objects name area bracket car first (Ok all) is = ap (λ v. Ok (state (with_cdr objects name area bracket car v ++ all.objects) all.labels all.rest)) is

goes_leads : (name area : ℕ) (bracket : Bracket) (car : Value) (old : TaskState) → closes bracket (token_at old.pieces) ≡ false → is_dot (token_at old.pieces) ≡ false
    → (after : Result TaskState SexprFault) → Does (Behind name area bracket car) old after
    → Does (Conses area bracket) (state (with_cdr old.objects name area bracket car (Ref (length old.objects))) old.labels old.pieces) after
goes_leads name area bracket car old not_shut no_dot after does =
    let next = length old.objects in
    let objects : List Object = with_cdr old.objects name area bracket car (Ref next) in
    let all : ℕ → Result (Read Value) SexprFault = λ n. conses (expression does.depth) does.many area bracket n old.labels old.pieces in
    record {
      depth = does.depth;
      many = does.many;
      deep = does.deep;
      few = does.few;
      is = does.is
          ∙ ap (grown (with_cdr old.objects name area bracket car)) (cdr_goes (conses (expression does.depth) does.many area bracket) (expression does.depth) bracket next old.labels old.pieces not_shut no_dot)
          ∙ goes_same old.objects name area bracket car (Ref next) (all next) (conses_value does.depth does.many area bracket next old.labels old.pieces)
          ∙ ap (λ n. grown (λ _. objects) (all n)) (sym (length-set old.objects name (cons_in area bracket car (Ref next))));
    }

pub goes_steps : (name area : ℕ) (bracket : Bracket) (car : Value) (before now : List ParseTask) (old between new : TaskState) → closes bracket (token_at old.pieces) ≡ false → is_dot (token_at old.pieces) ≡ false
    → between ≡ state (with_cdr old.objects name area bracket car (Ref (length old.objects))) old.labels old.pieces
    → Steps (Conses area bracket) before between now new → Steps (Behind name area bracket car) before old now new
goes_steps name area bracket car before now old between new not_shut no_dot there steps =
    let objects = with_cdr old.objects name area bracket car (Ref (length old.objects)) in
    let P : TaskState → Type 0 = λ s. Steps (Conses area bracket) before s now new in
    let steps : Steps (Conses area bracket) before (state objects old.labels old.pieces) now new = subst P there steps in
    record {
      pushed = steps.pushed;
      tasks = steps.tasks;
      leads = λ after does. steps.leads after (goes_leads name area bracket car old not_shut no_dot after does);
      made = steps.made;
      grows = omega (arith, length-set old.objects name (cons_in area bracket car (Ref (length old.objects))), steps.grows);
      takes = steps.takes;
    }

pub goes_fails : (fault : SexprFault) (name area : ℕ) (bracket : Bracket) (car : Value) (old between : TaskState) → closes bracket (token_at old.pieces) ≡ false → is_dot (token_at old.pieces) ≡ false
    → between ≡ state (with_cdr old.objects name area bracket car (Ref (length old.objects))) old.labels old.pieces
    → Fails (Conses area bracket) between fault → Fails (Behind name area bracket car) old fault
goes_fails fault name area bracket car old between not_shut no_dot there fails after does =
    let P : TaskState → Type 0 = λ s. Fails (Conses area bracket) s fault in
    subst P there fails after (goes_leads name area bracket car old not_shut no_dot after does)

-- a dot after it
dot_fewer : (pieces : List Piece) → length (drop 1 pieces) ≤ length pieces
dot_fewer pieces = omega (arith, length-drop 1 pieces)

dot_shut : (is : Bool) (line : SexprFault) (objects : List Object) (name area : ℕ) (bracket : Bracket) (car first : Value) (one : Read Value) → one.value ≡ first
    → grown (with_cdr objects name area bracket car) (if is then Ok (record one { rest = drop 1 one.rest }) else Err line)
    ≡ (if is then Ok (state (with_cdr objects name area bracket car first ++ one.objects) one.labels (drop 1 one.rest)) else Err line)
dot_shut true line objects name area bracket car first one same = ap (λ v. Ok (state (with_cdr objects name area bracket car v ++ one.objects) one.labels (drop 1 one.rest))) same
dot_shut false line objects name area bracket car first one same = refl

dot_waits : (objects : List Object) (name area : ℕ) (bracket : Bracket) (car first : Value) (after : Result TaskState SexprFault) (cdr : Result (Read Value) SexprFault) → IfOk cdr (λ r. r.value ≡ first)
    → after ≡ grown (with_cdr objects name area bracket car) (cdr >>= closed bracket) → Leads (Close bracket) (grown (λ _. with_cdr objects name area bracket car first) cdr) after
dot_waits objects name area bracket car first after (Err fault) known is = is
dot_waits objects name area bracket car first after (Ok one) known is =
    is ∙ dot_shut (closes bracket (token_at one.rest)) (Bad (line_at one.rest) (misplaced (token_at one.rest))) objects name area bracket car first one known

dot_leads : (name area : ℕ) (bracket : Bracket) (car : Value) (old : TaskState) (b : Beginning) (after : Result TaskState SexprFault) → closes bracket (token_at old.pieces) ≡ false → is_dot (token_at old.pieces) ≡ true
    → begun (length old.objects) old.labels (drop 1 old.pieces) ≡ Ok b → Does (Behind name area bracket car) old after
    → AllLead (Close bracket ∷ tasks_in b.inside (length (with_cdr old.objects name area bracket car b.value)))
    (Ok (state (with_cdr old.objects name area bracket car b.value ++ holes_in b.inside) b.labels b.rest)) after
dot_leads name area bracket car old b after not_shut dot is does =
    let next = length old.objects in
    let objects : List Object = with_cdr old.objects name area bracket car b.value in
    let same : length objects ≡ next = length-set old.objects name (cons_in area bracket car b.value) in
    let less = fewer_of next old.labels (drop 1 old.pieces) b is in
    let deep : length (drop 1 old.pieces) ≤ does.depth = omega (arith, dot_fewer old.pieces, does.deep) in
    let read : Reader = expression (does.depth - 1) in
    let cdr : Result (Read Value) SexprFault = read_inside read (length objects) b.value b.inside b.labels b.rest in
    let e : expression does.depth next old.labels (drop 1 old.pieces) ≡ cdr =
    expression_goes does.depth next old.labels (drop 1 old.pieces) b deep is ∙ ap (λ n. read_inside read n b.value b.inside b.labels b.rest) (sym same) in (
      grown (λ _. objects) cdr,
      enters b.inside (does.depth - 1) b.value objects b.labels b.rest (omega arith),
      dot_waits old.objects name area bracket car b.value after cdr (inside_value read (length objects) b.value b.inside b.labels b.rest)
          (does.is ∙ ap (grown (with_cdr old.objects name area bracket car))
          (cdr_dotted (conses (expression does.depth) does.many area bracket) (expression does.depth) bracket next old.labels old.pieces not_shut dot ∙ ap (λ r. r >>= closed bracket) e)),
    )

pub dot_fails : (fault : SexprFault) (name area : ℕ) (bracket : Bracket) (car : Value) (old : TaskState) → closes bracket (token_at old.pieces) ≡ false → is_dot (token_at old.pieces) ≡ true
    → IsFault fault (begun (length old.objects) old.labels (drop 1 old.pieces)) → Fails (Behind name area bracket car) old fault
dot_fails fault name area bracket car old not_shut dot is after does =
    let next = length old.objects in
    let read : Reader = expression does.depth in
    fault_of fault after _ does.is
    (refused_then fault (cdr_behind (conses read does.many area bracket) read bracket next old.labels old.pieces) _
    (fault_of fault _ _ (cdr_dotted (conses read does.many area bracket) read bracket next old.labels old.pieces not_shut dot)
    (refused_then fault (read next old.labels (drop 1 old.pieces)) (closed bracket) (expression_fails fault does.depth next old.labels (drop 1 old.pieces) (omega (arith, dot_fewer old.pieces, does.deep)) is))))

pub dot_steps : (name area : ℕ) (bracket : Bracket) (car : Value) (before now : List ParseTask) (old new : TaskState) (b : Beginning) → name < length old.objects → closes bracket (token_at old.pieces) ≡ false → is_dot (token_at old.pieces) ≡ true
    → begun (length old.objects) old.labels (drop 1 old.pieces) ≡ Ok b
    → now ≡ (before ++ Close bracket ∷ []) ++ tasks_in b.inside (length (with_cdr old.objects name area bracket car b.value))
    → new ≡ state (with_cdr old.objects name area bracket car b.value ++ holes_in b.inside) b.labels b.rest
    → Steps (Behind name area bracket car) before old now new
dot_steps name area bracket car before now old new b made not_shut dot is tasks there =
    let objects : List Object = with_cdr old.objects name area bracket car b.value in
    let less = fewer_of (length old.objects) old.labels (drop 1 old.pieces) b is in
    let P : TaskState → Type 0 = λ s. Steps (Behind name area bracket car) before old now s in
    subst P (sym there) (record {
      pushed = Close bracket ∷ tasks_in b.inside (length objects);
      tasks = tasks ∙ append_assoc before (Close bracket ∷ []) (tasks_in b.inside (length objects));
      leads = λ after does. dot_leads name area bracket car old b after not_shut dot is does;
      made = All-cons (IsMade (length (objects ++ holes_in b.inside))) (Close bracket) (tasks_in b.inside (length objects)) tt (entered_made b.inside objects);
      grows = omega (arith, length-append objects (holes_in b.inside), length-set old.objects name (cons_in area bracket car b.value));
      takes = omega (arith, dot_fewer old.pieces);
    })

-- The fields of a block

abbrev pub with_fields : List Object → ℕ → ℕ → ℕ → List Value → List Value → List Object
with_fields objects name area code values others = slice_set objects name (block_with area code (values ++ others))

fields_shut : (read : Reader) (many had next : ℕ) (labels : List (ℕ × ℕ)) (pieces : List Piece) → closes Curly (token_at pieces) ≡ true
    → fields_here read many had next labels pieces ≡ Ok (record { value = []; objects = []; labels = labels; rest = drop 1 pieces })
fields_shut read many had next labels pieces shuts = rw shuts refl

fields_surplus : (read : Reader) (many had next : ℕ) (labels : List (ℕ × ℕ)) (pieces : List Piece) → closes Curly (token_at pieces) ≡ false → 2047 ≤ had
    → fields_here read many had next labels pieces ≡ refused pieces (surplus (token_at pieces))
fields_surplus read many had next labels pieces not_shut full = let e : nat_le 2047 had ≡ true = grind (arith, nat_tests) in rw (not_shut, e) refl

fields_go : (read : Reader) (many had next : ℕ) (labels : List (ℕ × ℕ)) (pieces : List Piece) → closes Curly (token_at pieces) ≡ false → had < 2047
    → fields_here read many had next labels pieces ≡ read next labels pieces >>= field_more read many had next
fields_go read many had next labels pieces not_shut few = let e : nat_le 2047 had ≡ false = grind (arith, nat_tests) in rw (not_shut, e) refl

-- the closing bracket
pub block_steps : (name area code : ℕ) (values : List Value) (before : List ParseTask) (old new : TaskState) → closes Curly (token_at old.pieces) ≡ true
    → new ≡ state (slice_set old.objects name (block_with area code values)) old.labels (drop 1 old.pieces) → Steps (Fields name area code values) before old before new
block_steps name area code values before old new shuts there =
    let objects : List Object = slice_set old.objects name (block_with area code values) in
    let P : TaskState → Type 0 = λ s. Steps (Fields name area code values) before old before s in
    subst P (sym there) (done (Fields name area code values) before old (state objects old.labels (drop 1 old.pieces))
    (λ after does.
    let e : after ≡ Ok (state (with_fields old.objects name area code values [] ++ []) old.labels (drop 1 old.pieces)) =
    does.is ∙ ap (grown (with_fields old.objects name area code values))
    (fields_is does.depth does.many (length values) (length old.objects) old.labels old.pieces does.few ∙ fields_shut (expression does.depth) (does.many - 1) (length values) (length old.objects) old.labels old.pieces shuts) in
    ap (λ (os : List Object). Ok (state os old.labels (drop 1 old.pieces)))
    (ap (λ (vs : List Value). slice_set old.objects name (block_with area code vs)) (sym (append-nil values)) ∙ sym (append-nil (with_fields old.objects name area code values [])))
    ∙ sym e)
    (omega (arith, length-set old.objects name (block_with area code values)))
    (fewer_behind old.pieces (token_at old.pieces) refl (closing_goes Curly (token_at old.pieces) shuts)))

-- a 2,048th field
pub surplus_fails : (name area code : ℕ) (values : List Value) (old : TaskState) → closes Curly (token_at old.pieces) ≡ false → 2047 ≤ length values
    → Fails (Fields name area code values) old (Bad (line_at old.pieces) (surplus (token_at old.pieces)))
surplus_fails name area code values old not_shut full after does =
    does.is ∙ ap (grown (with_fields old.objects name area code values))
    (fields_is does.depth does.many (length values) (length old.objects) old.labels old.pieces does.few ∙ fields_surplus (expression does.depth) (does.many - 1) (length values) (length old.objects) old.labels old.pieces not_shut full)

-- a field whose beginning is refused
pub field_fails : (fault : SexprFault) (name area code : ℕ) (values : List Value) (old : TaskState) → closes Curly (token_at old.pieces) ≡ false → length values < 2047
    → IsFault fault (begun (length old.objects) old.labels old.pieces) → Fails (Fields name area code values) old fault
field_fails fault name area code values old not_shut few is after does =
    let next = length old.objects in
    let read : Reader = expression does.depth in
    fault_of fault after _ does.is
    (refused_then fault (fields read does.many (length values) next old.labels old.pieces) _
    (fault_of fault _ _ (fields_is does.depth does.many (length values) next old.labels old.pieces does.few ∙ fields_go read (does.many - 1) (length values) next old.labels old.pieces not_shut few)
    (refused_then fault (read next old.labels old.pieces) (field_more read (does.many - 1) (length values) next) (expression_fails fault does.depth next old.labels old.pieces does.deep is))))

more_fields : (objects : List Object) (name area code : ℕ) (values : List Value) (first : Value) (field : Read Value) → field.value ≡ first → name < length objects → (others : Result (Read (List Value)) SexprFault)
    → grown (with_fields objects name area code values) (others >>= λ others. Ok (record { value = field.value ∷ others.value; objects = field.objects ++ others.objects; labels = others.labels; rest = others.rest }))
    ≡ grown (with_fields (objects ++ field.objects) name area code (values ++ first ∷ [])) others
more_fields objects name area code values first field same made (Err fault) = refl
more_fields objects name area code values first field same made (Ok others) =
    let block : Object = block_with area code (values ++ first ∷ others.value) in
    ap (λ (os : List Object). Ok (state os others.labels others.rest))
    (ap (λ v. slice_set objects name (block_with area code (values ++ v ∷ others.value)) ++ (field.objects ++ others.objects)) same
    ∙ sym (append_assoc (slice_set objects name block) field.objects others.objects)
    ∙ ap (λ (os : List Object). os ++ others.objects) (sym (set-append_left objects field.objects name block made))
    ∙ ap (λ (vs : List Value). slice_set (objects ++ field.objects) name (block_with area code vs) ++ others.objects) (sym (append_assoc values (first ∷ []) others.value)))

field_waits : (depth many : ℕ) (objects : List Object) (name area code : ℕ) (values : List Value) (first : Value) (limit : ℕ) (after : Result TaskState SexprFault) → limit ≤ depth → limit ≤ many → name < length objects → (field : Result (Read Value) SexprFault)
    → IfOk field (λ r. (length r.rest ≤ limit) × (r.value ≡ first))
    → after ≡ grown (with_fields objects name area code values) (field >>= field_more (expression depth) many (length values) (length objects))
    → Leads (Fields name area code (values ++ first ∷ [])) (grown (λ _. objects) field) after
field_waits depth many objects name area code values first limit after deep few made (Err fault) known is = is
field_waits depth many objects name area code values first limit after deep few made (Ok field) known is =
    let count : length objects + length field.objects ≡ length (objects ++ field.objects) = sym (length-append objects field.objects) in
    let had : length values + 1 ≡ length (values ++ first ∷ []) = sym (length-append values (first ∷ [])) in
    record {
      depth = depth;
      many = many;
      deep = omega arith;
      few = omega arith;
      is = is
          ∙ more_fields objects name area code values first field known.1 made (fields (expression depth) many (length values + 1) (length objects + length field.objects) field.labels field.rest)
          ∙ ap (λ n. grown (with_fields (objects ++ field.objects) name area code (values ++ first ∷ [])) (fields (expression depth) many n (length objects + length field.objects) field.labels field.rest)) had
          ∙ ap (λ n. grown (with_fields (objects ++ field.objects) name area code (values ++ first ∷ [])) (fields (expression depth) many (length (values ++ first ∷ [])) n field.labels field.rest)) count;
    }

field_leads : (name area code : ℕ) (values : List Value) (old : TaskState) (b : Beginning) (after : Result TaskState SexprFault) → name < length old.objects → closes Curly (token_at old.pieces) ≡ false → length values < 2047
    → begun (length old.objects) old.labels old.pieces ≡ Ok b → Does (Fields name area code values) old after
    → AllLead (Fields name area code (values ++ b.value ∷ []) ∷ tasks_in b.inside (length old.objects)) (Ok (state (old.objects ++ holes_in b.inside) b.labels b.rest)) after
field_leads name area code values old b after made not_shut few is does =
    let next = length old.objects in
    let less = fewer_of next old.labels old.pieces b is in
    let read : Reader = expression (does.depth - 1) in
    let field : Result (Read Value) SexprFault = read_inside read next b.value b.inside b.labels b.rest in
    let known = both_ok field (λ r. length r.rest ≤ length b.rest) (λ r. r.value ≡ b.value) (inside_fewer read next b.value b.inside b.labels b.rest (expression_takes (does.depth - 1))) (inside_value read next b.value b.inside b.labels b.rest) in (
      grown (λ _. old.objects) field,
      enters b.inside (does.depth - 1) b.value old.objects b.labels b.rest (omega (arith, does.deep)),
      field_waits does.depth (does.many - 1) old.objects name area code values b.value (length b.rest) after (omega (arith, does.deep)) (omega (arith, does.few)) made field known
          (does.is ∙ ap (grown (with_fields old.objects name area code values))
          (fields_is does.depth does.many (length values) next old.labels old.pieces does.few
          ∙ fields_go (expression does.depth) (does.many - 1) (length values) next old.labels old.pieces not_shut few
          ∙ ap (λ r. r >>= field_more (expression does.depth) (does.many - 1) (length values) next) (expression_goes does.depth next old.labels old.pieces b does.deep is))),
    )

pub field_steps : (name area code : ℕ) (values : List Value) (before now : List ParseTask) (old new : TaskState) (b : Beginning) → name < length old.objects → closes Curly (token_at old.pieces) ≡ false → length values < 2047
    → begun (length old.objects) old.labels old.pieces ≡ Ok b
    → now ≡ (before ++ Fields name area code (values ++ b.value ∷ []) ∷ []) ++ tasks_in b.inside (length old.objects)
    → new ≡ state (old.objects ++ holes_in b.inside) b.labels b.rest
    → Steps (Fields name area code values) before old now new
field_steps name area code values before now old new b made not_shut few is tasks there =
    let task : ParseTask = Fields name area code (values ++ b.value ∷ []) in
    let less = fewer_of (length old.objects) old.labels old.pieces b is in
    let here : IsMade (length (old.objects ++ holes_in b.inside)) task = (omega (arith, length-append old.objects (holes_in b.inside)), omega (arith, length-append values (b.value ∷ []))) in
    let P : TaskState → Type 0 = λ s. Steps (Fields name area code values) before old now s in
    subst P (sym there) (record {
      pushed = task ∷ tasks_in b.inside (length old.objects);
      tasks = tasks ∙ append_assoc before (task ∷ []) (tasks_in b.inside (length old.objects));
      leads = λ after does. field_leads name area code values old b after made not_shut few is does;
      made = All-cons (IsMade (length (old.objects ++ holes_in b.inside))) task (tasks_in b.inside (length old.objects)) here (entered_made b.inside old.objects);
      grows = omega (arith, length-append old.objects (holes_in b.inside));
      takes = less;
    })

-- All tasks

-- the last tasks lead first
pub lead_split : (tasks pushed : List ParseTask) (now after : Result TaskState SexprFault) → AllLead (tasks ++ pushed) now after → (between : Result TaskState SexprFault) × AllLead pushed now between × AllLead tasks between after
lead_split [] pushed now after lead = (after, lead, refl)
lead_split (task ∷ tasks) pushed now after lead =
    let rest = lead_split tasks pushed now lead.0 lead.1 in
    (rest.0, rest.1, (lead.0, rest.2, lead.2))

pub lead_join : (tasks pushed : List ParseTask) (now between after : Result TaskState SexprFault) → AllLead pushed now between → AllLead tasks between after → AllLead (tasks ++ pushed) now after
lead_join [] pushed now between after first second = let P : Result TaskState SexprFault → Type 0 = λ r. AllLead pushed now r in subst P second first
lead_join (task ∷ tasks) pushed now between after first second = (second.0, lead_join tasks pushed now between second.0 first second.1, second.2)

-- a refusal remains
pub lead_refused : (fault : SexprFault) (tasks : List ParseTask) (now after : Result TaskState SexprFault) → IsFault fault now → AllLead tasks now after → IsFault fault after
lead_refused fault [] now after is lead = fault_of fault after now (sym lead) is
lead_refused fault (task ∷ tasks) now after is lead = stays fault task lead.0 after (lead_refused fault tasks now lead.0 is lead.1) lead.2
  where
    stays : (fault : SexprFault) (task : ParseTask) (now after : Result TaskState SexprFault) → IsFault fault now → Leads task now after → IsFault fault after
    stays (Bad line reason) task (Err other) after is lead = lead ∙ is
    stays (Bad line reason) task (Ok state) after is lead = absurd (cc)
    stays (TooSmall line) task (Err other) after is lead = lead ∙ is
    stays (TooSmall line) task (Ok state) after is lead = absurd (cc)
    stays NoMemory task now after is lead = tt

made_more : (one other : ℕ) → one ≤ other → (task : ParseTask) → IsMade one task → IsMade other task
made_more one other more (Conses area bracket) made = tt
made_more one other more (Behind name area bracket car) made = omega arith
made_more one other more (Close bracket) made = tt
made_more one other more (Fields name area code values) made = (omega arith, made.1)

-- the last task leads first
last_leads : (items before : List ParseTask) (task : ParseTask) (old : TaskState) (after : Result TaskState SexprFault) → items ≡ before ++ task ∷ [] → AllLead items (Ok old) after
    → (between : Result TaskState SexprFault) × Does task old between × AllLead before between after
last_leads items before task old after is lead =
    let P : List ParseTask → Type 0 = λ ts. AllLead ts (Ok old) after in
    let split = lead_split before (task ∷ []) (Ok old) after (subst P is lead) in
    let Q : Result TaskState SexprFault → Type 0 = λ r. Leads task r split.0 in
    (split.0, subst Q (sym split.1.1) split.1.2, split.2)

-- after a step the tasks lead to the same state
pub step_leads : (items before now : List ParseTask) (task : ParseTask) (old new : TaskState) (after : Result TaskState SexprFault) → items ≡ before ++ task ∷ [] → Steps task before old now new → AllLead items (Ok old) after → AllLead now (Ok new) after
step_leads items before now task old new after is steps lead =
    let last = last_leads items before task old after is lead in
    let P : List ParseTask → Type 0 = λ ts. AllLead ts (Ok new) after in
    subst P (sym steps.tasks) (lead_join before steps.pushed (Ok new) last.0 after (steps.leads last.0 last.1) last.2)

pub step_made : (items before now : List ParseTask) (task : ParseTask) (old new : TaskState) → items ≡ before ++ task ∷ [] → Steps task before old now new → All (IsMade (length old.objects)) items → All (IsMade (length new.objects)) now
step_made items before now task old new is steps made =
    let rest = (All-pop (IsMade (length old.objects)) items before (Some task) is made).0 in
    let P : List ParseTask → Type 0 = All (IsMade (length new.objects)) in
    subst P (sym steps.tasks) (All-append (IsMade (length new.objects)) before steps.pushed (All-weaker (IsMade (length old.objects)) (IsMade (length new.objects)) (made_more (length old.objects) (length new.objects) steps.grows) before rest) steps.made)

-- a task that is refused
pub step_fails : (fault : SexprFault) (items before : List ParseTask) (task : ParseTask) (old : TaskState) (after : Result TaskState SexprFault) → items ≡ before ++ task ∷ [] → Fails task old fault → AllLead items (Ok old) after → IsFault fault after
step_fails fault items before task old after is fails lead =
    let last = last_leads items before task old after is lead in
    lead_refused fault before last.0 after (fails last.0 last.1) last.2

-- An expression

-- the tasks that remain after the beginning of an expression lead to the whole of it
pub beginning_leads : (depth : ℕ) (b : Beginning) (old between : TaskState) (tasks : List ParseTask) → begun (length old.objects) old.labels old.pieces ≡ Ok b → length old.pieces ≤ depth
    → tasks ≡ tasks_in b.inside (length old.objects) → between ≡ state (old.objects ++ holes_in b.inside) b.labels b.rest
    → AllLead tasks (Ok between) (grown (λ _. old.objects) (expression depth (length old.objects) old.labels old.pieces))
beginning_leads depth b old between tasks is deep waits there =
    let next = length old.objects in
    let less = fewer_of next old.labels old.pieces b is in
    let P : List ParseTask → TaskState → Result TaskState SexprFault → Type 0 = λ ts s r. AllLead ts (Ok s) r in
    let e : grown (λ _. old.objects) (read_inside (expression (depth - 1)) next b.value b.inside b.labels b.rest) ≡ grown (λ _. old.objects) (expression depth next old.labels old.pieces) =
    ap (grown (λ _. old.objects)) (sym (expression_goes depth next old.labels old.pieces b deep is)) in
    let first = enters b.inside (depth - 1) b.value old.objects b.labels b.rest (omega arith) in
    let whole : Result TaskState SexprFault = grown (λ _. old.objects) (expression depth next old.labels old.pieces) in
    let Q : List ParseTask → Type 0 = λ ts. P ts between whole in
    let R : TaskState → Type 0 = λ s. P (tasks_in b.inside next) s whole in
    let S : Result TaskState SexprFault → Type 0 = λ r. P (tasks_in b.inside next) (state (old.objects ++ holes_in b.inside) b.labels b.rest) r in
    subst Q (sym waits) (subst R (sym there) (subst S e first))

-- the value of an expression is that of its beginning
expression_value : (depth next : ℕ) (labels : List (ℕ × ℕ)) (pieces : List Piece) (b : Beginning) → length pieces ≤ depth → begun next labels pieces ≡ Ok b → IfOk (expression depth next labels pieces) (λ r. r.value ≡ b.value)
expression_value depth next labels pieces b deep is =
    let P : Result (Read Value) SexprFault → Type 0 = λ r. IfOk r (λ r. r.value ≡ b.value) in
    subst P (sym (expression_goes depth next labels pieces b deep is)) (inside_value (expression (depth - 1)) next b.value b.inside b.labels b.rest)

value_beside : (objects : List Object) (value : Value) (new : TaskState) (read : Result (Read Value) SexprFault) → IfOk read (λ r. r.value ≡ value) → Ok new ≡ grown (λ _. objects) read → grown_value objects read ≡ Ok (value, new)
value_beside objects value new (Err fault) known is = absurd (cc)
value_beside objects value new (Ok r) known is =
    let e : state (objects ++ r.objects) r.labels r.rest ≡ new = cc in
    ap (λ v. Ok (v, state (objects ++ r.objects) r.labels r.rest)) known ∙ ap (λ (s : TaskState). Ok (value, s)) e

pub whole_value : (depth : ℕ) (b : Beginning) (old new : TaskState) → length old.pieces ≤ depth → begun (length old.objects) old.labels old.pieces ≡ Ok b
    → Ok new ≡ grown (λ _. old.objects) (expression depth (length old.objects) old.labels old.pieces) → grown_value old.objects (expression depth (length old.objects) old.labels old.pieces) ≡ Ok (b.value, new)
whole_value depth b old new deep is there =
    value_beside old.objects b.value new (expression depth (length old.objects) old.labels old.pieces) (expression_value depth (length old.objects) old.labels old.pieces b deep is) there

pub value_refused : (fault : SexprFault) (objects : List Object) (read : Result (Read Value) SexprFault) → IsFault fault (grown (λ _. objects) read) → IsFault fault (grown_value objects read)
value_refused (Bad line reason) objects (Ok r) is = absurd (cc)
value_refused (Bad line reason) objects (Err other) is = let e : other ≡ Bad line reason = cc in ap Err e
value_refused (TooSmall line) objects (Ok r) is = absurd (cc)
value_refused (TooSmall line) objects (Err other) is = let e : other ≡ TooSmall line = cc in ap Err e
value_refused NoMemory objects read is = tt

pub first_refused : (fault : SexprFault) (depth : ℕ) (old : TaskState) → length old.pieces ≤ depth → IsFault fault (begun (length old.objects) old.labels old.pieces)
    → IsFault fault (grown_value old.objects (expression depth (length old.objects) old.labels old.pieces))
first_refused fault depth old deep is = refused_then fault (expression depth (length old.objects) old.labels old.pieces) _ (expression_fails fault depth (length old.objects) old.labels old.pieces deep is)

-- an error that is passed on is what reading gives
pub may_pass : {X Y : Type 0} (view : X → Y) (one : Result X SexprFault) (read : Result Y SexprFault) (fault x : SexprFault) → one ≡ Err x → x ≡ fault → IsFault fault read → MayGive view one read
may_pass {X} view one read fault x is same here =
    let P : Result X SexprFault → Type 0 = λ r. MayGive view r read in
    let Q : SexprFault → Type 0 = λ f. IsFault f read in
    subst P (sym is) (subst Q (sym same) here)
