-- What a command reads, and when it is done.
use Rattle.std.specs.Prelude.{ℕ, Bool, true, false, ◌||◌, ◌==◌, eqb, Result, Ok, Err}
use Rattle.std.specs.List.{list_any}
use Rattle.store_word.specs.declared.faults.SwapFault.{SwapFault}
use Rattle.lisp_graph.specs.declared.command.Command.{Command}
use Rattle.lisp_graph.specs.declared.command.Command.TheVariants as C
use Rattle.lisp_graph.specs.declared.reply.Reply.{Reply}
use Rattle.lisp_graph.specs.declared.reply.Reply.TheVariants as R

-- a command reads a register
abbrev pub reads : Command → ℕ → Bool
reads (C.Move to from) i = i == from
reads (C.Cons to area car cdr) i = i == car || i == cdr
reads (C.List to area items) i = list_any (eqb i) items
reads (C.Grow target length) i = i == target
reads (C.Car to from) i = i == from
reads (C.Cdr to from) i = i == from
reads (C.Rplaca target from) i = i == target || i == from
reads (C.Rplacd target from) i = i == target || i == from
reads (C.Get to from index) i = i == from
reads (C.Put target index from) i = i == target || i == from
reads (C.Size of) i = i == of
reads (C.Eq left right) i = i == left || i == right
reads _ i = false

-- a command with this reply was done: it wasn't refused, and no swap error occurred
abbrev pub IsDone : Reply → Type 0
IsDone R.WrongType = ⊥
IsDone (R.NoField length) = ⊥
IsDone (R.Exhausted area charged wanted quota) = ⊥
IsDone R.Fault = ⊥
IsDone _ = Unit {0}

-- the reply to a command: what it returned, or that a page call failed
abbrev pub reply_of : Result Reply SwapFault → Reply
reply_of (Ok reply) = reply
reply_of (Err fault) = R.Fault

-- it is the reply to a command in which a page call failed
abbrev pub is_fault : Reply → Bool
is_fault R.Fault = true
is_fault _ = false

-- the command was refused because a page call failed
abbrev pub met_fault : {T : Type 0} → Result T Reply → Bool
met_fault (Ok it) = false
met_fault (Err reply) = is_fault reply
