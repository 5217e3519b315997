-- Which pages a command marks.
use Rattle.std.proofs.Common.{Bool, true, false}
use Rattle.std.specs.Prelude.{MatchBool}
use Rattle.lisp_graph.specs.declared.command.Command.{Command}
use Rattle.lisp_graph.specs.declared.reply.Reply.{Reply}
use Rattle.mem_port.specs.Store.{Store}
use Rattle.area_space.specs.Table.{Table}
use Rattle.transporter.specs.Marking.{MarksFollow}
use Rattle.transporter.proofs.PageMarks.{marks-but, marks-then, marks-then_but}
use Rattle.heap_state.specs.Marks.{MarksByStoring, MarksOf, stores}

-- for any command, if marks follow
pub marks_of : {m m' : Store} {t t' : Table} (c : Command) (r : Reply) → MarksFollow m t m' t' → MarksOf c r m t m' t'
marks_of {m} {m'} {t} {t'} c r x = by (stores c)
  where
    by : (b : Bool) → MatchBool b (MarksByStoring r m t m' t') (MarksFollow m t m' t')
    by true = record { at = 0; but = marks-but 0 x; low = λ sure none. x }
    by false = x

-- marks followed before it
pub marks_after : (m m1 m2 : Store) (t t1 t2 : Table) (c : Command) (r : Reply) → MarksFollow m t m1 t1 → MarksOf c r m1 t1 m2 t2 → MarksOf c r m t m2 t2
marks_after m m1 m2 t t1 t2 c r x y = by (stores c) y
  where
    by : (b : Bool) → MatchBool b (MarksByStoring r m1 t1 m2 t2) (MarksFollow m1 t1 m2 t2) → MatchBool b (MarksByStoring r m t m2 t2) (MarksFollow m t m2 t2)
    by true z = record { at = z.at; but = marks-then_but x z.but; low = λ sure none. marks-then x (z.low sure none) }
    by false z = marks-then x z
