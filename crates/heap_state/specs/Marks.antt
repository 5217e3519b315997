-- Which pages a command marks.
use Rattle.std.specs.Prelude.{◌≡◌, ◌≢◌, ℕ, Bool, true, false, MatchBool}
use Rattle.lisp_graph.specs.declared.command.Command.{Command}
use Rattle.lisp_graph.specs.declared.command.Command.TheVariants as C
use Rattle.lisp_graph.specs.declared.reply.Reply.{Reply}
use Rattle.lisp_graph.specs.declared.reply.Reply.TheVariants as R
use Rattle.mem_port.specs.Store.{Store, level_of_word}
use Rattle.area_space.specs.Table.{Table}
use Rattle.transporter.specs.Marking.{MarksFollow, MarksFollowBut}
use Rattle.transporter.specs.obj_layout.Forwards.{word_at}

-- a command stores into an object
abbrev pub stores : Command → Bool
stores (C.Rplaca target from) = true
stores (C.Rplacd target from) = true
stores (C.Put target index from) = true
stores _ = false

-- The page of one address may get marks besides; if no swap error occurred, only from an address of level 1 or more that is stored there
pub record MarksByStoring (r : Reply) (m : Store) (t : Table) (m' : Store) (t' : Table) : Type 0 where
  pub at : ℕ
  pub but : MarksFollowBut m t m' t' at
  pub low : r ≢ R.Fault → level_of_word m'.levels (word_at m'.words at) ≡ 0 → MarksFollow m t m' t'

-- a page without marks gets some only from a word of it that was placed, became a forward, or lost an old address; by a command that stores into an object one page may get some besides
abbrev pub MarksOf : Command → Reply → Store → Table → Store → Table → Type 0
MarksOf c r m t m' t' = MatchBool (stores c) (MarksByStoring r m t m' t') (MarksFollow m t m' t')
