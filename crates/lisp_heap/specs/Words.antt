-- The contents of words, and replies.
use Rattle.std.specs.Prelude.{ℕ, Result, Ok, Err}
use Rattle.store_word.specs.declared.word.Content.{Content}
use Rattle.store_word.specs.declared.word.Content.TheVariants.{Nil, Fixnum}
use Rattle.store_word.specs.declared.faults.SwapFault.{SwapFault}
use Rattle.lisp_graph.specs.declared.object.Value.{Value}
use Rattle.lisp_graph.specs.declared.object.Value.TheVariants as V
use Rattle.lisp_graph.specs.declared.reply.Reply.{Reply}
use Rattle.lisp_graph.specs.declared.reply.Reply.TheVariants as R

-- the content of a word whose value isn't a reference
abbrev pub content_of : Value → Content
content_of (V.Fix number) = Fixnum number
content_of V.Nil = Nil
content_of (V.Ref name) = Nil

-- the reply to an eviction
abbrev pub paged : Result ℕ SwapFault → Reply
paged (Ok evicted) = R.Fine
paged (Err fault) = R.Fault
