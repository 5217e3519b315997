-- The values of words.
use Rattle.std.specs.Prelude.{◌≡◌, ℕ, Bool, true, false, ◌==◌, List}
use Rattle.std.specs.Ordering.{int_eq}
use Rattle.store_word.specs.Words.{Parts}
use Rattle.store_word.specs.declared.word.Content.{Content}
use Rattle.store_word.specs.declared.word.Content.TheVariants.{Nil, List as ListAt, Struct as StructAt, Header, Fixnum}
use Rattle.lisp_graph.specs.declared.reply.Reply.{Reply}
use Rattle.lisp_graph.specs.declared.reply.Reply.TheVariants as R
use Rattle.obj_layout.specs.Forwards.{word_at, Final, HasFinal}

-- Replies

-- the reply that shows a block, by its header
abbrev pub header_reply : Content → Reply
header_reply (Header code length) = R.Block code length
header_reply _ = R.Nil

-- the header of a block that a word refers to can be found
abbrev pub CanShow : List Parts → Content → Type 0
CanShow words (StructAt at) = HasFinal words at
CanShow words _ = Unit {0}

-- the reply shows a word's value: a number, `nil`, a cons, or a block by the header at its final address
abbrev pub Shows : List Parts → Content → Reply → Type 0
Shows words (Fixnum number) reply = reply ≡ R.Number number
Shows words (ListAt at) reply = reply ≡ R.Cons
Shows words (StructAt at) reply = (to : ℕ) → Final words at to → reply ≡ header_reply (word_at words to).content
Shows words _ reply = reply ≡ R.Nil

-- Identity

-- both final addresses can be found, if two words are references of one kind
abbrev pub CanCompare : List Parts → Content → Content → Type 0
CanCompare words (ListAt a) (ListAt b) = HasFinal words a × HasFinal words b
CanCompare words (StructAt a) (StructAt b) = HasFinal words a × HasFinal words b
CanCompare words _ _ = Unit {0}

-- two addresses have one final address
abbrev pub SamePlace : List Parts → ℕ → ℕ → Bool → Type 0
SamePlace words a b same = (x y : ℕ) → Final words a x → Final words b y → same ≡ (x == y)

-- two words have one value: one number, NIL, or references of one kind to one final address
abbrev pub SameWord : List Parts → Content → Content → Bool → Type 0
SameWord words (Fixnum i) (Fixnum j) same = same ≡ int_eq i j
SameWord words Nil Nil same = same ≡ true
SameWord words (ListAt a) (ListAt b) same = SamePlace words a b same
SameWord words (StructAt a) (StructAt b) same = SamePlace words a b same
SameWord words _ _ same = same ≡ false
