-- Forwards, and the addresses to which they lead.
use Rattle.std.specs.Prelude.{ℕ, suc, ◌≡◌, ◌<◌, ◌≤◌, List, length, Option, Some, None, slice_index_or}
use Rattle.store_word.specs.Words.{Parts, null_word}
use Rattle.store_word.specs.declared.word.Content.{Content}
use Rattle.store_word.specs.declared.word.Content.TheVariants.{HeaderForward, GcForward}
use Rattle.obj_layout.specs.declared.forwards.TheConstants.{FORWARD_LIMIT}

-- the word at an address; past the last word it is NULL
abbrev pub word_at : List Parts → ℕ → Parts
word_at words at = slice_index_or words at null_word

-- the address to which a word leads, if it is a forward
abbrev pub forward_of : Content → Option ℕ
forward_of (HeaderForward to) = Some to
forward_of (GcForward to) = Some to
forward_of _ = None

-- this number of forwards lead from one address to another, whose word isn't a forward
pub data Leads (words : List Parts) : ℕ → ℕ → ℕ → Type 0 where
  here : {at : ℕ} → forward_of (word_at words at).content ≡ None → Leads words 0 at at
  on : {count at next to : ℕ} → forward_of (word_at words at).content ≡ Some next → Leads words count next to → Leads words (suc count) at to

-- the final address of an address: at most twelve forwards lead to it
abbrev pub Final : List Parts → ℕ → ℕ → Type 0
Final words at to = (count : ℕ) × (count ≤ FORWARD_LIMIT) × Leads words count at to

-- an address has a final address, in the memory
abbrev pub HasFinal : List Parts → ℕ → Type 0
HasFinal words at = (to : ℕ) × (to < length words) × Final words at to

-- the word at an address of the memory isn't a forward
pub record IsFinal (words : List Parts) (at : ℕ) : Type 0 where
  pub inside : at < length words
  pub no_forward : forward_of (word_at words at).content ≡ None
