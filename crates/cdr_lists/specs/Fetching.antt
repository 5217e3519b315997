-- What a call that reads a part of a cons returns, and what it writes back.
use Rattle.std.specs.Prelude.{◌≡◌, ◌≢◌, ℕ, suc}
use Rattle.store_word.specs.Words.{Parts}
use Rattle.store_word.specs.declared.word.CdrCode.TheVariants.{Normal}
use Rattle.store_word.specs.declared.word.Content.{Content}
use Rattle.area_space.specs.View.{GroundView}
use Rattle.obj_layout.specs.Forwards.{word_at}
use Rattle.transporter.specs.Reads.{StaysWhole}
use Rattle.transporter.specs.Settling.{RefersToOld}
use Rattle.transporter.specs.Views.{FetchMoves, SettlesAt}
use Rattle.cdr_lists.specs.Views.{IsConsPlace, ReadsCar, ReadsCdr}
use Rattle.cdr_lists.specs.Words.{plain}

-- the value is the car of the cons to which the content refers, without an old address or a cdr code; the word at the place of the cons was settled
pub record FetchesCar (v v' : GroundView) (content : Content) (value : Parts) : Type 0 where
  pub car : ReadsCar v v' content value
  pub fresh : RefersToOld v'.table value → ⊥
  pub word : value ≡ plain value.content
  pub written : (at : ℕ) → IsConsPlace v content at → SettlesAt v v' at value.content
  pub words : (at : ℕ) → IsConsPlace v content at → FetchMoves v v' at

-- the value is its cdr, without an old address or a cdr code; the second word of a pair was settled, and for a cell nothing changed
pub record FetchesCdr (v v' : GroundView) (content : Content) (value : Parts) : Type 0 where
  pub cdr : ReadsCdr v v' content value
  pub fresh : RefersToOld v'.table value → ⊥
  pub word : value ≡ plain value.content
  pub pair : (at : ℕ) → IsConsPlace v content at → (word_at v.mem.store.words at).cdr ≡ Normal → SettlesAt v v' (suc at) value.content
  pub cell : (at : ℕ) → IsConsPlace v content at → (word_at v.mem.store.words at).cdr ≢ Normal → StaysWhole v v'
  pub words : (at : ℕ) → IsConsPlace v content at → (word_at v.mem.store.words at).cdr ≡ Normal → FetchMoves v v' (suc at)
