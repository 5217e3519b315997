-- When a word that may not refer to a cons is refused.
use Rattle.std.specs.Prelude.{◌≡◌, ◌≢◌, ◌↔◌, ℕ, Result, Err}
use Rattle.store_word.specs.Words.{Parts, tag_of}
use Rattle.store_word.specs.declared.word.Tag.TheVariants.{List as ListTag}
use Rattle.area_space.specs.View.{GroundView}
use Rattle.transporter.specs.Reads.{StaysWhole}
use Rattle.cdr_lists.specs.declared.fault.ListFault.{ListFault}
use Rattle.cdr_lists.specs.declared.fault.ListFault.TheVariants.{NotACons}

-- a word is refused if and only if it isn't tagged LIST, without a memory access, and nothing changes. (Seven parameters: a result with its type, the ground and the count of accesses, each before and after, and the word.)
pub record RefusesOthers {T : Type 0} (v v' : GroundView) (of : Parts) (result : Result T ListFault) (steps steps' : ℕ) : Type 0 where
  pub not_a_cons : (result ≡ Err NotACons) ↔ (tag_of of.content ≢ ListTag)
  pub unread : result ≡ Err NotACons → steps' ≡ steps
  pub unstored : result ≡ Err NotACons → StaysWhole v v'
