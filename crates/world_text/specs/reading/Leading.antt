-- What a text begins with.
use Rattle.std.specs.Prelude.{◌≡◌, ℕ, List, ◌++◌, length, take, slice_index, Bool, true, ◌==◌, ◌&&◌, nat_lt, bytes_eq, Option, Some, position}
use Rattle.lisp_graph.specs.declared.world.AreaRule.{AreaRule}
use Rattle.world_text.specs.reading.Words.{is_word}
use Rattle.world_text.specs.reading.Numbers.{area_of}

-- the text is the name of this area and then this rest
pub record LeadsArea (areas : List AreaRule) (text : List ℕ) (area : ℕ) (rest : List ℕ) : Type 0 where
  pub name : List ℕ
  pub word : is_word name ≡ true
  pub found : area_of areas name ≡ Some area
  pub is : text ≡ name ++ rest

-- whether the text is this word, followed by a space
abbrev pub begins_with : List ℕ → List ℕ → Bool
begins_with word text = nat_lt (length word) (length text) && slice_index text (length word) == 32 && bytes_eq word (take (length word) text)

-- the place of the first area whose name, followed by a space, the text begins with
abbrev pub first_begun : List AreaRule → List ℕ → Option ℕ
first_begun areas text = position (λ rule. begins_with rule.name text) areas
