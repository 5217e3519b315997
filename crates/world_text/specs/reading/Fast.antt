-- What the fast reader finds in a line.
use Rattle.std.specs.Prelude.{◌≡◌, ℕ, ◌<◌, ◌≤◌, List, ◌∷◌, ◌++◌, length, map, take, slice_index, true, codes, decimal}
use Rattle.std.specs.List.{All}
use Rattle.lisp_graph.specs.declared.object.Value.{Value}
use Rattle.lisp_graph.specs.declared.world.AreaRule.{AreaRule}
use Rattle.world_text.specs.reading.Words.{is_well_formed}
use Rattle.world_text.specs.reading.Leading.{LeadsArea}
use Rattle.world_text.specs.writing.Spelling.{IsWritten, spaced, value_text}

-- the text is at most `most` values, with a space before each
pub record AreSpaced (text : List ℕ) (values : List Value) (most : ℕ) : Type 0 where
  pub is : text ≡ spaced (map value_text values)
  pub written : All IsWritten values
  pub few : length values ≤ most

-- the text is `cons` with the name of this area and these values, and then this rest
pub record LeadsCons (areas : List AreaRule) (text : List ℕ) (area : ℕ) (car cdr : Value) (rest : List ℕ) : Type 0 where
  pub named : List ℕ
  pub values : List ℕ
  pub last : List ℕ
  pub head : text ≡ codes "cons " ++ named
  pub name : LeadsArea areas named area values
  pub first : (values ≡ 32 ∷ value_text car ++ last) × IsWritten car
  pub second : (last ≡ 32 ∷ value_text cdr ++ rest) × IsWritten cdr

-- this many bytes at the front of the text are a well-formed line, and a line feed follows them
pub record IsLineBeforeFeed (text : List ℕ) (size : ℕ) : Type 0 where
  pub within : size < length text
  pub feed : slice_index text size ≡ 10
  pub formed : is_well_formed (take size text) ≡ true

-- the line is `block` with the name of this area and this code, and this text follows them
pub record BeginsBlock (areas : List AreaRule) (line : List ℕ) (area code : ℕ) (values : List ℕ) : Type 0 where
  pub named : List ℕ
  pub coded : List ℕ
  pub head : line ≡ codes "block " ++ named
  pub name : LeadsArea areas named area coded
  pub is : coded ≡ 32 ∷ decimal code ++ values
  pub small : code ≤ 65535

-- the line is `run` with the name of this area, and this text follows it, which isn't empty
pub record BeginsRun (areas : List AreaRule) (line : List ℕ) (area : ℕ) (values : List ℕ) : Type 0 where
  pub named : List ℕ
  pub head : line ≡ codes "run " ++ named
  pub name : LeadsArea areas named area values
  pub some : 1 ≤ length values
