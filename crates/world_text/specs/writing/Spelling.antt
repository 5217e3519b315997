-- How the lines of a world are spelled.
use Rattle.std.specs.Prelude.{ℕ, ◌<◌, ◌^◌, pos, negsuc, ⊤, List, [], ◌∷◌, ◌++◌, Bool, if◌then◌else◌, codes, decimal, map, flat_map, slice_get}
use Rattle.std.specs.Option.{option_map_or}
use Rattle.std.specs.Fmt.{signed_decimal}
use Rattle.store_word.specs.declared.space.Space.{Space}
use Rattle.lisp_graph.specs.declared.object.Value.{Value}
use Rattle.lisp_graph.specs.declared.object.Value.TheVariants.{Fix, Nil, Ref}
use Rattle.lisp_graph.specs.declared.world.AreaRule.{AreaRule}
use Rattle.lisp_graph.specs.declared.world.AreaKind.{AreaKind}
use Rattle.lisp_graph.specs.declared.world.AreaKind.TheVariants.{Static, Dynamic, Ephemeral}

-- words in a row, with a space before each
abbrev pub spaced : List (List ℕ) → List ℕ
spaced words = flat_map (λ word. 32 ∷ word) words

-- words in a row, with a space between them
abbrev pub line_of : List (List ℕ) → List ℕ
line_of [] = []
line_of (word ∷ words) = word ++ spaced words

-- Words

abbrev pub value_text : Value → List ℕ
value_text (Fix number) = signed_decimal number
value_text Nil = codes "nil"
value_text (Ref number) = codes "#" ++ decimal number

abbrev pub kind_text : AreaKind → List ℕ
kind_text Static = codes "static"
kind_text Dynamic = codes "dynamic"
kind_text Ephemeral = codes "ephemeral"

abbrev pub name_of : List AreaRule → ℕ → List ℕ
name_of areas area = option_map_or (λ rule. rule.name) (slice_get areas area) []

-- a value that a word can spell
abbrev pub IsWritten : Value → Type 0
IsWritten (Fix (pos number)) = number < 2 ^ 31
IsWritten (Fix (negsuc number)) = number < 2 ^ 31
IsWritten Nil = ⊤
IsWritten (Ref number) = number < 2 ^ 32

-- Lines

-- what a line of a world means
pub data WorldLine : Type 0 where
  FormatLine : Bool → WorldLine
  SpaceLine : Space → WorldLine
  AreaLine : AreaRule → WorldLine
  CapacityLine : List ℕ → WorldLine
  ConsLine : ℕ → Value → Value → WorldLine
  BlockLine : ℕ → ℕ → List Value → WorldLine
  RunLine : ℕ → List Value → WorldLine
  RootLine : ℕ → Value → WorldLine
  ClosingLine : Bool → WorldLine

-- the words of a line, in a world with these areas
abbrev pub words_said : List AreaRule → WorldLine → List (List ℕ)
words_said areas (FormatLine second) = codes "lispm-world" ∷ (if second then codes "2" else codes "1") ∷ []
words_said areas (SpaceLine space) = codes "space" ∷ map decimal (space.regions ∷ space.frames ∷ space.registers ∷ space.levels ∷ space.rate ∷ [])
words_said areas (AreaLine rule) = codes "area" ∷ rule.name ∷ kind_text rule.kind ∷ decimal rule.quota ∷ []
words_said areas (CapacityLine numbers) = codes "capacity" ∷ map decimal numbers
words_said areas (ConsLine area car cdr) = codes "cons" ∷ name_of areas area ∷ value_text car ∷ value_text cdr ∷ []
words_said areas (BlockLine area code fields) = codes "block" ∷ name_of areas area ∷ decimal code ∷ map value_text fields
words_said areas (RunLine area cars) = codes "run" ∷ name_of areas area ∷ map value_text cars
words_said areas (RootLine register value) = codes "root" ∷ decimal register ∷ value_text value ∷ []
words_said areas (ClosingLine file) = (if file then codes "end-world" else codes "trace") ∷ []

-- the line's text, without its line feed
abbrev pub spelled : List AreaRule → WorldLine → List ℕ
spelled areas line = line_of (words_said areas line)
