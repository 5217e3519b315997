-- Which lines of a trace are accepted: a line is accepted if and only if it is the spelling of what it means.
use Rattle.std.specs.Prelude.{◌≡◌, ℕ, ◌-◌, ◌<◌, ◌≤◌, ◌^◌, ⊤, List, [], ◌∷◌, length, map, codes, decimal, fold, bit_or, Ok}
use Rattle.std.specs.List.{join_with_byte}
use Rattle.store_word.specs.declared.space.Space.{Space}
use Rattle.lisp_graph.specs.Commands.{InAreas, InLimits as CarriesLimits, InRegisters}
use Rattle.lisp_graph.specs.Flips.{InLevels}
use Rattle.lisp_graph.specs.declared.world.AreaRule.{AreaRule}
use Rattle.lisp_graph.specs.declared.command.Command.{Command}
use Rattle.lisp_graph.specs.declared.command.Command.TheVariants as commands
use Rattle.lisp_graph.specs.declared.command.Condemn.{Condemn}
use Rattle.lisp_graph.specs.declared.command.Condemn.TheVariants.{Full, Chosen}
use Rattle.world_text.specs.Spelling.{IsWritten, line_of, name_of, value_text}
use Rattle.trace_text.specs.Commands.{TraceLine, Run, End, trace_line}

-- Levels

-- levels in strictly ascending order, above this one and at most the top
abbrev pub AreAscending : ℕ → ℕ → List ℕ → Type 0
AreAscending top last [] = ⊤
AreAscending top last (level ∷ levels) = (last < level) × (level ≤ top) × AreAscending top level levels

-- a set with these levels added
abbrev pub set_with : ℕ → List ℕ → ℕ
set_with set levels = fold (λ all level. bit_or all (2 ^ (level - 1))) set levels

-- the word of what a flip condemns: everything, or levels with a comma between them
abbrev pub SpellsCondemn : ℕ → Condemn → List ℕ → Type 0
SpellsCondemn top Full word = word ≡ codes "full"
SpellsCondemn top (Chosen set) word = (levels : List ℕ) × (1 ≤ length levels) × AreAscending top 0 levels × (set.0 ≡ set_with 0 levels) × (word ≡ join_with_byte 44 (map decimal levels))

-- Commands

-- the words of a command
abbrev pub SpellsCommand : ℕ → List AreaRule → Command → List (List ℕ) → Type 0
SpellsCommand top areas (commands.Set to value) words = words ≡ codes "set" ∷ decimal to ∷ value_text value ∷ []
SpellsCommand top areas (commands.Move to from) words = words ≡ codes "move" ∷ decimal to ∷ decimal from ∷ []
SpellsCommand top areas (commands.Cons to area car cdr) words = words ≡ codes "cons" ∷ decimal to ∷ name_of areas area ∷ decimal car ∷ decimal cdr ∷ []
SpellsCommand top areas (commands.List to area items) words = words ≡ codes "list" ∷ decimal to ∷ name_of areas area ∷ map decimal items
SpellsCommand top areas (commands.Make to area code size) words = words ≡ codes "make" ∷ decimal to ∷ name_of areas area ∷ decimal code ∷ decimal size ∷ []
SpellsCommand top areas (commands.Grow target size) words = words ≡ codes "grow" ∷ decimal target ∷ decimal size ∷ []
SpellsCommand top areas (commands.Car to from) words = words ≡ codes "car" ∷ decimal to ∷ decimal from ∷ []
SpellsCommand top areas (commands.Cdr to from) words = words ≡ codes "cdr" ∷ decimal to ∷ decimal from ∷ []
SpellsCommand top areas (commands.Rplaca target from) words = words ≡ codes "rplaca" ∷ decimal target ∷ decimal from ∷ []
SpellsCommand top areas (commands.Rplacd target from) words = words ≡ codes "rplacd" ∷ decimal target ∷ decimal from ∷ []
SpellsCommand top areas (commands.Get to from index) words = words ≡ codes "get" ∷ decimal to ∷ decimal from ∷ decimal index ∷ []
SpellsCommand top areas (commands.Put target index from) words = words ≡ codes "put" ∷ decimal target ∷ decimal index ∷ decimal from ∷ []
SpellsCommand top areas (commands.Size of) words = words ≡ codes "size" ∷ decimal of ∷ []
SpellsCommand top areas (commands.Eq left right) words = words ≡ codes "eq" ∷ decimal left ∷ decimal right ∷ []
SpellsCommand top areas (commands.Flip what) words = (word : List ℕ) × (words ≡ codes "flip" ∷ word ∷ []) × SpellsCondemn top what word
SpellsCommand top areas (commands.Scavenge count) words = words ≡ codes "scavenge" ∷ decimal count ∷ []
SpellsCommand top areas commands.Reclaim words = words ≡ codes "reclaim" ∷ []
SpellsCommand top areas (commands.PageOut count) words = words ≡ codes "page-out" ∷ decimal count ∷ []
SpellsCommand top areas commands.Stats words = words ≡ codes "stats" ∷ []
SpellsCommand top areas commands.Dump words = words ≡ codes "dump" ∷ []

-- numbers that words can spell: codes up to 65,535, indices and counts below 2^32
abbrev pub InNumbers : Command → Type 0
InNumbers (commands.Set to value) = IsWritten value
InNumbers (commands.Make to area code size) = code ≤ 65535
InNumbers (commands.Get to from index) = index < 2 ^ 32
InNumbers (commands.Put target index from) = index < 2 ^ 32
InNumbers (commands.Scavenge count) = count < 2 ^ 32
InNumbers (commands.PageOut count) = count < 2 ^ 32
InNumbers _ = ⊤

-- these words mean a command of a world with this space and these areas
pub record SayCommand (space : Space) (areas : List AreaRule) (words : List (List ℕ)) (command : Command) : Type 0 where
  pub registers : InRegisters space.registers command
  pub areas_in : InAreas (length areas) command
  pub limits : CarriesLimits command
  pub numbers : InNumbers command
  pub is : SpellsCommand space.levels areas command words

-- what a line of a trace means: a command, or the end
abbrev pub SaysLine : Space → List AreaRule → List ℕ → TraceLine → Type 0
SaysLine space areas text (Run command) = (words : List (List ℕ)) × (text ≡ line_of words) × SayCommand space areas words command
SaysLine space areas text End = text ≡ codes "end"

-- a flip in a line names at least one level, and none above this one
abbrev pub NamesLevels : ℕ → TraceLine → Type 0
NamesLevels top (Run command) = InLevels top command
NamesLevels top End = ⊤

-- The law above the order of the tests: a line is accepted if and only if it means something.
pub record AcceptsLines (space : Space) (areas : List AreaRule) : Type 0 where
  pub only : (text : List ℕ) (said : TraceLine) → trace_line space areas text ≡ Ok said → SaysLine space areas text said
  pub all : (text : List ℕ) (said : TraceLine) → SaysLine space areas text said → trace_line space areas text ≡ Ok said
