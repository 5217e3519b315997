-- What the fast reader finds at the front of a text.
use Rattle.std.specs.Prelude.{◌≡◌, ℕ, ◌<◌, ◌≤◌, ◌^◌, List, ◌∷◌, ◌++◌, length, map, Ok, codes, decimal}
use Rattle.std.specs.List.{All}
use Rattle.store_word.specs.declared.space.Space.{Space}
use Rattle.lisp_graph.specs.Commands.{IsPlain}
use Rattle.lisp_graph.specs.declared.object.Value.{Value}
use Rattle.lisp_graph.specs.declared.world.AreaRule.{AreaRule}
use Rattle.lisp_graph.specs.declared.command.Command.{Command}
use Rattle.lisp_graph.specs.declared.command.Command.TheVariants as commands
use Rattle.world_text.specs.Leading.{LeadsArea}
use Rattle.world_text.specs.Spelling.{IsWritten, spaced, value_text}
use Rattle.trace_text.specs.Commands.{Run, trace_line}
use Rattle.trace_text.specs.Items.{items_of}

-- the text is a line that means this command, and then this rest
pub record LeadsCommand (space : Space) (areas : List AreaRule) (text : List ℕ) (command : Command) (rest : List ℕ) : Type 0 where
  pub line : List ℕ
  pub means : trace_line space areas line ≡ Ok (Run command)
  pub is : text ≡ line ++ rest

-- the text is `set` with this register and this value, and then this rest
pub record LeadsSet (registers : ℕ) (text : List ℕ) (to : ℕ) (value : Value) (rest : List ℕ) : Type 0 where
  pub to_in : to < registers
  pub plain : IsPlain value
  pub written : IsWritten value
  pub is : text ≡ codes "set " ++ decimal to ++ 32 ∷ value_text value ++ rest

-- the text is `cons` with these registers and the name of this area, and then this rest
pub record LeadsCons (space : Space) (areas : List AreaRule) (text : List ℕ) (to area car cdr : ℕ) (rest : List ℕ) : Type 0 where
  pub named : List ℕ
  pub last : List ℕ
  pub head : text ≡ codes "cons " ++ decimal to ++ 32 ∷ named
  pub name : LeadsArea areas named area last
  pub to_in : to < space.registers
  pub car_in : car < space.registers
  pub cdr_in : cdr < space.registers
  pub is : last ≡ 32 ∷ decimal car ++ 32 ∷ decimal cdr ++ rest

-- the text is `make` with this register, the name of this area, this code and this length, and then this rest
pub record LeadsMake (space : Space) (areas : List AreaRule) (text : List ℕ) (to area code size : ℕ) (rest : List ℕ) : Type 0 where
  pub named : List ℕ
  pub last : List ℕ
  pub head : text ≡ codes "make " ++ decimal to ++ 32 ∷ named
  pub name : LeadsArea areas named area last
  pub to_in : to < space.registers
  pub numbers : code ≤ 65535
  pub limit : size ≤ 2047
  pub is : last ≡ 32 ∷ decimal code ++ 32 ∷ decimal size ++ rest

-- the text is `get` with these registers and this number, and then this rest
abbrev pub LeadsGet : ℕ → List ℕ → ℕ → ℕ → ℕ → List ℕ → Type 0
LeadsGet registers text to from index rest =
    (to < registers) × (from < registers) × (index < 2 ^ 32) × (text ≡ codes "get " ++ decimal to ++ 32 ∷ decimal from ++ 32 ∷ decimal index ++ rest)

-- the text is `put` with this register, this number and this register, and then this rest
abbrev pub LeadsPut : ℕ → List ℕ → ℕ → ℕ → ℕ → List ℕ → Type 0
LeadsPut registers text target index from rest =
    (target < registers) × (from < registers) × (index < 2 ^ 32) × (text ≡ codes "put " ++ decimal target ++ 32 ∷ decimal index ++ 32 ∷ decimal from ++ rest)

-- the text is `list` with this register and the name of this area, and then these items
pub record LeadsList (space : Space) (areas : List AreaRule) (text : List ℕ) (to area : ℕ) (items : List ℕ) : Type 0 where
  pub named : List ℕ
  pub head : text ≡ codes "list " ++ decimal to ++ 32 ∷ named
  pub name : LeadsArea areas named area items
  pub to_in : to < space.registers

-- the text is the registers of this list, 1 to 1,024 with a space before each, and then this rest
pub record LeadsItems (registers : ℕ) (text : List ℕ) (to area : ℕ) (command : Command) (rest : List ℕ) : Type 0 where
  pub list : command ≡ commands.List to area (items_of command)
  pub is : text ≡ spaced (map decimal (items_of command)) ++ rest
  pub within : All (λ item. item < registers) (items_of command)
  pub some : 1 ≤ length (items_of command)
  pub few : length (items_of command) ≤ 1024
