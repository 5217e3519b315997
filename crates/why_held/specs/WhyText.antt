-- The text that says why an object is held.
use Rattle.std.specs.Prelude.{ℕ, ◌+◌, List, [], ◌∷◌, ◌++◌, codes, decimal, flat_map, Option, Some, None}
use Rattle.why_held.specs.declared.chain.Part.{Part}
use Rattle.why_held.specs.declared.chain.Part.TheVariants.{Root, Car, Cdr, Field}
use Rattle.why_held.specs.declared.chain.Hop.{Hop}
use Rattle.why_held.specs.declared.chain.Held.{Held}
use Rattle.why_held.specs.declared.chain.Held.TheVariants.{Path, Free}
use Rattle.why_held.specs.declared.chain.Why.{Why}
use Rattle.why_held.specs.Chains.{references}

-- `root R`, `car`, `cdr` or `field I`
abbrev pub part_text : Part → List ℕ
part_text (Root register) = codes "root " ++ decimal register
part_text Car = codes "car"
part_text Cdr = codes "cdr"
part_text (Field index) = codes "field " ++ decimal index

-- the line of a reference: the part that contains it, and the object to which it leads
abbrev pub hop_line : Hop → List ℕ
hop_line hop = part_text hop.part ++ codes " #" ++ decimal hop.to ++ 10 ∷ []

abbrev pub hop_lines : List Hop → List ℕ
hop_lines hops = flat_map hop_line hops

-- `held D` and the lines of the chain, or `free`
abbrev pub held_text : Held → List ℕ
held_text (Path hops) = codes "held " ++ decimal (references hops) ++ 10 ∷ [] ++ hop_lines hops
held_text Free = codes "free" ++ 10 ∷ []

-- `level K D` of an object that has a depth
abbrev pub level_line : ℕ → Option ℕ → List ℕ
level_line object None = []
level_line object (Some depth) = codes "level " ++ decimal object ++ 32 ∷ decimal depth ++ 10 ∷ []

-- the lines of the objects from this one on that have a depth
abbrev pub level_lines : ℕ → List (Option ℕ) → List ℕ
level_lines object [] = []
level_lines object (depth ∷ depths) = level_line object depth ++ level_lines (object + 1) depths

-- The text of an answer.
abbrev pub why_text : Why → List ℕ
why_text why = held_text why.held ++ level_lines 0 why.depths ++ codes "end-why" ++ 10 ∷ []
