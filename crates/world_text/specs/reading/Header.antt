-- The lines before the objects: the format, the space, the areas and the capacities.
use Rattle.std.specs.Prelude.{ℕ, ◌+◌, ◌-◌, ◌*◌, ◌/◌, List, [], ◌∷◌, ◌++◌, length, true, false, ◌==◌, nat_lt, nat_le, if◌then◌else◌, bytes_eq, codes, is_some, sum_by, replicate, Result, Ok, Err}
use Rattle.store_word.specs.declared.space.Space.{Space}
use Rattle.lisp_graph.specs.Name.{is_name}
use Rattle.lisp_graph.specs.declared.object.Value.TheVariants.{Nil}
use Rattle.lisp_graph.specs.declared.world.AreaRule.{AreaRule}
use Rattle.lisp_graph.specs.declared.world.AreaKind.{AreaKind}
use Rattle.lisp_graph.specs.declared.world.AreaKind.TheVariants.{Static, Dynamic, Ephemeral}
use Rattle.world_text.specs.declared.reading.reason.Reason.{Reason}
use Rattle.world_text.specs.declared.reading.reason.Reason.TheVariants.{NotAWorld, TooManyAreas, WrongCount, BadName, AreaTwice, BadKind}
use Rattle.world_text.specs.declared.fault.WorldFault.TheVariants.{Bad, TooSmall}
use Rattle.world_text.specs.declared.fault.WorldStep.TheVariants.{Next}
use Rattle.world_text.specs.declared.reading.reader.Section.TheVariants.{Sizing, FirstArea, Areas, Objects}
use Rattle.world_text.specs.declared.reading.reader.WorldReader.{WorldReader}
use Rattle.world_text.specs.reading.Numbers.{area_of}
use Rattle.world_text.specs.reading.Next.{◌>>=◌, a_number, each, next}
use Rattle.world_text.specs.reading.Reader.{Said, bad}

-- `lispm-world 1` or `lispm-world 2`
abbrev pub opening_line : WorldReader → List ℕ → Said
opening_line place text =
    if bytes_eq text (codes "lispm-world 1") then Ok (Next, record place { part = Sizing; second = false })
    else if bytes_eq text (codes "lispm-world 2") then Ok (Next, record place { part = Sizing; second = true })
    else Err (Bad NotAWorld)

-- Each line below has `count` words, and `words` after its first one.

-- the sizes of a store, each in its range
unfoldable pub space_in : List (List ℕ) → Result Space Reason
space_in words = do
  (regions, words) ← next (a_number 5 1024) words
  (frames, words) ← next (a_number 32 4096) words
  (registers, words) ← next (a_number 1 256) words
  (levels, words) ← next (a_number 1 6) words
  (rate, words) ← next (a_number 0 16) words
  Ok (record { regions = regions; frames = frames; registers = registers; levels = levels; rate = rate; capacity = replicate 6 0 })

-- `space REGIONS FRAMES REGISTERS LEVELS RATE`
unfoldable pub space_line : WorldReader → ℕ → List (List ℕ) → Said
space_line place count words =
    if count == 6 then (do
      space ← bad (space_in words)
      Ok (Next, record place { part = FirstArea; world = record place.world { space = space; roots = replicate space.registers Nil } }))
    else Err (Bad WrongCount)

-- a name that no area has yet
abbrev pub new_name : List AreaRule → List ℕ → Result (List ℕ) Reason
new_name areas word = if is_name word then (if is_some (area_of areas word) then Err AreaTwice else Ok word) else Err BadName

abbrev pub a_kind : List ℕ → Result AreaKind Reason
a_kind word =
    if bytes_eq word (codes "static") then Ok Static
    else if bytes_eq word (codes "dynamic") then Ok Dynamic
    else if bytes_eq word (codes "ephemeral") then Ok Ephemeral
    else Err BadKind

unfoldable pub rule_in : List AreaRule → List (List ℕ) → Result AreaRule Reason
rule_in areas words = do
  (name, words) ← next (new_name areas) words
  (kind, words) ← next a_kind words
  (quota, words) ← next (a_number 0 1048576) words
  Ok (record { name = name; kind = kind; quota = quota })

-- how many regions an area with this quota needs: one for each 1,024 words, and two for each level and for level 0
abbrev pub rule_room : ℕ → ℕ → ℕ
rule_room levels quota = (quota + 1023) / 1024 + 2 * (levels + 1)

-- how many regions these areas need together
abbrev pub room : ℕ → List AreaRule → ℕ
room levels areas = sum_by (λ rule. rule_room levels rule.quota) areas

-- `area NAME KIND QUOTA`
unfoldable pub area_line : WorldReader → ℕ → List (List ℕ) → Said
area_line place count words =
    if nat_le 16 (length place.world.areas) then Err (Bad TooManyAreas)
    else if count == 4 then (do
      rule ← bad (rule_in place.world.areas words)
      if nat_lt place.world.space.regions (room place.world.space.levels place.world.areas + rule_room place.world.space.levels rule.quota) then Err TooSmall
          else Ok (Next, record place { part = Areas; world = record place.world { areas = place.world.areas ++ rule ∷ [] } }))
    else Err (Bad WrongCount)

-- a number for each level, and 0 above the last one
unfoldable pub capacity_in : List (List ℕ) → Result (List ℕ) Reason
capacity_in words = do
  numbers ← each (a_number 0 16777216) words
  Ok (numbers ++ replicate (6 - length numbers) 0)

-- `capacity C1 .. CL`, with a number for each level
unfoldable pub capacity_line : WorldReader → ℕ → List (List ℕ) → Said
capacity_line place count words =
    if count == place.world.space.levels + 1 then (do
      capacity ← bad (capacity_in words)
      Ok (Next, record place { part = Objects; world = record place.world { space = record place.world.space { capacity = capacity } } }))
    else Err (Bad WrongCount)
