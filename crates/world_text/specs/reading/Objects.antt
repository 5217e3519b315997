-- The object lines, and what they are charged.
use Rattle.std.specs.Prelude.{ℕ, ◌+◌, ◌*◌, List, [], ◌∷◌, ◌++◌, length, ◌==◌, nat_lt, if◌then◌else◌, slice_index, slice_get, slice_set, Result, Ok, Err}
use Rattle.std.specs.Option.{option_map_or}
use Rattle.lisp_graph.specs.declared.object.Value.{Value}
use Rattle.lisp_graph.specs.declared.object.Body.TheVariants.{Block}
use Rattle.lisp_graph.specs.declared.object.Object.{Object}
use Rattle.lisp_graph.specs.declared.world.AreaRule.{AreaRule}
use Rattle.lisp_graph.specs.Effect.{list_from, pair_of}
use Rattle.world_text.specs.declared.reading.reason.Reason.TheVariants.{TooManyFields, TooManyItems, WrongCount}
use Rattle.world_text.specs.declared.fault.WorldFault.{WorldFault}
use Rattle.world_text.specs.declared.fault.WorldFault.TheVariants.{Bad, Exhausted}
use Rattle.world_text.specs.declared.fault.WorldStep.TheVariants.{Next}
use Rattle.world_text.specs.declared.reading.reader.Section.TheVariants.{Objects}
use Rattle.world_text.specs.declared.reading.reader.WorldReader.{WorldReader}
use Rattle.world_text.specs.reading.Next.{◌>>=◌, a_number, a_value, an_area, each, next}
use Rattle.world_text.specs.reading.Reader.{Said, bad}

-- Objects

-- a block that has these fields
abbrev pub block_with : ℕ → ℕ → List Value → Object
block_with area code fields = record { area = area; charge = length fields + 1; body = Block code fields }

-- Charges

-- what the objects of an area so far are charged
abbrev pub charged_of : WorldReader → ℕ → ℕ
charged_of place area = slice_index place.charged area

-- what the objects of an area may be charged
abbrev pub quota_in : List AreaRule → ℕ → ℕ
quota_in areas area = option_map_or (λ rule. rule.quota) (slice_get areas area) 0

abbrev pub quota_of : WorldReader → ℕ → ℕ
quota_of place area = quota_in place.world.areas area

-- what the area is charged after this many more words
unfoldable pub charge_with : WorldReader → ℕ → ℕ → Result ℕ WorldFault
charge_with place area wanted =
    if nat_lt (quota_of place area) (charged_of place area + wanted) then Err (Exhausted area (charged_of place area) wanted (quota_of place area))
    else Ok (charged_of place area + wanted)

-- the place with these objects added, which need this charge in an area
unfoldable pub added : WorldReader → ℕ → ℕ → List Object → Said
added place area wanted objects = do
  charged ← charge_with place area wanted
  Ok (Next, record place { part = Objects; charged = slice_set place.charged area charged; world = record place.world { objects = place.world.objects ++ objects } })

-- Each line has `count` words, and `words` after its first one.

-- `cons AREA V V`
unfoldable pub cons_line : WorldReader → ℕ → List (List ℕ) → Said
cons_line place count words =
    if count == 4 then (do
      (area, words) ← bad (next (an_area place.world.areas) words)
      (car, words) ← bad (next a_value words)
      (cdr, words) ← bad (next a_value words)
      added place area 2 (pair_of area car cdr ∷ []))
    else Err (Bad WrongCount)

-- `block AREA CODE V ..` with 0 to 2,047 values
unfoldable pub block_line : WorldReader → ℕ → List (List ℕ) → Said
block_line place count words =
    if nat_lt 2050 count then Err (Bad TooManyFields)
    else if nat_lt count 3 then Err (Bad WrongCount)
    else (do
      (area, words) ← bad (next (an_area place.world.areas) words)
      (code, words) ← bad (next (a_number 0 65535) words)
      fields ← bad (each a_value words)
      added place area (length fields + 1) (block_with area code fields ∷ []))

-- `run AREA V ..` with 1 to 1,024 values
unfoldable pub run_line : WorldReader → ℕ → List (List ℕ) → Said
run_line place count words =
    if nat_lt 1026 count then Err (Bad TooManyItems)
    else if nat_lt count 3 then Err (Bad WrongCount)
    else (do
      (area, words) ← bad (next (an_area place.world.areas) words)
      cars ← bad (each a_value words)
      added place area (3 * length cars) (list_from area (length place.world.objects) cars))
