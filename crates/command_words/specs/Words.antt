-- The arguments of the program, and the mode that they request.
use Rattle.std.specs.Prelude.{ℕ, ◌+◌, ◌-◌, ◌^◌, ◌≤◌, List, [], ◌∷◌, map, take, drop, Bool, ◌==◌, ◌&&◌, if◌then◌else◌, bytes_eq, codes, eqb, string_bytes, String, length, nat_lt, Option, Some, None}
use Rattle.std.specs.List.{position_or_len, starts_with}
use Rattle.std.specs.Option.{option_and_then}
use Rattle.world_text.specs.Numbers.{number_in}
use Rattle.command_words.specs.declared.mode.Mode.{Mode}
use Rattle.command_words.specs.declared.mode.Mode.TheVariants as M
use Rattle.command_words.specs.declared.mode.FileMode.TheVariants as F
use Rattle.command_words.specs.declared.mode.ModeName.{ModeName}
use Rattle.command_words.specs.declared.mode.ModeName.TheVariants as N

-- The parts of the arguments

-- the options with their values, and the arguments that name a mode
pub record Parts : Type 0 where
  pub options : List (List ℕ × List ℕ)
  pub modes : List (List ℕ)

-- with an option and its value in front
abbrev pub with_option : List ℕ → List ℕ → Option Parts → Option Parts
with_option name value parts = option_and_then (λ p. Some (record { options = (name, value) ∷ p.options; modes = p.modes })) parts

-- with an argument that names a mode in front
abbrev pub with_mode : List ℕ → Option Parts → Option Parts
with_mode word parts = option_and_then (λ p. Some (record { options = p.options; modes = word ∷ p.modes })) parts

-- an argument that begins with `--`
abbrev pub is_option : List ℕ → Bool
is_option word = starts_with eqb word (codes "--")

-- the position of the first `=`, or the length if there is none
abbrev pub equals_at : List ℕ → ℕ
equals_at body = position_or_len (λ byte. byte == 61) body

-- the text after the `--` of an option contains its value
abbrev pub has_value : List ℕ → Bool
has_value body = nat_lt (equals_at body) (length body)

-- the arguments from left to right, after an option `--x`, if any, that needs the next argument as its value; none if there is no next one
unfoldable pub parts_of : Option (List ℕ) → List (List ℕ) → Option Parts
parts_of None [] = Some (record { options = []; modes = [] })
parts_of (Some name) [] = None
parts_of (Some name) (value ∷ words) = with_option name value (parts_of None words)
parts_of None (word ∷ words) =
    if bytes_eq word (codes "--") then Some (record { options = []; modes = words })
    else if is_option word then
    (let body = drop 2 word in
    if has_value body then with_option (take (equals_at body) body) (drop (equals_at body + 1) body) (parts_of None words)
    else parts_of (Some body) words)
    else with_mode word (parts_of None words)

-- What the parts request

-- the modes by their names
abbrev pub name_of : List ℕ → Option ModeName
name_of word =
    if bytes_eq word (codes "replay") then Some N.Replay
    else if bytes_eq word (codes "exercise") then Some N.Exercise
    else if bytes_eq word (codes "print") then Some N.Print
    else if bytes_eq word (codes "compile") then Some N.Compile
    else if bytes_eq word (codes "why") then Some N.Why
    else if bytes_eq word (codes "census") then Some N.Census
    else None

-- exactly one argument names a mode, and this is the mode's name
abbrev pub name_in : List (List ℕ) → Option ModeName
name_in (word ∷ []) = name_of word
name_in words = None

-- the modes that take no option
abbrev pub plain_mode : ModeName → Option Mode
plain_mode N.Replay = Some M.Replay
plain_mode N.Print = Some (M.OfFile F.Print)
plain_mode N.Compile = Some (M.OfFile F.Compile)
plain_mode N.Census = Some (M.OfFile F.Census)
plain_mode name = None

-- `why` of the object with this number of 32 bits
abbrev pub why_mode : List ℕ → Option Mode
why_mode object = option_and_then (λ k. Some (M.OfFile (F.Why k))) (number_in 0 (2 ^ 32 - 1) object)

-- `exercise` with this number of 32 bits and this count of commands
abbrev pub exercise_mode : List ℕ → List ℕ → Option Mode
exercise_mode number count =
    option_and_then (λ n. option_and_then (λ k. Some (M.Exercise n k)) (number_in 0 1000000 count)) (number_in 0 (2 ^ 32 - 1) number)

-- `why` takes the option `object`
abbrev pub with_one : ModeName → List ℕ × List ℕ → Option Mode
with_one N.Why option = if bytes_eq option.0 (codes "object") then why_mode option.1 else None
with_one name option = None

-- `exercise` takes the options `number` and `count`, in either order
abbrev pub with_two : ModeName → List ℕ × List ℕ → List ℕ × List ℕ → Option Mode
with_two N.Exercise first second =
    if bytes_eq first.0 (codes "number") && bytes_eq second.0 (codes "count") then exercise_mode first.1 second.1
    else if bytes_eq first.0 (codes "count") && bytes_eq second.0 (codes "number") then exercise_mode second.1 first.1
    else None
with_two name first second = None

-- the mode of this name with all options that were given
abbrev pub mode_with : List (List ℕ × List ℕ) → ModeName → Option Mode
mode_with [] name = plain_mode name
mode_with (option ∷ []) name = with_one name option
mode_with (first ∷ second ∷ []) name = with_two name first second
mode_with options name = None

-- the mode that the parts request
abbrev pub mode_in : Parts → Option Mode
mode_in parts = option_and_then (mode_with parts.options) (name_in parts.modes)

-- the arguments as bytes
abbrev pub texts : {A : Type 0} → List (String A) → List (List ℕ)
texts words = map string_bytes words

-- the mode that the arguments request
abbrev pub mode_of : {A : Type 0} → List (String A) → Option Mode
mode_of words = option_and_then mode_in (parts_of None (texts words))

-- an exercise has at most 1,000,000 commands
abbrev pub IsInRange : Option Mode → Type 0
IsInRange (Some (M.Exercise number count)) = count ≤ 1000000
IsInRange mode = Unit {0}
