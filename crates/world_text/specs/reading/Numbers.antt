-- Numbers, values, and the names of things: what a word spells.
use Rattle.std.specs.Prelude.{ℕ, ◌+◌, ◌-◌, ◌*◌, ◌^◌, ℤ, pos, negsuc, List, length, drop, Bool, false, ◌==◌, ◌||◌, ◌&&◌, not, nat_lt, if◌then◌else◌, bytes_eq, codes, slice_index, Option, Some, None, position}
use Rattle.std.specs.List.{list_all, fold}
use Rattle.std.specs.Option.{option_and_then}
use Rattle.lisp_graph.specs.Name.{is_digit}
use Rattle.lisp_graph.specs.declared.object.Value.{Value}
use Rattle.lisp_graph.specs.declared.object.Value.TheVariants.{Fix, Nil, Ref}
use Rattle.lisp_graph.specs.declared.world.AreaRule.{AreaRule}

abbrev pub are_digits : List ℕ → Bool
are_digits word = list_all is_digit word

-- `0`, or a digit 1 to 9 followed by digits
abbrev pub is_number : List ℕ → Bool
is_number word =
    if length word == 0 then false
    else if nat_lt 1 (length word) && slice_index word 0 == 48 then false
    else are_digits word

-- the number that digits represent
abbrev pub number_value : List ℕ → ℕ
number_value digits = fold (λ value digit. 10 * value + (digit - 48)) 0 digits

-- the number from low to high that the word spells
abbrev pub number_in : ℕ → ℕ → List ℕ → Option ℕ
number_in low high word =
    if is_number word then (if nat_lt (number_value word) low || nat_lt high (number_value word) then None else Some (number_value word))
    else None

-- a number up to 2147483647, or `-` followed by a number from 1 to 2147483648
abbrev pub integer_of : List ℕ → Option ℤ
integer_of word =
    if length word == 0 then None
    else if slice_index word 0 == 45 then option_and_then (λ size. Some (negsuc (size - 1))) (number_in 1 (2 ^ 31) (drop 1 word))
    else option_and_then (λ size. Some (pos size)) (number_in 0 (2 ^ 31 - 1) word)

-- `nil`, an integer, or `#` followed by a number
abbrev pub value_of : List ℕ → Option Value
value_of word =
    if bytes_eq word (codes "nil") then Some Nil
    else if not (length word == 0) && slice_index word 0 == 35 then option_and_then (λ number. Some (Ref number)) (number_in 0 (2 ^ 32 - 1) (drop 1 word))
    else option_and_then (λ number. Some (Fix number)) (integer_of word)

-- a number below the number of registers
abbrev pub register_of : ℕ → List ℕ → Option ℕ
register_of registers word =
    option_and_then (λ number. if nat_lt number registers then Some number else None) (number_in 0 (2 ^ 32 - 1) word)

-- the place of the area with this name
abbrev pub area_of : List AreaRule → List ℕ → Option ℕ
area_of areas word = position (λ rule. bytes_eq rule.name word) areas
