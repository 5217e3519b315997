-- An exercise has at most a million commands.
use Rattle.std.proofs.Common.{◌≡◌, ℕ, List, [], ◌∷◌, Bool, true, false, Option, Some, None, refl, arith}
use Rattle.std.specs.Prelude.{String, ◌&&◌, bytes_eq, codes, ◌-◌, ◌^◌, if◌then◌else◌}
use Rattle.std.specs.Option.{option_and_then}
use Rattle.world_text.specs.Numbers.{number_in}
use Rattle.world_text.proofs.reading_laws.NumberLaws.{number_only}
use Rattle.command_words.specs.declared.mode.Mode.{Mode}
use Rattle.command_words.specs.declared.mode.Mode.TheVariants as M
use Rattle.command_words.specs.declared.mode.FileMode.TheVariants as F
use Rattle.command_words.specs.declared.mode.ModeName.{ModeName}
use Rattle.command_words.specs.declared.mode.ModeName.TheVariants as N
use Rattle.command_words.specs.Words.{IsInRange, exercise_mode, mode_in, mode_of, mode_with, name_in, parts_of, plain_mode, texts, why_mode, with_one, with_two}

then_in : {A : Type 0} (o : Option A) (f : A → Option Mode) → ((x : A) → IsInRange (f x)) → IsInRange (option_and_then f o)
then_in None f each = tt
then_in (Some x) f each = each x

when_in : (b : Bool) (p q : Option Mode) → IsInRange p → IsInRange q → IsInRange (if b then p else q)
when_in true p q one other = one
when_in false p q one other = other

count_in : (number : ℕ) (text : List ℕ) (o : Option ℕ) → number_in 0 1000000 text ≡ o → IsInRange (option_and_then (λ k. Some (M.Exercise number k)) o)
count_in number text None is = tt
count_in number text (Some k) is = (number_only 0 1000000 k text (omega arith) is).2

exercise_in : (number count : List ℕ) → IsInRange (exercise_mode number count)
exercise_in number count =
    then_in (number_in 0 (2 ^ 32 - 1) number) (λ n. option_and_then (λ k. Some (M.Exercise n k)) (number_in 0 1000000 count)) (λ n. count_in n count (number_in 0 1000000 count) refl)

plain_in : (name : ModeName) → IsInRange (plain_mode name)
plain_in N.Replay = tt
plain_in N.Exercise = tt
plain_in N.Print = tt
plain_in N.Compile = tt
plain_in N.Why = tt
plain_in N.Census = tt

one_in : (name : ModeName) (option : List ℕ × List ℕ) → IsInRange (with_one name option)
one_in N.Why option =
    when_in (bytes_eq option.0 (codes "object")) (why_mode option.1) None (then_in (number_in 0 (2 ^ 32 - 1) option.1) (λ k. Some (M.OfFile (F.Why k))) (λ k. tt)) tt
one_in name option = tt

two_in : (name : ModeName) (first second : List ℕ × List ℕ) → IsInRange (with_two name first second)
two_in N.Exercise first second =
    when_in (bytes_eq first.0 (codes "number") && bytes_eq second.0 (codes "count")) (exercise_mode first.1 second.1) _ (exercise_in first.1 second.1)
    (when_in (bytes_eq first.0 (codes "count") && bytes_eq second.0 (codes "number")) (exercise_mode second.1 first.1) None (exercise_in second.1 first.1) tt)
two_in name first second = tt

with_in : (options : List (List ℕ × List ℕ)) (name : ModeName) → IsInRange (mode_with options name)
with_in [] name = plain_in name
with_in (option ∷ []) name = one_in name option
with_in (first ∷ second ∷ []) name = two_in name first second
with_in (first ∷ second ∷ third ∷ options) name = tt

pub in_range : {A : Type 0} (words : List (String A)) → IsInRange (mode_of words)
in_range words = then_in (parts_of None (texts words)) mode_in (λ parts. then_in (name_in parts.modes) (mode_with parts.options) (with_in parts.options))
