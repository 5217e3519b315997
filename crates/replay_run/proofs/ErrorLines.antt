-- The length of an error line.
use Rattle.std.proofs.Common.{◌≡◌, ℕ, ◌<◌, ◌≤◌, ◌^◌, List, [], ◌∷◌, ◌++◌, length, refl, codes, decimal, arith, lit≤}
use Rattle.std.proofs.lemmas.List.{length-append}
use Rattle.std.proofs.lemmas.Fmt.{length-decimal-le}
use Rattle.world_text.specs.declared.reading.reason.Reason.{Reason}
use Rattle.world_text.specs.declared.reading.reason.Reason.TheVariants as R
use Rattle.line_input.specs.Statuses.{error_line, exhausted_words, reason_words}

pub number_short : (n : ℕ) → n < 2 ^ 64 → length (decimal n) ≤ 20
number_short n fits = length-decimal-le 20 n (omega arith) (omega arith) fits

-- an error line with these words
pub error_short : (n : ℕ) (words : List ℕ) → length (decimal n) ≤ 20 → length words ≤ 120 → length (error_line n words) ≤ 200
error_short n words number few =
    let first : length (codes "error line ") ≡ 11 = refl in
    let second : length (codes ": ") ≡ 2 = refl in
    omega (arith, first, second, length-append (codes "error line ") (decimal n ++ (codes ": " ++ (words ++ 10 ∷ []))), length-append (decimal n) (codes ": " ++ (words ++ 10 ∷ [])), length-append (codes ": ") (words ++ 10 ∷ []), length-append words (10 ∷ []), number, few)

-- the words for an area without room
pub exhausted_short : (area : List ℕ) (charged wanted quota : ℕ) → length area ≤ 16 → length (decimal charged) ≤ 20 → length (decimal wanted) ≤ 20 → length (decimal quota) ≤ 20 → length (exhausted_words area charged wanted quota) ≤ 120
exhausted_short area charged wanted quota a b c d =
    let first : length (codes "exhausted ") ≡ 10 = refl in
    let space : length (codes " ") ≡ 1 = refl in
    let last = codes " " ++ decimal quota in
    let second = codes " " ++ (decimal wanted ++ last) in
    let third = codes " " ++ (decimal charged ++ second) in
    omega (arith, first, space, a, b, c, d, length-append (codes "exhausted ") (area ++ third), length-append area third, length-append (codes " ") (decimal charged ++ second), length-append (decimal charged) second, length-append (codes " ") (decimal wanted ++ last), length-append (decimal wanted) last, length-append (codes " ") (decimal quota))

pub no_object_short : (object : ℕ) → length (decimal object) ≤ 20 → length (codes "no object " ++ decimal object) ≤ 40
no_object_short object number = let first : length (codes "no object ") ≡ 10 = refl in omega (arith, first, length-append (codes "no object ") (decimal object), number)

pub plain_short : (reason : Reason) → ((object : ℕ) → reason ≡ R.NoObject object → ⊥) → length (reason_words reason) ≤ 40
plain_short R.TextAfterEnd other = lit≤ tt
plain_short R.InputTooLong other = lit≤ tt
plain_short R.LineTooLong other = lit≤ tt
plain_short R.NoEnd other = lit≤ tt
plain_short R.NotAWorld other = lit≤ tt
plain_short R.BadLine other = lit≤ tt
plain_short R.SpaceExpected other = lit≤ tt
plain_short R.AreaExpected other = lit≤ tt
plain_short R.CapacityExpected other = lit≤ tt
plain_short R.UnexpectedLine other = lit≤ tt
plain_short R.UnknownCommand other = lit≤ tt
plain_short R.TooManyAreas other = lit≤ tt
plain_short R.TooManyFields other = lit≤ tt
plain_short R.TooManyItems other = lit≤ tt
plain_short R.WrongCount other = lit≤ tt
plain_short R.BadNumber other = lit≤ tt
plain_short R.BadName other = lit≤ tt
plain_short R.AreaTwice other = lit≤ tt
plain_short R.BadKind other = lit≤ tt
plain_short R.NoArea other = lit≤ tt
plain_short R.NoRegister other = lit≤ tt
plain_short R.RegisterTwice other = lit≤ tt
plain_short R.BadValue other = lit≤ tt
plain_short R.BadLevels other = lit≤ tt
plain_short (R.NoObject object) other = absurd (other object refl)

pub missing_short : (object : ℕ) → length (decimal object) ≤ 20 → length (codes "error: no object " ++ (decimal object ++ 10 ∷ [])) ≤ 200
missing_short object number =
    let first : length (codes "error: no object ") ≡ 17 = refl in
    omega (arith, first, length-append (codes "error: no object ") (decimal object ++ 10 ∷ []), length-append (decimal object) (10 ∷ []), number)
