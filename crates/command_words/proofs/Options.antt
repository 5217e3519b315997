-- The options by their names, and the modes that take them.
use Rattle.std.proofs.Common.{◌≡◌, ℕ, List, [], ◌∷◌, ◌++◌, Bool, true, false, Option, Some, None, refl}
use Rattle.std.specs.Prelude.{◌&&◌, bytes_eq, codes, ◌-◌, ◌^◌, if◌then◌else◌}
use Rattle.std.specs.Option.{option_and_then}
use Rattle.clap.specs.Walk.{Text}
use Rattle.world_text.specs.Numbers.{number_in}
use Rattle.command_words.specs.declared.mode.Mode.{Mode}
use Rattle.command_words.specs.declared.mode.ModeName.{ModeName}
use Rattle.command_words.specs.declared.mode.ModeName.TheVariants as N
use Rattle.command_words.specs.Words.{exercise_mode, mode_with, why_mode, with_one, with_two}
use Rattle.command_words.specs.Given.{options_in}

pub data Name : Type 0 where
  Object : Name
  Number : Name
  Count : Name

abbrev pub text : Name → Text
text Object = codes "object"
text Number = codes "number"
text Count = codes "count"

-- the value given for each option
pub record Values : Type 0 where
  pub object : Option Text
  pub number : Option Text
  pub count : Option Text

abbrev pub no_values : Values
no_values = record { object = None; number = None; count = None }

abbrev pub value_of : Name → Values → Option Text
value_of Object g = g.object
value_of Number g = g.number
value_of Count g = g.count

abbrev pub put : Name → Text → Values → Values
put Object v g = record { object = Some v; number = g.number; count = g.count }
put Number v g = record { object = g.object; number = Some v; count = g.count }
put Count v g = record { object = g.object; number = g.number; count = Some v }

abbrev pub options_of : Values → List (Text × Text)
options_of g = options_in g.object g.number g.count

-- Options that no mode takes

pub record IsUseless (option : Text × Text) : Type 0 where
  pub alone : (mode : ModeName) → with_one mode option ≡ None
  pub first : (mode : ModeName) (other : Text × Text) → with_two mode option other ≡ None
  pub second : (mode : ModeName) (other : Text × Text) → with_two mode other option ≡ None

pub useless_in : (mode : ModeName) (before : List (Text × Text)) (option : Text × Text) (after : List (Text × Text)) → IsUseless option → mode_with (before ++ option ∷ after) mode ≡ None
useless_in mode [] option [] u = u.alone mode
useless_in mode [] option (x ∷ []) u = u.first mode x
useless_in mode [] option (x ∷ y ∷ after) u = refl
useless_in mode (x ∷ []) option [] u = u.second mode x
useless_in mode (x ∷ []) option (y ∷ after) u = refl
useless_in mode (x ∷ y ∷ []) option after u = refl
useless_in mode (x ∷ y ∷ z ∷ before) option after u = refl

abbrev either : Bool → Bool → Option Mode → Option Mode → Option Mode
either a b p q = if a then p else if b then q else None

neither : (a b : Bool) (p q : Option Mode) → either (a && false) (b && false) p q ≡ None
neither true true p q = refl
neither true false p q = refl
neither false true p q = refl
neither false false p q = refl

both_none : (a b : Bool) (p q : Option Mode) → p ≡ None → q ≡ None → either a b p q ≡ None
both_none true b p q e f = e
both_none false true p q e f = f
both_none false false p q e f = refl

-- an option of another name

pub record IsOther (name : Text) : Type 0 where
  pub object : bytes_eq name (codes "object") ≡ false
  pub number : bytes_eq name (codes "number") ≡ false
  pub count : bytes_eq name (codes "count") ≡ false

other_alone : (name value : Text) → IsOther name → (mode : ModeName) → with_one mode (name, value) ≡ None
other_alone name value is N.Why = let o = is.object in rw o refl
other_alone name value is mode = refl

other_first : (name value : Text) → IsOther name → (mode : ModeName) (other : Text × Text) → with_two mode (name, value) other ≡ None
other_first name value is N.Exercise other = let n = is.number in let c = is.count in rw (n, c) refl
other_first name value is mode other = refl

other_second : (name value : Text) → IsOther name → (mode : ModeName) (other : Text × Text) → with_two mode other (name, value) ≡ None
other_second name value is N.Exercise other =
    let n = is.number in
    let c = is.count in
    rw (n, c) (neither (bytes_eq other.0 (codes "number")) (bytes_eq other.0 (codes "count")) (exercise_mode other.1 value) (exercise_mode value other.1))
other_second name value is mode other = refl

pub other_useless : (name value : Text) → IsOther name → IsUseless (name, value)
other_useless name value is = record { alone = other_alone name value is; first = other_first name value is; second = other_second name value is }

-- a value that is no number

abbrev pub IsNoNumber : Text → Type 0
IsNoNumber value = (low high : ℕ) → number_in low high value ≡ None

nothing_then : {A : Type 0} (o : Option A) → option_and_then (λ x. let none : Option Mode = None in none) o ≡ None
nothing_then None = refl
nothing_then (Some x) = refl

why_none : (value : Text) → IsNoNumber value → why_mode value ≡ None
why_none value none = let n = none 0 (2 ^ 32 - 1) in rw n refl

number_none : (value other : Text) → IsNoNumber value → exercise_mode value other ≡ None
number_none value other none = let n = none 0 (2 ^ 32 - 1) in rw n refl

count_none : (other value : Text) → IsNoNumber value → exercise_mode other value ≡ None
count_none other value none = let n = none 0 1000000 in rw n (nothing_then (number_in 0 (2 ^ 32 - 1) other))

when_none : (a : Bool) (p : Option Mode) → p ≡ None → (if a then p else None) ≡ None
when_none true p e = e
when_none false p e = refl

value_alone : (name value : Text) → IsNoNumber value → (mode : ModeName) → with_one mode (name, value) ≡ None
value_alone name value none N.Why = when_none (bytes_eq name (codes "object")) (why_mode value) (why_none value none)
value_alone name value none mode = refl

value_first : (name value : Text) → IsNoNumber value → (mode : ModeName) (other : Text × Text) → with_two mode (name, value) other ≡ None
value_first name value none N.Exercise other =
    both_none (bytes_eq name (codes "number") && bytes_eq other.0 (codes "count")) (bytes_eq name (codes "count") && bytes_eq other.0 (codes "number"))
    (exercise_mode value other.1) (exercise_mode other.1 value) (number_none value other.1 none) (count_none other.1 value none)
value_first name value none mode other = refl

value_second : (name value : Text) → IsNoNumber value → (mode : ModeName) (other : Text × Text) → with_two mode other (name, value) ≡ None
value_second name value none N.Exercise other =
    both_none (bytes_eq other.0 (codes "number") && bytes_eq name (codes "count")) (bytes_eq other.0 (codes "count") && bytes_eq name (codes "number"))
    (exercise_mode other.1 value) (exercise_mode value other.1) (count_none other.1 value none) (number_none value other.1 none)
value_second name value none mode other = refl

pub value_useless : (name value : Text) → IsNoNumber value → IsUseless (name, value)
value_useless name value none = record { alone = value_alone name value none; first = value_first name value none; second = value_second name value none }

-- An option twice

same_two : (name : Name) (mode : ModeName) (v u : Text) → with_two mode (text name, v) (text name, u) ≡ None
same_two Object N.Exercise v u = refl
same_two Number N.Exercise v u = refl
same_two Count N.Exercise v u = refl
same_two name mode v u = refl

twice_in : (name : Name) (object number count : Option Text) (u v : Text) (after : List (Text × Text)) (mode : ModeName)
    → value_of name (record { object = object; number = number; count = count }) ≡ Some u → mode_with (options_in object number count ++ (text name, v) ∷ after) mode ≡ None
twice_in Object None number count u v after mode is = absurd (cc (is))
twice_in Object (Some x) None None u v [] mode is = same_two Object mode x v
twice_in Object (Some x) None None u v (y ∷ after) mode is = refl
twice_in Object (Some x) (Some y) None u v after mode is = refl
twice_in Object (Some x) None (Some z) u v after mode is = refl
twice_in Object (Some x) (Some y) (Some z) u v after mode is = refl
twice_in Number object None count u v after mode is = absurd (cc (is))
twice_in Number None (Some x) None u v [] mode is = same_two Number mode x v
twice_in Number None (Some x) None u v (y ∷ after) mode is = refl
twice_in Number (Some y) (Some x) None u v after mode is = refl
twice_in Number None (Some x) (Some z) u v after mode is = refl
twice_in Number (Some y) (Some x) (Some z) u v after mode is = refl
twice_in Count object number None u v after mode is = absurd (cc (is))
twice_in Count None None (Some x) u v [] mode is = same_two Count mode x v
twice_in Count None None (Some x) u v (y ∷ after) mode is = refl
twice_in Count (Some y) None (Some x) u v after mode is = refl
twice_in Count None (Some z) (Some x) u v after mode is = refl
twice_in Count (Some y) (Some z) (Some x) u v after mode is = refl

pub twice : (name : Name) (g : Values) (u v : Text) (after : List (Text × Text)) (mode : ModeName) → value_of name g ≡ Some u → mode_with (options_of g ++ (text name, v) ∷ after) mode ≡ None
twice name g u v after mode is = twice_in name g.object g.number g.count u v after mode is

-- Options in another order

swap : (name other : Name) (x y : Text) (mode : ModeName) → with_two mode (text name, x) (text other, y) ≡ with_two mode (text other, y) (text name, x)
swap Object Object x y N.Exercise = refl
swap Object Number x y N.Exercise = refl
swap Object Count x y N.Exercise = refl
swap Number Object x y N.Exercise = refl
swap Number Number x y N.Exercise = refl
swap Number Count x y N.Exercise = refl
swap Count Object x y N.Exercise = refl
swap Count Number x y N.Exercise = refl
swap Count Count x y N.Exercise = refl
swap name other x y mode = refl

new_in : (name : Name) (object number count : Option Text) (v : Text) (after : List (Text × Text)) (mode : ModeName)
    → value_of name (record { object = object; number = number; count = count }) ≡ None
    → mode_with (options_of (put name v (record { object = object; number = number; count = count })) ++ after) mode ≡ mode_with (options_in object number count ++ (text name, v) ∷ after) mode
new_in Object (Some x) number count v after mode is = absurd (cc (is))
new_in Object None None None v after mode is = refl
new_in Object None (Some y) None v [] mode is = swap Object Number v y mode
new_in Object None (Some y) None v (z ∷ after) mode is = refl
new_in Object None None (Some y) v [] mode is = swap Object Count v y mode
new_in Object None None (Some y) v (z ∷ after) mode is = refl
new_in Object None (Some y) (Some z) v after mode is = refl
new_in Number object (Some x) count v after mode is = absurd (cc (is))
new_in Number None None None v after mode is = refl
new_in Number (Some y) None None v after mode is = refl
new_in Number None None (Some y) v [] mode is = swap Number Count v y mode
new_in Number None None (Some y) v (z ∷ after) mode is = refl
new_in Number (Some y) None (Some z) v after mode is = refl
new_in Count object number (Some x) v after mode is = absurd (cc (is))
new_in Count None None None v after mode is = refl
new_in Count (Some y) None None v after mode is = refl
new_in Count None (Some y) None v after mode is = refl
new_in Count (Some y) (Some z) None v after mode is = refl

pub new : (name : Name) (g : Values) (v : Text) (after : List (Text × Text)) (mode : ModeName) → value_of name g ≡ None
    → mode_with (options_of (put name v g) ++ after) mode ≡ mode_with (options_of g ++ (text name, v) ∷ after) mode
new name g v after mode is = new_in name g.object g.number g.count v after mode is

-- Names

-- one of the three, or another
pub data Named : Text → Type 0 where
  known : (name : Name) → Named (text name)
  other : (name : Text) → IsOther name → Named name
