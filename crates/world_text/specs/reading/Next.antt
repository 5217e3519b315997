-- Reading a line word by word: what it means, or the reason for which it is refused.
use Rattle.std.specs.Prelude.{◌≡◌, ℕ, List, [], ◌∷◌, drop, Option, Some, None, Result, Ok, Err}
use Rattle.lisp_graph.specs.declared.object.Value.{Value}
use Rattle.lisp_graph.specs.declared.world.AreaRule.{AreaRule}
use Rattle.world_text.specs.declared.reading.reason.Reason.{Reason}
use Rattle.world_text.specs.declared.reading.reason.Reason.TheVariants.{BadNumber, NoRegister, NoArea, BadValue}
use Rattle.world_text.specs.declared.fault.WorldFault.{WorldFault}
use Rattle.world_text.specs.declared.fault.WorldFault.TheVariants.{Bad, TooSmall, Exhausted, NoMemory}
use Rattle.world_text.specs.reading.Words.{first_word}
use Rattle.world_text.specs.reading.Numbers.{area_of, number_in, register_of, value_of}

-- one step after another, up to the first that is refused
infixl 10 ◌>>=◌
abbrev pub ◌>>=◌ : {A B E : Type 0} → Result A E → (A → Result B E) → Result B E
(Ok x) >>= f = f x
(Err e) >>= f = Err e

-- what is found, or else this reason
abbrev pub found : {A : Type 0} → Reason → Option A → Result A Reason
found reason None = Err reason
found reason (Some x) = Ok x

-- A word alone

abbrev pub a_number : ℕ → ℕ → List ℕ → Result ℕ Reason
a_number low high word = found BadNumber (number_in low high word)

abbrev pub a_register : ℕ → List ℕ → Result ℕ Reason
a_register registers word = found NoRegister (register_of registers word)

abbrev pub an_area : List AreaRule → List ℕ → Result ℕ Reason
an_area areas word = found NoArea (area_of areas word)

abbrev pub a_value : List ℕ → Result Value Reason
a_value word = found BadValue (value_of word)

-- One word after another

-- what the first of these words means, and the words after it
unfoldable pub next : {A : Type 0} → (List ℕ → Result A Reason) → List (List ℕ) → Result (A × List (List ℕ)) Reason
next read words = do
  one ← read (first_word words)
  Ok (one, drop 1 words)

-- what each of these words means, up to the first that is refused
unfoldable pub each : {A : Type 0} → (List ℕ → Result A Reason) → List (List ℕ) → Result (List A) Reason
each read [] = Ok []
each read (word ∷ words) = do
  one ← read word
  others ← each read words
  Ok (one ∷ others)

-- What a function returned

-- it is what reading gives, seen through `view`. (Six parameters: three types, a view from one to another, what was returned, and what is read.)
abbrev pub Gives : {X Y E : Type 0} → (X → Y) → Result X E → Result Y E → Type 0
Gives view (Ok x) read = read ≡ Ok (view x)
Gives view (Err e) read = read ≡ Err e

-- the error is what reading gives, or memory ran out
abbrev pub IsFault : {Y : Type 0} → WorldFault → Result Y Reason → Type 0
IsFault (Bad reason) read = read ≡ Err reason
IsFault TooSmall read = ⊥
IsFault (Exhausted area charged wanted quota) read = ⊥
IsFault NoMemory read = Unit {0}

-- it is what reading gives, seen through `view`, unless memory ran out
abbrev pub MayGive : {X Y : Type 0} → (X → Y) → Result X WorldFault → Result Y Reason → Type 0
MayGive view (Ok x) read = read ≡ Ok (view x)
MayGive view (Err fault) read = IsFault fault read
