-- What the calls of a source and of a sink may do.
use Rattle.std.specs.Prelude.{◌≡◌, ℕ, ◌+◌, ◌-◌, ◌^◌, ◌<◌, ◌≤◌, min, List, [], ◌++◌, length, Bool, true, Option, Result, Ok, Err, OnOk, OnErr, IfSome, option_map}

-- the next 64-bit count, which saturates
abbrev pub next_count : ℕ → ℕ
next_count count = min (count + 1) (2 ^ 64 - 1)

-- a 64-bit count has risen, or is saturated
abbrev pub Rose : ℕ → ℕ → Type 0
Rose before now = next_count before ≤ now

-- a count of failed calls never falls; if the call failed, the count rose, and if the call succeeded, it is unchanged
pub record HasCause {T E : Type 0} (before now : ℕ) (result : Result T E) : Type 0 where
  pub later : before ≤ now
  pub failed : OnErr result (Rose before now)
  pub quiet : OnOk result (now ≡ before)

-- exactly one call of a sink failed, and that was the latest, so nothing was written after it
abbrev pub FailedLast : ℕ → ℕ → Bool → Type 0
FailedLast before now failed = (now ≡ next_count before) × (failed ≡ true)

-- a source that reports what remains gave these bytes, and now reports the rest; a source that reported nothing still reports nothing
abbrev pub Gave : Option (List ℕ) → Option (List ℕ) → List ℕ → Type 0
Gave before now bytes = before ≡ option_map (λ rest. bytes ++ rest) now

-- the length of the piece that a call of a source gave; a call that failed gave none
abbrev pub piece_length : {E : Type 0} → Result ℕ E → ℕ
piece_length (Ok n) = n
piece_length (Err _) = 0

-- if the source reports what remains, nothing does
abbrev pub IsAtEnd : Option (List ℕ) → Type 0
IsAtEnd left = IfSome left (λ rest. rest ≡ [])

-- a sink gained these bytes: if it represented a list, it now represents that list followed by these bytes
pub record Gained (before now : List ℕ → Type 0) (bytes : List ℕ) : Type 0 where
  pub each : (had : List ℕ) → before had → now (had ++ bytes)

-- a prefix of the text, and not all of it
abbrev pub IsCut : List ℕ → List ℕ → Type 0
IsCut text front = (rest : List ℕ) × (0 < length rest) × (text ≡ front ++ rest)

-- if the call that writes the text succeeded, the sink gained it; otherwise it gained a prefix of it, and not all. (Six parameters: a result with its two types, what the sink has before and after, and the text.)
pub record Wrote {T E : Type 0} (before now : List ℕ → Type 0) (text : List ℕ) (result : Result T E) : Type 0 where
  pub whole : OnOk result (Gained before now text)
  pub part : OnErr result ((front : List ℕ) × IsCut text front × Gained before now front)
