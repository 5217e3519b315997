-- Arguments as bytes: each one is followed by a NUL byte.
use Rattle.std.specs.Prelude.{◌≡◌, ◌≢◌, ◌⊎◌, ℕ, ◌==◌, if◌then◌else◌, List, [], ◌∷◌, ◌++◌}
use Rattle.std.specs.List.{fold, Any}
use Rattle.std.specs.Str.{IsUtf8}

-- bytes, cut at each NUL byte
pub record Split : Type 0 where
  -- the pieces that are followed by a NUL byte
  pub done : List (List ℕ)
  -- the bytes after the last NUL byte
  pub begun : List ℕ

-- after one more byte
abbrev pub with_byte : Split → ℕ → Split
with_byte split byte =
    if byte == 0 then record { done = split.done ++ split.begun ∷ []; begun = [] }
    else record { done = split.done; begun = split.begun ++ byte ∷ [] }

abbrev pub split_at_nuls : List ℕ → Split
split_at_nuls bytes = fold with_byte (record { done = []; begun = [] }) bytes

-- nothing follows the last NUL byte, and the bytes before are these pieces
abbrev pub AreArguments : List ℕ → List (List ℕ) → Type 0
AreArguments bytes pieces = split_at_nuls bytes ≡ record { done = pieces; begun = [] }

-- something follows the last NUL byte, or a piece isn't UTF-8
abbrev pub IsRefused : List ℕ → Type 0
IsRefused bytes = ((split_at_nuls bytes).begun ≢ []) ⊎ Any (λ piece. ¬ (IsUtf8 piece)) (split_at_nuls bytes).done
