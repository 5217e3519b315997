-- What a call hands to C.
use Rattle.std.specs.Prelude.{◌≡◌, ◌<◌, ◌≤◌, ℕ, List, length, take, drop}

-- C gets the number of bytes of the answer. If its buffer is large enough, it begins with the answer and is unchanged after it, and the call returns the status; otherwise the buffer is unchanged, and the call returns 10. (Six parameters: the buffer before and after, the two numbers that C gets, and the answer and the status, which vary independently.)
pub record IsHanded (old new : List ℕ) (needed : ℕ) (result : ℕ) (answer : List ℕ) (status : ℕ) : Type 0 where
  pub count : needed ≡ length answer
  pub whole : length answer ≤ length old → (result ≡ status) × (take (length answer) new ≡ answer) × (drop (length answer) new ≡ drop (length answer) old)
  pub small : length old < length answer → (result ≡ 10) × (new ≡ old)
