-- What a reader of lines buffers, and which line is next.
use Rattle.std.specs.Prelude.{◌≡◌, ℕ, ◌+◌, ◌-◌, ◌<◌, ◌≤◌, List, [], ◌∷◌, length, Bool, true, not, ◌==◌, ◌&&◌, ◌⊎◌, take, slice_index, Option, Some, None}
use Rattle.line_input.specs.declared.lines.found.LineSpan.{LineSpan}

-- the bytes that were taken and not yet passed, and whether the source has reached its end
pub record Buffered : Type 0 where
  pub bytes : List ℕ
  pub ended : Bool

-- the bytes contain no line feed
abbrev pub no_feed : List ℕ → Bool
no_feed [] = true
no_feed (byte ∷ bytes) = not (byte == 10) && no_feed bytes

-- the bytes without the latest piece, which has this length
abbrev pub without_latest : ℕ → List ℕ → List ℕ
without_latest last bytes = take (length bytes - last) bytes

-- a line with its line feed
pub record IsWholeLine (buffered : Buffered) (found : LineSpan) : Type 0 where
  pub below : found.length < length buffered.bytes
  pub first : no_feed (take found.length buffered.bytes) ≡ true
  pub feed : slice_index buffered.bytes found.length ≡ 10
  pub size : found.size ≡ found.length + 1

-- all buffered bytes, of which there is at least one
pub record IsAllBuffered (buffered : Buffered) (found : LineSpan) : Type 0 where
  pub some : 0 < length buffered.bytes
  pub none : no_feed buffered.bytes ≡ true
  pub all : found.length ≡ length buffered.bytes
  pub size : found.size ≡ length buffered.bytes

-- a last line without a line feed
abbrev pub IsLastLine : Buffered → LineSpan → Type 0
IsLastLine buffered found = IsAllBuffered buffered found × (buffered.ended ≡ true)

-- a prefix of a line, which has enough bytes
abbrev pub IsFront : Buffered → ℕ → LineSpan → Type 0
IsFront buffered enough found = IsAllBuffered buffered found × (enough ≤ length buffered.bytes)

-- what of the buffered bytes can be judged: a line, or a prefix of a line that has `enough` bytes
abbrev pub IsFound : Buffered → ℕ → LineSpan → Type 0
IsFound buffered enough found = IsWholeLine buffered found ⊎ (IsLastLine buffered found ⊎ IsFront buffered enough found)

-- the line has at least one byte, and lies within the buffered bytes
pub record FitsIn (buffered : Buffered) (found : LineSpan) : Type 0 where
  pub some : 1 ≤ found.size
  pub close : found.size ≤ found.length + 1
  pub text : found.length ≤ length buffered.bytes
  pub all : found.size ≤ length buffered.bytes

-- the buffered bytes contain no line, and are too few to be judged
pub record IsPart (buffered : Buffered) (enough : ℕ) : Type 0 where
  pub none : no_feed buffered.bytes ≡ true
  pub few : length buffered.bytes < enough
  pub last : buffered.ended ≡ true → buffered.bytes ≡ []

-- the next line, or none at the end of the input
abbrev pub IsNext : Buffered → ℕ → Option LineSpan → Type 0
IsNext buffered enough None = (buffered.bytes ≡ []) × (buffered.ended ≡ true)
IsNext buffered enough (Some found) = IsFound buffered enough found
