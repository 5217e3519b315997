-- Sets as bits: a bit for each page in words of 64, and a bit for each of these words.
use Rattle.std.specs.Prelude.{◌≡◌, ◌≢◌, ℕ, ◌*◌, ◌/◌, ◌%◌, ◌<◌, ◌≤◌, ◌==◌, List, length, filter, slice_index, ◌↔◌}
use Rattle.std.specs.Int.{bit_at}
use Rattle.std.specs.List.{range_with_len}

-- a bit of a list of words
abbrev pub bit_of : List ℕ → ℕ → ℕ
bit_of bits at = bit_at (slice_index bits (at / 64)) (at % 64)

-- the pages whose bits are 1, ascending
abbrev pub pages_of : List ℕ → ℕ → List ℕ
pages_of bits count = filter (λ page. bit_of bits page == 1) (range_with_len 0 count)

-- one bit is 1 now, and nothing else has changed
pub record SetsBit (old new : List ℕ) (at : ℕ) : Type 0 where
  pub size : length new ≡ length old
  pub here : bit_of new at ≡ 1
  pub others : (other : ℕ) → other ≢ at → bit_of new other ≡ bit_of old other
  pub words : (word : ℕ) → word ≢ at / 64 → slice_index new word ≡ slice_index old word

-- one bit is 0 now, and nothing else has changed
pub record ClearsBit (old new : List ℕ) (at : ℕ) : Type 0 where
  pub size : length new ≡ length old
  pub here : bit_of new at ≡ 0
  pub others : (other : ℕ) → other ≢ at → bit_of new other ≡ bit_of old other
  pub words : (word : ℕ) → word ≢ at / 64 → slice_index new word ≡ slice_index old word
  pub some : slice_index new (at / 64) ≢ 0 → slice_index old (at / 64) ≢ 0

-- a bit of the upper level is 1 if and only if a word of the lower is not 0, and no bit from count on is 1
pub record IsPages (lower upper : List ℕ) (count : ℕ) : Type 0 where
  pub few : count ≤ 16384
  pub lower_size : count ≤ 64 * length lower
  pub upper_size : length lower ≤ 64 * length upper
  pub lower_few : length lower ≤ 256
  pub upper_few : length upper ≤ 4
  pub exact : (word : ℕ) → (bit_of upper word ≡ 1) ↔ (slice_index lower word ≢ 0)
  pub within : (page : ℕ) → bit_of lower page ≡ 1 → page < count
