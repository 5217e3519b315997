-- Limits of lines and inputs.
use Rattle.std.specs.Prelude.{ℕ, ◌+◌, ◌-◌, min, Bool, if◌then◌else◌, nat_lt, Option, Some, None}
use Rattle.world_text.specs.declared.reading.reason.Reason.{Reason}
use Rattle.world_text.specs.declared.reading.reason.Reason.TheVariants.{TextAfterEnd, InputTooLong, LineTooLong}

-- The first limit that a line of this length breaks, whatever its text, if `before` bytes precede it: no line may follow the last line, an input has at most `limit` bytes, and a line at most 32,768. The size is the length and the line feed.
abbrev pub broken_limit : ℕ → Bool → ℕ → ℕ → ℕ → Option Reason
broken_limit limit ended before length size =
    if ended then Some TextAfterEnd
    else if nat_lt limit (before + min size 32769) then Some InputTooLong
    else if nat_lt 32768 length then Some LineTooLong
    else None

-- How many bytes of a line decide which limit it breaks if they contain no line feed: one byte after the last line; otherwise the bytes up to the first one beyond the limit of the input or of a line.
abbrev pub enough_bytes : ℕ → Bool → ℕ → ℕ
enough_bytes limit ended before = if ended then 1 else min (limit - before) 32768 + 1
