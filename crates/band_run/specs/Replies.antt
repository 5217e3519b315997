-- What is written for each reply.
use Rattle.std.specs.Prelude.{ℕ, List, [], ◌∷◌, ◌++◌, Bool, true, false, codes, decimal, flat_map}
use Rattle.band_run.specs.declared.reply.Reply.{Reply}
use Rattle.band_run.specs.declared.reply.Reply.TheVariants as R

-- a line with a word and a number
abbrev pub number_line : List ℕ → ℕ → List ℕ
number_line word number = word ++ (codes " " ++ (decimal number ++ 10 ∷ []))

-- a line with a word and a name
abbrev pub name_line : List ℕ → List ℕ → List ℕ
name_line word name = word ++ (codes " " ++ (name ++ 10 ∷ []))

-- the line of a name whose last text has this many bytes
abbrev pub band_line : List ℕ × ℕ → List ℕ
band_line band = codes "band " ++ (band.0 ++ (codes " " ++ (decimal band.1 ++ 10 ∷ [])))

-- a line for each name
abbrev pub list_text : List (List ℕ × ℕ) → List ℕ
list_text bands = flat_map band_line bands

-- what is written for a reply
abbrev pub reply_text : Reply → List ℕ
reply_text (R.Opened count) = number_line (codes "opened") count
reply_text R.NotAStore = codes "not-a-store" ++ 10 ∷ []
reply_text (R.Damaged at) = number_line (codes "damaged") at
reply_text (R.Saved name) = name_line (codes "saved") name
reply_text (R.TooLarge size) = number_line (codes "too-large") size
reply_text (R.Full end) = number_line (codes "full") end
reply_text (R.Loaded text) = text
reply_text (R.NoBand name) = name_line (codes "no-band") name
reply_text (R.Listed lines) = lines
reply_text R.Closed = codes "closed" ++ 10 ∷ []
reply_text R.Fault = codes "fault" ++ 10 ∷ []

-- the reply says that the disk failed
abbrev pub is_fault : Reply → Bool
is_fault R.Fault = true
is_fault _ = false
