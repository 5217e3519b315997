-- What the arguments gave: the mode and the texts of the options, each of which may be missing.
use Rattle.std.specs.Prelude.{ℕ, List, [], ◌∷◌, codes, Option, Some, None}
use Rattle.command_words.specs.declared.mode.Mode.{Mode}
use Rattle.command_words.specs.Words.{mode_in}

-- with the option of this name in front, if it was given
abbrev pub with_given : List ℕ → Option (List ℕ) → List (List ℕ × List ℕ) → List (List ℕ × List ℕ)
with_given name None options = options
with_given name (Some text) options = (name, text) ∷ options

-- the options that were given
abbrev pub options_in : Option (List ℕ) → Option (List ℕ) → Option (List ℕ) → List (List ℕ × List ℕ)
options_in object number count = with_given (codes "object") object (with_given (codes "number") number (with_given (codes "count") count []))

-- with the argument for the mode in front, if it was given
abbrev pub with_word : Option (List ℕ) → List (List ℕ) → List (List ℕ)
with_word None words = words
with_word (Some word) words = word ∷ words

-- the mode that these request
abbrev pub asked : Option (List ℕ) → Option (List ℕ) → Option (List ℕ) → Option (List ℕ) → Option Mode
asked word object number count = mode_in (record { options = options_in object number count; modes = with_word word [] })
