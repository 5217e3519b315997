-- The words of a line: the pieces between its spaces.
use Rattle.std.specs.Prelude.{ℕ, List, [], ◌∷◌, Bool, false, ◌==◌, ◌&&◌, not, nat_le, if◌then◌else◌}
use Rattle.std.specs.List.{list_all, onto_first}

abbrev pub is_space : ℕ → Bool
is_space byte = byte == 32

-- a byte out of 33 to 126
abbrev pub is_graphic : ℕ → Bool
is_graphic byte = nat_le 33 byte && nat_le byte 126

-- the pieces between the spaces; no piece follows a space at the end
unfoldable pub words_of : List ℕ → List (List ℕ)
words_of [] = []
words_of (byte ∷ bytes) = if is_space byte then [] ∷ words_of bytes else onto_first byte (words_of bytes)

-- the first of these words, or no bytes if there is none
abbrev pub first_word : List (List ℕ) → List ℕ
first_word [] = []
first_word (word ∷ words) = word

-- one graphic byte or more
abbrev pub is_word : List ℕ → Bool
is_word [] = false
is_word bytes = list_all is_graphic bytes

-- whether there is a last byte, and it is no space
abbrev pub ends_in_word : List ℕ → Bool
ends_in_word [] = false
ends_in_word (byte ∷ []) = not (is_space byte)
ends_in_word (byte ∷ bytes) = ends_in_word bytes

-- A line isn't empty, has only bytes 32 to 126, no space at its beginning or end, and no two spaces together.
unfoldable pub is_well_formed : List ℕ → Bool
is_well_formed text = list_all is_word (words_of text) && ends_in_word text
