-- The table in which the numbers of keys are found.
use Rattle.std.specs.Prelude.{◌≡◌, ℕ, ◌+◌, ◌/◌, ◌%◌, ◌<◌, ◌==◌, List, [], length, get_or, Option, Some, None, position}

-- the entry at a place of a page; 0 past its end
abbrev pub entry_in : List ℕ → ℕ → ℕ
entry_in page place = get_or page place 0

-- the page with this number; an empty one past the last
abbrev pub page_at : List (List ℕ) → ℕ → List ℕ
page_at pages number = get_or pages number []

-- the entry of a key
abbrev pub entry_at : List (List ℕ) → ℕ → ℕ
entry_at pages key = entry_in (page_at pages (key / 512)) (key % 512)

-- the table has a place for the entry of this key
abbrev pub HasRoom : List (List ℕ) → ℕ → Type 0
HasRoom pages key = (key / 512 < length pages) × (key % 512 < length (page_at pages (key / 512)))

-- an entry is one more than the number of the key, or 0
abbrev pub entry_of : Option ℕ → ℕ
entry_of None = 0
entry_of (Some number) = number + 1

-- the table has the number of each of these keys, and of no other one
abbrev pub HasNumbers : List (List ℕ) → List ℕ → Type 0
HasNumbers pages keys = (key : ℕ) → entry_at pages key ≡ entry_of (position (λ k. key == k) keys)
