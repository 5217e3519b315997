-- Names in order, each with a value.
use Rattle.std.specs.Prelude.{◌≡◌, ℕ, ◌+◌, ◌<◌, ◌≤◌, List, [], ◌∷◌, length, map, fold, slice_index_or, Bool, bytes_eq, if◌then◌else◌, Option, Some, None, is_some}
use Rattle.std.specs.declared.cmp.Ordering.{Ordering}
use Rattle.std.specs.declared.cmp.Ordering.TheVariants.{Less, Greater}
use Rattle.std.specs.Ordering.{nat_cmp}
use Rattle.std.specs.Cmp.Lexicographic.{slice_cmp}
use Rattle.std.specs.FinMap.{find, is_sorted, put}
use Rattle.band_store.specs.declared.directory.Extent.{Extent}
use Rattle.band_store.specs.Format.{Save, first_gate, record_size}

-- the order of names by their bytes
abbrev pub name_order : List ℕ → List ℕ → Ordering
name_order = slice_cmp nat_cmp

-- the value of a name
abbrev pub named : {X : Type 0} → List ℕ → List (List ℕ × X) → Option X
named name bands = find name_order name bands

-- the names ascend, so none occurs twice
abbrev pub is_ordered : {X : Type 0} → List (List ℕ × X) → Bool
is_ordered bands = is_sorted name_order bands

-- the names including this one, at its position in their order; an earlier value of it is replaced
abbrev pub put_name : {X : Type 0} → List ℕ → X → List (List ℕ × X) → List (List ℕ × X)
put_name name value bands = put name_order name value bands

-- each name with its last value, in the order of names
abbrev pub last_of : {X : Type 0} → List (List ℕ × X) → List (List ℕ × X)
last_of entries = fold (λ bands entry. put_name entry.0 entry.1 bands) [] entries

-- Directories

-- The directory of these saves: each name with the text of its last save.
abbrev pub directory : List Save → List (List ℕ × List ℕ)
directory saves = last_of (map (λ save. (save.name, save.text)) saves)

-- each name with the length of its text
abbrev pub listing : List (List ℕ × List ℕ) → List (List ℕ × ℕ)
listing [] = []
listing (band ∷ bands) = (band.0, length band.1) ∷ listing bands

-- the text of the last save of a name
abbrev pub last_text : List ℕ → List Save → Option (List ℕ)
last_text name [] = None
last_text name (save ∷ saves) =
    if is_some (last_text name saves) then last_text name saves
    else if bytes_eq save.name name then Some save.text
    else None

-- the name of each save with the extent of its text, if the gate of the first record is at this position
abbrev pub placed : ℕ → List Save → List (List ℕ × Extent)
placed gate [] = []
placed gate (save ∷ saves) =
    (save.name, record { at = gate + 6 + length save.name; size = length save.text }) ∷ placed (gate + record_size save) saves

-- each name with the extent of the text of its last save
abbrev pub index : List Save → List (List ℕ × Extent)
index saves = last_of (placed first_gate saves)

-- each name with the length of its text
abbrev pub sizes : List (List ℕ × Extent) → List (List ℕ × ℕ)
sizes [] = []
sizes (band ∷ bands) = (band.0, band.1.size) ∷ sizes bands

-- Positions in a list of names

-- the name at this position
abbrev pub name_at : List (List ℕ × Extent) → ℕ → List ℕ
name_at bands i = let band = slice_index_or bands i ([], record { at = 0; size = 0 }) in band.0

-- the name is at this position, after names that are less
pub record IsAt (bands : List (List ℕ × Extent)) (name : List ℕ) (i : ℕ) : Type 0 where
  pub within : i < length bands
  pub here : name_at bands i ≡ name
  pub before : (j : ℕ) → j < i → name_order name (name_at bands j) ≡ Greater

-- the name would be at this position: after names that are less, and before names that are greater
pub record IsGap (bands : List (List ℕ × Extent)) (name : List ℕ) (i : ℕ) : Type 0 where
  pub within : i ≤ length bands
  pub before : (j : ℕ) → j < i → name_order name (name_at bands j) ≡ Greater
  pub behind : (j : ℕ) → i ≤ j → j < length bands → name_order name (name_at bands j) ≡ Less
