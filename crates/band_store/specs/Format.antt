-- The bytes of a store: a header, and then records, each after a gate.
use Rattle.std.specs.Prelude.{◌≡◌, ◌≢◌, ◌⊎◌, ℕ, ◌+◌, ◌<◌, ◌≤◌, List, ◌∷◌, ◌++◌, length, take, sum_by, flat_map, codes, true}
use Rattle.std.specs.List.{AllByRecursion}
use Rattle.byteorder.specs.Endian.{big_bytes}
use Rattle.lisp_graph.specs.Name.{is_name}

-- a text that was saved under a name
pub record Save : Type 0 where
  pub name : List ℕ
  pub text : List ℕ

-- a name, and a text of at most 1,048,576 bytes
pub record IsSave (save : Save) : Type 0 where
  pub name : is_name save.name ≡ true
  pub text : length save.text ≤ 1048576

abbrev pub header : List ℕ
header = codes "LISPBND1"

-- the position of the first gate
abbrev pub first_gate : ℕ
first_gate = 8

-- A record, which follows a gate: the name's length in one byte and the name, the text's length in four bytes, the highest first, and the text.
abbrev pub record_of : Save → List ℕ
record_of save = length save.name ∷ (save.name ++ (big_bytes 4 (length save.text) ++ save.text))

-- how many bytes a record has, its gate included
abbrev pub record_size : Save → ℕ
record_size save = 6 + length save.name + length save.text

-- records after open gates
abbrev pub records : List Save → List ℕ
records saves = flat_map (λ save. 1 ∷ record_of save) saves

-- the position of the gate after the records of these saves
abbrev pub gate_behind : List Save → ℕ
gate_behind saves = first_gate + sum_by record_size saves

-- The bytes contain these saves, in order: the header, their records, and after them a gate that isn't open.
pub record Holds (saves : List Save) (bytes : List ℕ) : Type 0 where
  pub good : AllByRecursion IsSave saves
  pub gate : ℕ
  pub shut : gate ≢ 1
  pub behind : List ℕ
  pub is : bytes ≡ header ++ (records saves ++ gate ∷ behind)

-- the header, followed by a gate
abbrev pub HasHeader : List ℕ → Type 0
HasHeader bytes = (9 ≤ length bytes) × (take 8 bytes ≡ header)

-- the bytes don't begin with the header and a gate
abbrev pub IsNoStore : List ℕ → Type 0
IsNoStore bytes = (length bytes < 9) ⊎ (take 8 bytes ≢ header)

-- the bytes don't begin with a record and a gate
abbrev pub HasNoRecord : List ℕ → Type 0
HasNoRecord bytes = (save : Save) (gate : ℕ) (behind : List ℕ) → IsSave save → bytes ≡ record_of save ++ gate ∷ behind → ⊥

-- the first open gate without a record is at this position; the header and the records of saves precede it
pub record IsDamaged (at : ℕ) (bytes : List ℕ) : Type 0 where
  pub saves : List Save
  pub good : AllByRecursion IsSave saves
  pub gate : at ≡ gate_behind saves
  pub behind : List ℕ
  pub is : bytes ≡ header ++ (records saves ++ 1 ∷ behind)
  pub none : HasNoRecord behind

-- The bytes of a disk contain at most one list of saves, or have their first damage at one position, or are no store, and never two of these.
pub record BytesSayOneThing : Type 0 where
  pub saves : (bytes : List ℕ) (saves others : List Save) → Holds saves bytes → Holds others bytes → saves ≡ others
  pub place : (bytes : List ℕ) (at other : ℕ) → IsDamaged at bytes → IsDamaged other bytes → at ≡ other
  pub whole : (bytes : List ℕ) (saves : List Save) (at : ℕ) → Holds saves bytes → IsDamaged at bytes → ⊥
  pub held : (bytes : List ℕ) (saves : List Save) → Holds saves bytes → IsNoStore bytes → ⊥
  pub damaged : (bytes : List ℕ) (at : ℕ) → IsDamaged at bytes → IsNoStore bytes → ⊥
