-- What is at a gate.
use Rattle.std.specs.Prelude.{◌≡◌, ◌≢◌, ℕ, ◌≤◌, List, ◌∷◌, ◌++◌, length, true}
use Rattle.byteorder.specs.Endian.{big_bytes}
use Rattle.lisp_graph.specs.Name.{is_name}
use Rattle.band_store.specs.declared.format.HeaderState.{HeaderState}
use Rattle.band_store.specs.declared.format.HeaderState.TheVariants.{Shut, Record, Broken}
use Rattle.band_store.specs.Format.{HasNoRecord, IsSave, Save, record_of}

-- the bytes begin with the name of a record and the length of its text
pub record IsHead (name : List ℕ) (size : ℕ) (bytes : List ℕ) : Type 0 where
  pub named : is_name name ≡ true
  pub short : size ≤ 1048576
  pub behind : List ℕ
  pub is : bytes ≡ length name ∷ (name ++ (big_bytes 4 size ++ behind))

-- the bytes don't begin with them
abbrev pub HasNoHead : List ℕ → Type 0
HasNoHead bytes = (name : List ℕ) (size : ℕ) → IsHead name size bytes → ⊥

-- an open gate, followed by a record of this name with a text of this length, and by a gate
pub record IsRecordAt (name : List ℕ) (size : ℕ) (bytes : List ℕ) : Type 0 where
  pub save : Save
  pub good : IsSave save
  pub named : save.name ≡ name
  pub sized : length save.text ≡ size
  pub gate : ℕ
  pub behind : List ℕ
  pub is : bytes ≡ 1 ∷ (record_of save ++ gate ∷ behind)

-- what is at the gate with which the bytes begin
abbrev pub IsGate : List ℕ → HeaderState → Type 0
IsGate bytes Shut = (gate : ℕ) × (behind : List ℕ) × (gate ≢ 1) × (bytes ≡ gate ∷ behind)
IsGate bytes (Record name size) = IsRecordAt name size bytes
IsGate bytes Broken = (behind : List ℕ) × (bytes ≡ 1 ∷ behind) × HasNoRecord behind
