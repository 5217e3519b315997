-- A store and its disk.
use Rattle.std.specs.Prelude.{◌≡◌, ◌⊎◌, ℕ, ◌+◌, List, [], ◌∷◌, ◌++◌, length, take, drop, nat_lt, Bool, true, false, if◌then◌else◌, Result, Ok, Err, IfErr}
use Rattle.band_disk.specs.Disks.{Only}
use Rattle.band_store.specs.declared.directory.Extent.{Extent}
use Rattle.band_store.specs.declared.faults.OpenFault.{OpenFault}
use Rattle.band_store.specs.declared.faults.OpenFault.TheVariants as O
use Rattle.band_store.specs.declared.faults.SaveFault.{SaveFault}
use Rattle.band_store.specs.declared.faults.SaveFault.TheVariants as S
use Rattle.band_store.specs.declared.faults.LoadFault.{LoadFault}
use Rattle.band_store.specs.declared.faults.LoadFault.TheVariants as L
use Rattle.band_store.specs.Directory.{index}
use Rattle.band_store.specs.Format.{Holds, IsDamaged, IsNoStore, Save, gate_behind}

-- what a store knows: whether it is open, the extent of the last text of each name, and the position of the next gate
pub record Store : Type 0 where
  pub opened : Bool
  pub bands : List (List ℕ × Extent)
  pub gate : ℕ

abbrev pub closed : Store
closed = record { opened = false; bands = []; gate = 0 }

-- the store is open on these bytes, which contain these saves
pub record IsOpenOn (store : Store) (bytes : List ℕ) (saves : List Save) : Type 0 where
  pub opened : store.opened ≡ true
  pub holds : Holds saves bytes
  pub names : store.bands ≡ index saves
  pub next : store.gate ≡ gate_behind saves

-- and everything on its disk is synced
pub record IsReady (store : Store) (bytes : List ℕ) (images : List ℕ → Type 0) (saves : List Save) : Type 0 where
  pub here : IsOpenOn store bytes saves
  pub durable : Only bytes images

-- Opening

-- why these bytes can't be opened
abbrev pub IsRefused : List ℕ → OpenFault → Type 0
IsRefused bytes O.NotAStore = IsNoStore bytes
IsRefused bytes (O.Damaged at) = IsDamaged at bytes
IsRefused bytes O.Disk = Unit {0}
IsRefused bytes O.NoMemory = Unit {0}

-- the result is this one, unless the disk failed or memory ran out
abbrev pub IsOpenAnswer : Result ℕ OpenFault → Result ℕ OpenFault → Type 0
IsOpenAnswer wanted result = (result ≡ wanted) ⊎ (result ≡ Err O.Disk) ⊎ (result ≡ Err O.NoMemory)

-- Saving

-- The position that the gate after a record of this save would have on a disk with this room, or why the record can't be written.
abbrev pub checked : Store → ℕ → Save → Result ℕ SaveFault
checked store room save =
    if store.opened then
    (if nat_lt 1048576 (length save.text) then Err (S.TooLarge (length save.text))
    else if nat_lt room (store.gate + 7 + length save.name + length save.text) then Err (S.Full (store.gate + 7 + length save.name + length save.text))
    else Ok (store.gate + 6 + length save.name + length save.text))
    else Err S.Closed

-- a save returns why the record can't be written, if it can't; otherwise it fails only if the disk failed or memory ran out
abbrev pub IsSaveAnswer : Result ℕ SaveFault → Result (Unit {0}) SaveFault → Type 0
IsSaveAnswer (Err fault) result = result ≡ Err fault
IsSaveAnswer (Ok gate) result = IfErr result (λ fault. (fault ≡ S.Disk) ⊎ (fault ≡ S.NoMemory))

-- The possible post-crash states while a record is written after the gate at this position: up to the gate nothing has changed; or the record is whole, and the gate is any byte.
abbrev pub IsTornRecord : ℕ → List ℕ → List ℕ → List ℕ → Type 0
IsTornRecord gate bytes old image =
    (take (gate + 1) image ≡ take (gate + 1) old)
    ⊎ ((byte : ℕ) × (image ≡ take gate old ++ byte ∷ (bytes ++ drop (gate + 1 + length bytes) old)))

-- the image (a post-crash state) contains these saves, with or without this one added
abbrev pub IsWithOrWithout : List Save → Save → List ℕ → Type 0
IsWithOrWithout saves save image = Holds saves image ⊎ Holds (saves ++ save ∷ []) image

-- Loading

-- a load returns that the store is closed if and only if it is
abbrev pub IsLoadAnswer : {T : Type 0} → Store → Result T LoadFault → Type 0
IsLoadAnswer store (Err L.Closed) = store.opened ≡ false
IsLoadAnswer store result = store.opened ≡ true
