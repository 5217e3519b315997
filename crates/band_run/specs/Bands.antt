-- Runs over saved bands: lists of commands, with one transition each.
use Rattle.std.specs.Prelude.{◌≡◌, ◌⊎◌, ℕ, ◌+◌, List, [], ◌∷◌, ◌++◌, length, sum_by, count_by, flat_map, nat_lt, Bool, true, false, if◌then◌else◌, Option, Some, None}
use Rattle.band_store.specs.Format.{Holds, IsDamaged, IsNoStore, Save, record_size}
use Rattle.band_store.specs.Directory.{directory, listing, named}
use Rattle.band_run.specs.declared.reading.command.BandCommand.{BandCommand}
use Rattle.band_run.specs.declared.reading.command.BandCommand.TheVariants as C
use Rattle.band_run.specs.declared.reply.Reply.{Reply}
use Rattle.band_run.specs.declared.reply.Reply.TheVariants as R
use Rattle.band_run.specs.Replies.{is_fault, list_text, reply_text}

-- States

-- The saves so far, in order; the save that may or may not be on the disk after them; and whether the store is open.
pub record BandState : Type 0 where
  pub saves : List Save
  pub pending : Option Save
  pub opened : Bool

-- the saves, followed by the pending one
abbrev pub with_pending : List Save → Option Save → List Save
with_pending saves None = saves
with_pending saves (Some save) = saves ++ save ∷ []

-- the state in which a run over these saves begins
abbrev pub start : List Save → BandState
start saves = record { saves = saves; pending = None; opened = false }

-- the store is open on these saves
abbrev pub opened_on : List Save → BandState
opened_on saves = record { saves = saves; pending = None; opened = true }

-- the store isn't open
abbrev pub closed : BandState → BandState
closed s = record s { opened = false }

-- what a run is given: the disk's room, and what each `open` answers if the disk has no store
pub record Given : Type 0 where
  pub room : ℕ
  pub refusal : Option Reply

-- Transitions

-- After an `open` the saves are the same, with the pending one or without it, and it answers how many names they have; or it answers `fault`. If the disk has no store, it answers that.
abbrev pub Opens : Option Reply → BandState → Reply → BandState → Type 0
Opens None old (R.Opened count) new =
    ((new ≡ opened_on old.saves) ⊎ (new ≡ opened_on (with_pending old.saves old.pending))) × (count ≡ length (directory new.saves))
Opens None old R.Fault new = new ≡ closed old
Opens None old _ new = ⊥
Opens (Some refusal) old reply new = ((reply ≡ refusal) ⊎ (reply ≡ R.Fault)) × (new ≡ closed old)

-- the room that a disk needs for these saves, one more save after them, and the gate after that
abbrev pub room_for : List Save → Save → ℕ
room_for saves save = 15 + sum_by record_size saves + length save.name + length save.text

-- why a save can't be made on a disk with this room, if it can't
abbrev pub save_refusal : ℕ → BandState → Save → Option Reply
save_refusal room s save =
    if s.opened then
    (if nat_lt 1048576 (length save.text) then Some (R.TooLarge (length save.text))
    else if nat_lt room (room_for s.saves save) then Some (R.Full (room_for s.saves save))
    else None)
    else Some R.Closed

-- A refused save changes nothing. A save that is made is acknowledged; if the disk fails, the answer is `fault`, the save is pending, and the store is closed.
abbrev pub Saves : Option Reply → BandState → Save → Reply → BandState → Type 0
Saves (Some refusal) old save reply new = (reply ≡ refusal) × (new ≡ old)
Saves None old save reply new =
    ((reply ≡ R.Saved save.name) × (new ≡ record old { saves = old.saves ++ save ∷ [] }))
    ⊎ ((reply ≡ R.Fault) × (new ≡ record old { pending = Some save; opened = false }))

-- the answer for a name with this last text
abbrev pub text_reply : List ℕ → Option (List ℕ) → Reply
text_reply name (Some text) = R.Loaded text
text_reply name None = R.NoBand name

-- what a load answers if the disk doesn't fail
abbrev pub load_reply : BandState → List ℕ → Reply
load_reply s name = if s.opened then text_reply name (named name (directory s.saves)) else R.Closed

-- A load changes nothing; or the disk fails, the answer is `fault`, and the store is closed.
abbrev pub Loads : BandState → List ℕ → Reply → BandState → Type 0
Loads old name reply new =
    ((reply ≡ load_reply old name) × (new ≡ old))
    ⊎ ((old.opened ≡ true) × (reply ≡ R.Fault) × (new ≡ closed old))

-- what a list answers
abbrev pub list_reply : BandState → Reply
list_reply s = if s.opened then R.Listed (list_text (listing (directory s.saves))) else R.Closed

-- what a command may answer, and the state after it
abbrev pub Step : Given → BandState → BandCommand → Reply → BandState → Type 0
Step given old C.Open reply new = Opens given.refusal old reply new
Step given old (C.Save name text) reply new =
    let save : Save = record { name = name; text = text } in Saves (save_refusal given.room old save) old save reply new
Step given old (C.Load name) reply new = Loads old name reply new
Step given old C.List reply new = (reply ≡ list_reply old) × (new ≡ old)

-- Runs

-- a reply and the state after it
pub record Stepped : Type 0 where
  pub reply : Reply
  pub state : BandState

-- these commands were run, with one transition each
abbrev pub Runs : Given → BandState → List BandCommand → List Stepped → Type 0
Runs given old [] [] = Unit {0}
Runs given old (command ∷ commands) (step ∷ steps) = Step given old command step.reply step.state × Runs given step.state commands steps
Runs given old _ _ = ⊥

-- the state after the last transition
abbrev pub last_state : BandState → List Stepped → BandState
last_state old [] = old
last_state old (step ∷ steps) = last_state step.state steps

-- some state of the run has P, including the first and the last one
abbrev pub AtSome : (BandState → Type 0) → BandState → List Stepped → Type 0
AtSome P old [] = P old
AtSome P old (step ∷ steps) = P old ⊎ AtSome P step.state steps

-- what is written for all replies
abbrev pub text_of : List Stepped → List ℕ
text_of steps = flat_map (λ step. reply_text step.reply) steps

-- how many of the replies are `fault`
abbrev pub faults_in : List Stepped → ℕ
faults_in steps = count_by (λ step. is_fault step.reply) steps

-- Disks

-- bytes that are no store, or are damaged; each `open` over them answers this, or `fault`
abbrev pub IsUnfit : List ℕ → Reply → Type 0
IsUnfit bytes R.NotAStore = IsNoStore bytes
IsUnfit bytes (R.Damaged at) = IsDamaged at bytes
IsUnfit bytes _ = ⊥

-- the bytes of a disk at the start of a run contain these saves; or they are no store or damaged, and then there are no saves
abbrev pub IsFirst : List ℕ → Option Reply → List Save → Type 0
IsFirst bytes None saves = Holds saves bytes
IsFirst bytes (Some refusal) saves = IsUnfit bytes refusal × (saves ≡ [])

-- An image of the disk (a possible post-crash state) contains the saves of the state, with or without the pending one after them; if the disk had no store at the start, the image is the first bytes.
abbrev pub IsImageOf : Option Reply → List ℕ → BandState → List ℕ → Type 0
IsImageOf None first s image = Holds s.saves image ⊎ Holds (with_pending s.saves s.pending) image
IsImageOf (Some refusal) first s image = image ≡ first
