-- A store and its disk during a run.
use Rattle.std.specs.Prelude.{◌≡◌, ◌⊎◌, ℕ, ◌+◌, ◌-◌, ◌^◌, ◌<◌, ◌≤◌, List, [], ◌++◌, length, true, false, Result, Ok, Err, IfSome, None}
use Rattle.outer_ports.specs.Ports.{Gained, IsCut, Rose}
use Rattle.outer_ports.specs.Buffers.{Gathered}
use Rattle.line_input.specs.declared.statuses.status.RunStop.{RunStop}
use Rattle.line_input.specs.declared.statuses.status.RunStop.TheVariants.{Write, Tell}
use Rattle.line_input.specs.declared.statuses.status.RunError.TheVariants.{Memory}
use Rattle.band_store.specs.band_disk.Disks.{LeavesOnly}
use Rattle.band_store.specs.Format.{Save}
use Rattle.band_store.specs.Store.{IsReady, Store}
use Rattle.band_run.specs.declared.reading.command.BandCommand.{BandCommand}
use Rattle.band_run.specs.declared.reply.Reply.{Reply}
use Rattle.lisp_graph.specs.store_word.declared.faults.NoMemory.{NoMemory}
use Rattle.band_run.specs.Bands.{AtSome, Given, IsImageOf, IsUnfit, Runs, BandState, Step, Stepped, faults_in, last_state, start, text_of}
use Rattle.band_run.specs.Openings.{Finds, HasRepliesSoFar, most_changes}
use Rattle.band_run.specs.Replies.{is_fault, reply_text}
use Rattle.band_run.specs.Answers.{Starts}

-- if the store is open, the disk contains what the store knows, and all of it is synced
abbrev pub IsUsable : Store → List ℕ → (List ℕ → Type 0) → Type 0
IsUsable store bytes images = store.opened ≡ true → (saves : List Save) × IsReady store bytes images saves

-- the store and its disk represent a state of a run over a disk that had these bytes at the start
pub record Stands (given : Given) (first : List ℕ) (s : BandState) (store : Store) (bytes : List ℕ) (room : ℕ) (images : List ℕ → Type 0) : Type 0 where
  pub opened : store.opened ≡ s.opened
  pub ready : s.opened ≡ true → IsReady store bytes images s.saves
  pub fit : s.opened ≡ true → given.refusal ≡ None
  pub unfit : IfSome given.refusal (IsUnfit first)
  pub room_is : room ≡ given.room
  pub images_are : (image : List ℕ) → images image → IsImageOf given.refusal first s image

-- A command got this reply by one transition from the state, and the store and the disk represent the state after it. A crash at any moment results in an image of one of the two states.
pub record Done {D : Type 0} (bytes : D → List ℕ) (space : D → ℕ) (images : D → List ℕ → Type 0) (clock : D → ℕ) (images_since : D → ℕ → List ℕ → Type 0)
    (given : Given) (first : List ℕ) (s : BandState) (command : BandCommand) (reply : Reply) (store : Store) (old new : D) : Type 0 where
  pub state : BandState
  pub step : Step given s command reply state
  pub stands : Stands given first state store (bytes new) (space new) (images new)
  pub leaves : LeavesOnly clock images_since old new (λ image. IsImageOf given.refusal first s image ⊎ IsImageOf given.refusal first state image)

-- A command wasn't answered, since memory ran out. A crash at any moment until then results in an image of the state.
pub record Undone {D : Type 0} (images : D → List ℕ → Type 0) (clock : D → ℕ) (images_since : D → ℕ → List ℕ → Type 0)
    (given : Given) (first : List ℕ) (s : BandState) (old new : D) : Type 0 where
  pub images_are : (image : List ℕ) → images new image → IsImageOf given.refusal first s image
  pub leaves : LeavesOnly clock images_since old new (IsImageOf given.refusal first s)

-- a command for which memory ran out, in each run in which the store and the disk represented a state
abbrev pub DidNot : {D : Type 0} → (D → List ℕ) → (D → ℕ) → (D → List ℕ → Type 0) → (D → ℕ) → (D → ℕ → List ℕ → Type 0) → Store → D → D → Type 0
DidNot bytes space images clock images_since store old new =
    (given : Given) (first : List ℕ) (s : BandState) → Stands given first s store (bytes old) (space old) (images old)
    → Undone images clock images_since given first s old new

-- what a command did to a store and its disk, by its result, in each run in which they represented a state. (Twelve parameters: a type of disks with the five things shown of a disk on which this depends, the command and its result, and store and disk, each before and after.)
abbrev pub Did : {D : Type 0} → (D → List ℕ) → (D → ℕ) → (D → List ℕ → Type 0) → (D → ℕ) → (D → ℕ → List ℕ → Type 0)
    → BandCommand → Store → Store → D → D → Result Reply NoMemory → Type 0
Did bytes space images clock images_since command store store' old new (Ok reply) =
    (given : Given) (first : List ℕ) (s : BandState) → Stands given first s store (bytes old) (space old) (images old)
    → Done bytes space images clock images_since given first s command reply store' old new
Did bytes space images clock images_since command store store' old new (Err _) = DidNot bytes space images clock images_since store old new

-- what a reply means for the disk's count of failed calls: it rose if the reply is `fault`, and otherwise it is unchanged
pub record Tells (reply : Reply) (before now : ℕ) : Type 0 where
  pub cause : is_fault reply ≡ true → Rose before now
  pub quiet : is_fault reply ≡ false → now ≡ before

-- no more writes and syncs were requested than `most_changes` allows for the reply
abbrev pub Asks : Reply → ℕ → ℕ → Type 0
Asks reply before now = now ≤ before + most_changes reply

-- Runs

-- A run so far: the commands that were done have these replies, by one transition each from the saves that the disk contained at the start, and the store and the disk represent the state after them.
pub record GoesOn {D : Type 0} (bytes : D → List ℕ) (space : D → ℕ) (images : D → List ℕ → Type 0) (clock : D → ℕ) (images_since : D → ℕ → List ℕ → Type 0) (faults : D → ℕ)
    (old now : D) (store : Store) (given : Given) (saves : List Save) (done : List BandCommand) (text : List ℕ) : Type 0 where
  pub steps : List Stepped
  pub run : Runs given (start saves) done steps
  pub is : text ≡ text_of steps
  pub few : faults now < 2 ^ 64 - 1 → faults_in steps + faults old ≤ faults now
  pub quiet : faults_in steps ≡ 0 → faults now ≡ faults old
  pub stands : Stands given (bytes old) (last_state (start saves) steps) store (bytes now) (space now) (images now)
  pub leaves : LeavesOnly clock images_since old now (λ image. AtSome (λ s. IsImageOf given.refusal (bytes old) s image) (start saves) steps)

-- a run so far, whatever the disk contained: the replies are as required, and if the disk started synced, they are those of a run
pub record GoesOnAnyway {D : Type 0} (bytes : D → List ℕ) (space : D → ℕ) (images : D → List ℕ → Type 0) (clock : D → ℕ) (images_since : D → ℕ → List ℕ → Type 0) (faults changes : D → ℕ) (old now : D) (store : Store) (done : List BandCommand) (text : List ℕ) : Type 0 where
  pub replies : HasRepliesSoFar store.opened done text (faults old) (faults now) (changes old) (changes now)
  pub one_run : (given : Given) (saves : List Save) → Starts (bytes old) (space old) (images old) given saves → GoesOn bytes space images clock images_since faults old now store given saves done text

-- The effect of a command: it was done, and its reply or a prefix of it was gathered; or memory ran out, nothing was gathered, and the disk counted no failed call, no write and no sync.
abbrev pub Acted : {D : Type 0} → (D → List ℕ) → (D → ℕ) → (D → List ℕ → Type 0) → (D → ℕ) → (D → ℕ → List ℕ → Type 0) → (D → ℕ) → (D → ℕ) → BandCommand → Store → Store → D → D
    → (List ℕ → Type 0) → (List ℕ → Type 0) → List ℕ → List ℕ → Result (Unit {0}) RunStop → Type 0
Acted bytes space images clock images_since faults changes command store store' old new held held' had pending (Ok _) =
    (reply : Reply) × Did bytes space images clock images_since command store store' old new (Ok reply) × Tells reply (faults old) (faults new) × Gathered held held' pending (had ++ reply_text reply)
    × Finds command store.opened store'.opened reply × Asks reply (changes old) (changes new)
Acted bytes space images clock images_since faults changes command store store' old new held held' had pending (Err Write) =
    (reply : Reply) × Did bytes space images clock images_since command store store' old new (Ok reply) × Tells reply (faults old) (faults new)
    × ((front : List ℕ) × IsCut (reply_text reply) front × Gathered held held' pending (had ++ front))
    × Finds command store.opened store'.opened reply × Asks reply (changes old) (changes new)
Acted bytes space images clock images_since faults changes command store store' old new held held' had pending (Err (Tell trouble)) =
    (trouble ≡ Memory) × DidNot bytes space images clock images_since store old new × Gathered held held' pending had × (faults new ≡ faults old) × (changes new ≡ changes old)

-- Commands that were run to their end, or until the run stopped: those that were done, the others, and the text of the replies, of which the last bytes are pending. If the sink failed, it gained a prefix of the text. (Six parameters: which texts answer commands, the commands, what the sink has before and after, the pending bytes, and the result.)
abbrev pub RanTo : (List BandCommand → List BandCommand → List ℕ → Type 0) → List BandCommand → (List ℕ → Type 0) → (List ℕ → Type 0) → List ℕ → Result (Unit {0}) RunStop → Type 0
RanTo answers commands held held' pending (Ok _) = (text : List ℕ) × answers commands [] text × Gathered held held' pending text
RanTo answers commands held held' pending (Err Write) =
    (done later : List BandCommand) × (text w : List ℕ) × (commands ≡ done ++ later) × answers done later text × IsCut text w × Gained held held' w
RanTo answers commands held held' pending (Err (Tell trouble)) =
    (done later : List BandCommand) × (text : List ℕ) × (trouble ≡ Memory) × (commands ≡ done ++ later) × (0 < length later) × answers done later text × Gathered held held' pending text
