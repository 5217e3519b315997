-- The replies of a run over a disk.
use Rattle.std.specs.Prelude.{◌≡◌, ℕ, ◌+◌, ◌-◌, ◌^◌, ◌<◌, ◌≤◌, List}
use Rattle.band_store.specs.band_disk.Disks.{Only}
use Rattle.band_store.specs.Format.{Save}
use Rattle.band_run.specs.declared.reading.command.BandCommand.{BandCommand}
use Rattle.band_run.specs.Openings.{HasReplies}
use Rattle.band_run.specs.Bands.{AtSome, Given, IsFirst, IsImageOf, Runs, Stepped, faults_in, last_state, start, text_of}

-- a disk that starts synced has this room, and its bytes contain these saves, or are no store or damaged
pub record Starts (bytes : List ℕ) (room : ℕ) (images : List ℕ → Type 0) (given : Given) (saves : List Save) : Type 0 where
  pub synced : Only bytes images
  pub room_is : room ≡ given.room
  pub holds : IsFirst bytes given.refusal saves

-- One run of the commands that were done has this text. The run could go on with the later commands, which weren't run.
pub record Replies {D : Type 0} (bytes : D → List ℕ) (images : D → List ℕ → Type 0) (clock : D → ℕ) (images_since : D → ℕ → List ℕ → Type 0) (faults : D → ℕ)
    (old new : D) (given : Given) (saves : List Save) (done later : List BandCommand) (text : List ℕ) : Type 0 where
  pub steps : List Stepped
  pub run : Runs given (start saves) done steps
  pub is : text ≡ text_of steps
  -- the number of replies `fault` is at most the rise of the disk's count of failed calls, if that count isn't saturated
  pub few : faults new < 2 ^ 64 - 1 → faults_in steps + faults old ≤ faults new
  -- and if no reply is `fault`, that count is unchanged
  pub quiet : faults_in steps ≡ 0 → faults new ≡ faults old
  -- each image of the disk (a possible post-crash state) is one of the run's last state; a crash at any moment since the start would have resulted in one of some state of the run
  pub exit : (image : List ℕ) → images new image → IsImageOf given.refusal (bytes old) (last_state (start saves) steps) image
  pub moments : (image : List ℕ) → images_since new (clock old) image → AtSome (λ s. IsImageOf given.refusal (bytes old) s image) (start saves) steps
  pub more : List Stepped
  pub goes_on : Runs given (last_state (start saves) steps) later more
  pub calm : faults_in more ≡ 0

-- Whatever the disk contained, the text is that of replies, of which `closed` and `fault` are as required, and which bound the number of requested writes and syncs; and if the disk started synced, they are the replies of one run from there. (Thirteen parameters: a type of disks with the seven things shown of a disk, the disk before and after, the commands that were done and the others, and the text.)
pub record Answers {D : Type 0} (bytes : D → List ℕ) (space : D → ℕ) (images : D → List ℕ → Type 0) (clock : D → ℕ) (images_since : D → ℕ → List ℕ → Type 0) (faults changes : D → ℕ)
    (old new : D) (done later : List BandCommand) (text : List ℕ) : Type 0 where
  pub replies : HasReplies done text (faults old) (faults new) (changes old) (changes new)
  pub one_run : (given : Given) (saves : List Save) → Starts (bytes old) (space old) (images old) given saves
      → Replies bytes images clock images_since faults old new given saves done later text
