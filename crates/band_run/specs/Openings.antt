-- Which commands find the store open, over any disk.
use Rattle.std.specs.Prelude.{◌≡◌, ℕ, ◌+◌, ◌-◌, ◌^◌, ◌<◌, ◌≤◌, List, [], ◌∷◌, count_by, flat_map, sum_by, Bool, true, false, not, ◌&&◌}
use Rattle.band_run.specs.declared.reading.command.BandCommand.{BandCommand}
use Rattle.band_run.specs.declared.reading.command.BandCommand.TheVariants as C
use Rattle.band_run.specs.declared.reply.Reply.{Reply}
use Rattle.band_run.specs.declared.reply.Reply.TheVariants as R
use Rattle.band_run.specs.Replies.{is_fault, reply_text}

-- the command is answered only by an open store
abbrev pub needs_open : BandCommand → Bool
needs_open C.Open = false
needs_open _ = true

-- the reply says that the store isn't open
abbrev pub is_closed : Reply → Bool
is_closed R.Closed = true
is_closed _ = false

-- After an `open` that succeeded the store is open. After one that was refused, and after any reply `fault`, it is closed.
abbrev pub open_after : Bool → Reply → Bool
open_after opened (R.Opened count) = true
open_after opened R.NotAStore = false
open_after opened (R.Damaged at) = false
open_after opened R.Fault = false
open_after opened _ = opened

-- whether the store is open after these replies
abbrev pub opened_by : Bool → List Reply → Bool
opened_by opened [] = opened
opened_by opened (reply ∷ replies) = opened_by (open_after opened reply) replies

-- each command has a reply, which is `closed` if and only if the command needs an open store and the store isn't open
abbrev pub Replied : Bool → List BandCommand → List Reply → Type 0
Replied opened [] [] = Unit {0}
Replied opened (command ∷ commands) (reply ∷ replies) = (is_closed reply ≡ (needs_open command && not opened)) × Replied (open_after opened reply) commands replies
Replied opened _ _ = ⊥

-- whether a command finds the store open, and whether it is open afterwards
pub record Finds (command : BandCommand) (opened opened' : Bool) (reply : Reply) : Type 0 where
  pub closed : is_closed reply ≡ (needs_open command && not opened)
  pub then : opened' ≡ open_after opened reply

-- the greatest number of writes and syncs that a command with this reply requests: four for a save, also if it fails, and none otherwise
abbrev pub most_changes : Reply → ℕ
most_changes (R.Saved name) = 4
most_changes R.Fault = 4
most_changes _ = 0

-- The commands that were done have this text: a reply for each, from a store that is closed at first. The number of replies `fault` is at most the rise of the disk's count of failed calls, if that count isn't saturated; and if no reply is `fault`, the count is unchanged. No more writes and syncs were requested than `most_changes` allows for the replies.
pub record HasReplies (done : List BandCommand) (text : List ℕ) (before now asked asked' : ℕ) : Type 0 where
  pub replies : List Reply
  pub is : text ≡ flat_map reply_text replies
  pub replied : Replied false done replies
  pub few : now < 2 ^ 64 - 1 → count_by is_fault replies + before ≤ now
  pub quiet : count_by is_fault replies ≡ 0 → now ≡ before
  pub asks : asked' ≤ asked + sum_by most_changes replies

-- these are the replies so far, and the store is open or not
pub record HasRepliesSoFar (opened : Bool) (done : List BandCommand) (text : List ℕ) (before now asked asked' : ℕ) : Type 0 where
  pub so_far : HasReplies done text before now asked asked'
  pub ends : opened ≡ opened_by false so_far.replies
