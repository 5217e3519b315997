-- What a run reads and writes, for each status.
use Rattle.std.specs.Prelude.{◌≡◌, ◌≢◌, ◌⊎◌, ◌≤◌, ◌<◌, ◌+◌, ◌^◌, ℕ, List, [], ◌∷◌, ◌++◌, length, drop, slice_index, Bool, true, false, Option, Some, None, Ok, IfSome, unwrap_or}
use Rattle.outer_ports.specs.Ports.{Gained, Gave, IsCut}
use Rattle.lisp_graph.specs.declared.command.Command.{Command}
use Rattle.lisp_graph.specs.declared.command.Command.TheVariants.{Dump}
use Rattle.lisp_graph.specs.declared.world.AreaRule.{AreaRule}
use Rattle.lisp_graph.specs.declared.world.World.{World}
use Rattle.paged_machine.specs.lisp_meaning.State.{State}
use Rattle.paged_machine.specs.lisp_meaning.Step.{Answer}
use Rattle.paged_machine.specs.lisp_meaning.Opening.{opening}
use Rattle.paged_machine.specs.lisp_meaning.Run.{Run}
use Rattle.line_input.specs.declared.statuses.status.Status.{Status}
use Rattle.line_input.specs.declared.statuses.status.Status.TheVariants.{Done, WriteFailed, Refused, ReadFailed, NoSpace, NoMemory, SwapFailed}
use Rattle.line_input.specs.declared.statuses.status.RunError.{RunError}
use Rattle.line_input.specs.declared.statuses.status.RunError.TheVariants.{Read as ReadTrouble, Memory, Swap}
use Rattle.line_input.specs.Lines.{lines_of, whole_lines}
use Rattle.line_input.specs.Reader.{no_feed, without_latest}
use Rattle.line_input.specs.Statuses.{status_of, trouble_line}
use Rattle.input_verdict.specs.Verdict.{Read, Whole, Broken, verdict, judged, start, world_of}
use Rattle.replay_run.specs.Replies.{Answered, Replies, answer_text, text_of}

-- the input is read up to its first line with trouble, which has this status, and `line` reports it
pub record Breaks (status : Status) (i : List ℕ) (read : Read) (line : List ℕ) : Type 0 where
  pub trouble : RunError
  pub verdict_is : verdict i ≡ record { read = read; ending = Broken trouble }
  pub status_is : status_of trouble ≡ status
  pub told : line ≡ trouble_line trouble

-- The bytes of b after the lines that were read decide nothing yet: there are none, or the last line of the input wasn't read and they are no more than a line may have; and b is within the limit of an input.
pub record IsUndecided (read : Read) (b : List ℕ) : Type 0 where
  pub part : (length b ≡ read.place.bytes) ⊎ ((read.place.judge.ended ≡ false) × (length b ≤ read.place.bytes + 32768))
  pub within : length b ≤ 2 ^ 40

-- The next command of the input is a dump, and all commands before it were read.
pub record BeforeDump (i : List ℕ) (read : Read) : Type 0 where
  pub world : world_of read.place ≡ world_of (verdict i).read.place
  pub later : List Command
  pub commands : (verdict i).read.commands ≡ read.commands ++ Dump ∷ later

-- the input has a world, and the world has an object
pub record HasObject (i : List ℕ) : Type 0 where
  pub world : World
  pub opened : world_of (verdict i).read.place ≡ Some world
  pub some : 0 < length world.objects

-- the lines of the input up to the first one with trouble open no world
abbrev pub HasNoWorld : List ℕ → Type 0
HasNoWorld i = world_of (verdict i).read.place ≡ None

-- the whole lines of b keep the rules, and open no world
pub record HasNoWorldYet (b : List ℕ) : Type 0 where
  pub read : Read
  pub lines : judged start (whole_lines (lines_of b)) ≡ Ok read
  pub none : world_of read.place ≡ None

-- if the input has no world before its first line with trouble, this holds
abbrev pub IfNoWorld : Option (List ℕ) → Type 0 → Type 0
IfNoWorld left holds = (i : List ℕ) → left ≡ Some i → HasNoWorld i → holds

-- if the whole lines that the source gave keep the rules and open no world, this holds
abbrev pub IfNoWorldYet : Option (List ℕ) → Option (List ℕ) → Type 0 → Type 0
IfNoWorldYet left left' holds = (i b : List ℕ) → left ≡ Some i → Gave (Some i) left' b → HasNoWorldYet b → holds

-- no command was executed, since the world isn't loaded
abbrev pub IsUnloaded : Bool → Read → Type 0
IsUnloaded loaded read = (read ≡ start) × (loaded ≡ false)

-- What is observed of a run: the input, the bytes of it that the source gave, and the length of the latest piece; the bytes that were written; the states that the machine represents, and whether its world is loaded; whether the source reported an error, and by how much the swap device's count of failed calls rose.
pub record Observed : Type 1 where
  pub input : List ℕ
  pub taken : List ℕ
  pub last : ℕ
  pub written : List ℕ
  pub stands : State → Type 0
  pub loaded : Bool
  pub source_rose : Type 0
  pub swap_rose : ℕ

-- What each status except that of the sink requires of what was observed: whose commands' replies are written, and which line after them.
abbrev pub Demands : Status → Observed → Read → List ℕ → Type 0
Demands Done o read line = (o.taken ≡ o.input) × (verdict o.input ≡ record { read = read; ending = Whole }) × (line ≡ [])
Demands Refused o read line = Breaks Refused o.input read line
Demands NoSpace o read line = Breaks NoSpace o.input read line × (read.commands ≡ [])
Demands ReadFailed o read line = (judged start (whole_lines (lines_of o.taken)) ≡ Ok read) × IsUndecided read o.taken × (line ≡ trouble_line ReadTrouble)
Demands NoMemory o read line = (IsUnloaded o.loaded read ⊎ BeforeDump o.input read) × (line ≡ trouble_line Memory)
Demands SwapFailed o read line = IsUnloaded o.loaded read × HasObject o.input × (line ≡ trouble_line Swap)
Demands _ o read line = ⊥

-- The bytes taken reach at most a buffer's length beyond the start of a line, and those taken before the latest piece have no line feed from this start on: once the line was taken, no more was.
pub record IsAheadOf (start last : ℕ) (taken : List ℕ) : Type 0 where
  pub buffer : length taken ≤ start + 32769
  pub lockstep : no_feed (drop start (without_latest last taken)) ≡ true

-- if i has a command n, counted from 0, this is true of the start of its line
abbrev pub IsAhead : ℕ → List ℕ → List ℕ → ℕ → Type 0
IsAhead n i b last = n < length (verdict i).read.starts → IsAheadOf (slice_index (verdict i).read.starts n) last b

-- w contains n of the answers in full, and a prefix of the next one, and not all of it
pub record IsCutAt (areas : List AreaRule) (answers : List Answer) (w : List ℕ) (n : ℕ) : Type 0 where
  pub before : List Answer
  pub answer : Answer
  pub after : List Answer
  pub split : answers ≡ before ++ answer ∷ after
  pub count : n ≡ length before
  pub part : List ℕ
  pub cut : IsCut (answer_text areas answer) part
  pub is : w ≡ text_of areas before ++ part

-- The sink failed in the reply to command n. The commands up to some later one were run.
pub record CutReply (o : Observed) : Type 0 where
  pub n : ℕ
  pub ahead : IsAhead n o.input o.taken o.last
  pub world : World
  pub opened : world_of (verdict o.input).read.place ≡ Some world
  pub done : List Command
  pub later : List Command
  pub commands : (verdict o.input).read.commands ≡ done ++ later
  pub text : List ℕ
  pub replies : Replies world done o.stands o.swap_rose text
  pub at : IsCutAt world.areas replies.answers o.written n
  -- so what was written is a prefix of the replies to all commands
  pub answers : List Answer
  pub last : State
  pub run : Run (opening world) (verdict o.input).read.commands answers last
  pub front : IsCut (text_of world.areas answers) o.written

-- if a status reports a device's failure, that device's count of failed calls rose: the source's, or the swap device's, by `rose`
abbrev pub IsCaused : Type 0 → ℕ → Status → Type 0
IsCaused source_rose rose ReadFailed = source_rose
IsCaused source_rose rose SwapFailed = 0 < rose
IsCaused source_rose rose _ = Unit {0}

-- before a world was opened the swap device's count of failed calls didn't rise, except at the status that reports this
abbrev pub IsUntouched : Status → Option World → ℕ → Type 0
IsUntouched status world rose = world ≡ None → status ≢ SwapFailed → rose ≡ 0

-- A run ended with this status: the replies to the commands that the status requires were written, and then its line. No more was taken than the line of the first command that isn't answered needed.
pub record EndsWith (status : Status) (o : Observed) : Type 0 where
  pub read : Read
  pub replies : List ℕ
  pub line : List ℕ
  pub demands : Demands status o read line
  pub answered : Answered (world_of read.place) read.commands o.stands o.swap_rose replies
  pub written : o.written ≡ replies ++ line
  pub ahead : IsAhead (length read.commands) o.input o.taken o.last
  pub untouched : IsUntouched status (world_of read.place) o.swap_rose

-- The sink failed in the line with which a run would have ended with another status. That status has its cause.
pub record CutLine (o : Observed) : Type 0 where
  pub status : Status
  pub whole : List ℕ
  pub ends : EndsWith status (record o { written = whole })
  pub cause : IsCaused o.source_rose o.swap_rose status
  pub part : List ℕ
  pub cut : IsCut ends.line part
  pub is : o.written ≡ ends.replies ++ part

-- what was read and written, by the status
abbrev pub Wrote : Status → Observed → Type 0
Wrote WriteFailed o = CutReply o ⊎ CutLine o
Wrote status o = EndsWith status o

-- A run that ended with this status, as its source and its sink report it. If the source doesn't report what remains, the input is what it gave. (Six parameters: what the source and the sink have, each before and after, what is observed, and the status.)
pub record Ran (left left' : Option (List ℕ)) (held held' : List ℕ → Type 0) (o : Observed) (status : Status) : Type 0 where
  pub input : IfSome left (λ bytes. bytes ≡ o.input)
  pub gave : Gave left left' o.taken
  pub rest : o.input ≡ o.taken ++ unwrap_or left' []
  pub gained : Gained held held' o.written
  pub wrote : Wrote status o

-- Memory ran out before the first command of the input i, when the world wasn't loaded yet: no more was taken than the line of that command needed, and only the error line is written. (Six parameters: the input, what remains of it, the length of the latest piece, what the sink has before and after, and whether a world is loaded.)
pub record IsEarly (i : List ℕ) (left' : Option (List ℕ)) (last : ℕ) (held held' : List ℕ → Type 0) (loaded : Bool) : Type 0 where
  pub b : List ℕ
  pub gave : Gave (Some i) left' b
  pub ahead : IsAhead 0 i b last
  pub alone : Gained held held' (trouble_line Memory)
  pub unloaded : loaded ≡ false
