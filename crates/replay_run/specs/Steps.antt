-- A run up to its last line.
use Rattle.std.specs.Prelude.{◌≡◌, ◌≢◌, ◌⊎◌, ◌+◌, ◌-◌, ◌^◌, ◌≤◌, ◌<◌, ℕ, List, [], ◌++◌, length, Option, Some, None, Result, Ok, Err, IfSome, unwrap_or, MatchResult, IfErr, count_by, true, false}
use Rattle.outer_ports.specs.Ports.{Gained, Gave}
use Rattle.outer_ports.specs.Buffers.{Buffered as Buffer, Gathered, Gathers}
use Rattle.lisp_graph.specs.declared.command.Command.{Command}
use Rattle.lisp_graph.specs.declared.command.Command.TheVariants.{Dump}
use Rattle.lisp_graph.specs.declared.world.World.{World}
use Rattle.paged_machine.specs.lisp_meaning.State.{State}
use Rattle.paged_machine.specs.lisp_meaning.Step.{Answer}
use Rattle.paged_machine.specs.lisp_meaning.Opening.{opening}
use Rattle.paged_machine.specs.lisp_meaning.Sound.{IsSound}
use Rattle.paged_machine.specs.lisp_meaning.Run.{Does as DoesIn, Run}
use Rattle.line_input.specs.declared.lines.found.LineSpan.{LineSpan}
use Rattle.line_input.specs.declared.statuses.status.Status.{Status}
use Rattle.line_input.specs.declared.statuses.status.RunError.TheVariants as T
use Rattle.line_input.specs.declared.statuses.status.RunStop.{RunStop}
use Rattle.line_input.specs.declared.statuses.status.RunStop.TheVariants.{Write, Tell}
use Rattle.line_input.specs.Reader.{FitsIn, Buffered, IsNext, IsPart, no_feed, without_latest}
use Rattle.line_input.specs.Statuses.{outcome_line, outcome_status}
use Rattle.paged_machine.specs.Asks.{IsOf}
use Rattle.input_verdict.specs.Events.{Event, Nothing, Opens, Does}
use Rattle.lisp_graph.specs.Commands.{IsRunnable}
use Rattle.input_verdict.specs.Verdict.{Ending, Whole, Broken, Read, world_of}
use Rattle.replay_run.specs.declared.halt.LoopExit.{LoopExit}
use Rattle.replay_run.specs.declared.halt.LoopExit.TheVariants as halts
use Rattle.replay_run.specs.Replies.{Answered, answer_text, is_fault, text_of}
use Rattle.replay_run.specs.Outcome.{CutReply, Demands, IsAhead, IsUntouched, Observed}

-- The replies of one run of these commands. The sink gained w of them, and the rest is pending. The sink gained the replies to the first m commands in full.
pub record Told (world : World) (commands : List Command) (stands : State → Type 0) (rose : ℕ) (w pending : List ℕ) (m : ℕ) : Type 0 where
  pub first : List Answer
  pub later : List Answer
  pub last : State
  pub run : Run (opening world) commands (first ++ later) last
  pub state : stands last
  pub faults : count_by is_fault (first ++ later) ≤ rose
  pub quiet : count_by is_fault (first ++ later) ≡ 0 → rose ≡ 0
  pub count : m ≡ length first
  pub given : List ℕ
  pub is : w ≡ text_of world.areas first ++ given
  pub rest : text_of world.areas later ≡ given ++ pending

-- before a world was opened there are no commands and no replies, and the swap device's count of failed calls didn't rise
abbrev pub ToldOf : Option World → List Command → (State → Type 0) → ℕ → List ℕ → List ℕ → ℕ → Type 0
ToldOf None commands stands rose w pending m = (commands ≡ []) × (w ≡ []) × (pending ≡ []) × (m ≡ 0) × (rose ≡ 0)
ToldOf (Some world) commands stands rose w pending m = Told world commands stands rose w pending m

pub record Tells (world : Option World) (commands : List Command) (stands : State → Type 0) (rose : ℕ) (w pending : List ℕ) (m : ℕ) : Type 0 where
  pub told : ToldOf world commands stands rose w pending m

-- A run stopped with a status that requires a line; the rest of the replies is pending. If the sink fails in what is pending, it fails in a reply.
pub record StopsAt (status : Status) (line : List ℕ) (o : Observed) (pending : List ℕ) : Type 0 where
  pub read : Read
  pub demands : Demands status o read line
  pub answered : Answered (world_of read.place) read.commands o.stands o.swap_rose (o.written ++ pending)
  pub untouched : IsUntouched status (world_of read.place) o.swap_rose
  pub far : IsAhead (length read.commands) o.input o.taken o.last
  pub cut : (front rest : List ℕ) → pending ≡ front ++ rest → 0 < length rest → CutReply (record o { written = o.written ++ front })

-- how a run stopped: in a reply, or with a status that requires a line
abbrev pub Stopped : Result (Unit {0}) RunStop → Observed → List ℕ → Type 0
Stopped (Err Write) o pending = CutReply o
Stopped result o pending = StopsAt (outcome_status result) (outcome_line result) o pending

-- a run that stopped, as its source and its sink report it. (Seven parameters: what the source and the sink have, each before and after, what is observed, the pending bytes, and the result.)
pub record RanTo (left left' : Option (List ℕ)) (held held' : List ℕ → Type 0) (o : Observed) (pending : List ℕ) (result : Result (Unit {0}) RunStop) : Type 0 where
  pub input : IfSome left (λ bytes. bytes ≡ o.input)
  pub gave : Gave left left' o.taken
  pub rest : o.input ≡ o.taken ++ unwrap_or left' []
  pub gained : Gained held held' o.written
  pub stopped : Stopped result o pending

-- how a run with this halt stops
abbrev pub stop_of : LoopExit → RunStop
stop_of halts.Write = Write
stop_of halts.Read = Tell T.Read
stop_of halts.Memory = Tell T.Memory
stop_of halts.Swap = Tell T.Swap

-- a state that a run in this world reaches
pub record IsReached (world : World) (s : State) : Type 0 where
  pub of : IsOf world s
  pub sound : IsSound s

-- The machine represents such a state, and the world has at most 16 areas.
pub record IsIn (world : World) (stands : State → Type 0) : Type 0 where
  pub state : State
  pub stood : stands state
  pub reached : IsReached world state
  pub few : length world.areas ≤ 16

-- The command was answered from this state: the machine represents the next state, the count of failed page calls rose if and only if the answer is `fault`, and the text was gathered after what was pending, or a prefix of it if the sink failed.
pub record Answers (world : World) (command : Command) (old : State) (stands : State → Type 0) (faults faults' : ℕ) (held held' : List ℕ → Type 0) (had pending : List ℕ) (result : Result (Unit {0}) LoopExit) : Type 0 where
  pub answer : Answer
  pub new : State
  pub does : DoesIn old command answer new
  pub state : stands new
  pub fault : is_fault answer ≡ true → faults < faults'
  pub quiet : is_fault answer ≡ false → faults' ≡ faults
  pub gathers : Gathers held held' had pending (answer_text world.areas answer) result
  pub write : IfErr result (λ halt. halt ≡ halts.Write)

-- Memory ran out at a dump, which changed nothing.
pub record HasNoRoom (command : Command) (old : State) (stands : State → Type 0) (faults faults' : ℕ) (held held' : List ℕ → Type 0) (had pending : List ℕ) (result : Result (Unit {0}) LoopExit) : Type 0 where
  pub dump : command ≡ Dump
  pub halt : result ≡ Err halts.Memory
  pub state : stands old
  pub quiet : faults' ≡ faults
  pub gathered : Gathered held held' pending had

-- if the buffer has room for this many more bytes, and the sink's count of failed calls isn't saturated, this holds
abbrev pub IfItFits : Buffer → ℕ → ℕ → Type 0 → Type 0
IfItFits buffer size faults holds = length buffer.pending + size ≤ buffer.room → faults < 2 ^ 64 - 1 → holds

-- a buffer has room for any answer except that of a dump, and the sink's count of failed calls isn't saturated
pub record HasRoom (buffer : Buffer) (faults : ℕ) : Type 0 where
  pub room : length buffer.pending + 1024 ≤ buffer.room
  pub few : faults < 2 ^ 64 - 1

-- The sink failed in a dump, which changed nothing: the machine still represents what it represented.
pub record FailsInDump (command : Command) (stood stands : State → Type 0) (faults faults' : ℕ) : Type 0 where
  pub dump : command ≡ Dump
  pub state : (s : State) → stood s → stands s
  pub quiet : faults' ≡ faults

-- what a command did, from each state that the machine represented
abbrev pub Served : World → Command → (State → Type 0) → (State → Type 0) → ℕ → ℕ → (List ℕ → Type 0) → (List ℕ → Type 0) → List ℕ → List ℕ → Result (Unit {0}) LoopExit → Type 0
Served world command stood stands faults faults' held held' had pending result =
    (old : State) → stood old → IsReached world old
    → Answers world command old stands faults faults' held held' had pending result ⊎ HasNoRoom command old stands faults faults' held held' had pending result

-- what an event did to the machine, to what is pending, and to the sink
abbrev pub Acted : Event → World → (State → Type 0) → (State → Type 0) → ℕ → ℕ → (List ℕ → Type 0) → (List ℕ → Type 0) → List ℕ → List ℕ → Result (Unit {0}) LoopExit → Type 0
Acted Nothing world stood stands faults faults' held held' had pending result =
    MatchResult result (λ _. Gathered held held' pending had × ((state : State) → stood state → stands state) × (faults' ≡ faults)) (λ _. ⊥)
Acted Opens world stood stands faults faults' held held' had pending result =
    Gathered held held' pending had × MatchResult result (λ _. stands (opening world) × (faults' ≡ faults)) (λ halt. ((halt ≡ halts.Memory) × (faults' ≡ faults)) ⊎ ((halt ≡ halts.Swap) × (world.objects ≢ [])))
Acted (Does command) world stood stands faults faults' held held' had pending result =
    (faults ≤ faults') × Served world command stood stands faults faults' held held' had pending result

-- which commands the machine takes after an event, and whether it is idle
abbrev pub TakesAfter : Event → World → (Command → Type 0) → (Command → Type 0) → Type 0 → Type 0 → Type 0
TakesAfter Nothing world took takes was_idle is_idle = ((command : Command) → took command → takes command) × (was_idle → is_idle)
TakesAfter Opens world took takes was_idle is_idle = (command : Command) → IsRunnable world command → takes command
TakesAfter (Does _) world took takes was_idle is_idle = (command : Command) → took command → takes command

-- a reader that looked for the next line: it found one, or the end of the input, or the source failed before there was a line, or the sink failed with something pending
abbrev pub Fetched : Buffered → ℕ → List ℕ → Result (Option LineSpan) LoopExit → Type 0
Fetched held enough pending (Ok next) = IsNext held enough next × IfSome next (FitsIn held)
Fetched held enough pending (Err halts.Write) = 0 < length pending
Fetched held enough pending (Err halts.Read) = IsPart held enough × (held.ended ≡ false)
Fetched held enough pending (Err _) = ⊥

-- What a call took of the source, to find the next line: one piece after another, which follow the bytes that were buffered. It took none at the source's end, and before it took any, the sink was given all that was pending; the pieces before the last contain no line feed.
pub record Filled (left left' : Option (List ℕ)) (last last' : ℕ) (old new : Buffered) (held held' : List ℕ → Type 0) (had pending : List ℕ) : Type 0 where
  pub piece : List ℕ
  pub gave : Gave left left' piece
  pub is : new.bytes ≡ old.bytes ++ piece
  pub once : old.ended ≡ true → piece ≡ []
  pub later : ((piece ≡ []) × (last' ≡ last)) ⊎ ((pending ≡ []) × (no_feed (without_latest last' new.bytes) ≡ true))
  pub ended : old.ended ≡ true → new.ended ≡ true
  pub buffer : length new.bytes ≤ 32769
  pub gathered : Gathered held held' pending had

-- how a run stops when the input ends
abbrev pub closed : Ending → Result (Unit {0}) RunStop
closed Whole = Ok tt
closed (Broken trouble) = Err (Tell trouble)
