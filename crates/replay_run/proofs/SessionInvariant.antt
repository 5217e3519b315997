-- What holds between two lines.
use Rattle.std.proofs.Common.{◌≡◌, ◌⊎◌, inl, inr, ℕ, ◌+◌, ◌-◌, ◌<◌, ◌≤◌, ◌^◌, List, [], ◌∷◌, ◌++◌, length, take, drop, get_or, true, Option, Some, None, Ok, Err, refl, sym, ap, ◌∙◌, subst, arith}
use Rattle.std.proofs.lemmas.List.{append-nil, drop-drop, length-append, take_all, get_or_at, get_or_append_left}
use Rattle.std.proofs.Math.Seq.{take-nil}
use Rattle.std.proofs.lemmas.Bool.{cases_lt}
use Rattle.outer_ports.specs.Ports.{Gained}
use Rattle.outer_ports.specs.Buffers.{Gathered}
use Rattle.outer_ports.proofs.Gains.{gained_more, gained_nothing, gave_nothing}
use Rattle.lisp_graph.specs.declared.command.Command.{Command}
use Rattle.lisp_graph.specs.declared.world.World.{World}
use Rattle.paged_machine.specs.lisp_meaning.State.{State}
use Rattle.line_input.specs.declared.lines.found.LineSpan.{LineSpan}
use Rattle.line_input.specs.declared.statuses.status.RunError.TheVariants.{Line as OfLine}
use Rattle.line_input.specs.Lines.{Line, lines_of, size_of}
use Rattle.line_input.specs.Reader.{Buffered, IsAllBuffered, IsFound, no_feed, without_latest}
use Rattle.line_input.proofs.Cuts.{Passes, passes_whole, passes_last, lines_long}
use Rattle.line_input.proofs.LineFeeds.{drop_latest, no_feed-drop}
use Rattle.line_input.proofs.ReaderInvariant.{Taken, at_least, taken_more, taken_start}
use Rattle.input_verdict.specs.Input.{JudgedInput, start_place}
use Rattle.lisp_graph.specs.Commands.{IsRunnable}
use Rattle.input_verdict.specs.Verdict.{Next, Read, enough, judged, judged_as, verdict, start, ended, world_of}
use Rattle.input_verdict.proofs.AcceptedLines.{front_reason, judged_front}
use Rattle.input_verdict.proofs.VerdictInvariant.{AreInLimits, IsFrom, judged_keeps}
use Rattle.replay_run.specs.Outcome.{IsAhead, IsAheadOf}
use Rattle.replay_run.specs.Steps.{Filled, Tells}
use Rattle.replay_run.proofs.BufferedReplies.{tells_moved, tells_whole}

pub record Going (left left' : Option (List ℕ)) (last : ℕ) (held held' : List ℕ → Type 0) (stands : State → Type 0) (takes : Command → Type 0) (idle : Type 0) (before now : ℕ) (place : JudgedInput) (reader : Buffered) (pending : List ℕ) : Type 0 where
  pub lines : List Line
  pub b : List ℕ
  pub w : List ℕ
  pub read : Read
  -- m replies and `base` bytes preceded the bytes that were taken last
  pub m : ℕ
  pub base : ℕ
  -- the bytes are the lines, followed by what is buffered
  pub taken : Taken left left' lines b place.bytes reader
  pub gained : Gained held held' w
  -- the lines were read
  pub judges : (rest : List Line) → judged start (lines ++ rest) ≡ judged read rest
  pub at : read.place ≡ place
  pub counts : length read.starts ≡ length read.commands
  pub limits : AreInLimits read.commands
  -- and their commands were answered
  pub tells : Tells (world_of place) read.commands stands (now - before) w pending m
  -- once the world is open, the machine takes each command that can be run; before, it is idle
  pub takes_all : (world : World) → world_of place ≡ Some world → (command : Command) → IsRunnable world command → takes command
  pub idle_before : world_of place ≡ None → idle
  pub later : before ≤ now
  -- no more bytes were taken than the buffer has room for
  pub near : length b ≤ base + 32769
  -- and what was taken before the latest piece ends before the line feed of the line that starts here, or of a later one
  pub feedless : no_feed (drop base (without_latest last b)) ≡ true
  pub behind : (n : ℕ) → m ≤ n → n < length read.starts → base ≤ get_or read.starts n 0
  pub reached : base ≤ place.bytes

pub going_start : {left : Option (List ℕ)} {last : ℕ} {held : List ℕ → Type 0} {stands : State → Type 0} {takes : Command → Type 0} {idle : Type 0} (faults : ℕ) (reader : Buffered) (pending : List ℕ) → reader.bytes ≡ [] → pending ≡ [] → idle
    → Going left left last held held stands takes idle faults faults start_place reader pending
going_start {left} {last} faults reader pending none nothing idle = record {
  lines = [];
  b = [];
  w = [];
  read = start;
  m = 0;
  base = 0;
  taken = taken_start reader none;
  gained = gained_nothing;
  judges = λ rest. refl;
  at = refl;
  counts = refl;
  limits = tt;
  tells = record { told = (refl, refl, nothing, refl, omega arith) };
  takes_all = λ world opened. absurd (cc (opened));
  idle_before = λ _. idle;
  later = omega arith;
  near = omega arith;
  feedless = ap no_feed (take-nil (0 - last));
  behind = λ n _ l. absurd (omega arith);
  reached = omega arith;
}

-- the sink gained more of what was pending, and the machine still represents what it represented
unfoldable pub going_given : {left left' : Option (List ℕ)} {last : ℕ} {held held' held'' : List ℕ → Type 0} {stands stands' : State → Type 0} {takes : Command → Type 0} {idle : Type 0} {before now now' : ℕ} {place : JudgedInput} {reader : Buffered} {pending pending' : List ℕ}
    (going : Going left left' last held held' stands takes idle before now place reader pending) (g : Gathered held' held'' pending' pending) → Tells (world_of place) going.read.commands stands' (now' - before) (going.w ++ g.given) pending' going.m → now ≤ now'
    → Going left left' last held held'' stands' takes idle before now' place reader pending'
going_given going g tells rose = record {
  lines = going.lines;
  b = going.b;
  w = going.w ++ g.given;
  read = going.read;
  m = going.m;
  base = going.base;
  taken = going.taken;
  gained = gained_more going.gained g.gained;
  judges = going.judges;
  at = going.at;
  counts = going.counts;
  limits = going.limits;
  tells = tells;
  takes_all = going.takes_all;
  idle_before = going.idle_before;
  later = omega (arith, going.later);
  near = going.near;
  feedless = going.feedless;
  behind = going.behind;
  reached = going.reached;
}

-- more bytes were taken, after what was pending was given
pub going_filled : {left left' left'' : Option (List ℕ)} {last last' : ℕ} {held held' held'' : List ℕ → Type 0} {stands : State → Type 0} {takes : Command → Type 0} {idle : Type 0} {before now : ℕ} {place : JudgedInput} {reader : Buffered} (reader' : Buffered) {pending pending' : List ℕ}
    → Going left left' last held held' stands takes idle before now place reader pending → Filled left' left'' last last' reader reader' held' held'' pending pending' → Going left left'' last' held held'' stands takes idle before now place reader' pending'
going_filled {left} {left'} {left''} {last} {last'} {held} {held'} {held''} {stands} {takes} {idle} {before} {now} {place} {reader} reader' {pending} {pending'} going f = go f.later
  where
    taken : Taken left left'' going.lines (going.b ++ f.piece) place.bytes reader'
    taken = taken_more reader' f.piece going.taken f.gave f.is f.once f.ended

    filled : (m base : ℕ) → Tells (world_of place) going.read.commands stands (now - before) (going.w ++ f.gathered.given) pending' m → length (going.b ++ f.piece) ≤ base + 32769 → no_feed (drop base (without_latest last' (going.b ++ f.piece))) ≡ true
        → ((n : ℕ) → m ≤ n → n < length going.read.starts → base ≤ get_or going.read.starts n 0) → base ≤ place.bytes
        → Going left left'' last' held held'' stands takes idle before now place reader' pending'
    filled m base tells near feedless behind reached = record {
      lines = going.lines;
      b = going.b ++ f.piece;
      w = going.w ++ f.gathered.given;
      read = going.read;
      m = m;
      base = base;
      taken = taken;
      gained = gained_more going.gained f.gathered.gained;
      judges = going.judges;
      at = going.at;
      counts = going.counts;
      limits = going.limits;
      tells = tells;
      takes_all = going.takes_all;
      idle_before = going.idle_before;
      later = going.later;
      near = near;
      feedless = feedless;
      behind = behind;
      reached = reached;
    }

    -- nothing was taken
    same : (f.piece ≡ []) → last' ≡ last → without_latest last going.b ≡ without_latest last' (going.b ++ f.piece)
    same none kept = rw (none, kept, append-nil going.b) refl

    go : ((f.piece ≡ []) × (last' ≡ last)) ⊎ ((pending' ≡ []) × (no_feed (without_latest last' reader'.bytes) ≡ true)) → Going left left'' last' held held'' stands takes idle before now place reader' pending'
    go (inl (none, kept)) =
        filled going.m going.base (tells_moved f.gathered.given f.gathered.all going.tells) (omega (arith, length-append going.b f.piece, ap length none, going.near))
        (ap (λ xs. no_feed (drop going.base xs)) (sym (same none kept)) ∙ going.feedless) going.behind going.reached
    go (inr (none, fresh)) =
        filled (length going.read.commands) place.bytes (tells_whole none (tells_moved f.gathered.given f.gathered.all going.tells)) (omega (arith, taken.long))
        (ap no_feed (drop_latest place.bytes last' (going.b ++ f.piece) reader'.bytes taken.tail) ∙ fresh) (λ n l below. absurd (omega (arith, going.counts))) (omega arith)

-- nothing was taken, and of the pending texts some were given
pub filled_flushed : {left : Option (List ℕ)} {last : ℕ} {reader : Buffered} {held held' : List ℕ → Type 0} {had pending : List ℕ} → length reader.bytes ≤ 32769 → Gathered held held' pending had
    → Filled left left last last reader reader held held' had pending
filled_flushed {left} {last} {reader} short gathered = record {
  piece = [];
  gave = gave_nothing left;
  is = sym (append-nil reader.bytes);
  once = λ _. refl;
  later = inl (refl, refl);
  ended = λ is. is;
  buffer = short;
  gathered = gathered;
}

-- nothing was taken, since the line is buffered
pub filled_here : {left : Option (List ℕ)} {last : ℕ} {reader : Buffered} {held : List ℕ → Type 0} {pending : List ℕ} → length reader.bytes ≤ 32769 → Filled left left last last reader reader held held pending pending
filled_here short = filled_flushed short (record { given = []; all = refl; gained = gained_nothing })

-- the start of a command that is still to be read, or was read after the bytes that were taken last
start_from : (base m n : ℕ) (starts later : List ℕ) → ((n : ℕ) → m ≤ n → n < length starts → base ≤ get_or starts n 0) → IsFrom base later → m ≤ n → n ≤ length starts → n < length (starts ++ later) → base ≤ get_or (starts ++ later) n 0
start_from base m n starts later behind from above within below = go (cases_lt n (length starts)) later from below
  where
    go : (n < length starts) ⊎ (length starts ≤ n) → (later : List ℕ) → IsFrom base later → n < length (starts ++ later) → base ≤ get_or (starts ++ later) n 0
    go (inl l) later from below = subst (λ y. base ≤ y) (sym (get_or_append_left starts later 0 n l)) (behind n above l)
    go (inr l) [] from below = absurd (omega (arith, ap length (append-nil starts)))
    go (inr l) (x ∷ xs) from below = subst (λ y. base ≤ y) (sym (get_or_at starts x xs 0 n (omega arith))) from

IsFrom-lower : (a b : ℕ) (xs : List ℕ) → a ≤ b → IsFrom b xs → IsFrom a xs
IsFrom-lower a b [] l h = tt
IsFrom-lower a b (x ∷ xs) l h = omega arith

-- what follows a later start has no line feed, either
feedless_from : (base start : ℕ) (xs : List ℕ) → base ≤ start → no_feed (drop base xs) ≡ true → no_feed (drop start xs) ≡ true
feedless_from base start xs later none =
    let sum : start ≡ base + (start - base) = omega (arith, later) in
    ap (λ n. no_feed (drop n xs)) sum ∙ ap no_feed (sym (drop-drop (start - base) base xs)) ∙ no_feed-drop (start - base) (drop base xs) none

-- what was read up to here, and the lines after it
pub ahead : (i b : List ℕ) (last : ℕ) (read : Read) (lines : List Line) (base m : ℕ) → verdict i ≡ ended (judged read lines) → ((n : ℕ) → m ≤ n → n < length read.starts → base ≤ get_or read.starts n 0) → base ≤ read.place.bytes → length b ≤ base + 32769 → no_feed (drop base (without_latest last b)) ≡ true
    → (n : ℕ) → m ≤ n → n ≤ length read.starts → IsAhead n i b last
ahead i b last read lines base m is behind reached near feedless n above within =
    let k = judged_keeps read lines in
    let e : (verdict i).read.starts ≡ read.starts ++ k.starts = ap (λ v. v.read.starts) is ∙ k.later in
    let f = λ (below : n < length (read.starts ++ k.starts)). start_from base m n read.starts k.starts behind (IsFrom-lower base read.place.bytes k.starts reached k.from) above within below in
    subst (λ starts. n < length starts → IsAheadOf (get_or starts n 0) last b) (sym e)
    (λ below. record { buffer = omega (arith, f below, near); lockstep = feedless_from base (get_or (read.starts ++ k.starts) n 0) (without_latest last b) (f below) feedless })

-- the next line, as it is judged
pub record Judges (place : JudgedInput) (reader : Buffered) (found : LineSpan) (rest : List ℕ) : Type 0 where
  pub line : Line
  pub lines : List Line
  pub is : lines_of (reader.bytes ++ rest) ≡ line ∷ lines
  pub same : judged_as place line.text (size_of line) ≡ judged_as place (take found.length reader.bytes) found.size

judges_passes : (place : JudgedInput) (reader : Buffered) (found : LineSpan) (rest : List ℕ) → (reader.ended ≡ true → rest ≡ []) → Passes reader found → Judges place reader found rest
judges_passes place reader found rest none p = record {
  line = p.line;
  lines = lines_of (drop found.size reader.bytes ++ rest);
  is = p.cuts rest none;
  same = ap (judged_as place p.line.text) p.size ∙ ap (λ t. judged_as place t found.size) p.text;
}

-- the prefix of a line is refused as the whole line would be
front_refused : (place : JudgedInput) (reader : Buffered) (found : LineSpan) → place.bytes ≤ 2 ^ 40 → IsAllBuffered reader found → enough place ≤ length reader.bytes → judged_as place (take found.length reader.bytes) found.size ≡ Err (OfLine (place.lines + 1) (front_reason place))
front_refused place reader found within h many =
    let l : length (take found.length reader.bytes) ≡ length reader.bytes = ap length (take_all found.length reader.bytes (omega (arith, h.all))) in
    judged_front place (take found.length reader.bytes) found.size within (subst (λ k. enough place ≤ k) (sym l) many) (subst (λ k. enough place ≤ k) (sym h.size) many)

pub judges_next : (place : JudgedInput) (reader : Buffered) (many : ℕ) (found : LineSpan) (rest : List ℕ) → place.bytes ≤ 2 ^ 40 → many ≡ enough place → (reader.ended ≡ true → rest ≡ []) → IsFound reader many found → Judges place reader found rest
judges_next place reader many found rest within of none (inl h) = judges_passes place reader found rest none (passes_whole reader found h)
judges_next place reader many found rest within of none (inr (inl h)) = judges_passes place reader found rest none (passes_last reader found h)
judges_next place reader many found rest within of none (inr (inr (h, front))) =
    let k = lines_long reader.bytes rest h.some h.none in
    let f : enough place ≤ length reader.bytes = subst (λ n. n ≤ length reader.bytes) of front in
    record {
      line = k.line;
      lines = k.rest;
      is = k.is;
      same = judged_front place k.line.text (size_of k.line) within (at_least f k.long) (at_least f (omega (arith, k.long))) ∙ sym (front_refused place reader found within h f);
    }

-- an accepted line is passed as a whole
pub passes_accepted : (reader : Buffered) (many : ℕ) (found : LineSpan) (place : JudgedInput) (next : Next) → place.bytes ≤ 2 ^ 40 → many ≡ enough place → judged_as place (take found.length reader.bytes) found.size ≡ Ok next → IsFound reader many found → Passes reader found
passes_accepted reader many found place next within of accepted (inl h) = passes_whole reader found h
passes_accepted reader many found place next within of accepted (inr (inl h)) = passes_last reader found h
passes_accepted reader many found place next within of accepted (inr (inr (h, front))) =
    let e = front_refused place reader found within h (subst (λ n. n ≤ length reader.bytes) of front) in
    absurd cc
