-- What holds of an accepted line.
use Rattle.std.proofs.Common.{◌≡◌, ◌∙◌, ℕ, ◌+◌, ◌≤◌, ◌^◌, min, List, length, Bool, true, false, cond, nat_lt, refl, sym, subst, ap, Some, None, Result, Ok, Err}
use Rattle.lisp_graph.specs.Commands.{InLimits}
use Rattle.world_text.specs.declared.reading.reason.Reason.{Reason}
use Rattle.world_text.specs.Line.{line_at}
use Rattle.world_text.specs.Reader.{Said as WorldSaid, is_closed}
use Rattle.trace_text.specs.Commands.{TraceLine, Run, End, trace_line}
use Rattle.line_input.specs.declared.statuses.status.RunError.TheVariants as T
use Rattle.line_input.specs.Limits.{broken_limit}
use Rattle.line_input.specs.Verdict.{unless_broken}
use Rattle.line_input.proofs.BrokenLimits.{front_broken, long_reason, unbroken, unbroken_limits}
use Rattle.input_verdict.specs.Input.{JudgedInput}
use Rattle.input_verdict.specs.Events.{Event, Nothing, Opens, Does}
use Rattle.input_verdict.specs.Verdict.{Next, Said, counted, enough, in_trace, judged_as, line_in, trace_next, world_next, world_of}
use Rattle.input_verdict.proofs.TraceNames.{trace_named}

-- Limits

-- the reason for refusing a line that has enough bytes, whatever these are
abbrev pub front_reason : JudgedInput → Reason
front_reason place = long_reason place.judge.ended (nat_lt (2 ^ 40) (place.bytes + 32769))

-- a line with enough bytes is refused because of them, whatever follows them
pub judged_front : (place : JudgedInput) (text : List ℕ) (size : ℕ) → place.bytes ≤ 2 ^ 40 → enough place ≤ length text → enough place ≤ size → judged_as place text size ≡ Err (T.Line (place.lines + 1) (front_reason place))
judged_front place text size within long wide =
    ap (λ broken. unless_broken (place.lines + 1) broken (counted size (line_in place text))) (front_broken (2 ^ 40) place.judge.ended (nat_lt (2 ^ 40) (place.bytes + 32769)) place.bytes (length text) size refl within long wide)

-- An accepted line

pub record Passed (place : JudgedInput) (text : List ℕ) (size : ℕ) (next : Next) : Type 0 where
  pub going : place.judge.ended ≡ false
  pub within : place.bytes + min size 32769 ≤ 2 ^ 40
  pub short : length text ≤ 32768
  pub said : Next
  pub line : line_in place text ≡ Ok said
  pub is : next ≡ record said { place = record said.place { lines = said.place.lines + 1; bytes = said.place.bytes + size } }

counted_ok : (size : ℕ) (said : Said) (next : Next) → counted size said ≡ Ok next
    → (one : Next) × (said ≡ Ok one) × (next ≡ record one { place = record one.place { lines = one.place.lines + 1; bytes = one.place.bytes + size } })
counted_ok size (Ok one) next h = (one, refl, cc (h))
counted_ok size (Err trouble) next h = absurd (cc (h))

pub passed : (place : JudgedInput) (text : List ℕ) (size : ℕ) (next : Next) → judged_as place text size ≡ Ok next → Passed place text size next
passed place text size next h =
    let u = unbroken (place.lines + 1) (broken_limit (2 ^ 40) place.judge.ended place.bytes (length text) size) (counted size (line_in place text)) next h in
    let a = unbroken_limits (2 ^ 40) place.judge.ended place.bytes (length text) size u.0 in
    let d = counted_ok size (line_in place text) next u.1 in
    record {
      going = a.0;
      within = a.1;
      short = a.2;
      said = d.0;
      line = d.1;
      is = d.2;
    }

-- What an event leads to

-- The world of a trace remains the same, and only one line opens it. A command brings no name of its own.
abbrev pub Goes : JudgedInput → Event → JudgedInput → Type 0
Goes old Nothing new = world_of new ≡ world_of old
Goes old Opens new = (world_of old ≡ None) × (world_of new ≡ Some new.judge.builder.world)
Goes old (Does command) new = (world_of old ≡ Some new.judge.builder.world) × (world_of new ≡ Some new.judge.builder.world) × InLimits command

pub open_at : (place : JudgedInput) → in_trace place ≡ true → world_of place ≡ Some place.judge.builder.world
open_at place is = rw is refl

pub none_open : (place : JudgedInput) → in_trace place ≡ false → world_of place ≡ None
none_open place is = rw is refl

said_next : (a b : Next) → ◌≡◌ {A = Said} (Ok a) (Ok b) → a ≡ b
said_next a b h = cc (h)

trace_goes : (place : JudgedInput) (text : List ℕ) (said : Next) (read : Result TraceLine Reason) → in_trace place ≡ true → trace_line place.judge.builder.world.space place.judge.builder.world.areas text ≡ read → trace_next place read ≡ Ok said
    → Goes place said.event said.place
trace_goes place text said (Ok End) inside is h = subst (λ (s : Next). Goes place s.event s.place) (said_next _ said h) refl
trace_goes place text said (Ok (Run command)) inside is h =
    subst (λ (s : Next). Goes place s.event s.place) (said_next _ said h) (open_at place inside, open_at place inside, (trace_named place.judge.builder.world.space place.judge.builder.world.areas text command is).in_limits)
trace_goes place text said (Err reason) inside is h = absurd (cc (h))

world_goes : (place : JudgedInput) (said : Next) (read : WorldSaid) → in_trace place ≡ false → world_next place read ≡ Ok said → Goes place said.event said.place
world_goes place said (Err fault) outside h = absurd (cc (h))
world_goes place said (Ok (step, builder)) outside h = go (is_closed builder.part) refl h
  where
    go : (closed : Bool) → is_closed builder.part ≡ closed
        → ◌≡◌ {A = Said} (cond closed (Ok (record { event = Opens; place = record place { judge = record place.judge { builder = builder } } })) (Ok (record { event = Nothing; place = record place { judge = record place.judge { builder = builder } } }))) (Ok said)
        → Goes place said.event said.place
    go true is e = subst (λ (s : Next). Goes place s.event s.place) (said_next _ said e) (none_open place outside, open_at (record place { judge = record place.judge { builder = builder } }) is)
    go false is e = subst (λ (s : Next). Goes place s.event s.place) (said_next _ said e) (none_open (record place { judge = record place.judge { builder = builder } }) is ∙ sym (none_open place outside))

line_goes : (place : JudgedInput) (text : List ℕ) (said : Next) → line_in place text ≡ Ok said → Goes place said.event said.place
line_goes place text said h = go (in_trace place) refl h
  where
    go : (b : Bool) → in_trace place ≡ b → cond b (trace_next place (trace_line place.judge.builder.world.space place.judge.builder.world.areas text)) (world_next place (line_at place.judge.builder text)) ≡ Ok said → Goes place said.event said.place
    go true is e = trace_goes place text said (trace_line place.judge.builder.world.space place.judge.builder.world.areas text) is refl e
    go false is e = world_goes place said (line_at place.judge.builder text) is e

goes_counted : (old : JudgedInput) (event : Event) (new : JudgedInput) (lines bytes : ℕ) → Goes old event new → Goes old event (record new { lines = lines; bytes = bytes })
goes_counted old Nothing new lines bytes g = g
goes_counted old Opens new lines bytes g = g
goes_counted old (Does command) new lines bytes g = g

pub goes_on : (place : JudgedInput) (text : List ℕ) (size : ℕ) (next : Next) → judged_as place text size ≡ Ok next → Goes place next.event next.place
goes_on place text size next h =
    let p = passed place text size next h in
    subst (λ (n : Next). Goes place n.event n.place) (sym p.is)
    (goes_counted place p.said.event p.said.place (p.said.place.lines + 1) (p.said.place.bytes + size) (line_goes place text p.said p.line))

-- how many bytes there are after it

trace_bytes : (place : JudgedInput) (said : Next) (read : Result TraceLine Reason) → trace_next place read ≡ Ok said → said.place.bytes ≡ place.bytes
trace_bytes place said (Ok End) h = sym (ap (λ (n : Next). n.place.bytes) (said_next _ said h))
trace_bytes place said (Ok (Run command)) h = sym (ap (λ (n : Next). n.place.bytes) (said_next _ said h))
trace_bytes place said (Err reason) h = absurd (cc (h))

world_bytes : (place : JudgedInput) (said : Next) (read : WorldSaid) → world_next place read ≡ Ok said → said.place.bytes ≡ place.bytes
world_bytes place said (Err fault) h = absurd (cc (h))
world_bytes place said (Ok (step, builder)) h = go (is_closed builder.part) h
  where
    go : (closed : Bool)
        → ◌≡◌ {A = Said} (cond closed (Ok (record { event = Opens; place = record place { judge = record place.judge { builder = builder } } })) (Ok (record { event = Nothing; place = record place { judge = record place.judge { builder = builder } } }))) (Ok said)
        → said.place.bytes ≡ place.bytes
    go true e = sym (ap (λ (n : Next). n.place.bytes) (said_next _ said e))
    go false e = sym (ap (λ (n : Next). n.place.bytes) (said_next _ said e))

line_bytes : (place : JudgedInput) (text : List ℕ) (said : Next) → line_in place text ≡ Ok said → said.place.bytes ≡ place.bytes
line_bytes place text said h = go (in_trace place) h
  where
    go : (b : Bool) → cond b (trace_next place (trace_line place.judge.builder.world.space place.judge.builder.world.areas text)) (world_next place (line_at place.judge.builder text)) ≡ Ok said → said.place.bytes ≡ place.bytes
    go true e = trace_bytes place said (trace_line place.judge.builder.world.space place.judge.builder.world.areas text) e
    go false e = world_bytes place said (line_at place.judge.builder text) e

pub next_bytes : (place : JudgedInput) (text : List ℕ) (size : ℕ) (next : Next) → judged_as place text size ≡ Ok next → next.place.bytes ≡ place.bytes + size
next_bytes place text size next h =
    let p = passed place text size next h in
    ap (λ (n : Next). n.place.bytes) p.is ∙ ap (λ n. n + size) (line_bytes place text p.said p.line)
