-- The generated input has no dump.
use Rattle.std.proofs.Common.{◌≡◌, ℕ, zero, suc, ◌+◌, ◌-◌, ◌/◌, ◌%◌, List, [], ◌∷◌, ◌++◌, Bool, true, false, cond, Result, Ok, Err, refl, sym, ap, ◌∙◌, subst, append_assoc, arith}
use Rattle.std.specs.Prelude.{◌==◌, ◌≢◌, if◌then◌else◌, nat_le, nat_lt}
use Rattle.std.specs.List.{All}
use Rattle.std.proofs.lemmas.List.Elements.{All-append, All-cons, All-head, All-nil, All-tail}
use Rattle.lisp_graph.specs.declared.command.Command.{Command}
use Rattle.lisp_graph.specs.declared.command.Command.TheVariants.{Dump}
use Rattle.world_text.specs.declared.reading.reason.Reason.{Reason}
use Rattle.world_text.specs.Words.{is_well_formed}
use Rattle.world_text.specs.Line.{line_at}
use Rattle.world_text.specs.Reader.{Said as WorldSaid, is_closed}
use Rattle.world_text.proofs.reading_laws.ReadLaws.{guard_ok}
use Rattle.trace_text.specs.Commands.{TraceLine, Run, End, trace_line}
use Rattle.trace_text.specs.Made.{command_line, drawn_line, draws, header_line, is_drawn, line_of, made, made_from, set_line, state_of}
use Rattle.trace_text.proofs.GeneratedCommands.{made_says}
use Rattle.line_input.specs.Lines.{Line, lines_of, size_of}
use Rattle.line_input.specs.Reader.{no_feed}
use Rattle.line_input.proofs.Cuts.{lines_feed}
use Rattle.input_verdict.specs.Input.{JudgedInput}
use Rattle.input_verdict.specs.Events.{Event, Nothing, Opens, Does}
use Rattle.input_verdict.specs.Verdict.{Next, Read, Said, Stopped, decided, ended, in_trace, judged, judged_as, line_in, noted, start, trace_next, verdict, world_next}
use Rattle.input_verdict.proofs.WellFormedLines.{formed_feed}
use Rattle.input_verdict.proofs.AcceptedLines.{passed}
use Rattle.replay_run.proofs.NonDumpLines.{begins_with_d, says_no_dump}

-- The lines of the generated input

-- the text doesn't begin with d
abbrev Starts : List ℕ → Type 0
Starts text = begins_with_d text ≡ false

-- and it contains no line feed
abbrev IsPlain : List ℕ → Type 0
IsPlain text = (no_feed text ≡ true) × Starts text

pick : (P : List ℕ → Type 0) (b : Bool) (x y : List ℕ) → P x → P y → P (if b then x else y)
pick P true x y one two = one
pick P false x y one two = two

drawn_starts : (r s t k : ℕ) → Starts (drawn_line r s t k)
drawn_starts r s t k =
    pick Starts (k == 0) _ _ refl (pick Starts (nat_le k 4) _ _ refl (pick Starts (k == 5) _ _ refl (pick Starts (k == 6) _ _ refl (pick Starts (k == 7) _ _ refl
    (pick Starts (k == 8) _ _ refl (pick Starts (k == 9) _ _ refl (pick Starts (k == 10) _ _ refl (pick Starts (k == 11) _ _ refl (pick Starts (k == 12) _ _ refl
    (pick Starts (k == 13) _ _ refl (pick Starts (k == 14) _ _ refl refl)))))))))))

set_starts : (p q : ℕ) → Starts (set_line p q)
set_starts p q =
    pick Starts (p == 700) _ _ (pick Starts (nat_le q 1) _ _ refl (pick Starts (q == 2) _ _ refl refl))
    (pick Starts (p == 980) _ _ refl (pick Starts (p == 990) _ _ refl refl))

command_plain : (state i : ℕ) → IsPlain (command_line state i)
command_plain state i =
    let said = made_says state i in
    let formed = (guard_ok (is_well_formed (command_line state i)) _ _ (Run said.0) said.1).0 in (
      formed_feed (command_line state i) formed,
      pick Starts (is_drawn (i % 1000)) _ _ (drawn_starts (draws state).r (draws state).s (draws state).t (draws state).k) (set_starts (i % 1000) (i / 1000 % 4)),
    )

header_plain : (i : ℕ) → IsPlain (header_line i)
header_plain i =
    pick IsPlain (i == 0) _ _ (refl, refl) (pick IsPlain (i == 1) _ _ (refl, refl) (pick IsPlain (i == 2) _ _ (refl, refl) (pick IsPlain (i == 3) _ _ (refl, refl)
    (pick IsPlain (i == 4) _ _ (refl, refl) (refl, refl)))))

line_plain : (count state i : ℕ) → IsPlain (line_of count state i)
line_plain count state i =
    pick IsPlain (nat_lt i 6) _ _ (header_plain i)
    (pick IsPlain (nat_lt (i - 6) count) _ _ (command_plain state (i - 6)) (pick IsPlain (i - 6 == count) _ _ (refl, refl) (refl, refl)))

abbrev LineStarts : Line → Type 0
LineStarts line = Starts line.text

-- the next line, and those after it
pub lines_at : (count state i left n : ℕ) → left ≡ suc n
    → lines_of (made_from count state i left) ≡ record { text = line_of count state i; whole = true } ∷ lines_of (made_from count (state_of count state i) (i + 1) n)
unfolding made_from
lines_at count state i zero n is = absurd (omega arith)
lines_at count state i (suc left) n is =
    let text : List ℕ = line_of count state i in
    let line : Line = record { text = text; whole = true } in
    let rest : List ℕ = made_from count (state_of count state i) (i + 1) left in
    let same : left ≡ n = omega arith in
    ap lines_of (append_assoc text (10 ∷ []) rest) ∙ lines_feed text rest (line_plain count state i).0 ∙ ap (λ k. line ∷ lines_of (made_from count (state_of count state i) (i + 1) k)) same

lines_start : (count state i left : ℕ) → All LineStarts (lines_of (made_from count state i left))
unfolding made_from
lines_start count state i zero = All-nil LineStarts
lines_start count state i (suc left) =
    let line : Line = record { text = line_of count state i; whole = true } in
    let rest : List Line = lines_of (made_from count (state_of count state i) (i + 1) left) in
    subst (All LineStarts) (sym (lines_at count state i (suc left) left refl)) (All-cons LineStarts line rest (line_plain count state i).1 (lines_start count (state_of count state i) (i + 1) left))

-- What they request

-- the command isn't a dump
abbrev pub IsOther : Command → Type 0
IsOther command = command ≢ Dump

abbrev RunsOther : Event → Type 0
RunsOther (Does command) = IsOther command
RunsOther _ = Unit {0}

said_next : (a b : Next) → ◌≡◌ {A = Said} (Ok a) (Ok b) → a ≡ b
said_next a b h = cc (h)

trace_other : (place : JudgedInput) (text : List ℕ) (said : Next) (read : Result TraceLine Reason) → Starts text → trace_line place.judge.builder.world.space place.judge.builder.world.areas text ≡ read → trace_next place read ≡ Ok said → RunsOther said.event
trace_other place text said (Ok End) starts is h = subst (λ (s : Next). RunsOther s.event) (said_next _ said h) tt
trace_other place text said (Ok (Run command)) starts is h =
    subst (λ (s : Next). RunsOther s.event) (said_next _ said h) (λ e. says_no_dump place.judge.builder.world.space place.judge.builder.world.areas text starts (is ∙ ap (λ (c : Command). Ok (Run c)) e))
trace_other place text said (Err reason) starts is h = absurd (cc (h))

world_other : (place : JudgedInput) (said : Next) (read : WorldSaid) → world_next place read ≡ Ok said → RunsOther said.event
world_other place said (Err fault) h = absurd (cc (h))
world_other place said (Ok (step, builder)) h = go (is_closed builder.part) h
  where
    go : (closed : Bool)
        → ◌≡◌ {A = Said} (cond closed (Ok (record { event = Opens; place = record place { judge = record place.judge { builder = builder } } })) (Ok (record { event = Nothing; place = record place { judge = record place.judge { builder = builder } } }))) (Ok said)
        → RunsOther said.event
    go true e = subst (λ (s : Next). RunsOther s.event) (said_next _ said e) tt
    go false e = subst (λ (s : Next). RunsOther s.event) (said_next _ said e) tt

line_other : (place : JudgedInput) (text : List ℕ) (said : Next) → Starts text → line_in place text ≡ Ok said → RunsOther said.event
line_other place text said starts h = go (in_trace place) h
  where
    go : (b : Bool) → cond b (trace_next place (trace_line place.judge.builder.world.space place.judge.builder.world.areas text)) (world_next place (line_at place.judge.builder text)) ≡ Ok said → RunsOther said.event
    go true e = trace_other place text said (trace_line place.judge.builder.world.space place.judge.builder.world.areas text) starts refl e
    go false e = world_other place said (line_at place.judge.builder text) e

judged_other : (place : JudgedInput) (text : List ℕ) (size : ℕ) (next : Next) → Starts text → judged_as place text size ≡ Ok next → RunsOther next.event
judged_other place text size next starts h =
    let p = passed place text size next h in
    subst (λ (n : Next). RunsOther n.event) (sym p.is) (line_other place text p.said starts p.line)

-- All lines

noted_other : (read : Read) (event : Event) (place : JudgedInput) → RunsOther event → All IsOther read.commands → All IsOther (noted read event place).commands
noted_other read Nothing place other all = all
noted_other read Opens place other all = all
noted_other read (Does command) place other all = All-append IsOther read.commands (command ∷ []) all (All-cons IsOther command [] other (All-nil IsOther))

decided_other : (read : Read) (r : Said) (rest : Read → Result Read Stopped) → ((next : Next) → r ≡ Ok next → RunsOther next.event) → All IsOther read.commands
    → ((next : Read) → All IsOther next.commands → All IsOther (ended (rest next)).read.commands) → All IsOther (ended (decided read r rest)).read.commands
decided_other read (Ok next) rest other all more = more (noted read next.event next.place) (noted_other read next.event next.place (other next refl) all)
decided_other read (Err trouble) rest other all more = all

all_other : (lines : List Line) (read : Read) → All LineStarts lines → All IsOther read.commands → All IsOther (ended (judged read lines)).read.commands
all_other [] read starts all = all
all_other (line ∷ lines) read starts all =
    decided_other read (judged_as read.place line.text (size_of line)) (λ next. judged next lines)
    (λ next h. judged_other read.place line.text (size_of line) next (All-head LineStarts line lines starts) h) all
    (λ next more. all_other lines next (All-tail LineStarts line lines starts) more)

pub made_undumped : (number count : ℕ) → All IsOther (verdict (made number count)).read.commands
made_undumped number count = all_other (lines_of (made number count)) start (lines_start count number 0 (count + 8)) (All-nil IsOther)

-- a dump isn't one of the other commands
pub no_dump : (before later : List Command) → All IsOther (before ++ Dump ∷ later) → ⊥
no_dump [] later all = All-head IsOther Dump later all refl
no_dump (command ∷ before) later all = no_dump before later (All-tail IsOther command (before ++ Dump ∷ later) all)
