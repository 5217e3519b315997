-- What the verdict preserves of what was read before.
use Rattle.std.proofs.Common.{◌≡◌, ℕ, ◌≤◌, List, [], ◌∷◌, ◌++◌, refl, sym, subst, ap, ◌∙◌, arith, Some, Result, Ok, Err}
use Rattle.std.proofs.lemmas.List.{append-nil, append_assoc}
use Rattle.lisp_graph.specs.declared.command.Command.{Command}
use Rattle.lisp_graph.specs.declared.world.World.{World}
use Rattle.lisp_graph.specs.Commands.{InLimits}
use Rattle.line_input.specs.Lines.{Line, size_of}
use Rattle.input_verdict.specs.Input.{JudgedInput}
use Rattle.input_verdict.specs.Events.{Event, Nothing, Opens, Does}
use Rattle.input_verdict.specs.Verdict.{Next, Said, judged_as, Read, Verdict, Stopped, ended, judged, noted, decided, world_of}
use Rattle.input_verdict.proofs.AcceptedLines.{Goes, goes_on, next_bytes}

-- What was read remains read

-- the first of the starts, if there is one, is at least this
abbrev pub IsFrom : ℕ → List ℕ → Type 0
IsFrom n [] = Unit {0}
IsFrom n (x ∷ xs) = n ≤ x

IsFrom-less : (m n : ℕ) (xs : List ℕ) → m ≤ n → IsFrom n xs → IsFrom m xs
IsFrom-less m n [] l h = tt
IsFrom-less m n (x ∷ xs) l h = omega arith

-- the commands keep the limits
abbrev pub AreInLimits : List Command → Type 0
AreInLimits [] = Unit {0}
AreInLimits (c ∷ cs) = InLimits c × AreInLimits cs

pub record Keeps (read : Read) (v : Verdict) : Type 0 where
  pub commands : List Command
  pub more : v.read.commands ≡ read.commands ++ commands
  pub limits : AreInLimits commands
  pub starts : List ℕ
  pub later : v.read.starts ≡ read.starts ++ starts
  pub from : IsFrom read.place.bytes starts

keeps_nothing : (read : Read) (v : Verdict) → v.read ≡ read → Keeps read v
keeps_nothing read v is = record {
  commands = [];
  more = ap (λ (r : Read). r.commands) is ∙ sym (append-nil read.commands);
  limits = tt;
  starts = [];
  later = ap (λ (r : Read). r.starts) is ∙ sym (append-nil read.starts);
  from = tt;
}

-- a command keeps the limits
abbrev KeepsLimits : Event → Type 0
KeepsLimits (Does command) = InLimits command
KeepsLimits _ = Unit {0}

goes_limits : (old : JudgedInput) (event : Event) (new : JudgedInput) → Goes old event new → KeepsLimits event
goes_limits old Nothing new g = tt
goes_limits old Opens new g = tt
goes_limits old (Does command) new g = g.2

keeps_noted : (read : Read) (place : JudgedInput) (v : Verdict) (event : Event) → read.place.bytes ≤ place.bytes → KeepsLimits event → Keeps (noted read event place) v → Keeps read v
keeps_noted read place v Nothing l a k = record { commands = k.commands; more = k.more; limits = k.limits; starts = k.starts; later = k.later; from = IsFrom-less _ _ k.starts l k.from }
keeps_noted read place v Opens l a k = record { commands = k.commands; more = k.more; limits = k.limits; starts = k.starts; later = k.later; from = IsFrom-less _ _ k.starts l k.from }
keeps_noted read place v (Does c) l a k = record {
  commands = c ∷ k.commands;
  more = k.more ∙ append_assoc read.commands (c ∷ []) k.commands;
  limits = (a, k.limits);
  starts = read.place.bytes ∷ k.starts;
  later = k.later ∙ append_assoc read.starts (read.place.bytes ∷ []) k.starts;
  from = omega arith;
}

keeps_decided : (read : Read) (r : Said) (rest : Read → Result Read Stopped) → ((next : Next) → r ≡ Ok next → (read.place.bytes ≤ next.place.bytes) × KeepsLimits next.event) → ((next : Read) → Keeps next (ended (rest next)))
    → Keeps read (ended (decided read r rest))
keeps_decided read (Ok next) rest f h = let p = f next refl in keeps_noted read next.place (ended (rest (noted read next.event next.place))) next.event p.0 p.1 (h (noted read next.event next.place))
keeps_decided read (Err trouble) rest f h = keeps_nothing read _ refl

keeps_line : (place : JudgedInput) (text : List ℕ) (size : ℕ) (next : Next) → judged_as place text size ≡ Ok next → (place.bytes ≤ next.place.bytes) × KeepsLimits next.event
keeps_line place text size next h = (omega (arith, next_bytes place text size next h), goes_limits place next.event next.place (goes_on place text size next h))

-- commands and starts are only added to what was read
pub judged_keeps : (read : Read) (lines : List Line) → Keeps read (ended (judged read lines))
judged_keeps read [] = keeps_nothing read _ refl
judged_keeps read (line ∷ lines) = keeps_decided read (judged_as read.place line.text (size_of line)) (λ next. judged next lines) (keeps_line read.place line.text (size_of line)) (λ next. judged_keeps next lines)

-- Once a world is open it remains open.

goes_stays : (world : World) (old : JudgedInput) (event : Event) (new : JudgedInput) → world_of old ≡ Some world → Goes old event new → world_of new ≡ Some world
goes_stays world old Nothing new opened g = g ∙ opened
goes_stays world old Opens new opened g = let none = g.0 in absurd (cc (opened, none))
goes_stays world old (Does c) new opened g = g.1 ∙ sym g.0 ∙ opened

pub noted_place : (read : Read) (event : Event) (place : JudgedInput) → (noted read event place).place ≡ place
noted_place read Nothing place = refl
noted_place read Opens place = refl
noted_place read (Does c) place = refl

world_decided : (world : World) (read : Read) (r : Said) (rest : Read → Result Read Stopped) → ((next : Next) → r ≡ Ok next → Goes read.place next.event next.place) → world_of read.place ≡ Some world
    → ((next : Read) → world_of next.place ≡ Some world → world_of (ended (rest next)).read.place ≡ Some world) → world_of (ended (decided read r rest)).read.place ≡ Some world
world_decided world read (Ok next) rest h opened rec =
    let s = goes_stays world read.place next.event next.place opened (h next refl) in
    rec (noted read next.event next.place) (subst (λ (q : JudgedInput). world_of q ≡ Some world) (sym (noted_place read next.event next.place)) s)
world_decided world read (Err e) rest h opened rec = opened

pub judged_world : (world : World) (read : Read) (lines : List Line) → world_of read.place ≡ Some world → world_of (ended (judged read lines)).read.place ≡ Some world
judged_world world read [] opened = opened
judged_world world read (line ∷ lines) opened =
    world_decided world read (judged_as read.place line.text (size_of line)) (λ next. judged next lines) (goes_on read.place line.text (size_of line)) opened (λ next. judged_world world next lines)
