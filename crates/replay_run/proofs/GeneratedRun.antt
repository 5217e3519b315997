-- A run of the generated input.
use Rattle.std.proofs.Common.{◌≡◌, ◌⊎◌, inl, inr, ℕ, ◌≤◌, List, [], ◌++◌, length, Option, Some, refl, sym, ap, ◌∙◌, subst, arith, Bool, false}
use Rattle.std.specs.Prelude.{IfSome}
use Rattle.std.specs.List.{All}
use Rattle.std.proofs.lemmas.List.{append-nil}
use Rattle.outer_ports.specs.Lines.{Counted, counted_of}
use Rattle.outer_ports.specs.Ports.{Rose}
use Rattle.outer_ports.specs.declared.sinks.tally.Tally.{Tally}
use Rattle.paged_machine.specs.lisp_meaning.State.{State}
use Rattle.trace_text.specs.Made.{made}
use Rattle.line_input.specs.declared.statuses.status.Status.{Status}
use Rattle.line_input.specs.declared.statuses.status.Status.TheVariants.{Done, WriteFailed, Refused, ReadFailed, NoSpace, NoMemory, SwapFailed, Usage, NoObject}
use Rattle.line_input.specs.declared.statuses.status.RunError.TheVariants.{Memory}
use Rattle.line_input.specs.Statuses.{Closed, trouble_line}
use Rattle.input_verdict.specs.Verdict.{Read, Whole, start, verdict, world_of}
use Rattle.input_verdict.proofs.GeneratedInput.{made_whole}
use Rattle.replay_run.specs.Outcome.{BeforeDump, Breaks, HasObject, IsUnloaded, Wrote}
use Rattle.replay_run.proofs.Observations.{HasRun, observes}
use Rattle.replay_run.specs.Exercise.{Ends, Exercised, RanMade}
use Rattle.command_words.specs.declared.mode.Mode.TheVariants.{Exercise}
use Rattle.replay_run.proofs.GeneratedWorld.{made_bare}
use Rattle.replay_run.proofs.NoDumps.{IsOther, made_undumped, no_dump}

-- How it ends

broken : {P : Type 0} (status : Status) (number count : ℕ) (i : List ℕ) (read : Read) (line : List ℕ) → count ≤ 1000000 → i ≡ made number count → Breaks status i read line → P
broken status number count i read line few is b =
    let whole : (verdict i).ending ≡ Whole = ap (λ (xs : List ℕ). (verdict xs).ending) is ∙ made_whole number count few in
    absurd (let e = ap (λ v. v.ending) b.verdict_is in cc (whole, e))

-- its world has no object
no_object : {P : Type 0} (number count : ℕ) (i : List ℕ) → i ≡ made number count → HasObject i → P
no_object number count i is h =
    let none : h.world.objects ≡ [] = made_bare number count h.world (subst (λ (xs : List ℕ). world_of (verdict xs).read.place ≡ Some h.world) is h.opened) in
    absurd (omega (arith, h.some, ap length none))

-- a count that stays at 0 doesn't rise
stays : Rose 0 0 → ⊥
stays rose = omega (arith, rose)

-- the tally is that of what was gained
counted : (first sink : Counted) (w : List ℕ) → first ≡ counted_of [] → ((had : List ℕ) → first ≡ counted_of had → sink ≡ counted_of (had ++ w)) → sink ≡ counted_of w
counted first sink w starts each = each [] starts

-- no command of the generated input is a dump, so memory can run out only before the first command
before_all : (number count : ℕ) (i : List ℕ) (loaded : Bool) (read : Read) → i ≡ made number count → IsUnloaded loaded read ⊎ BeforeDump i read → IsUnloaded loaded read
before_all number count i loaded read is (inl e) = e
before_all number count i loaded read is (inr b) =
    absurd (no_dump read.commands b.later (subst (All IsOther) b.commands (subst (λ (xs : List ℕ). All IsOther (verdict xs).read.commands) (sym is) (made_undumped number count))))

module _ (number count : ℕ) (few : count ≤ 1000000) (stands : State → Type 0) (loaded : Bool) (source_rose : Type 0) (rose : ℕ) (tally : Tally) (first sink : Counted) (starts : first ≡ counted_of []) (tells : tally ≡ sink.tally) where
  ended_made : (ended : Status) (i b : List ℕ) (latest : ℕ) (w : List ℕ) → i ≡ made number count → sink ≡ counted_of w → (ended ≡ ReadFailed → Rose 0 0) → (ended ≡ WriteFailed → Rose 0 0) → Wrote ended (observes i b latest w stands loaded source_rose rose)
      → RanMade number count stands loaded rose ended tally
  ended_made Done i b latest w is holds read write e = record {
    read = e.read;
    replies = e.replies;
    ends = subst (λ (xs : List ℕ). Ends Done loaded xs e.read) is e.demands.1;
    answered = e.answered;
    untouched = e.untouched;
    counts = λ _. tells ∙ ap (λ (c : Counted). c.tally) (holds ∙ ap counted_of (e.written ∙ ap (λ (xs : List ℕ). e.replies ++ xs) e.demands.2 ∙ append-nil e.replies));
  }
  ended_made NoMemory i b latest w is holds read write e = record {
    read = e.read;
    replies = e.replies;
    ends = before_all number count i loaded e.read is e.demands.0;
    answered = e.answered;
    untouched = e.untouched;
    counts = λ other. absurd (cc (other));
  }
  ended_made SwapFailed i b latest w is holds read write e = no_object number count i is e.demands.1
  ended_made WriteFailed i b latest w is holds read write e = absurd (stays (write refl))
  ended_made ReadFailed i b latest w is holds read write e = absurd (stays (read refl))
  ended_made Refused i b latest w is holds read write e = broken Refused number count i e.read e.line few is e.demands
  ended_made NoSpace i b latest w is holds read write e = broken NoSpace number count i e.read e.line few is e.demands.0
  ended_made Usage i b latest w is holds read write e = absurd e.demands
  ended_made NoObject i b latest w is holds read write e = absurd e.demands

  pub ran_made : (left left' : Option (List ℕ)) (latest : ℕ) (ended : Status) → left ≡ Some (made number count) → (ended ≡ ReadFailed → Rose 0 0) → (ended ≡ WriteFailed → Rose 0 0)
      → HasRun left left' latest (λ bytes. first ≡ counted_of bytes) (λ bytes. sink ≡ counted_of bytes) stands loaded source_rose rose ended → RanMade number count stands loaded rose ended tally
  ran_made left left' latest ended tells read write (i, b, w, ran) =
      let same : made number count ≡ i = subst (λ l. IfSome l (λ bytes. bytes ≡ i)) tells ran.input in
      ended_made ended i b latest w (sym same) (counted first sink w starts ran.gained.each) read write ran.wrote

-- the requested exercise
pub exercised_at : (number count : ℕ) {a b : ℕ} {held held' : List ℕ → Type 0} {stands : State → Type 0} {loaded : Bool} {rose : ℕ} (status : Status) → Some (Exercise a b) ≡ Some (Exercise number count) → Exercised a b held held' stands loaded rose status
    → Exercised number count held held' stands loaded rose status
exercised_at number count {a} {b} {held} {held'} {stands} {loaded} {rose} status is e =
    let first : a ≡ number = cc (is) in
    let second : b ≡ count = cc (is) in
    subst (λ n. Exercised n count held held' stands loaded rose status) first (subst (λ k. Exercised a k held held' stands loaded rose status) second e)

-- memory ran out before the arguments were read
pub exercised_nothing : {number count : ℕ} {held held' : List ℕ → Type 0} (stands : State → Type 0) {loaded : Bool} (rose : ℕ) (status : Status) → rose ≡ 0 → loaded ≡ false → Closed held held' (trouble_line Memory) NoMemory status → Exercised number count held held' stands loaded rose status
exercised_nothing stands rose status none unloaded closed = record { ended = NoMemory; read = start; replies = []; ends = (refl, unloaded); answered = (refl, refl); untouched = λ _ _. none; wrote = closed }
