-- What a run returns if no device fails, and when it returns that memory ran out.
use Rattle.std.proofs.Common.{◌≡◌, ◌⊎◌, inl, inr, ℕ, ◌<◌, ◌≤◌, List, [], ◌++◌, length, Option, Some, sym, ap, ◌∙◌, subst, arith, Bool, false}
use Rattle.std.specs.Prelude.{IfSome}
use Rattle.std.specs.List.{All}
use Rattle.outer_ports.specs.Ports.{Gained, Gave}
use Rattle.paged_machine.specs.lisp_meaning.State.{State}
use Rattle.line_input.specs.declared.statuses.status.Status.{Status}
use Rattle.line_input.specs.declared.statuses.status.Status.TheVariants.{Done, WriteFailed, Refused, ReadFailed, NoSpace, NoMemory, SwapFailed, Usage, NoObject}
use Rattle.line_input.specs.declared.statuses.status.RunError.{RunError}
use Rattle.line_input.specs.declared.statuses.status.RunError.TheVariants.{Memory}
use Rattle.line_input.specs.Statuses.{code, status_of, trouble_line}
use Rattle.input_verdict.specs.Verdict.{Broken, Read, Whole, start, verdict, world_of}
use Rattle.replay_run.specs.Replies.{Answered}
use Rattle.replay_run.specs.Outcome.{BeforeDump, Breaks, IsAhead, IsEarly, IsUnloaded, Wrote}
use Rattle.replay_run.proofs.Observations.{HasRun, observes}
use Rattle.replay_run.proofs.NoDumps.{IsOther, no_dump}

unbroken : {P : Type 0} (status : Status) (i : List ℕ) {read : _} {line : List ℕ} → (verdict i).ending ≡ Whole → Breaks status i read line → P
unbroken status i whole b = absurd (let e = ap (λ v. v.ending) b.verdict_is in cc (whole, e))

-- the trouble with the input decides the status
broken_status : (status : Status) (i : List ℕ) (trouble : RunError) {read : _} {line : List ℕ} → (verdict i).ending ≡ Broken trouble → Breaks status i read line → status ≡ status_of trouble
broken_status status i trouble breaks b =
    let e : (verdict i).ending ≡ Broken b.trouble = ap (λ v. v.ending) b.verdict_is in
    let same : b.trouble ≡ trouble = let f : Broken b.trouble ≡ Broken trouble = sym e ∙ breaks in cc (f) in
    sym b.status_is ∙ ap status_of same

module _ {read_rose write_rose : Type 0} {before now : ℕ} (result : ℕ) (none_read : read_rose → ⊥) (none_write : write_rose → ⊥) (none_swap : now ≤ before)
    (read : result ≡ 3 → read_rose) (write : result ≡ 1 → write_rose) (swap : result ≡ 6 → before < now) where
  ended_as : (stands : State → Type 0) (loaded : Bool) (source_rose : Type 0) (rose : ℕ) (i b : List ℕ) (last : ℕ) (w : List ℕ) (status : Status) → result ≡ code status → (verdict i).ending ≡ Whole → Wrote status (observes i b last w stands loaded source_rose rose) → (result ≡ 0) ⊎ (result ≡ 5)
  ended_as stands loaded source_rose rose i b last w Done is whole wrote = inl is
  ended_as stands loaded source_rose rose i b last w NoMemory is whole wrote = inr is
  ended_as stands loaded source_rose rose i b last w WriteFailed is whole wrote = absurd (none_write (write is))
  ended_as stands loaded source_rose rose i b last w ReadFailed is whole wrote = absurd (none_read (read is))
  ended_as stands loaded source_rose rose i b last w SwapFailed is whole wrote = absurd (omega (arith, swap is))
  ended_as stands loaded source_rose rose i b last w Refused is whole wrote = unbroken Refused i whole wrote.demands
  ended_as stands loaded source_rose rose i b last w NoSpace is whole wrote = unbroken NoSpace i whole wrote.demands.0
  ended_as stands loaded source_rose rose i b last w Usage is whole wrote = absurd wrote.demands
  ended_as stands loaded source_rose rose i b last w NoObject is whole wrote = absurd wrote.demands

  pub completes : {source_rose : Type 0} (left left' : Option (List ℕ)) (last : ℕ) {held held' : List ℕ → Type 0} (stands : State → Type 0) {loaded : Bool} (rose : ℕ) (status : Status) (i : List ℕ)
      → result ≡ code status → HasRun left left' last held held' stands loaded source_rose rose status → left ≡ Some i → (verdict i).ending ≡ Whole → (result ≡ 0) ⊎ (result ≡ 5)
  completes {source_rose = source_rose} left left' last stands {loaded} rose status i is ran tells whole =
      let same : i ≡ ran.0 = subst (λ l. IfSome l (λ bytes. bytes ≡ ran.0)) tells ran.3.input in
      ended_as stands loaded source_rose rose ran.0 ran.1 last ran.2 status is (subst (λ xs. (verdict xs).ending ≡ Whole) same whole) ran.3.wrote

  broken_as : (stands : State → Type 0) (loaded : Bool) (source_rose : Type 0) (rose : ℕ) (i b : List ℕ) (last : ℕ) (w : List ℕ) (status : Status) (trouble : RunError) → result ≡ code status → (verdict i).ending ≡ Broken trouble → Wrote status (observes i b last w stands loaded source_rose rose)
      → (result ≡ code (status_of trouble)) ⊎ (result ≡ 5)
  broken_as stands loaded source_rose rose i b last w Done trouble is breaks wrote = absurd (let e = ap (λ v. v.ending) wrote.demands.1 in cc (breaks, e))
  broken_as stands loaded source_rose rose i b last w NoMemory trouble is breaks wrote = inr is
  broken_as stands loaded source_rose rose i b last w WriteFailed trouble is breaks wrote = absurd (none_write (write is))
  broken_as stands loaded source_rose rose i b last w ReadFailed trouble is breaks wrote = absurd (none_read (read is))
  broken_as stands loaded source_rose rose i b last w SwapFailed trouble is breaks wrote = absurd (omega (arith, swap is))
  broken_as stands loaded source_rose rose i b last w Refused trouble is breaks wrote = inl (is ∙ ap code (broken_status Refused i trouble breaks wrote.demands))
  broken_as stands loaded source_rose rose i b last w NoSpace trouble is breaks wrote = inl (is ∙ ap code (broken_status NoSpace i trouble breaks wrote.demands.0))
  broken_as stands loaded source_rose rose i b last w Usage trouble is breaks wrote = absurd wrote.demands
  broken_as stands loaded source_rose rose i b last w NoObject trouble is breaks wrote = absurd wrote.demands

  pub breaks_off : {source_rose : Type 0} (left left' : Option (List ℕ)) (last : ℕ) {held held' : List ℕ → Type 0} (stands : State → Type 0) {loaded : Bool} (rose : ℕ) (status : Status) (i : List ℕ) (trouble : RunError)
      → result ≡ code status → HasRun left left' last held held' stands loaded source_rose rose status → left ≡ Some i → (verdict i).ending ≡ Broken trouble → (result ≡ code (status_of trouble)) ⊎ (result ≡ 5)
  breaks_off {source_rose = source_rose} left left' last stands {loaded} rose status i trouble is ran tells breaks =
      let same : i ≡ ran.0 = subst (λ l. IfSome l (λ bytes. bytes ≡ ran.0)) tells ran.3.input in
      broken_as stands loaded source_rose rose ran.0 ran.1 last ran.2 status trouble is (subst (λ xs. (verdict xs).ending ≡ Broken trouble) same breaks) ran.3.wrote

-- Out of memory without a dump

-- before the first command no reply was written
none_answered : (stands : State → Type 0) (rose : ℕ) (text : List ℕ) → Answered (world_of start.place) start.commands stands rose text → text ≡ []
none_answered stands rose text answered = answered.1

module _ (stands : State → Type 0) (loaded : Bool) (source_rose : Type 0) (rose : ℕ) (result : ℕ) (five : result ≡ 5) (i b : List ℕ) (last : ℕ) (w : List ℕ) (others : All IsOther (verdict i).read.commands) where
  early_from : (read : Read) (text line : List ℕ) → IsUnloaded loaded read ⊎ BeforeDump i read → line ≡ trouble_line Memory → Answered (world_of read.place) read.commands stands rose text → w ≡ text ++ line → IsAhead (length read.commands) i b last
      → IsAhead 0 i b last × (w ≡ trouble_line Memory) × (loaded ≡ false)
  early_from read text line (inl e) told answered is far =
      let none : text ≡ [] = none_answered stands rose text (subst (λ (r : Read). Answered (world_of r.place) r.commands stands rose text) e.0 answered) in
      (subst (λ (r : Read). IsAhead (length r.commands) i b last) e.0 far, is ∙ ap (λ (xs : List ℕ). xs ++ line) none ∙ told, e.1)
  early_from read text line (inr d) told answered is far = absurd (no_dump read.commands d.later (subst (All IsOther) d.commands others))

  early_as : (status : Status) → result ≡ code status → Wrote status (observes i b last w stands loaded source_rose rose) → IsAhead 0 i b last × (w ≡ trouble_line Memory) × (loaded ≡ false)
  early_as NoMemory is wrote = early_from wrote.read wrote.replies wrote.line wrote.demands.0 wrote.demands.1 wrote.answered wrote.written wrote.ahead
  early_as Done is wrote = absurd (let e : 5 ≡ 0 = sym five ∙ is in omega (arith, e))
  early_as WriteFailed is wrote = absurd (let e : 5 ≡ 1 = sym five ∙ is in omega (arith, e))
  early_as ReadFailed is wrote = absurd (let e : 5 ≡ 3 = sym five ∙ is in omega (arith, e))
  early_as SwapFailed is wrote = absurd (let e : 5 ≡ 6 = sym five ∙ is in omega (arith, e))
  early_as Refused is wrote = absurd (let e : 5 ≡ 2 = sym five ∙ is in omega (arith, e))
  early_as NoSpace is wrote = absurd (let e : 5 ≡ 4 = sym five ∙ is in omega (arith, e))
  early_as Usage is wrote = absurd (let e : 5 ≡ 7 = sym five ∙ is in omega (arith, e))
  early_as NoObject is wrote = absurd (let e : 5 ≡ 8 = sym five ∙ is in omega (arith, e))

pub runs_out_early : {source_rose : Type 0} (left left' : Option (List ℕ)) (last : ℕ) {held held' : List ℕ → Type 0} (stands : State → Type 0) {loaded : Bool} (rose result : ℕ) (status : Status) (i : List ℕ)
    → result ≡ code status → HasRun left left' last held held' stands loaded source_rose rose status → left ≡ Some i → All IsOther (verdict i).read.commands → result ≡ 5 → IsEarly i left' last held held' loaded
runs_out_early {source_rose} left left' last {held} {held'} stands {loaded} rose result status i is ran tells others five =
    let same : i ≡ ran.0 = subst (λ l. IfSome l (λ bytes. bytes ≡ ran.0)) tells ran.3.input in
    let e = early_as stands loaded source_rose rose result five ran.0 ran.1 last ran.2 (subst (λ (xs : List ℕ). All IsOther (verdict xs).read.commands) same others) status is ran.3.wrote in
    record {
      b = ran.1;
      gave = subst (λ l. Gave l left' ran.1) tells ran.3.gave;
      ahead = subst (λ (xs : List ℕ). IsAhead 0 xs ran.1 last) (sym same) e.0;
      alone = subst (λ (xs : List ℕ). Gained held held' xs) e.1 ran.3.gained;
      unloaded = e.2;
    }
