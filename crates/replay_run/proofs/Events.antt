-- The effect of an event between two lines.
use Rattle.std.proofs.Common.{◌≡◌, ◌⊎◌, inl, inr, ℕ, ◌-◌, ◌<◌, ◌≤◌, List, [], ◌∷◌, ◌++◌, length, get_or, Option, Some, None, Ok, refl, sym, subst, ◌∙◌, arith}
use Rattle.std.proofs.lemmas.List.{length-append, get_or_at, get_or_append_left}
use Rattle.std.proofs.lemmas.Bool.{cases_lt}
use Rattle.outer_ports.specs.Ports.{Gained}
use Rattle.outer_ports.specs.Buffers.{Gathered}
use Rattle.outer_ports.proofs.Gains.{gained_more}
use Rattle.lisp_graph.specs.declared.command.Command.{Command}
use Rattle.paged_machine.specs.lisp_meaning.State.{State}
use Rattle.paged_machine.specs.lisp_meaning.Opening.{opening}
use Rattle.paged_machine.specs.lisp_meaning.Sound.{IsSound}
use Rattle.paged_machine.specs.lisp_meaning.Run.{Run}
use Rattle.lisp_graph.specs.declared.world.World.{World}
use Rattle.input_verdict.specs.Input.{JudgedInput}
use Rattle.input_verdict.specs.Events.{Event, Nothing, Opens, Does}
use Rattle.input_verdict.specs.Places.{IsPlace, MayDo}
use Rattle.lisp_graph.specs.Commands.{IsRunnable}
use Rattle.input_verdict.specs.Verdict.{Read, noted, world_of}
use Rattle.input_verdict.proofs.AcceptedLines.{Goes}
use Rattle.input_verdict.proofs.VerdictInvariant.{AreInLimits}
use Rattle.replay_run.specs.Steps.{Acted, IsIn, TakesAfter, Tells}
use Rattle.replay_run.proofs.SoundWorlds.{few_at, sound_at}
use Rattle.replay_run.proofs.Runs.{AreInLimits-append}
use Rattle.replay_run.proofs.BufferedReplies.{tells_moved, tells_as, told_more, told_moved, told_reached}

-- what holds after a line whose event was done
pub record Steps (held held' : List ℕ → Type 0) (stands : State → Type 0) (takes : Command → Type 0) (idle : Type 0) (before now : ℕ) (place : JudgedInput) (read : Read) (pending : List ℕ) (m base : ℕ) : Type 0 where
  pub w : List ℕ
  pub gained : Gained held held' w
  pub tells : Tells (world_of place) read.commands stands (now - before) w pending m
  pub takes_all : (world : World) → world_of place ≡ Some world → (command : Command) → IsRunnable world command → takes command
  pub idle_before : world_of place ≡ None → idle
  pub later : before ≤ now
  pub counts : length read.starts ≡ length read.commands
  pub limits : AreInLimits read.commands
  pub behind : (n : ℕ) → m ≤ n → n < length read.starts → base ≤ get_or read.starts n 0

-- the machine takes the command of an accepted line
pub takes_command : (old new : JudgedInput) (takes : Command → Type 0) → ((world : World) → world_of old ≡ Some world → (command : Command) → IsRunnable world command → takes command)
    → (event : Event) → Goes old event new → MayDo new.judge.builder.world event → (command : Command) → event ≡ Does command → takes command
takes_command old new takes all Nothing goes may command is = absurd (cc (is))
takes_command old new takes all Opens goes may command is = absurd (cc (is))
takes_command old new takes all (Does c) goes may command is =
    let e : c ≡ command = cc (is) in
    subst takes e (all new.judge.builder.world goes.0 c may)

-- the machine represents a state that a run in the world reaches
pub is_in : (place : JudgedInput) {stands : State → Type 0} {rose : ℕ} {commands : List Command} {w pending : List ℕ} {m : ℕ} → IsPlace place → Tells (world_of place) commands stands rose w pending m → AreInLimits commands
    → (world : World) → world_of place ≡ Some world → IsIn world stands
is_in place {stands} {rose} {commands} {w} {pending} {m} form tells limits world opened =
    let t = (subst (λ o. Tells o commands stands rose w pending m) opened tells).told in
    record {
      state = t.last;
      stood = t.state;
      reached = told_reached t limits (sound_at place form world opened);
      few = few_at place form world opened;
    }

-- this is so if a line requests a command
pub stands_command : (old new : JudgedInput) (stands : State → Type 0) → ((world : World) → world_of old ≡ Some world → IsIn world stands) → (event : Event) → Goes old event new → (command : Command) → event ≡ Does command
    → IsIn new.judge.builder.world stands
stands_command old new stands all Nothing goes command is = absurd (cc (is))
stands_command old new stands all Opens goes command is = absurd (cc (is))
stands_command old new stands all (Does c) goes command is = all new.judge.builder.world goes.0

-- the machine is idle if a line opens a world
pub idle_opens : (old new : JudgedInput) (idle : Type 0) → (world_of old ≡ None → idle) → (event : Event) → Goes old event new → event ≡ Opens → idle
idle_opens old new idle before Nothing goes is = absurd (cc (is))
idle_opens old new idle before Opens goes is = before goes.0
idle_opens old new idle before (Does c) goes is = absurd (cc (is))

-- what else remains while nothing is done
pub takes_with : (world : World) (took takes : Command → Type 0) (was is : Type 0) {had has : Type 0} (event : Event) → (event ≡ Nothing → had → has) → TakesAfter event world took takes was is → TakesAfter event world took takes (was × had) (is × has)
takes_with world took takes was is Nothing stays t = (t.0, λ both. (t.1 both.0, stays refl both.1))
takes_with world took takes was is Opens stays t = t
takes_with world took takes was is (Does command) stays t = t

some_world : (a b : World) → ◌≡◌ {A = Option World} (Some a) (Some b) → a ≡ b
some_world a b is = cc (is)

module _ (held held' held'' : List ℕ → Type 0) (stands stands' : State → Type 0) (takes takes' : Command → Type 0) (idle idle' : Type 0) (before now now' : ℕ) (pending pending' : List ℕ) (old place : JudgedInput) (read : Read) (w : List ℕ) (m base : ℕ)
    (gained : Gained held held' w) (tells : Tells (world_of old) read.commands stands (now - before) w pending m) (all : (world : World) → world_of old ≡ Some world → (command : Command) → IsRunnable world command → takes command)
    (idle_before : world_of old ≡ None → idle) (later : before ≤ now) (sound : (world : World) → world_of old ≡ Some world → IsSound (opening world))
    (counts : length read.starts ≡ length read.commands) (limits : AreInLimits read.commands) (behind : (n : ℕ) → m ≤ n → n < length read.starts → base ≤ get_or read.starts n 0) (reached : base ≤ read.place.bytes) where
  pub steps_nothing : Goes old Nothing place → Acted Nothing place.judge.builder.world stands stands' now now' held' held'' pending pending' (Ok tt) → TakesAfter Nothing place.judge.builder.world takes takes' idle idle'
      → Steps held held'' stands' takes' idle' before now' place (noted read Nothing place) pending' m base
  steps_nothing goes acted after = record {
    w = w ++ acted.0.given;
    gained = gained_more gained acted.0.gained;
    tells = subst (λ o. Tells o read.commands stands' (now' - before) (w ++ acted.0.given) pending' m) (sym goes) (tells_as before acted.1 acted.2 (tells_moved acted.0.given acted.0.all tells));
    takes_all = λ world opened c r. after.0 c (all world (sym goes ∙ opened) c r);
    idle_before = λ closed. after.1 (idle_before (sym goes ∙ closed));
    later = omega (arith, acted.2);
    counts = counts;
    limits = limits;
    behind = behind;
  }

  opened : (world : World) → world_of old ≡ None → (g : Gathered held' held'' pending' pending) → stands' (opening world) → now' ≡ now → Tells (Some world) read.commands stands' (now' - before) (w ++ g.given) pending' m
  opened world none g state same =
      let t = (tells_moved g.given g.all (subst (λ o. Tells o read.commands stands (now - before) w pending m) none tells)).told in
      record {
        told = record {
          first = [];
          later = [];
          last = opening world;
          run = subst (λ cs. Run (opening world) cs [] (opening world)) (sym t.0) refl;
          state = state;
          faults = omega arith;
          quiet = λ _. omega (arith, t.4, same);
          count = t.3;
          given = [];
          is = t.1;
          rest = sym t.2;
        };
      }

  pub steps_opens : Goes old Opens place → Acted Opens place.judge.builder.world stands stands' now now' held' held'' pending pending' (Ok tt) → TakesAfter Opens place.judge.builder.world takes takes' idle idle'
      → Steps held held'' stands' takes' idle' before now' place (noted read Opens place) pending' m base
  steps_opens goes acted after = record {
    w = w ++ acted.0.given;
    gained = gained_more gained acted.0.gained;
    tells = subst (λ o. Tells o read.commands stands' (now' - before) (w ++ acted.0.given) pending' m) (sym goes.1) (opened place.judge.builder.world goes.0 acted.0 acted.1.0 acted.1.1);
    takes_all = λ world is c r. after c (subst (λ w. IsRunnable w c) (some_world world place.judge.builder.world (sym is ∙ goes.1)) r);
    idle_before = λ none. let some = goes.1 in absurd (cc (none, some));
    later = omega (arith, acted.1.1);
    counts = counts;
    limits = limits;
    behind = behind;
  }

  start_more : (n : ℕ) → m ≤ n → n < length (read.starts ++ read.place.bytes ∷ []) → base ≤ get_or (read.starts ++ read.place.bytes ∷ []) n 0
  start_more n above below = go (cases_lt n (length read.starts))
    where
      go : (n < length read.starts) ⊎ (length read.starts ≤ n) → base ≤ get_or (read.starts ++ read.place.bytes ∷ []) n 0
      go (inl l) = subst (λ y. base ≤ y) (sym (get_or_append_left read.starts (read.place.bytes ∷ []) 0 n l)) (behind n above l)
      go (inr l) = subst (λ y. base ≤ y) (sym (get_or_at read.starts read.place.bytes [] 0 n (omega (arith, length-append read.starts (read.place.bytes ∷ []))))) reached

  pub steps_does : (command : Command) → Goes old (Does command) place → Acted (Does command) place.judge.builder.world stands stands' now now' held' held'' pending pending' (Ok tt) → TakesAfter (Does command) place.judge.builder.world takes takes' idle idle'
      → Steps held held'' stands' takes' idle' before now' place (noted read (Does command) place) pending' m base
  steps_does command goes acted after =
      let t = (subst (λ o. Tells o read.commands stands (now - before) w pending m) goes.0 tells).told in
      elim (acted.1 t.last t.state (told_reached t limits (sound place.judge.builder.world goes.0))) [
        | inl a ↦
            let more = told_more command a.answer a.new t a.does a.state later acted.0 a.fault a.quiet in
            let g = a.gathers.whole in
            record {
              w = w ++ g.given;
              gained = gained_more gained g.gained;
              tells = subst (λ o. Tells o (read.commands ++ command ∷ []) stands' (now' - before) (w ++ g.given) pending' m) (sym goes.1) (record { told = told_moved g.given g.all more });
              takes_all = λ world is c r. after c (all world (goes.0 ∙ sym goes.1 ∙ is) c r);
              idle_before = λ none. let some = goes.1 in absurd (cc (none, some));
              later = omega (arith, acted.0);
              counts = omega (arith, length-append read.starts (read.place.bytes ∷ []), length-append read.commands (command ∷ []));
              limits = AreInLimits-append read.commands (command ∷ []) limits (goes.2, tt);
              behind = start_more;
            }
        | inr a ↦ absurd (let e = a.halt in cc (e))
      ]

  pub steps : (event : Event) → Goes old event place → Acted event place.judge.builder.world stands stands' now now' held' held'' pending pending' (Ok tt) → TakesAfter event place.judge.builder.world takes takes' idle idle'
      → Steps held held'' stands' takes' idle' before now' place (noted read event place) pending' m base
  steps Nothing goes acted after = steps_nothing goes acted after
  steps Opens goes acted after = steps_opens goes acted after
  steps (Does command) goes acted after = steps_does command goes acted after
