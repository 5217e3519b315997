-- How a run ends.
use Rattle.std.proofs.Common.{◌≡◌, true, false, inl, inr, ⊎_elim, ℕ, List, [], ◌++◌, Option, Result, Ok, Err, refl, sym, ◌∙◌, ap, subst, append_assoc}
use Rattle.outer_ports.specs.Ports.{Gained, IsCut}
use Rattle.outer_ports.specs.Buffers.{Gathered}
use Rattle.outer_ports.proofs.Gains.{cut_behind, gained_more, gained_none}
use Rattle.outer_ports.proofs.BufferGains.{gathered_nothing}
use Rattle.line_input.specs.declared.statuses.status.Status.{Status}
use Rattle.line_input.specs.declared.statuses.status.Status.TheVariants as S
use Rattle.line_input.specs.declared.statuses.status.RunStop.{RunStop}
use Rattle.line_input.specs.declared.statuses.status.RunStop.TheVariants.{Write, Tell}
use Rattle.line_input.specs.declared.statuses.status.RunError.{RunError}
use Rattle.line_input.specs.declared.statuses.status.RunError.TheVariants as T
use Rattle.line_input.specs.Statuses.{Closed, Finished, status_of, trouble_line}
use Rattle.line_input.specs.Verdict.{Reads, WasRead}
use Rattle.band_run.specs.declared.reading.command.BandCommand.{BandCommand}
use Rattle.band_run.specs.Verdict.{band_rules, start}
use Rattle.band_run.specs.Outcome.{Demands, IsCaused, Ran, Says, Wrote, runs_commands}
use Rattle.band_run.specs.Steps.{RanTo}

abbrev pub Writes : (List BandCommand → List BandCommand → List ℕ → Type 0) → Type 0 → (List ℕ → Type 0) → (List ℕ → Type 0) → Status → List ℕ → List ℕ → Type 0
Writes answers source_rose held held' status i b = (w : List ℕ) × Gained held held' w × Wrote status answers source_rose i b w

module _ (answers : List BandCommand → List BandCommand → List ℕ → Type 0) (source_rose : Type 0) (i b : List ℕ) where
  wrote_all : (status : Status) (done later : List BandCommand) (text line w : List ℕ) → Demands status i b done later line → answers done later text → w ≡ text ++ line → Wrote status answers source_rose i b w
  wrote_all S.Done done later text line w demands answered is = (done, later, text, line, demands, answered, is)
  wrote_all S.Refused done later text line w demands answered is = (done, later, text, line, demands, answered, is)
  wrote_all S.NoSpace done later text line w demands answered is = (done, later, text, line, demands, answered, is)
  wrote_all S.ReadFailed done later text line w demands answered is = (done, later, text, line, demands, answered, is)
  wrote_all S.NoMemory done later text line w demands answered is = (done, later, text, line, demands, answered, is)
  wrote_all _ done later text line w demands answered is = absurd demands

  -- what was pending and a line after it were written, or the sink failed in them
  pub closed_all : {held held' held'' : List ℕ → Type 0} {pending : List ℕ} (wanted status : Status) (done later : List BandCommand) (text line : List ℕ) → Demands wanted i b done later line → IsCaused source_rose wanted → answers done later text
      → Gathered held held' pending text → Closed held' held'' (pending ++ line) wanted status → Writes answers source_rose held held'' status i b
  closed_all {held} {held'} {held''} {pending} wanted status done later text line demands cause answered g closed =
      ⊎_elim
      (λ whole. (g.given ++ (pending ++ line), gained_more g.gained whole.1, subst (λ s. Wrote s answers source_rose i b (g.given ++ (pending ++ line))) (sym whole.0) (wrote_all wanted done later text line (g.given ++ (pending ++ line)) demands answered all)))
      (λ cut. (
        g.given ++ cut.1.0,
        gained_more g.gained cut.1.2,
        subst (λ s. Wrote s answers source_rose i b (g.given ++ cut.1.0)) (sym cut.0) (inr (record {
          status = wanted;
          done = done;
          later = later;
          text = text;
          line = line;
          demands = demands;
          cause = cause;
          answered = answered;
          cut = subst (λ (w : List ℕ). IsCut w (g.given ++ cut.1.0)) all (cut_behind (pending ++ line) cut.1.0 g.given cut.1.1);
        })),
      ))
      closed
    where
      all : g.given ++ (pending ++ line) ≡ text ++ line
      all = sym (append_assoc g.given pending line) ∙ ap (λ (w : List ℕ). w ++ line) (sym g.all)

  -- the end of a run over commands
  pub finished : (held held' held'' : List ℕ → Type 0) (pending : List ℕ) (commands : List BandCommand) (outcome : Result (Unit {0}) RunStop) (status : Status) → Says i b commands → RanTo answers commands held held' pending outcome → Finished held' held'' pending outcome status
      → Writes answers source_rose held held'' status i b
  finished held held' held'' pending commands (Ok _) status says ran f = closed_all S.Done status commands [] ran.0 [] (says, refl, refl) tt ran.1 ran.2 f
  finished held held' held'' pending commands (Err Write) status says ran f = (
    ran.3,
    gained_none ran.7 f.1,
    subst (λ s. Wrote s answers source_rose i b ran.3) (sym f.0) (inl (record { done = ran.0; later = ran.1; says = subst (Says i b) ran.4 says; text = ran.2; answered = ran.5; cut = ran.6 })),
  )
  finished held held' held'' pending commands (Err (Tell trouble)) status says ran f =
      closed_all S.NoMemory status ran.0 ran.1 ran.2 (trouble_line T.Memory) (inr (subst (Says i b) ran.4 says, ran.5), refl) tt ran.6 ran.7
      (subst (λ t. Closed held' held'' (pending ++ trouble_line t) (status_of t) status) ran.3 f)

  -- what the status of a trouble with the input requires
  trouble_demands : (trouble : RunError) → Reads band_rules start i b (Err trouble) → Demands (status_of trouble) i b [] [] (trouble_line trouble)
  trouble_demands (T.Line n reason) reads = ((refl, refl), record { trouble = T.Line n reason; verdict_is = reads.1; status_is = refl; told = refl })
  trouble_demands (T.TooSmall n) reads = ((refl, refl), record { trouble = T.TooSmall n; verdict_is = reads.1; status_is = refl; told = refl })
  trouble_demands (T.Exhausted n area charged wanted quota) reads = ((refl, refl), record { trouble = T.Exhausted n area charged wanted quota; verdict_is = reads.1; status_is = refl; told = refl })
  trouble_demands T.Read reads = ((refl, refl), reads, refl)
  trouble_demands T.Memory reads = (inl (refl, refl), refl)
  trouble_demands T.Swap reads = absurd reads.0
  trouble_demands T.Usage reads = absurd reads.0
  trouble_demands (T.NoObject object) reads = absurd reads.0

  -- the status of a trouble has its cause
  caused : (trouble : RunError) → (trouble ≡ T.Read → source_rose) → IsCaused source_rose (status_of trouble)
  caused (T.Line n reason) rose = tt
  caused (T.TooSmall n) rose = tt
  caused (T.Exhausted n area charged wanted quota) rose = tt
  caused T.Read rose = rose refl
  caused T.Memory rose = tt
  caused T.Swap rose = tt
  caused T.Usage rose = tt
  caused (T.NoObject object) rose = tt

  -- no command was run
  pub told : {held held' : List ℕ → Type 0} (trouble : RunError) (status : Status) → Reads band_rules start i b (Err trouble) → (trouble ≡ T.Read → source_rose) → answers [] [] [] → Closed held held' (trouble_line trouble) (status_of trouble) status → Writes answers source_rose held held' status i b
  told trouble status reads rose answered closed = closed_all (status_of trouble) status [] [] [] (trouble_line trouble) (trouble_demands trouble reads) (caused trouble rose) answered (gathered_nothing []) closed

-- the cause of a status, by a fact that follows from it
caused_as : {P Q : Type 0} (status : Status) → (P → Q) → IsCaused P status → IsCaused Q status
caused_as S.ReadFailed then cause = then cause
caused_as S.Done then cause = tt
caused_as S.WriteFailed then cause = tt
caused_as S.Refused then cause = tt
caused_as S.NoSpace then cause = tt
caused_as S.NoMemory then cause = tt
caused_as S.SwapFailed then cause = tt
caused_as S.Usage then cause = tt
caused_as S.NoObject then cause = tt

wrote_as : {P Q : Type 0} (answers : List BandCommand → List BandCommand → List ℕ → Type 0) (i b w : List ℕ) (status : Status) → (P → Q) → Wrote status answers P i b w → Wrote status answers Q i b w
wrote_as answers i b w S.WriteFailed then (inl reply) = inl reply
wrote_as answers i b w S.WriteFailed then (inr line) = inr (record {
  status = line.status;
  done = line.done;
  later = line.later;
  text = line.text;
  line = line.line;
  demands = line.demands;
  cause = caused_as line.status then line.cause;
  answered = line.answered;
  cut = line.cut;
})
wrote_as answers i b w S.Done then wrote = wrote
wrote_as answers i b w S.Refused then wrote = wrote
wrote_as answers i b w S.ReadFailed then wrote = wrote
wrote_as answers i b w S.NoSpace then wrote = wrote
wrote_as answers i b w S.NoMemory then wrote = wrote
wrote_as answers i b w S.SwapFailed then wrote = wrote
wrote_as answers i b w S.Usage then wrote = wrote
wrote_as answers i b w S.NoObject then wrote = wrote

pub writes_as : {P Q : Type 0} {held held' : List ℕ → Type 0} (answers : List BandCommand → List BandCommand → List ℕ → Type 0) (i b : List ℕ) (status : Status) → (P → Q) → Writes answers P held held' status i b → Writes answers Q held held' status i b
writes_as answers i b status then writes = (writes.0, writes.1, wrote_as answers i b writes.0 status then writes.2)

-- a run over commands ends with a status under which commands were run
closed_runs : {held held' : List ℕ → Type 0} (text : List ℕ) (wanted status : Status) → runs_commands wanted ≡ true → Closed held held' text wanted status → runs_commands status ≡ true
closed_runs text wanted status runs (inl whole) = ap runs_commands whole.0 ∙ runs
closed_runs text wanted status runs (inr cut) = ap runs_commands cut.0

pub told_runs : {held held' : List ℕ → Type 0} (status : Status) → Closed held held' (trouble_line T.Memory) (status_of T.Memory) status → runs_commands status ≡ true
told_runs status closed = closed_runs (trouble_line T.Memory) S.NoMemory status refl closed

pub finished_runs : (answers : List BandCommand → List BandCommand → List ℕ → Type 0) (held held' held'' : List ℕ → Type 0) (pending : List ℕ) (commands : List BandCommand) (outcome : Result (Unit {0}) RunStop) (status : Status) → RanTo answers commands held held' pending outcome
    → Finished held' held'' pending outcome status → runs_commands status ≡ true
finished_runs answers held held' held'' pending commands (Ok _) status ran f = closed_runs (pending ++ []) S.Done status refl f
finished_runs answers held held' held'' pending commands (Err Write) status ran f = ap runs_commands f.0
finished_runs answers held held' held'' pending commands (Err (Tell trouble)) status ran f =
    closed_runs (pending ++ trouble_line T.Memory) S.NoMemory status refl (subst (λ t. Closed held' held'' (pending ++ trouble_line t) (status_of t) status) ran.3 f)

-- and with no other status
pub runs_off : (status : Status) (P : Type 0) → runs_commands status ≡ true → runs_commands status ≡ false → P
runs_off status P on off = absurd (let e : true ≡ false = sym on ∙ off in cc)

pub runs_unread : (status : Status) (P : Type 0) → runs_commands status ≡ true → status ≡ S.ReadFailed → P
runs_unread status P on is = runs_off status P on (ap runs_commands is)

pub ran_all : {left left' : Option (List ℕ)} {held held' : List ℕ → Type 0} {source_rose : Type 0} (answers : List BandCommand → List BandCommand → List ℕ → Type 0) (status : Status) (result : Result (List BandCommand) RunError) (read : WasRead band_rules start left left' result)
    → Writes answers source_rose held held' status read.i read.b → Ran left left' held held' answers source_rose status
ran_all answers status result read writes = record { i = read.i; b = read.b; w = writes.0; input = read.input; gave = read.gave; rest = read.rest; gained = writes.1; wrote = writes.2 }
