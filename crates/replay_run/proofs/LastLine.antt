-- The last line, after what is pending.
use Rattle.std.proofs.Common.{◌≡◌, ◌⊎◌, inl, inr, ℕ, ◌-◌, ◌<◌, List, [], ◌∷◌, ◌++◌, length, drop, true, Option, Result, Ok, Err, refl, sym, ap, ◌∙◌, subst, arith, Bool, false}
use Rattle.std.proofs.lemmas.List.{append_assoc, length-append}
use Rattle.std.proofs.Math.Seq.{drop-nil, take-nil}
use Rattle.outer_ports.specs.Ports.{Gained, IsCut}
use Rattle.outer_ports.proofs.Gains.{gained_more, gained_none, gained_nothing, gave_nothing}
use Rattle.paged_machine.specs.lisp_meaning.State.{State}
use Rattle.line_input.specs.declared.statuses.status.Status.{Status}
use Rattle.line_input.specs.declared.statuses.status.Status.TheVariants.{Done, WriteFailed, ReadFailed, SwapFailed}
use Rattle.line_input.specs.declared.statuses.status.RunStop.{RunStop}
use Rattle.line_input.specs.declared.statuses.status.RunStop.TheVariants.{Write, Tell}
use Rattle.line_input.specs.declared.statuses.status.RunError.{RunError}
use Rattle.line_input.specs.declared.statuses.status.RunError.TheVariants as trouble
use Rattle.line_input.specs.Reader.{no_feed, without_latest}
use Rattle.line_input.specs.Statuses.{Finished, code, status_of, trouble_line}
use Rattle.input_verdict.specs.Verdict.{start}
use Rattle.replay_run.specs.Outcome.{EndsWith, IsCaused, Wrote}
use Rattle.replay_run.specs.Steps.{StopsAt}
use Rattle.replay_run.proofs.Observations.{HasRun, HasStopped, demands_as, observes, wrote_ended}
use Rattle.line_input.proofs.ReaderInvariant.{rest_of, told_input}
use Rattle.line_input.proofs.StatusCodes.{same_status}

-- Prefixes of two texts, one after another

pub split_cut : (a b front : List ℕ) → IsCut (a ++ b) front → ((rest : List ℕ) × (0 < length rest) × (a ≡ front ++ rest)) ⊎ ((part : List ℕ) × IsCut b part × (front ≡ a ++ part))
split_cut [] b front cut = inr (front, cut, refl)
split_cut (x ∷ xs) b [] cut = inl (x ∷ xs, omega arith, refl)
split_cut (x ∷ xs) b (y ∷ ys) cut =
    let whole : x ∷ (xs ++ b) ≡ y ∷ (ys ++ cut.0) = cut.2 in
    let head : x ≡ y = cc in
    let tail : xs ++ b ≡ ys ++ cut.0 = cc in
    elim (split_cut xs b ys (cut.0, cut.1, tail)) [
      | inl p ↦ inl (p.0, p.1, (λ i. head i ∷ p.2 i))
      | inr p ↦ inr (p.0, p.1, (λ i. sym head i ∷ p.2 i))
    ]

-- A run to its end

-- everything was written
abbrev ends_whole : (status : Status) (line : List ℕ) {i b : List ℕ} {last : ℕ} {w : List ℕ} {stands : State → Type 0} {loaded : Bool} {source_rose : Type 0} {rose : ℕ} (pending : List ℕ) → StopsAt status line (observes i b last w stands loaded source_rose rose) pending
    → EndsWith status (observes i b last (w ++ (pending ++ line)) stands loaded source_rose rose)
ends_whole status line {i} {b} {last} {w} {stands} {loaded} {source_rose} {rose} pending s = record {
  read = s.read;
  replies = w ++ pending;
  line = line;
  demands = demands_as status i b last w (w ++ (pending ++ line)) stands stands loaded source_rose rose s.read line s.demands;
  answered = s.answered;
  written = sym (append_assoc w pending line);
  ahead = s.far;
  untouched = s.untouched;
}

-- the sink failed in a reply that was pending, or in the line
wrote_cut : (status : Status) (line : List ℕ) {i b : List ℕ} {last : ℕ} {w : List ℕ} {stands : State → Type 0} {loaded : Bool} {source_rose : Type 0} {rose : ℕ} (pending front : List ℕ) → StopsAt status line (observes i b last w stands loaded source_rose rose) pending → IsCaused source_rose rose status
    → IsCut (pending ++ line) front → Wrote WriteFailed (observes i b last (w ++ front) stands loaded source_rose rose)
wrote_cut status line {w = w} pending front s cause cut = elim (split_cut pending line front cut) [
  | inl p ↦ inl (s.cut front p.0 p.2 p.1)
  | inr p ↦ inr (record {
    status = status;
    whole = w ++ (pending ++ line);
    ends = ends_whole status line pending s;
    cause = cause;
    part = p.0;
    cut = p.1;
    is = ap (λ xs. w ++ xs) p.2 ∙ sym (append_assoc w pending p.0);
  })
]

-- a trouble has its cause
caused : (source_rose : Type 0) (rose : ℕ) (t : RunError) → (Tell t ≡ Tell trouble.Read → source_rose) → (Tell t ≡ Tell trouble.Swap → 0 < rose) → IsCaused source_rose rose (status_of t)
caused source_rose rose trouble.Read read swap = read refl
caused source_rose rose trouble.Swap read swap = swap refl
caused source_rose rose trouble.Memory read swap = tt
caused source_rose rose trouble.Usage read swap = tt
caused source_rose rose (trouble.NoObject object) read swap = tt
caused source_rose rose (trouble.Line n reason) read swap = tt
caused source_rose rose (trouble.TooSmall n) read swap = tt
caused source_rose rose (trouble.Exhausted n area charged wanted quota) read swap = tt

module _ {left left' : Option (List ℕ)} {last : ℕ} {held held' held'' : List ℕ → Type 0} {stands : State → Type 0} {loaded : Bool} {source_rose : Type 0} {rose : ℕ} {pending : List ℕ} where
  ran_stop : (outcome : Result (Unit {0}) RunStop) (status status' : Status) (line : List ℕ) (r : HasStopped left left' last held held' stands loaded source_rose rose pending outcome) → StopsAt status' line (observes r.0 r.1 last r.2 stands loaded source_rose rose) pending → IsCaused source_rose rose status'
      → ((status ≡ status') × Gained held' held'' (pending ++ line)) ⊎ ((status ≡ WriteFailed) × ((front : List ℕ) × IsCut (pending ++ line) front × Gained held' held'' front)) → HasRun left left' last held held'' stands loaded source_rose rose status
  ran_stop outcome status status' line r s cause (inl f) = (
    r.0,
    r.1,
    r.2 ++ (pending ++ line),
    record {
      input = r.3.input;
      gave = r.3.gave;
      rest = r.3.rest;
      gained = gained_more r.3.gained f.1;
      wrote = subst (λ x. Wrote x (observes r.0 r.1 last (r.2 ++ (pending ++ line)) stands loaded source_rose rose)) (sym f.0) (wrote_ended status' (observes r.0 r.1 last (r.2 ++ (pending ++ line)) stands loaded source_rose rose) (ends_whole status' line pending s));
    },
  )
  ran_stop outcome status status' line r s cause (inr f) = (
    r.0,
    r.1,
    r.2 ++ f.1.0,
    record {
      input = r.3.input;
      gave = r.3.gave;
      rest = r.3.rest;
      gained = gained_more r.3.gained f.1.2;
      wrote = subst (λ x. Wrote x (observes r.0 r.1 last (r.2 ++ f.1.0) stands loaded source_rose rose)) (sym f.0) (wrote_cut status' line pending f.1.0 s cause f.1.1);
    },
  )

  ran_cut : (status : Status) (r : HasStopped left left' last held held' stands loaded source_rose rose pending (Err Write)) → (status ≡ WriteFailed) × Gained held' held'' [] → HasRun left left' last held held'' stands loaded source_rose rose status
  ran_cut status r f = (
    r.0,
    r.1,
    r.2,
    record {
      input = r.3.input;
      gave = r.3.gave;
      rest = r.3.rest;
      gained = gained_none r.3.gained f.1;
      wrote = subst (λ x. Wrote x (observes r.0 r.1 last r.2 stands loaded source_rose rose)) (sym f.0) (inl r.3.stopped);
    },
  )

-- the last line was written, or the sink failed in it or before
pub ran_finish : {left left' : Option (List ℕ)} {last : ℕ} {held held' held'' : List ℕ → Type 0} {stands : State → Type 0} {loaded : Bool} {source_rose : Type 0} {pending : List ℕ} (before now : ℕ) (outcome : Result (Unit {0}) RunStop) (status : Status)
    → (outcome ≡ Err (Tell trouble.Read) → source_rose) → (outcome ≡ Err (Tell trouble.Swap) → before < now) → HasStopped left left' last held held' stands loaded source_rose (now - before) pending outcome → Finished held' held'' pending outcome status
    → HasRun left left' last held held'' stands loaded source_rose (now - before) status
ran_finish before now (Ok x) status read swap r f = ran_stop (Ok x) status Done [] r r.3.stopped tt f
ran_finish before now (Err Write) status read swap r f = ran_cut status r f
ran_finish {source_rose = source_rose} before now (Err (Tell t)) status read swap r f =
    ran_stop (Err (Tell t)) status (status_of t) (trouble_line t) r r.3.stopped (caused source_rose (now - before) t (λ is. read (ap Err is)) (λ is. omega (arith, swap (ap Err is)))) f

-- no bytes have no line feed
feedless_none : (n last : ℕ) → no_feed (drop n (without_latest last [])) ≡ true
feedless_none n last = ap (λ xs. no_feed (drop n xs)) (take-nil (0 - last)) ∙ ap no_feed (drop-nil n)

-- there was no memory for a buffer
pub ran_nothing : (left : Option (List ℕ)) {last : ℕ} {held : List ℕ → Type 0} (stands : State → Type 0) {loaded : Bool} {source_rose : Type 0} (rose : ℕ) → rose ≡ 0 → loaded ≡ false → HasStopped left left last held held stands loaded source_rose rose [] (Err (Tell trouble.Memory))
ran_nothing left {last = last} stands rose none unloaded = (
  rest_of left,
  [],
  [],
  record {
    input = told_input left left [] (gave_nothing left);
    gave = gave_nothing left;
    rest = refl;
    gained = gained_nothing;
    stopped = record {
      read = start;
      demands = (inl (refl, unloaded), refl);
      answered = (refl, refl);
      untouched = λ _ _. none;
      far = λ _. record { buffer = omega arith; lockstep = feedless_none _ last };
      cut = λ front rest is some. absurd (omega (arith, ap length is, length-append front rest));
    };
  },
)

-- If the source failed

read_at : (t : RunError) → ReadFailed ≡ status_of t → t ≡ trouble.Read
read_at trouble.Read is = refl
read_at trouble.Swap is = absurd (cc (is))
read_at trouble.Memory is = absurd (cc (is))
read_at trouble.Usage is = absurd (cc (is))
read_at (trouble.NoObject object) is = absurd (cc (is))
read_at (trouble.Line n reason) is = absurd (cc (is))
read_at (trouble.TooSmall n) is = absurd (cc (is))
read_at (trouble.Exhausted n area charged wanted quota) is = absurd (cc (is))

-- a run with the status of the source's failure stopped at that failure
pub read_failed : (held held' : List ℕ → Type 0) (pending : List ℕ) (outcome : Result (Unit {0}) RunStop) (result : Status) → Finished held held' pending outcome result → result ≡ ReadFailed → outcome ≡ Err (Tell trouble.Read)
read_failed held held' pending (Err Write) result finished is = let write = finished.0 in absurd (cc (write, is))
read_failed held held' pending (Ok done) result finished is = elim finished [ inl x ↦ (let other = x.0 in absurd (cc (other, is))) | inr x ↦ (let other = x.0 in absurd (cc (other, is))) ]
read_failed held held' pending (Err (Tell t)) result finished is = elim finished [ inl x ↦ ap (λ (t : RunError). Err (Tell t)) (read_at t (sym is ∙ x.0)) | inr x ↦ (let other = x.0 in absurd (cc (other, is))) ]

pub failed_read : (status : Status) → code status ≡ 3 → status ≡ ReadFailed
failed_read status is = same_status status ReadFailed is

pub failed_write : (status : Status) → code status ≡ 1 → status ≡ WriteFailed
failed_write status is = same_status status WriteFailed is

pub failed_swap : (status : Status) → code status ≡ 6 → status ≡ SwapFailed
failed_swap status is = same_status status SwapFailed is
