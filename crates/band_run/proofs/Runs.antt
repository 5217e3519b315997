-- Runs of commands, one after another.
use Rattle.std.proofs.Common.{◌≡◌, inl, inr, ℕ, ◌+◌, ◌-◌, ◌<◌, ◌≤◌, ◌^◌, List, [], ◌∷◌, ◌++◌, length, true, false, Bool, Option, Some, None, refl, ◌∙◌, ap, arith}
use Rattle.std.specs.Prelude.{IfSome, nat_lt, if◌then◌else◌}
use Rattle.std.proofs.lemmas.List.{append-nil}
use Rattle.std.proofs.lemmas.List.Concat.{flat_map-append, flat_map-cons}
use Rattle.std.proofs.lemmas.List.Sums.{sum_by-append}
use Rattle.outer_ports.specs.Ports.{Rose}
use Rattle.band_store.specs.Directory.{directory, named}
use Rattle.band_store.specs.Format.{Save}
use Rattle.band_run.specs.declared.reading.command.BandCommand.{BandCommand}
use Rattle.band_run.specs.declared.reading.command.BandCommand.TheVariants as C
use Rattle.band_run.specs.declared.reply.Reply.{Reply}
use Rattle.band_run.specs.declared.reply.Reply.TheVariants as R
use Rattle.band_run.specs.Bands.{AtSome, Given, IsUnfit, Runs, Saves, BandState, Step, Stepped, closed, faults_in, last_state, list_reply, load_reply, opened_on, room_for, save_refusal, text_of, text_reply}
use Rattle.band_run.specs.Replies.{is_fault, reply_text}
use Rattle.band_run.proofs.ReplySequences.{quiet_more, rises_more}

-- one more command
pub runs_more : (given : Given) (old : BandState) (commands : List BandCommand) (steps : List Stepped) (command : BandCommand) (step : Stepped) → Runs given old commands steps → Step given (last_state old steps) command step.reply step.state → Runs given old (commands ++ command ∷ []) (steps ++ step ∷ [])
runs_more given old [] [] command step run more = (more, tt)
runs_more given old [] (x ∷ xs) command step run more = absurd run
runs_more given old (c ∷ cs) [] command step run more = absurd run
runs_more given old (c ∷ cs) (x ∷ xs) command step run more = (run.0, runs_more given x.state cs xs command step run.1 more)

pub last_more : (old : BandState) (steps : List Stepped) (step : Stepped) → last_state old (steps ++ step ∷ []) ≡ step.state
last_more old [] step = refl
last_more old (x ∷ xs) step = last_more x.state xs step

-- the states of a run are among those of a longer one
pub some_more : (P : BandState → Type 0) (old : BandState) (steps : List Stepped) (step : Stepped) → AtSome P old steps → AtSome P old (steps ++ step ∷ [])
some_more P old [] step h = inl h
some_more P old (x ∷ xs) step (inl h) = inl h
some_more P old (x ∷ xs) step (inr h) = inr (some_more P x.state xs step h)

-- the last state is one of the states of a run
pub some_last : (P : BandState → Type 0) (old : BandState) (steps : List Stepped) → P (last_state old steps) → AtSome P old steps
some_last P old [] h = h
some_last P old (x ∷ xs) h = inr (some_last P x.state xs h)

pub text_more : (steps : List Stepped) (step : Stepped) → text_of (steps ++ step ∷ []) ≡ text_of steps ++ reply_text step.reply
text_more steps step =
    flat_map-append (λ (x : Stepped). reply_text x.reply) steps (step ∷ [])
    ∙ ap (λ l. text_of steps ++ l) (flat_map-cons (λ (x : Stepped). reply_text x.reply) step [] ∙ append-nil (reply_text step.reply))

-- A count of failed calls that isn't saturated rises with each reply `fault`.
pub faults_more : (before now after : ℕ) (steps : List Stepped) (step : Stepped) → (now < 2 ^ 64 - 1 → faults_in steps + before ≤ now) → now ≤ after → (is_fault step.reply ≡ true → Rose now after)
    → after < 2 ^ 64 - 1 → faults_in (steps ++ step ∷ []) + before ≤ after
faults_more before now after steps step so_far later cause below = rises_more (λ (x : Stepped). is_fault x.reply) before now after steps step so_far later cause below

-- If none of the replies is `fault`, the count is unchanged.
pub calm_more : (before now after : ℕ) (steps : List Stepped) (step : Stepped) → (faults_in steps ≡ 0 → now ≡ before) → (is_fault step.reply ≡ false → after ≡ now)
    → faults_in (steps ++ step ∷ []) ≡ 0 → after ≡ before
calm_more before now after steps step so_far quiet none = quiet_more (λ (x : Stepped). is_fault x.reply) before now after steps step so_far quiet none

-- From every state there is a transition whose reply isn't `fault`

abbrev is_calm : Given → BandState → BandCommand → Type 0
is_calm given s command = (step : Stepped) × Step given s command step.reply step.state × (is_fault step.reply ≡ false)

calm_unfit : (bytes : List ℕ) (refusal : Reply) → IsUnfit bytes refusal → is_fault refusal ≡ false
calm_unfit bytes R.NotAStore unfit = refl
calm_unfit bytes (R.Damaged at) unfit = refl
calm_unfit bytes _ unfit = absurd unfit

calm_open : (bytes : List ℕ) (room : ℕ) (refusal : Option Reply) (s : BandState) → IfSome refusal (IsUnfit bytes) → is_calm (record { room = room; refusal = refusal }) s C.Open
calm_open bytes room None s unfit = (record { reply = R.Opened (length (directory s.saves)); state = opened_on s.saves }, (inl refl, refl), refl)
calm_open bytes room (Some refusal) s unfit = (record { reply = refusal; state = closed s }, (inl refl, refl), calm_unfit bytes refusal unfit)

calm_save : (refusal : Option Reply) (s : BandState) (save : Save) → ((reply : Reply) → refusal ≡ Some reply → is_fault reply ≡ false) → (step : Stepped) × Saves refusal s save step.reply step.state × (is_fault step.reply ≡ false)
calm_save None s save calm = (record { reply = R.Saved save.name; state = record s { saves = s.saves ++ save ∷ [] } }, inl (refl, refl), refl)
calm_save (Some reply) s save calm = (record { reply = reply; state = s }, (refl, refl), calm reply refl)

calm_refusal : (opened large full : Bool) (size end : ℕ) (reply : Reply) → (if opened then (if large then Some (R.TooLarge size) else if full then Some (R.Full end) else None) else Some R.Closed) ≡ Some reply → is_fault reply ≡ false
calm_refusal true true full size end reply is = let same : reply ≡ R.TooLarge size = cc in ap is_fault same
calm_refusal true false true size end reply is = let same : reply ≡ R.Full end = cc in ap is_fault same
calm_refusal true false false size end reply is = absurd (cc (is))
calm_refusal false large full size end reply is = let same : reply ≡ R.Closed = cc in ap is_fault same

calm_text : (name : List ℕ) (text : Option (List ℕ)) → is_fault (text_reply name text) ≡ false
calm_text name (Some text) = refl
calm_text name None = refl

calm_when : (opened : Bool) (reply : Reply) → is_fault reply ≡ false → is_fault (if opened then reply else R.Closed) ≡ false
calm_when true reply calm = calm
calm_when false reply calm = refl

calm_step : (bytes : List ℕ) (given : Given) (s : BandState) (command : BandCommand) → IfSome given.refusal (IsUnfit bytes) → is_calm given s command
calm_step bytes given s C.Open unfit = calm_open bytes given.room given.refusal s unfit
calm_step bytes given s (C.Save name text) unfit =
    let save : Save = record { name = name; text = text } in
    calm_save (save_refusal given.room s save) s save (calm_refusal s.opened (nat_lt 1048576 (length text)) (nat_lt given.room (room_for s.saves save)) (length text) (room_for s.saves save))
calm_step bytes given s (C.Load name) unfit = (record { reply = load_reply s name; state = s }, inl (refl, refl), calm_when s.opened (text_reply name (named name (directory s.saves))) (calm_text name (named name (directory s.saves))))
calm_step bytes given s C.List unfit = (record { reply = list_reply s; state = s }, (refl, refl), calm_when s.opened _ refl)

-- so commands have a run from each state
pub some_run : (bytes : List ℕ) (given : Given) (s : BandState) (commands : List BandCommand) → IfSome given.refusal (IsUnfit bytes) → (steps : List Stepped) × Runs given s commands steps × (faults_in steps ≡ 0)
some_run bytes given s [] unfit = ([], tt, refl)
some_run bytes given s (command ∷ commands) unfit =
    let first = calm_step bytes given s command unfit in
    let others = some_run bytes given first.0.state commands unfit in
    let none : faults_in (first.0 ∷ others.0) ≡ faults_in (first.0 ∷ []) + faults_in others.0 = sum_by-append _ (first.0 ∷ []) others.0 in
    let calm : faults_in (first.0 ∷ []) ≡ 0 = rw first.2 refl in
    (first.0 ∷ others.0, (first.1, others.1), omega (arith, none, calm, others.2))
