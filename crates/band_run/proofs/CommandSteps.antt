-- A run goes on, command by command.
use Rattle.std.proofs.Common.{◌≡◌, ◌⊎◌, inl, ⊎_elim, ℕ, ◌≤◌, List, [], ◌∷◌, ◌++◌, Option, Some, None, Ok, Err, refl, sym, ◌∙◌, ap, subst, arith, append_assoc}
use Rattle.std.specs.Prelude.{IfSome}
use Rattle.std.proofs.lemmas.List.{append-nil}
use Rattle.outer_ports.specs.Buffers.{Gathered}
use Rattle.outer_ports.proofs.BufferGains.{gathered_cut, gathered_more}
use Rattle.line_input.specs.declared.statuses.status.RunStop.{RunStop}
use Rattle.line_input.specs.declared.statuses.status.RunStop.TheVariants.{Write, Tell}
use Rattle.band_store.proofs.band_disk.Moments.{joined, started, weakened}
use Rattle.band_store.specs.Format.{Holds, Save}
use Rattle.band_store.specs.Store.{Store}
use Rattle.band_store.specs.Store as store_specs
use Rattle.band_run.specs.declared.reading.command.BandCommand.{BandCommand}
use Rattle.band_run.specs.declared.reply.Reply.{Reply}
use Rattle.band_run.specs.Bands.{AtSome, Given, IsFirst, IsImageOf, IsUnfit, BandState, Stepped, last_state, start}
use Rattle.band_run.specs.Replies.{reply_text}
use Rattle.band_run.specs.Answers.{Answers, Starts}
use Rattle.band_run.specs.Openings.{Finds}
use Rattle.band_run.specs.Steps.{Acted, Asks, Did, DidNot, GoesOnAnyway, RanTo, Stands, Tells}
use Rattle.band_run.proofs.ReplySequences.{no_replies, replies_more, replies_stay}
use Rattle.band_run.proofs.Runs.{calm_more, faults_more, last_more, runs_more, some_last, some_more, some_run, text_more}

first_unfit : (bytes : List ℕ) (refusal : Option Reply) (saves : List Save) → IsFirst bytes refusal saves → IfSome refusal (IsUnfit bytes)
first_unfit bytes None saves h = tt
first_unfit bytes (Some refusal) saves h = h.0

first_image : (bytes : List ℕ) (refusal : Option Reply) (saves : List Save) (image : List ℕ) → IsFirst bytes refusal saves → image ≡ bytes → IsImageOf refusal bytes (start saves) image
first_image bytes None saves image h is = inl (subst (Holds saves) (sym is) h)
first_image bytes (Some refusal) saves image h is = is

-- nothing more was given
gathered_then : {P Q R : List ℕ → Type 0} {pending pending' : List ℕ} (text : List ℕ) → Gathered P Q pending text → Gathered Q R pending' pending → Gathered P R pending' text
gathered_then {P} {Q} {R} {pending} {pending'} text first then =
    subst (λ (w : List ℕ). Gathered P R pending' w) (append-nil text) (gathered_more [] first (subst (λ (w : List ℕ). Gathered Q R pending' w) (sym (append-nil pending)) then))

module _ {D : Type 0} (bytes : D → List ℕ) (space : D → ℕ) (images : D → List ℕ → Type 0) (clock : D → ℕ) (images_since : D → ℕ → List ℕ → Type 0) (faults changes : D → ℕ)
    (only_now : (disk : D) (image : List ℕ) → images_since disk (clock disk) image → images disk image) where
  pub going_start : (old : D) (store : Store) → store ≡ store_specs.closed → GoesOnAnyway bytes space images clock images_since faults changes old old store [] []
  going_start old store shut = record {
    replies = no_replies store.opened (faults old) (changes old) (ap (λ t. t.opened) shut);
    one_run = λ given saves starts. record {
      steps = [];
      run = tt;
      is = refl;
      few = λ _. omega arith;
      quiet = λ _. refl;
      stands = stands given saves starts;
      leaves = started clock images_since old (λ image. IsImageOf given.refusal (bytes old) (start saves) image) (λ image left. (stands given saves starts).images_are image (only_now old image left));
    };
  }
    where
      stands : (given : Given) (saves : List Save) → Starts (bytes old) (space old) (images old) given saves → Stands given (bytes old) (start saves) store (bytes old) (space old) (images old)
      stands given saves starts = record {
        opened = ap (λ t. t.opened) shut;
        ready = λ is. absurd cc;
        fit = λ is. absurd cc;
        unfit = first_unfit (bytes old) given.refusal saves starts.holds;
        room_is = starts.room_is;
        images_are = λ image now. first_image (bytes old) given.refusal saves image starts.holds (starts.synced image now);
      }

  module _ (old now new : D) (store : Store) (done : List BandCommand) (text : List ℕ) (going : GoesOnAnyway bytes space images clock images_since faults changes old now store done text) where
    pub going_more : (command : BandCommand) (store' : Store) (reply : Reply) → Did bytes space images clock images_since command store store' now new (Ok reply) → faults now ≤ faults new → Tells reply (faults now) (faults new) → Finds command store.opened store'.opened reply → Asks reply (changes now) (changes new)
        → GoesOnAnyway bytes space images clock images_since faults changes old new store' (done ++ command ∷ []) (text ++ reply_text reply)
    going_more command store' reply did later told finds asks = record {
      replies = replies_more store.opened store'.opened done text (faults old) (faults now) (faults new) (changes old) (changes now) (changes new) command reply going.replies finds later told asks;
      one_run = λ given saves starts.
          let g = going.one_run given saves starts in
          let d = did given (bytes old) (last_state (start saves) g.steps) g.stands in
          let step : Stepped = record { reply = reply; state = d.state } in
          let last = last_more (start saves) g.steps step in
          let P = λ (image : List ℕ) (s : BandState). IsImageOf given.refusal (bytes old) s image in
          let before = λ (image : List ℕ). AtSome (P image) (start saves) g.steps in
          let after = λ (image : List ℕ). AtSome (P image) (start saves) (g.steps ++ step ∷ []) in
          let both = λ (image : List ℕ). P image (last_state (start saves) g.steps) ⊎ P image d.state in
          record {
            steps = g.steps ++ step ∷ [];
            run = runs_more given (start saves) done g.steps command step g.run d.step;
            is = ap (λ (w : List ℕ). w ++ reply_text reply) g.is ∙ sym (text_more g.steps step);
            few = faults_more (faults old) (faults now) (faults new) g.steps step g.few later told.cause;
            quiet = calm_more (faults old) (faults now) (faults new) g.steps step g.quiet told.quiet;
            stands = subst (λ (s : BandState). Stands given (bytes old) s store' (bytes new) (space new) (images new)) (sym last) d.stands;
            leaves = joined clock images_since old now new after
                (weakened clock images_since old now before after (λ image h. some_more (P image) (start saves) g.steps step h) g.leaves)
                (weakened clock images_since now new both after
                (λ image h. ⊎_elim (λ a. some_more (P image) (start saves) g.steps step (some_last (P image) (start saves) g.steps a)) (λ b. some_last (P image) (start saves) (g.steps ++ step ∷ []) (subst (P image) (sym last) b)) h) d.leaves);
          };
    }

    pub answers_undone : (later : List BandCommand) → DidNot bytes space images clock images_since store now new → faults new ≡ faults now → changes new ≡ changes now → Answers bytes space images clock images_since faults changes old new done later text
    answers_undone later did same unasked = record {
      replies = replies_stay done text (faults old) (faults now) (faults new) (changes old) (changes now) (changes new) going.replies.so_far same unasked;
      one_run = λ given saves starts.
          let g = going.one_run given saves starts in
          let u = did given (bytes old) (last_state (start saves) g.steps) g.stands in
          let P = λ (image : List ℕ) (s : BandState). IsImageOf given.refusal (bytes old) s image in
          let all = λ (image : List ℕ). AtSome (P image) (start saves) g.steps in
          let here = λ (image : List ℕ). P image (last_state (start saves) g.steps) in
          let more = some_run (bytes old) given (last_state (start saves) g.steps) later g.stands.unfit in
          let leaves = joined clock images_since old now new all g.leaves (weakened clock images_since now new here all (λ image h. some_last (P image) (start saves) g.steps h) u.leaves) in
          record {
            steps = g.steps;
            run = g.run;
            is = g.is;
            few = λ below. omega (arith, same, g.few (omega (arith, same, below)));
            quiet = λ none. same ∙ g.quiet none;
            exit = u.images_are;
            moments = leaves.each;
            more = more.0;
            goes_on = more.1;
            calm = more.2;
          };
    }

  pub answers_of : (old now : D) (store : Store) (done later : List BandCommand) (text : List ℕ) → GoesOnAnyway bytes space images clock images_since faults changes old now store done text → Answers bytes space images clock images_since faults changes old now done later text
  answers_of old now store done later text going = record {
    replies = going.replies.so_far;
    one_run = λ given saves starts.
        let g = going.one_run given saves starts in
        let more = some_run (bytes old) given (last_state (start saves) g.steps) later g.stands.unfit in
        record {
          steps = g.steps;
          run = g.run;
          is = g.is;
          few = g.few;
          quiet = g.quiet;
          exit = g.stands.images_are;
          moments = g.leaves.each;
          more = more.0;
          goes_on = more.1;
          calm = more.2;
        };
  }

  -- a run that stopped at a command
  pub ran_stopped : (held held' held'' : List ℕ → Type 0) (pending pending' : List ℕ) (old now new : D) (store store' : Store) (commands done later : List BandCommand) (command : BandCommand) (text : List ℕ) (stop : RunStop) → commands ≡ done ++ command ∷ later
      → GoesOnAnyway bytes space images clock images_since faults changes old now store done text → Gathered held held' pending text → faults now ≤ faults new → Acted bytes space images clock images_since faults changes command store store' now new held' held'' pending pending' (Err stop)
      → RanTo (Answers bytes space images clock images_since faults changes old new) commands held held'' pending' (Err stop)
  ran_stopped held held' held'' pending pending' old now new store store' commands done later command text Write is going first rises a =
      let cut = gathered_cut text (reply_text a.0) a.3.0 a.3.1 (gathered_more a.3.0 first a.3.2) in (
        done ++ command ∷ [],
        later,
        text ++ reply_text a.0,
        cut.0,
        is ∙ sym (append_assoc done (command ∷ []) later),
        answers_of old new store' (done ++ command ∷ []) later (text ++ reply_text a.0) (going_more old now new store done text going command store' a.0 a.1 rises a.2 a.4 a.5),
        cut.1,
        cut.2,
      )
  ran_stopped held held' held'' pending pending' old now new store store' commands done later command text (Tell trouble) is going first rises a =
      (done, command ∷ later, text, a.0, is, omega arith, answers_undone old now new store done text going (command ∷ later) a.1 a.3 a.4, gathered_then text first a.2)
