-- Replies, one after another.
use Rattle.std.proofs.Common.{◌≡◌, inl, inr, ℕ, ◌+◌, ◌-◌, ◌<◌, ◌≤◌, ◌^◌, List, [], ◌∷◌, ◌++◌, true, false, Bool, refl, sym, ◌∙◌, ap, arith}
use Rattle.std.specs.Prelude.{count_by, flat_map, not, sum_by, ◌&&◌}
use Rattle.std.proofs.lemmas.Bool.{cases_Bool}
use Rattle.std.proofs.lemmas.List.{append-nil}
use Rattle.std.proofs.lemmas.List.Concat.{flat_map-append, flat_map-cons}
use Rattle.std.proofs.lemmas.List.Sums.{sum_by-append}
use Rattle.outer_ports.specs.Ports.{Rose}
use Rattle.band_run.specs.declared.reading.command.BandCommand.{BandCommand}
use Rattle.band_run.specs.declared.reply.Reply.{Reply}
use Rattle.band_run.specs.Openings.{Finds, HasReplies, HasRepliesSoFar, Replied, is_closed, needs_open, most_changes, open_after, opened_by}
use Rattle.band_run.specs.Replies.{is_fault, reply_text}
use Rattle.band_run.specs.Steps.{Asks, Tells}

-- one more reply
replied_more : (opened : Bool) (commands : List BandCommand) (replies : List Reply) (command : BandCommand) (reply : Reply) → Replied opened commands replies → is_closed reply ≡ (needs_open command && not (opened_by opened replies))
    → Replied opened (commands ++ command ∷ []) (replies ++ reply ∷ [])
replied_more opened [] [] command reply so_far is = (is, tt)
replied_more opened [] (r ∷ rs) command reply so_far is = absurd so_far
replied_more opened (c ∷ cs) [] command reply so_far is = absurd so_far
replied_more opened (c ∷ cs) (r ∷ rs) command reply so_far is = (so_far.0, replied_more (open_after opened r) cs rs command reply so_far.1 is)

opened_more : (opened : Bool) (replies : List Reply) (reply : Reply) → opened_by opened (replies ++ reply ∷ []) ≡ open_after (opened_by opened replies) reply
opened_more opened [] reply = refl
opened_more opened (r ∷ rs) reply = opened_more (open_after opened r) rs reply

texts_more : (replies : List Reply) (reply : Reply) → flat_map reply_text (replies ++ reply ∷ []) ≡ flat_map reply_text replies ++ reply_text reply
texts_more replies reply =
    flat_map-append reply_text replies (reply ∷ [])
    ∙ ap (λ l. flat_map reply_text replies ++ l) (flat_map-cons reply_text reply [] ∙ append-nil (reply_text reply))

-- A count of failed calls that isn't saturated rises with each call that fails.
pub rises_more : {T : Type 0} (fails : T → Bool) (before now after : ℕ) (all : List T) (last : T) → (now < 2 ^ 64 - 1 → count_by fails all + before ≤ now) → now ≤ after → (fails last ≡ true → Rose now after)
    → after < 2 ^ 64 - 1 → count_by fails (all ++ last ∷ []) + before ≤ after
rises_more fails before now after all last so_far later cause below =
    let both : count_by fails (all ++ last ∷ []) ≡ count_by fails all + count_by fails (last ∷ []) = sum_by-append _ all (last ∷ []) in
    elim (cases_Bool (fails last)) [
      | inl on ↦ let one : count_by fails (last ∷ []) ≡ 1 = rw on refl in let rose = cause on in let old = so_far (omega arith) in omega (arith, both, one, rose, old)
      | inr off ↦ let none : count_by fails (last ∷ []) ≡ 0 = rw off refl in let old = so_far (omega arith) in omega (arith, both, none, old)
    ]

-- If each call that doesn't fail leaves the count unchanged, then calls of which none fails leave it unchanged.
pub quiet_more : {T : Type 0} (fails : T → Bool) (before now after : ℕ) (all : List T) (last : T) → (count_by fails all ≡ 0 → now ≡ before) → (fails last ≡ false → after ≡ now)
    → count_by fails (all ++ last ∷ []) ≡ 0 → after ≡ before
quiet_more fails before now after all last so_far quiet none =
    let both : count_by fails (all ++ last ∷ []) ≡ count_by fails all + count_by fails (last ∷ []) = sum_by-append _ all (last ∷ []) in
    elim (cases_Bool (fails last)) [
      | inl on ↦ let one : count_by fails (last ∷ []) ≡ 1 = rw on refl in omega (arith, both, one, none)
      | inr off ↦ let nothing : count_by fails (last ∷ []) ≡ 0 = rw off refl in quiet off ∙ so_far (omega (arith, both, nothing, none))
    ]

-- no reply yet, and the store is closed
pub no_replies : (opened : Bool) (faults asked : ℕ) → opened ≡ false → HasRepliesSoFar opened [] [] faults faults asked asked
no_replies opened faults asked shut = record {
  so_far = record { replies = []; is = refl; replied = tt; few = λ _. omega arith; quiet = λ _. refl; asks = omega arith };
  ends = shut;
}

-- the writes and syncs of one more reply
asks_more : (before now after : ℕ) (replies : List Reply) (reply : Reply) → now ≤ before + sum_by most_changes replies → Asks reply now after → after ≤ before + sum_by most_changes (replies ++ reply ∷ [])
asks_more before now after replies reply so_far asks =
    let both : sum_by most_changes (replies ++ reply ∷ []) ≡ sum_by most_changes replies + sum_by most_changes (reply ∷ []) = sum_by-append most_changes replies (reply ∷ []) in
    let one : sum_by most_changes (reply ∷ []) ≡ most_changes reply = omega arith in
    omega (arith, both, one, so_far, asks)

-- one command more was answered
pub replies_more : (opened opened' : Bool) (done : List BandCommand) (text : List ℕ) (before now after asked asked_now asked_after : ℕ) (command : BandCommand) (reply : Reply) → HasRepliesSoFar opened done text before now asked asked_now → Finds command opened opened' reply
    → now ≤ after → Tells reply now after → Asks reply asked_now asked_after → HasRepliesSoFar opened' (done ++ command ∷ []) (text ++ reply_text reply) before after asked asked_after
replies_more opened opened' done text before now after asked asked_now asked_after command reply h finds later told asks =
    let s = h.so_far in
    record {
      so_far = record {
        replies = s.replies ++ reply ∷ [];
        is = ap (λ (w : List ℕ). w ++ reply_text reply) s.is ∙ sym (texts_more s.replies reply);
        replied = replied_more false done s.replies command reply s.replied (finds.closed ∙ ap (λ (o : Bool). needs_open command && not o) h.ends);
        few = rises_more is_fault before now after s.replies reply s.few later told.cause;
        quiet = quiet_more is_fault before now after s.replies reply s.quiet told.quiet;
        asks = asks_more asked asked_now asked_after s.replies reply s.asks asks;
      };
      ends = finds.then ∙ ap (λ (o : Bool). open_after o reply) h.ends ∙ sym (opened_more false s.replies reply);
    }

-- nothing was answered, and the counts are unchanged
pub replies_stay : (done : List BandCommand) (text : List ℕ) (before now after asked asked_now asked_after : ℕ) → HasReplies done text before now asked asked_now → after ≡ now → asked_after ≡ asked_now → HasReplies done text before after asked asked_after
replies_stay done text before now after asked asked_now asked_after s same unasked = record {
  replies = s.replies;
  is = s.is;
  replied = s.replied;
  few = λ below. omega (arith, same, s.few (omega (arith, same, below)));
  quiet = λ none. same ∙ s.quiet none;
  asks = omega (arith, unasked, s.asks);
}
