-- What a sink gained through a buffer, over several calls.
use Rattle.std.proofs.Common.{◌≡◌, ℕ, ◌<◌, List, [], ◌++◌, length, refl, sym, ap, ◌∙◌, append_assoc, arith, Result, Ok, Err}
use Rattle.std.proofs.lemmas.List.{append-nil, length-append}
use Rattle.outer_ports.specs.Ports.{Gained, IsCut, Wrote}
use Rattle.outer_ports.specs.Buffers.{Gathered, Gathers}
use Rattle.outer_ports.proofs.Gains.{gained_as, gained_more, gained_nothing}

-- nothing was done
pub gathered_nothing : {P : List ℕ → Type 0} (pending : List ℕ) → Gathered P P pending pending
gathered_nothing pending = record { given = []; all = refl; gained = gained_nothing }

-- first these bytes, and then more after those that remained pending
pub gathered_more : {P Q R : List ℕ → Type 0} {pending pending' w : List ℕ} (text : List ℕ) → Gathered P Q pending w → Gathered Q R pending' (pending ++ text) → Gathered P R pending' (w ++ text)
gathered_more {P} {Q} {R} {pending} {pending'} {w} text first then = record {
  given = first.given ++ then.given;
  all = ap (λ xs. xs ++ text) first.all ∙ append_assoc first.given pending text ∙ ap (λ xs. first.given ++ xs) then.all ∙ sym (append_assoc first.given then.given pending');
  gained = gained_more first.gained then.gained;
}

-- nothing is pending any more
pub gathered_whole : {P Q : List ℕ → Type 0} {pending w : List ℕ} → pending ≡ [] → Gathered P Q pending w → Gained P Q w
gathered_whole none h = gained_as (sym (h.all ∙ ap (λ xs. h.given ++ xs) none ∙ append-nil h.given)) h.gained

-- the sink gained a prefix of the text of which only a part was gathered
pub gathered_cut : {P Q : List ℕ → Type 0} {pending : List ℕ} (w text front : List ℕ) → IsCut text front → Gathered P Q pending (w ++ front) → (front : List ℕ) × IsCut (w ++ text) front × Gained P Q front
gathered_cut {pending = pending} w text front cut h =
    let is : w ++ text ≡ h.given ++ (pending ++ cut.0) =
    ap (λ xs. w ++ xs) cut.2 ∙ sym (append_assoc w front cut.0) ∙ ap (λ xs. xs ++ cut.0) h.all ∙ append_assoc h.given pending cut.0 in
    (h.given, (pending ++ cut.0, omega (arith, length-append pending cut.0, cut.1), is), h.gained)

-- a flush failed, so nothing of the text was gathered
pub gathers_none : {T E : Type 0} {P Q : List ℕ → Type 0} {had pending : List ℕ} (text : List ℕ) {r : Result T E} (error : E) → r ≡ Err error → 0 < length text → Gathered P Q pending had → Gathers P Q had pending text r
gathers_none {P = P} {Q} {had} {pending} text error failed some h = rw failed (record {
  whole = _;
  part = ([], (text, some, refl), rw append-nil h);
})

-- more was given after what was pending
gathered_wrote : {P Q R : List ℕ → Type 0} {had pending text : List ℕ} → pending ≡ [] → Gathered P Q pending had → Gained Q R text → Gathered P R pending (had ++ text)
gathered_wrote {had = had} {pending} {text} none h gained = record {
  given = had ++ text;
  all = sym (ap (λ xs. (had ++ text) ++ xs) none ∙ append-nil (had ++ text));
  gained = gained_more (gathered_whole none h) gained;
}

-- a text that was written after what was pending
pub gathers_wrote : {T E : Type 0} {P Q R : List ℕ → Type 0} {had pending : List ℕ} (text : List ℕ) {r : Result T E} → pending ≡ [] → Gathered P Q pending had → Wrote Q R text r → Gathers P R had pending text r
gathers_wrote {R = R} {had} {pending} text {r = Ok x} none h wrote = record { whole = gathered_wrote none h wrote.whole; part = _ }
gathers_wrote {R = R} {had} {pending} text {r = Err e} none h wrote = record { whole = _; part = (wrote.part.0, wrote.part.1, gathered_wrote none h wrote.part.2) }
