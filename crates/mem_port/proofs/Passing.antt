-- Words that are read one after another, in a part of a list.
use Rattle.std.proofs.Common.{ℕ, ◌≡◌, ◌+◌, ◌-◌, ◌<◌, ◌≤◌, List, length, get_or, slice_range, drop, length-take, length-drop, zero-add, sym, subst, ap, ◌∙◌, arith}
use Rattle.std.specs.Prelude.{unwrap_or}
use Rattle.std.proofs.lemmas.Option.{unwrap_or-slice_get}
use Rattle.store_word.specs.Words.{Parts, null_word}
use Rattle.mem_port.specs.Reading.{Passes}
use Rattle.mem_port.proofs.Lookups.{get-slice_range}

-- the words of a part are those of the whole
pub passes_at : (words part : List Parts) (wanted : Parts → Type 0) (at count passed : ℕ) → length part ≡ count → ((i : ℕ) → i < count → get_or part i null_word ≡ get_or words (at + i) null_word)
    → Passes part wanted 0 (length part) passed → Passes words wanted at count passed
passes_at words part wanted at count passed size same x =
    let most : passed ≤ length part = x.at_most in
    record {
      at_most = omega arith;
      before = λ i low w. x.before i low (subst wanted (sym (ap (λ (k : ℕ). get_or part k null_word) (zero-add i) ∙ same i (omega arith))) w);
      found = λ low. subst wanted (ap (λ (k : ℕ). get_or part k null_word) (zero-add passed) ∙ same passed low) (x.found (omega arith));
    }

-- a range
pub passes_range : (words : List Parts) (wanted : Parts → Type 0) (at count passed : ℕ) → at + count ≤ length words → Passes (slice_range words at (at + count)) wanted 0 (length (slice_range words at (at + count))) passed
    → Passes words wanted at count passed
passes_range words wanted at count passed inside x =
    let size : length (slice_range words at (at + count)) ≡ count = omega (arith, length-take (at + count - at) (drop at words), length-drop at words) in
    passes_at words (slice_range words at (at + count)) wanted at count passed size
    (λ i low. sym (unwrap_or-slice_get (slice_range words at (at + count)) i null_word) ∙ ap (λ o. unwrap_or o null_word) (get-slice_range words at (at + count) i (omega arith)) ∙ unwrap_or-slice_get words (at + i) null_word) x
