-- Readers of a word that accept exactly the spellings of what fits.
use Rattle.std.proofs.Common.{◌≡◌, ℕ, List, true, Result, Ok}
use Rattle.world_text.specs.declared.reading.reason.Reason.{Reason}
use Rattle.world_text.specs.reading.Words.{is_word}

pub record Spells {A : Type 0} (read : List ℕ → Result A Reason) (Fits : A → Type 0) (spell : A → List ℕ) : Type 0 where
  pub accepts : (x : A) → Fits x → read (spell x) ≡ Ok x
  pub only : (word : List ℕ) (x : A) → read word ≡ Ok x → (word ≡ spell x) × Fits x
  pub words : (x : A) → Fits x → is_word (spell x) ≡ true
