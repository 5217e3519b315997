-- A map with a new value at one place.
use Rattle.std.proofs.Common.{◌≡◌, ℕ, arith}
use Rattle.std.proofs.lemmas.Grind.{common_steps}
use Rattle.lisp_meaning.specs.machine.Maps.{put_at}

pub put_at-same : {A : Type 0} → (f : ℕ → A) (n : ℕ) (x : A) (m : ℕ) → m ≡ n → put_at f n x m ≡ x
put_at-same f n x m e = grind (arith, common_steps)

pub put_at-other : {A : Type 0} → (f : ℕ → A) (n : ℕ) (x : A) (m : ℕ) → (m ≡ n → ⊥) → put_at f n x m ≡ f m
put_at-other f n x m e = grind (arith, common_steps)
