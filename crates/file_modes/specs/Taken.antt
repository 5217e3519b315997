-- What was taken of a text of S-expressions.
use Rattle.std.specs.Prelude.{◌≡◌, ◌⊎◌, ◌<◌, ◌≤◌, ℕ, List, [], ◌++◌, length, Option, Result, Ok, Err, IfSome, unwrap_or, Vec}
use Rattle.outer_ports.specs.Ports.{Gave}
use Rattle.line_input.specs.declared.statuses.status.RunError.{RunError}
use Rattle.line_input.specs.declared.statuses.status.RunError.TheVariants as T

-- b is all of the text, or a part of it that is already too long
abbrev pub IsEnough : ℕ → List ℕ → List ℕ → Type 0
IsEnough limit i b = (b ≡ i) ⊎ (limit < length b)

-- what was taken of the text: enough bytes; or the source failed before that, or memory ran out
abbrev pub Takes : {G : Type 0} → ℕ → List ℕ → List ℕ → Result (Vec ℕ G) RunError → Type 0
Takes limit i b (Ok bytes) = (bytes.items ≡ b) × IsEnough limit i b
Takes limit i b (Err T.Read) = length b ≤ limit
Takes limit i b (Err T.Memory) = Unit {0}
Takes limit i b (Err _) = ⊥

pub record WasTaken {G : Type 0} (limit : ℕ) (left left' : Option (List ℕ)) (result : Result (Vec ℕ G) RunError) : Type 0 where
  pub i : List ℕ
  pub b : List ℕ
  pub input : IfSome left (λ bytes. bytes ≡ i)
  pub gave : Gave left left' b
  pub rest : i ≡ b ++ unwrap_or left' []
  pub takes : Takes limit i b result
