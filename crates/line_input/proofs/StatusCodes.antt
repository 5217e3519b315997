-- The codes of statuses.
use Rattle.std.proofs.Common.{◌≡◌, ℕ, refl, sym, ap, ◌∙◌}
use Rattle.std.specs.Prelude.{◌==◌, if◌then◌else◌}
use Rattle.line_input.specs.declared.statuses.status.Status.{Status}
use Rattle.line_input.specs.declared.statuses.status.Status.TheVariants.{Done, WriteFailed, Refused, ReadFailed, NoSpace, NoMemory, SwapFailed, Usage, NoObject}
use Rattle.line_input.specs.Statuses.{code}

-- the status with this code
status_at : ℕ → Status
status_at n =
    if n == 0 then Done else if n == 1 then WriteFailed else if n == 2 then Refused else if n == 3 then ReadFailed else if n == 4 then NoSpace
    else if n == 5 then NoMemory else if n == 6 then SwapFailed else if n == 7 then Usage else NoObject

at_code : (status : Status) → status_at (code status) ≡ status
unfolding status_at
at_code Done = refl
at_code WriteFailed = refl
at_code Refused = refl
at_code ReadFailed = refl
at_code NoSpace = refl
at_code NoMemory = refl
at_code SwapFailed = refl
at_code Usage = refl
at_code NoObject = refl

-- no two statuses have the same code
pub same_status : (a b : Status) → code a ≡ code b → a ≡ b
same_status a b is = sym (at_code a) ∙ ap status_at is ∙ at_code b
