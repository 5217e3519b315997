-- The last line, after what is pending.
use Rattle.std.proofs.Common.{inl, inr, ℕ, List, ◌++◌}
use Rattle.outer_ports.specs.Ports.{Gained}
use Rattle.outer_ports.proofs.Gains.{cut_behind, gained_more}
use Rattle.line_input.specs.declared.statuses.status.Status.{Status}
use Rattle.line_input.specs.Statuses.{Closed}

-- what was pending was written, and then the line or a prefix of it
pub closed_behind : {held held' held'' : List ℕ → Type 0} {pending line : List ℕ} {status result : Status} → Gained held held' pending → Closed held' held'' line status result → Closed held held'' (pending ++ line) status result
closed_behind first (inl f) = inl (f.0, gained_more first f.1)
closed_behind {pending = pending} first (inr f) = inr (f.0, (pending ++ f.1.0, cut_behind _ f.1.0 pending f.1.1, gained_more first f.1.2))
