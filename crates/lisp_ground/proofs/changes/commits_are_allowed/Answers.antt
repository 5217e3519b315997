use Rattle.lisp_ground.proofs.sums.Accounts.{account_agrees}
use Rattle.lisp_ground.proofs.sums.Levels.{level_totals_on}
use Rattle.lisp_ground.proofs.words.Places.{new_allowed, moved_allowed}
use Rattle.lisp_ground.proofs.changes.commits_are_allowed.Goals as goal

pub returns : goal.returns
returns c = record { accounts = account_agrees; levels = level_totals_on; new = new_allowed; moved = moved_allowed }
