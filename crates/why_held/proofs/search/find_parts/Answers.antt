use Rattle.std.proofs.Common.{[], ◌∷◌}
use Rattle.std.proofs.lemmas.Result.{on_ok_weaker}
use Rattle.why_held.proofs.SearchSteps.{finds_append}
use Rattle.why_held.proofs.search.find_parts.Goals as goal

pub returns-in_ok-find-in-Cons : goal.returns-in_ok-find-in-Cons
returns-in_ok-find-in-Cons c =
    rw c.in-Cons.is (on_ok_weaker c.find-in-Cons.result (finds_append c.args.depth (c.in-Cons.car ∷ []) (c.in-Cons.cdr ∷ []) c.args.search.now c.find.new.search c.find-in-Cons.new.search c.in_ok-find-in-Cons.ensures) c.find-in-Cons.ensures)
