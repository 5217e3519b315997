use Rattle.area_space.proofs.page_set.PageSet.insert_span.Given as goal
use Rattle.area_space.specs.PageList.{Adds}

-- the pages so far are in
abbrev pub invariant-loop-page : goal.invariant-loop-page
invariant-loop-page l = Adds l.fn.self l.self l.from l.page
