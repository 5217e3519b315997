use Rattle.std.proofs.Common.{◌≡◌, ℕ, subst, arith}
use Rattle.area_space.proofs.PageSets.{added_more}
use Rattle.area_space.proofs.page_set.PageSet.insert_span.Goals as goal
use Rattle.area_space.specs.PageList.{Adds}

pub insert-requires-in-loop-page : goal.insert-requires-in-loop-page
insert-requires-in-loop-page c = let e = c.loop-page.invariant.count in let l = c.requires.in_range in omega arith

pub loop-page-preserved : goal.loop-page-preserved
loop-page-preserved c = added_more c.args.self.now _ _ c.args.from c.loop-page.page (omega arith) c.loop-page.invariant c.insert-in-loop-page.ensures

pub returns : goal.returns
returns c = let e : c.loop-page.page ≡ c.args.to = omega arith in subst (λ (q : ℕ). Adds c.args.self.now c.loop-page.self c.args.from q) e c.loop-page.invariant
