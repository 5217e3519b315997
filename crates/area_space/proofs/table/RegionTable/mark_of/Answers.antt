use Rattle.std.proofs.Common.{◌≡◌, refl, arith}
use Rattle.area_space.proofs.table.RegionTable.mark_of.Goals as goal
use Rattle.area_space.specs.Table.{live, stale}

pub returns-then-class-eq0 : goal.returns-then-class-eq0
returns-then-class-eq0 c = record {
  alive = λ slot m. c.used.ensures.used;
  old = λ o. (let f = c.in-Some.ensures.found (stale o.0) o.1 in let e : c.in-Some.class ≡ stale o.0 = cc in let t = c.if-class-eq0.true in absurd (omega arith));
  free = λ f. absurd (f c.in-Some.class c.in-Some.ensures.cases);
}

pub returns-else-class-eq0 : goal.returns-else-class-eq0
returns-else-class-eq0 c = record {
  alive = λ slot m. (let f = c.in-Some.ensures.found (live slot) m in let e : c.in-Some.class ≡ live slot = cc in let t = c.if-class-eq0.false in absurd (omega arith));
  old = λ o. refl;
  free = λ f. refl;
}

pub returns-in-None : goal.returns-in-None
returns-in-None c = record {
  alive = λ slot m. absurd (c.in-None.ensures.cases (live slot) m);
  old = λ o. refl;
  free = λ f. refl;
}
