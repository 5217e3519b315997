use Rattle.std.proofs.Common.{◌<◌, subst, sym}
use Rattle.area_space.proofs.PageSets.{bit_listed, listed_bit}
use Rattle.area_space.proofs.page_set.PageSet.contains.Goals as goal
use Rattle.area_space.specs.PageList.{PageList}

pub returns : goal.returns
returns c =
    let h = rw c.deref.ensures.value at c.has_bit.ensures in
    let low = subst (λ (v : PageList). c.args.page < v.count) (sym c.self.view_is) c.requires in
    rw (← c.self.view_is) ((λ t. bit_listed c.self.inside.lower.items c.self.inside.count c.args.page low (h.0 t)), (λ m. h.1 (listed_bit c.self.inside.lower.items c.self.inside.count c.args.page m)))
