use Rattle.std.proofs.Common.{◌∙◌, ◌<◌, length, subst, sym}
use Rattle.lisp_heap.specs.HeapView.{HeapView}
use Rattle.lisp_heap.specs.Stands.{Stands}
use Rattle.lisp_heap.proofs.Accounts.{account_is, area_inside}
use Rattle.lisp_heap.proofs.heap.Heap.account.Goals as goal

pub account-requires : goal.account-requires
account-requires g c =
    let found = c.self.invariant.stands in
    area_inside _ found.0 found.1 c.args.area (subst (λ (h : HeapView). c.args.area < length h.table.kinds) (sym c.self.view_is) c.requires)

pub returns : goal.returns
returns g c s st = c.account.ensures.value ∙ account_is _ s (subst (λ (h : HeapView). Stands h s) (sym c.self.view_is) st) c.args.area
