use Rattle.std.proofs.Common.{sym, ◌∙◌}
use Rattle.page_map.proofs.Buckets.{empty_true}
use Rattle.page_map.proofs.MapInvariant.{map_sound, set_kept}
use Rattle.page_map.proofs.map.PageMap.set.Goals as goal

pub relist-requires-clause-free : goal.relist-requires-clause-free
relist-requires-clause-free c = λ void l m.
    let was = rw (← c.self.view_is) at c.place_of.ensures.place in
    (c.self.invariant.listed l c.args.page m).0 (sym was ∙ empty_true _ (sym c.is_empty-was_empty.ensures ∙ void))

pub invariant_of-self : goal.invariant_of-self
invariant_of-self c =
    let inside = rw (← c.self.view_is) at c.requires in
    let was = rw (← c.self.view_is) at c.place_of.ensures.place in
    let is = rw (c.is_empty-was_empty.ensures, was, c.is_empty.ensures) at c.relist.ensures.after in
    set_kept c.self.inside.lists _ _ _ c.args.page c.args.place c.self.invariant inside c.relist.ensures.stays_sound is

pub returns-clause-sound : goal.returns-clause-sound
returns-clause-sound c =
    let inside = rw (← c.self.view_is) at c.requires in
    let was = rw (← c.self.view_is) at c.place_of.ensures.place in
    let is = rw (c.is_empty-was_empty.ensures, was, c.is_empty.ensures) at c.relist.ensures.after in
    map_sound _ _ _ (set_kept c.self.inside.lists _ _ _ c.args.page c.args.place c.self.invariant inside c.relist.ensures.stays_sound is)
