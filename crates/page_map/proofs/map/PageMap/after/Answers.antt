use Rattle.page_map.proofs.MapInvariant.{map_sound, there_if_listed}
use Rattle.page_map.proofs.map.PageMap.after.Goals as goal

pub returns-clause-some : goal.returns-clause-some
returns-clause-some c =
    let full = rw (← c.self.view_is) at c.requires in
    let held = c.self.invariant.there c.args.page full in
    rw (← c.self.view_is) (there_if_listed _ _ _ (map_sound _ _ _ c.self.invariant) (c.next.ensures.listed _ held))

pub returns-clause-sound : goal.returns-clause-sound
returns-clause-sound c = rw (← c.self.view_is) (map_sound _ _ _ c.self.invariant)
