use Rattle.page_map.proofs.MapInvariant.{map_sound}
use Rattle.page_map.proofs.map.PageMap.buckets.Goals as goal

pub returns-clause-sound : goal.returns-clause-sound
returns-clause-sound c = rw (← c.self.view_is) (map_sound _ _ _ c.self.invariant)
