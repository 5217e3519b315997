use Rattle.page_map.proofs.MapInvariant.{map_sound, there_if_listed}
use Rattle.page_map.proofs.map.PageMap.first_in.Goals as goal

pub returns-clause-some : goal.returns-clause-some
returns-clause-some c = rw (← c.self.view_is) (there_if_listed _ c.args.bucket _ (map_sound _ _ _ c.self.invariant) c.front.ensures.listed)

pub returns-clause-sound : goal.returns-clause-sound
returns-clause-sound c = rw (← c.self.view_is) (map_sound _ _ _ c.self.invariant)
