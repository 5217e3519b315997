use Rattle.area_space.proofs.History.{sound_after, place_after}
use Rattle.area_space.proofs.laws.room_suffices.Goals as goal

pub returns-clause-stays_sound : goal.returns-clause-stays_sound
returns-clause-stays_sound c = sound_after

pub returns-clause-place : goal.returns-clause-place
returns-clause-place c = place_after
