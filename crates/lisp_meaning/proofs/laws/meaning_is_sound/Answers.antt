use Rattle.lisp_meaning.proofs.laws.meaning_is_sound.Goals as goal
use Rattle.lisp_meaning.proofs.reading.RepresentedState.{means_one, standing_sound, room_suffices}

pub returns : goal.returns
returns c = record { value = means_one; sound = standing_sound; room = room_suffices }
