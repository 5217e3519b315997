use Rattle.lisp_ground.proofs.words.FinalAddresses.{has_final, final_is_place, stands_there}
use Rattle.lisp_ground.proofs.objects.finals_are_places.Goals as goal

pub returns : goal.returns
returns c = record { places = record { has_final = has_final; is_place = final_is_place; stands = stands_there } }
