use Rattle.word_graph.proofs.laws.words_show_objects.Goals as goal
use Rattle.word_graph.proofs.Places.{leads_there, values_are_places, objects_are_places}
use Rattle.word_graph.proofs.HeldObjects.{reached_are_held}

pub returns : goal.returns
returns c = record { leads = leads_there; values = values_are_places; objects = objects_are_places; reached = reached_are_held }
