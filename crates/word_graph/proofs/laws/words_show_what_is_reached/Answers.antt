use Rattle.word_graph.proofs.laws.words_show_what_is_reached.Goals as goal
use Rattle.word_graph.proofs.HeldObjects.{registers_are_told, keys_are_objects, reached_show, reads_show_the_same, walks_go_on}

pub returns : goal.returns
returns c = record { registers = registers_are_told; keys = keys_are_objects; shows = reached_show; same = reads_show_the_same; on = walks_go_on }
