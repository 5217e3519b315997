use Rattle.word_graph.proofs.laws.walks_show_states.Goals as goal
use Rattle.word_graph.proofs.RenamedGraph.{walk_shows_state, dump_is_of_state}

pub returns : goal.returns
returns c = record { state = walk_shows_state; dump = dump_is_of_state }
