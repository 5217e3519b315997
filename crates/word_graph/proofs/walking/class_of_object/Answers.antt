use Rattle.std.proofs.lemmas.Bool.{some_since}
use Rattle.word_graph.proofs.walking.class_of_object.Goals as goal

pub unwrap-requires : goal.unwrap-requires
unwrap-requires c = some_since _ _ _ c.class_of.ensures.none c.requires.used
