use Rattle.std.proofs.Common.{sym, ◌∙◌}
use Rattle.word_graph.proofs.ShownObjects.{list_final, struct_final, told_cons, told_block}
use Rattle.word_graph.proofs.walking.value_of_word.Goals as goal

pub place_of-requires : goal.place_of-requires
place_of-requires g c = list_final (g.M.Memory.seen c.args.ground.now.mem) c.args.ground.now.table c.args.word.content c.in-List.at c.requires (sym c.content.ensures.value ∙ c.in-List.is)

pub place_of-requires-in-Struct : goal.place_of-requires-in-Struct
place_of-requires-in-Struct g c = struct_final (g.M.Memory.seen c.args.ground.now.mem) c.args.ground.now.table c.args.word.content c.in-Struct.at c.requires (sym c.content.ensures.value ∙ c.in-Struct.is)

pub returns-in_ok-cons-in-List-clause-value : goal.returns-in_ok-cons-in-List-clause-value
returns-in_ok-cons-in-List-clause-value g c =
    told_cons (g.M.Memory.seen c.args.ground.now.mem) c.args.ground.now.table c.args.word.content c.in-List.at c.in_ok-cons-in-List.cons c.requires (sym c.content.ensures.value ∙ c.in-List.is) c.in_ok-cons-in-List.ensures.value

pub returns-in_ok-block-in-Struct-clause-value : goal.returns-in_ok-block-in-Struct-clause-value
returns-in_ok-block-in-Struct-clause-value g c =
    told_block (g.M.Memory.seen c.args.ground.now.mem) c.args.ground.now.table c.args.word.content c.in-Struct.at c.in_ok-block-in-Struct.block c.requires (sym c.content.ensures.value ∙ c.in-Struct.is) c.in_ok-block-in-Struct.ensures.value
