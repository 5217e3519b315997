use Rattle.std.proofs.lemmas.Bool.{some_since}
use Rattle.area_space.specs.Table.{live}
use Rattle.block_store.proofs.GrowthRoom.{class_there}
use Rattle.block_store.proofs.header.class_of_live.Goals as goal

pub unwrap-requires : goal.unwrap-requires
unwrap-requires c = some_since _ _ _ c.class_of.ensures.none (λ free. free (live c.requires.live.0) c.requires.live.1)

pub returns-clause-value : goal.returns-clause-value
returns-clause-value c =
    let found = c.class_of.ensures in
    let is = c.unwrap.ensures in
    record {
      area_in = rw is at found.area;
      level_in = rw is at found.level;
      region = class_there c.args.table.now c.args.at c.unwrap.result c.class_of.ensures.sound c.requires.live (rw is at found.some);
    }
