use Rattle.area_space.specs.Table.{slot_of}
use Rattle.test_ground.proofs.PlaceCommits.{end-there, made-allowed}
use Rattle.test_ground.proofs.transports.making.reserve.Goals as goal

pub commit-requires-clause-allowed : goal.commit-requires-clause-allowed
commit-requires-clause-allowed g c =
    let e = c.place-placed.ensures in
    made-allowed c.args.ground.now.table c.place-placed.new.self.table c.place-placed.result.at c.args.words c.args.charge c.args.origin c.place-placed.result.opened c.requires.made c.place-placed.ensures.sound e.unchanged e.table c.requires.fits e.end

pub returns : goal.returns
returns g c =
    let e = c.place-placed.ensures in
    let t = c.args.ground.now.table in
    let u = c.place-placed.new.self.table in
    let end = end-there t u c.place-placed.result.at c.args.words c.place-placed.result.opened e.unchanged e.table e.end in
    record {
      region = c.place-placed.result.opened;
      room = u;
      opens = rw c.commit.ensures.memory (record {
        same = e.unchanged;
        behind = e.memory;
        chain = e.table;
        region_level = e.opened;
        free = e.free;
        lowest = e.lowest;
        ground = e.stays_ground;
        named = e.stays_named;
        sound = c.place-placed.ensures.sound;
      });
      end = end;
      commit = c.commit.ensures.table (slot_of u 0 0) end;
      sound = c.commit.ensures.sound;
    }
