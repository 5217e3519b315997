use Rattle.std.proofs.Common.{ap}
use Rattle.area_space.specs.Table.{Table}
use Rattle.heap_collect.proofs.FreedRegions.{done_frees}
use Rattle.heap_collect.proofs.GroundReclaims.{done_names, reclaims_here}
use Rattle.heap_collect.proofs.collecting.end_collection.Goals as goal

pub free_old-requires : goal.free_old-requires
free_old-requires g c = record {
  ground = c.requires.done.represents.represents.kept.ground;
  in_range = done_names (g.M.Memory.seen c.args.ground.now.mem) c.args.ground.now.table c.requires.done;
  named = c.requires.done.represents.represents.kept.named;
}

pub returns-clause-reclaims : goal.returns-clause-reclaims
returns-clause-reclaims g c =
    let x = c.free_old.ensures in
    record {
      settles = reclaims_here (g.M.Memory.seen c.args.ground.now.mem) (g.M.Memory.seen c.free_old.new.self.mem) c.args.ground.now.table c.free_old.new.self.table x.table x.words
          (record { ground = x.stays_ground; named = x.stays_named; table = x.sound; marks = c.free_old.new.self.sound.marked });
      free = x.table;
      end = ap (λ (y : Table). y.aim) x.table.same;
    }

pub returns-clause-at_most : goal.returns-clause-at_most
returns-clause-at_most g c = done_frees (g.M.Memory.seen c.args.ground.now.mem) (g.M.Memory.seen c.free_old.new.self.mem) c.args.ground.now.table c.free_old.new.self.table c.requires.done c.free_old.ensures.table c.free_old.ensures.words

pub returns-clause-no_fault : goal.returns-clause-no_fault
returns-clause-no_fault g c =
    let x = c.free_old.ensures in
    record { regions = ap (λ (y : Table). y.regions) x.table.same; placed = ap (λ (y : Table). y.placed) x.table.same; faults = x.no_fault; taken = x.taken }
