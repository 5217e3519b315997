use Rattle.std.proofs.Common.{◌*◌, ◌≤◌, ap, sym, subst, ◌∙◌}
use Rattle.area_space.specs.Sound.{IsTable}
use Rattle.area_space.specs.Table.{Table}
use Rattle.area_space.proofs.TableFields.{noted_is}
use Rattle.scavenger.specs.Scan.{Scan}
use Rattle.scavenger.specs.Starting.{base_pages}
use Rattle.heap_state.specs.PhaseAgrees.{PhaseAgrees}
use Rattle.heap_collect.proofs.GroundFlips.{begins_there, condemned_there, few_pages, flips_by, same_pages}
use Rattle.heap_collect.proofs.Phases.{flips_told}
use Rattle.heap_collect.proofs.collecting.begin_collection.Goals as goal

pub returns-clause-pages : goal.returns-clause-pages
returns-clause-pages g c = same_pages (g.M.Memory.seen c.start.new.ground.mem) (g.M.Memory.seen c.condemn.new.self.mem) c.condemn.new.self.table c.start.new.ground.table c.args.what c.start.result
    (sym (ap g.M.Memory.seen c.start.ensures.memory)) c.start.ensures.table c.start.ensures.count

pub returns-clause-begins : goal.returns-clause-begins
returns-clause-begins g c =
    let was = c.requires.idle.represents.represents in
    let x = c.start.ensures in
    let none = (subst (PhaseAgrees c.args.ground.now.table) c.requires.idle.idle was.aims).0 in
    let pages = same_pages (g.M.Memory.seen c.start.new.ground.mem) (g.M.Memory.seen c.condemn.new.self.mem) c.condemn.new.self.table c.start.new.ground.table c.args.what c.start.result (sym (ap g.M.Memory.seen x.memory)) x.table x.count in
    record {
      flips = flips_told (g.M.Memory.seen c.args.ground.now.mem) c.args.ground.now.table c.args.scan.now (g.M.Memory.seen c.start.new.ground.mem) c.start.new.ground.table c.start.new.self c.args.what c.start.result _ none pages
          (flips_by (g.M.Memory.seen c.args.ground.now.mem) (g.M.Memory.seen c.condemn.new.self.mem) (g.M.Memory.seen c.start.new.ground.mem) c.args.ground.now.table c.condemn.new.self.table c.start.new.ground.table c.args.scan.now c.start.new.self c.args.what c.start.result
          (ap g.M.Memory.seen c.condemn.ensures.memory) (ap g.M.Memory.seen x.memory) x.table c.condemn.ensures.table
          (c.condemn.ensures.stays_ground was.kept.ground) (c.condemn.ensures.stays_named was.kept.named) c.condemn.ensures.sound x.stays_ground (x.stays_named (c.condemn.ensures.stays_named was.kept.named)) (subst IsTable (sym x.table) (noted_is c.condemn.new.self.table c.condemn.new.self.table.aim c.condemn.new.self.table.last c.start.new.ground.table.pages c.condemn.ensures.sound))
          c.args.ground.now.sound.marked (ap (λ (y : Scan). y.over) x.begins.same) x.sound x.units);
      table = condemned_there x.table c.condemn.ensures.table;
      begins = begins_there (g.M.Memory.seen c.start.new.ground.mem) (g.M.Memory.seen c.condemn.new.self.mem) c.condemn.new.self.table c.start.new.ground.table c.args.what c.args.scan.now c.start.new.self (sym (ap g.M.Memory.seen x.memory)) x.table x.begins;
      at_most = subst (λ n. base_pages (g.M.Memory.seen c.start.new.ground.mem) c.start.new.ground.table c.args.what ≤ 16 * n) (ap (λ (y : Table). y.regions) x.table ∙ ap (λ (y : Table). y.regions) c.condemn.ensures.table.same) (few_pages (g.M.Memory.seen c.start.new.ground.mem) c.start.new.ground.table c.args.what);
      going = ap (λ (y : Scan). y.over) x.begins.same;
      done = ap (λ (y : Scan). y.done) x.begins.same;
      placed = ap (λ (y : Table). y.placed) x.table ∙ ap (λ (y : Table). y.placed) c.condemn.ensures.table.same;
    }
