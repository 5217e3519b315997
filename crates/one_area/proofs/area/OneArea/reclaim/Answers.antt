use Rattle.mem_port.specs.Plain.{plain_store}
use Rattle.one_area.proofs.OneAreas.{area_freed}
use Rattle.one_area.proofs.area.OneArea.reclaim.Goals as goal

pub returns : goal.returns
returns c =
    let now = c.args.self.now in
    let f = c.free_old.ensures in
    area_freed (plain_store now.ground.mem) (plain_store c.free_old.new.self.mem) now.ground.table c.free_old.new.self.table now.live_words now.old_words now.moving f.sound f.words f.table f.stays_ground c.requires
