use Rattle.std.proofs.Common.{◌*◌}
use Rattle.area_space.proofs.PageSets.{adds_counted}
use Rattle.area_space.proofs.table.RegionTable.add_scan_page.Goals as goal

pub returns-clause-pages : goal.returns-clause-pages
returns-clause-pages c = rw (← c.self.view_is) (adds_counted c.self.inside.scan c.insert.new.self (16 * c.self.inside.chains.nodes) _ _ c.insert.ensures)
