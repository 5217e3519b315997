use Rattle.std.proofs.Common.{◌*◌}
use Rattle.area_space.proofs.PageSets.{drops_counted}
use Rattle.area_space.proofs.table.RegionTable.drop_scan_page.Goals as goal

pub returns-clause-pages : goal.returns-clause-pages
returns-clause-pages c = rw (← c.self.view_is) (drops_counted c.self.inside.scan c.remove.new.self (16 * c.self.inside.chains.nodes) _ c.remove.ensures)
