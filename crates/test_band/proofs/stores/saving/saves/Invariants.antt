use Rattle.std.proofs.Common.{◌≡◌, List, true}
use Rattle.band_store.specs.Format.{Save}
use Rattle.band_store.specs.Store.{IsReady}
use Rattle.test_band.proofs.stores.saving.saves.Given as goal

-- the store is closed, or ready on its disk
abbrev pub invariant-loop-i : goal.invariant-loop-i
invariant-loop-i g l = l.store.opened ≡ true → (saves : List Save) × IsReady l.store (g.D.BandDisk.bytes l.disk) (g.D.BandDisk.images l.disk) saves
