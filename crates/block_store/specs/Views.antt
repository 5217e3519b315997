-- What this crate's contracts state about grounds, in terms of their views.
use Rattle.std.specs.Prelude.{ℕ}
use Rattle.area_space.specs.Table.{Table}
use Rattle.area_space.specs.View.{GroundView}
use Rattle.mem_port.specs.Store.{Store}
use Rattle.store_word.specs.Words.{Parts}
use Rattle.store_word.specs.declared.word.Content.{Content}
use Rattle.block_store.specs.Fields as fields
use Rattle.block_store.specs.Growing as growing
use Rattle.block_store.specs.Headers as headers
use Rattle.block_store.specs.Making as making
use Rattle.block_store.specs.Marks as marks
use Rattle.block_store.specs.Opening as opening

abbrev pub CanGrow : GroundView → Parts → ℕ → Type 0
CanGrow v = growing.CanGrow v.mem.store v.table

abbrev pub CanMake : GroundView → ℕ → ℕ → ℕ → Type 0
CanMake v = making.CanMake v.mem.store v.table

abbrev pub CanSet : GroundView → Content → Parts → Type 0
CanSet v = fields.CanSet v.mem.store v.table

abbrev pub GrowsBlock : GroundView → GroundView → Content → ℕ → ℕ → Type 0
GrowsBlock v v' = growing.GrowsBlock v.mem.store v.table v'.mem.store v'.table

abbrev pub GrowsWithin : GroundView → Content → ℕ → Type 0
GrowsWithin v = growing.GrowsWithin v.mem.store v.table

abbrev pub HasMeaning : GroundView → Content → Type 0
HasMeaning v = headers.HasMeaning v.mem.store v.table

abbrev pub IsReadable : GroundView → Parts → Type 0
IsReadable v = fields.IsReadable v.mem.store v.table

abbrev pub KeepsBlock : GroundView → GroundView → Content → Type 0
KeepsBlock v v' = fields.KeepsBlock v.mem.store v.table v'.mem.store v'.table

abbrev pub MarksField : GroundView → GroundView → Content → ℕ → Type 0
MarksField v v' = fields.MarksField v.mem.store v.table v'.mem.store v'.table

abbrev pub MarksGrown : GroundView → GroundView → Content → ℕ → ℕ → ℕ → Type 0
MarksGrown v v' = marks.MarksGrown v.mem.store v.table v'.mem.store

abbrev pub MakesBlock : GroundView → GroundView → ℕ → ℕ → ℕ → ℕ → ℕ → Type 0
MakesBlock v v' = making.MakesBlock v.mem.store v.table v'.mem.store v'.table

abbrev pub OpensForGrown : GroundView → Table → Content → ℕ → Type 0
OpensForGrown v = opening.OpensForGrown v.mem.store v.table

abbrev pub PlacesGrown : GroundView → Table → ℕ → ℕ → ℕ → Type 0
PlacesGrown v = growing.PlacesGrown v.mem.store v.table

abbrev pub ReadsField : GroundView → GroundView → Content → ℕ → Parts → Type 0
ReadsField v v' = fields.ReadsField v.mem.store v.table v'.mem.store v'.table

abbrev pub SetsField : GroundView → Store → Content → ℕ → Content → Type 0
SetsField v = fields.SetsField v.mem.store v.table

abbrev pub TellsArea : GroundView → Content → ℕ → Type 0
TellsArea v = headers.TellsArea v.mem.store v.table

abbrev pub TellsCode : GroundView → Content → ℕ → Type 0
TellsCode v = headers.TellsCode v.mem.store v.table

abbrev pub TellsLength : GroundView → Content → ℕ → Type 0
TellsLength v = headers.TellsLength v.mem.store v.table
