-- What this crate's contracts state about grounds, in terms of their views.
use Rattle.std.specs.Prelude.{List, ℕ}
use Rattle.area_space.specs.View.{GroundView}
use Rattle.store_word.specs.Words.{Parts}
use Rattle.store_word.specs.declared.word.Content.{Content}
use Rattle.cdr_lists.specs.Lists as lists
use Rattle.cdr_lists.specs.Pairs as pairs
use Rattle.cdr_lists.specs.Parts as parts
use Rattle.cdr_lists.specs.Reading as reading

abbrev pub CanList : GroundView → ℕ → ℕ → List Parts → List ℕ → Type 0
CanList v = lists.CanList v.mem.store v.table

abbrev pub CanPair : GroundView → ℕ → ℕ → ℕ → Parts → Parts → Type 0
CanPair v = pairs.CanPair v.mem.store v.table

abbrev pub CanSet : GroundView → Parts → Parts → Type 0
CanSet v = parts.CanSet v.mem.store v.table

abbrev pub IsCellAt : GroundView → ℕ → Parts → Type 0
IsCellAt v = parts.IsCellAt v.mem.store

abbrev pub IsConsPlace : GroundView → Content → ℕ → Type 0
IsConsPlace v = reading.IsConsPlace v.mem.store.words

abbrev pub IsReadable : GroundView → Parts → Type 0
IsReadable v = reading.IsReadable v.mem.store v.table

abbrev pub KeepsCons : GroundView → GroundView → Content → Type 0
KeepsCons v v' = reading.KeepsCons v.mem.store v.table v'.mem.store v'.table

abbrev pub LaysPair : GroundView → GroundView → ℕ → Parts → Parts → Type 0
LaysPair v v' = parts.LaysPair v.mem.store v.table v'.mem.store v'.table

abbrev pub ListedOn : GroundView → GroundView → ℕ → ℕ → List Parts → List ℕ → ℕ → Type 0
ListedOn v v' = lists.ListedOn v.mem.store v.table v'.mem.store v'.table

abbrev pub MarksCar : GroundView → GroundView → Content → Type 0
MarksCar v v' = parts.MarksCar v.mem.store v.table v'.mem.store v'.table

abbrev pub MarksCdr : GroundView → GroundView → Content → Type 0
MarksCdr v v' = parts.MarksCdr v.mem.store v.table v'.mem.store v'.table

abbrev pub PairedOn : GroundView → GroundView → ℕ → ℕ → ℕ → Parts → Parts → ℕ → Type 0
PairedOn v v' = pairs.PairedOn v.mem.store v.table v'.mem.store v'.table

abbrev pub ReadsCar : GroundView → GroundView → Content → Parts → Type 0
ReadsCar v v' = reading.ReadsCar v.mem.store v.table v'.mem.store v'.table

abbrev pub ReadsCdr : GroundView → GroundView → Content → Parts → Type 0
ReadsCdr v v' = reading.ReadsCdr v.mem.store v.table v'.mem.store v'.table

abbrev pub RelaysCdr : GroundView → GroundView → Content → Parts → Type 0
RelaysCdr v v' = parts.RelaysCdr v.mem.store v.table v'.mem.store v'.table

abbrev pub RelaysCell : GroundView → GroundView → ℕ → Parts → Type 0
RelaysCell v v' = parts.RelaysCell v.mem.store v.table v'.mem.store v'.table

abbrev pub SetsCar : GroundView → GroundView → Content → Content → Type 0
SetsCar v v' = parts.SetsCar v.mem.store v.table v'.mem.store v'.table

abbrev pub SetsCdr : GroundView → GroundView → Content → Content → Type 0
SetsCdr v v' = parts.SetsCdr v.mem.store v.table v'.mem.store v'.table

abbrev pub SettlesCellAtMost : GroundView → GroundView → Content → Type 0
SettlesCellAtMost v v' = parts.SettlesCellAtMost v.mem.store v.table v'.mem.store v'.table

abbrev pub SettlesWordAtMost : GroundView → GroundView → ℕ → Type 0
SettlesWordAtMost v v' = parts.SettlesWordAtMost v.mem.store v.table v'.mem.store v'.table
