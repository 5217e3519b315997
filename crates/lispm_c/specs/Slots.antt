-- What a slot owns: nothing if it is empty, otherwise what a `Box<ByteSession>` owns.
use base.Fml.{Fml, ftrue}
use denote.RawPtr.{Ptr}
use Rattle.std.specs.Prelude.{Option, Some, None}
use Rattle.std.specs.Coded.{Coded, coded_option}
use Rattle.std.specs.Box.Ownership.{box_owns}
use Rattle.std.specs.Global.{Global}
use Rattle.std_heap.specs.contracts.GlobalAllocator.TheImpl.{ghosts}
use Rattle.std_heap.specs.contracts.Global as Heap
use Rattle.byte_run.specs.contracts.session.ByteSession.{the_row}

abbrev pub slot_owns : Global → Ptr → Option the_row.Denot → Fml
slot_owns heap at None = ftrue
slot_owns heap at (Some value) = box_owns (ghosts.dealloc_token heap) the_row at value

abbrev pub held_coded : Coded (Option the_row.Denot)
held_coded = coded_option the_row.coded

abbrev pub heap_coded : Coded Global
heap_coded = Heap.the_row.coded
