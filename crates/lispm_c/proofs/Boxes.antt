-- A box of a session, and what has the same fields as one.
use mir.Syntax.{impl, tnil, dnil}
use mathlib.Core.List.{[]}
use denote.RattleType.{RattleType}
use Rattle.std.proofs.Common.{◌≡◌, refl, Option, Some, None}
use Rattle.std.specs.Option.{IsSome}
use Rattle.std_alloc.proofs.BoxSteps.Form.{Bx}
use Rattle.std_heap.specs.contracts.Global as Heap
use Rattle.std_heap.specs.contracts.GlobalAllocator.TheImpl.{ghosts, dict}
use Rattle.std_heap.proofs.Global.TheLaws as heap
use Rattle.byte_run.specs.contracts.session.ByteSession as Session
use Rattle.byte_run.proofs.session.ByteSession.TheLaws as session
use Rattle.lispm_c.specs.contracts.parts.Parts as Parts

-- the box of a session that lies in the heap of the C library
abbrev pub E : Bx
E = record { row = Session.the_row; laws = session.the_row_laws; al = record { row = Heap.the_row; laws = heap.the_row_laws; g = ghosts; d = dict; drops = impl [] tnil dnil } }

abbrev pub PartsRow : RattleType
PartsRow = Parts.the_row Session.the_row Heap.the_row ghosts

pub held_value : {A : Type 0} (held : Option A) → IsSome held → (value : A) × (held ≡ Some value)
held_value (Some value) some = (value, refl)
held_value None some = absurd (cc (some))
