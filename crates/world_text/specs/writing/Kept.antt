-- Objects that a dump keeps, with keys of 32 bits.
use Rattle.std.specs.Prelude.{ℕ, Option, Some, None, if◌then◌else◌}
use Rattle.std.specs.Int.{cast_signed, w32}
use Rattle.lisp_graph.specs.declared.walk.Seen.{Seen}
use Rattle.lisp_graph.specs.declared.walk.Seen.TheVariants as S
use Rattle.lisp_graph.specs.declared.walk.SeenCons.{SeenCons}
use Rattle.world_text.specs.declared.writing.kept_object.KeptObject.{KeptObject}
use Rattle.world_text.specs.declared.writing.kept_object.Kind.{Kind}
use Rattle.world_text.specs.declared.writing.kept_object.Kind.TheVariants.{Fix, Nil, Cons, Block}

-- the value of this kind that is kept as these 32 bits
abbrev pub seen_of : Kind → ℕ → Seen
seen_of Fix bits = S.Fix (cast_signed w32 bits)
seen_of Nil bits = S.Nil
seen_of Cons key = S.Cons key
seen_of Block key = S.Block key

-- the cons that is kept; None for a block
abbrev pub kept_in : KeptObject → Option SeenCons
kept_in kept = if kept.is_cons then Some (record { area = kept.area; charge = kept.charge; car = seen_of kept.car_kind kept.car; cdr = seen_of kept.cdr_kind kept.cdr }) else None
