-- The lines after the objects: the roots, and the line that closes a world.
use Rattle.std.specs.Prelude.{ℕ, ◌-◌, ◌^◌, min, List, length, Bool, true, false, ◌==◌, nat_lt, if◌then◌else◌, codes, slice_get, slice_set, fold, Option, Some, None, unwrap_or, Ok, Err}
use Rattle.lisp_graph.specs.declared.object.Value.{Value}
use Rattle.lisp_graph.specs.declared.object.Value.TheVariants.{Ref}
use Rattle.lisp_graph.specs.declared.object.Body.{Body}
use Rattle.lisp_graph.specs.declared.object.Body.TheVariants.{Cons, Block}
use Rattle.lisp_graph.specs.declared.object.Object.{Object}
use Rattle.world_text.specs.declared.reading.reason.Reason.TheVariants.{NoObject, WrongCount, RegisterTwice}
use Rattle.world_text.specs.declared.fault.WorldFault.{WorldFault}
use Rattle.world_text.specs.declared.fault.WorldFault.TheVariants.{Bad}
use Rattle.world_text.specs.declared.fault.WorldStep.TheVariants.{Next, TraceBegins, WorldEnds}
use Rattle.world_text.specs.declared.reading.reader.Section.{Section}
use Rattle.world_text.specs.declared.reading.reader.Section.TheVariants.{Roots, Closed}
use Rattle.world_text.specs.declared.reading.reader.WorldReader.{WorldReader}
use Rattle.world_text.specs.reading.Next.{◌>>=◌, a_register, a_value, next}
use Rattle.world_text.specs.reading.Reader.{Said, bad}

-- Numbers that are the number of no object

-- the lesser of the number found so far and this one
abbrev pub lesser : Option ℕ → ℕ → Option ℕ
lesser None number = Some number
lesser (Some found) number = Some (min found number)

-- with this many objects: the least of the missing numbers found so far and of the value's number, if it is missing
abbrev pub missing_value : ℕ → Option ℕ → Value → Option ℕ
missing_value objects found (Ref number) = if nat_lt number objects then found else lesser found number
missing_value objects found _ = found

abbrev pub missing_body : ℕ → Option ℕ → Body → Option ℕ
missing_body objects found (Cons car cdr) = missing_value objects (missing_value objects found car) cdr
missing_body objects found (Block code fields) = fold (missing_value objects) found fields

-- the least number in a reference of these objects that is the number of none of them
abbrev pub missing : List Object → Option ℕ
missing objects = fold (λ found object. missing_body (length objects) found object.body) None objects

abbrev pub are_roots : Section → Bool
are_roots Roots = true
are_roots _ = false

-- the objects are tested at the first line after them
abbrev pub missing_at : WorldReader → Option ℕ
missing_at place = if are_roots place.part then None else missing place.world.objects

-- a number after `#`, reported as at most 2^32 - 1
abbrev pub no_object : ℕ → WorldFault
no_object number = Bad (NoObject (min number (2 ^ 32 - 1)))

abbrev pub unless_missing : Option ℕ → Said → Said
unless_missing None said = said
unless_missing (Some number) said = Err (no_object number)

-- Each line has `count` words, and `words` after its first one.

-- the register already had a root line
abbrev pub has_root : WorldReader → ℕ → Bool
has_root place register = unwrap_or (slice_get place.rooted register) false

-- `root R V`
unfoldable pub root_line : WorldReader → ℕ → List (List ℕ) → Said
root_line place count words =
    if count == 3 then (do
      (register, words) ← bad (next (a_register place.world.space.registers) words)
      if has_root place register then Err (Bad RegisterTwice)
          else (do
            (value, words) ← bad (next a_value words)
            unless_missing (missing_value (length place.world.objects) None value)
                (Ok (Next, record place { part = Roots; world = record place.world { roots = slice_set place.world.roots register value }; rooted = slice_set place.rooted register true }))))
    else Err (Bad WrongCount)

-- `end-world` closes a world file, and `trace` the world of an input
abbrev pub closing_word : Bool → List ℕ
closing_word file = if file then codes "end-world" else codes "trace"

unfoldable pub closing_line : WorldReader → ℕ → Said
closing_line place count =
    if count == 1 then Ok (if place.file then WorldEnds else TraceBegins, record place { part = Closed })
    else Err (Bad WrongCount)
