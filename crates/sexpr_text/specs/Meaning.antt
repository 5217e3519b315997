-- What a whole text means: a world, or why it is refused.
use Rattle.std.specs.Prelude.{ℕ, zero, suc, ◌+◌, ◌^◌, List, length, take, drop, true, ◌==◌, nat_lt, if◌then◌else◌, bytes_eq, codes, count_by, Result, Ok, Err}
use Rattle.std.specs.List.{position_or_len}
use Rattle.lisp_graph.specs.declared.object.Value.{Value}
use Rattle.lisp_graph.specs.declared.object.Object.{Object}
use Rattle.lisp_graph.specs.declared.world.AreaRule.{AreaRule}
use Rattle.lisp_graph.specs.declared.world.World.{World}
use Rattle.world_text.specs.declared.reading.reason.Reason.TheVariants.{LineTooLong, NotAWorld}
use Rattle.world_text.specs.declared.fault.WorldFault.{WorldFault}
use Rattle.world_text.specs.declared.fault.WorldFault.TheVariants as W
use Rattle.world_text.specs.declared.reading.reader.Section.TheVariants.{Sizing}
use Rattle.world_text.specs.declared.reading.reader.WorldReader.{WorldReader}
use Rattle.world_text.specs.Next.{◌>>=◌}
use Rattle.world_text.specs.Reader.{Said, opening_place}
use Rattle.world_text.specs.Line.{line_at}
use Rattle.world_text.specs.Limits.{has_objects}
use Rattle.sexpr_text.specs.declared.fault.SexprReason.TheVariants.{Header, InputTooLong, NoEnd}
use Rattle.sexpr_text.specs.declared.fault.SexprFault.{SexprFault}
use Rattle.sexpr_text.specs.declared.fault.SexprFault.TheVariants.{Bad, TooSmall, NoMemory}
use Rattle.sexpr_text.specs.Pieces.{is_feed, pieces_of}
use Rattle.sexpr_text.specs.Roots.{roots_from, unrooted}

-- The header

-- the first line of a text
abbrev pub first_line : List ℕ → List ℕ
first_line text = take (position_or_len is_feed text) text

-- the text after it
abbrev pub behind_line : List ℕ → List ℕ
behind_line text = drop (position_or_len is_feed text + 1) text

-- the refusal of a line of the header; no such line makes objects, so none is refused for a quota
abbrev pub header_fault : ℕ → WorldFault → SexprFault
header_fault line (W.Bad reason) = Bad line (Header reason)
header_fault line W.TooSmall = TooSmall line
header_fault line (W.Exhausted area charged wanted quota) = NoMemory
header_fault line W.NoMemory = NoMemory

abbrev pub place_behind : ℕ → Said → Result WorldReader SexprFault
place_behind line (Ok (step, place)) = Ok place
place_behind line (Err fault) = Err (header_fault line fault)

-- the place after a line of the header, which has at most 32,768 bytes
abbrev pub header_line : WorldReader → ℕ → List ℕ → Result WorldReader SexprFault
header_line place line text = if nat_lt 32768 (length text) then Err (Bad line (Header LineTooLong)) else place_behind line (line_at place text)

-- a header: its world, which has no objects and no roots yet; and the text after it, which begins in this line
pub record Head : Type 0 where
  pub world : World
  pub line : ℕ
  pub rest : List ℕ

-- the lines of a header from here on up to the `capacity` line, at most this many
unfoldable pub header : ℕ → WorldReader → ℕ → List ℕ → Result Head SexprFault
header zero place line text = Err (Bad line NoEnd)
header (suc more) place line text =
    if length text == 0 then Err (Bad line NoEnd)
    else (do
      next ← header_line place line (first_line text)
      if has_objects next.part then Ok (record { world = next.world; line = line + 1; rest = behind_line text })
          else header more next (line + 1) (behind_line text))

-- the lines of a world file of format 2 follow the first line
abbrev pub second_place : WorldReader
second_place = record (opening_place true) { part = Sizing; second = true }

-- Whole texts

-- the line of the byte with this index
abbrev pub line_of_byte : ℕ → List ℕ → ℕ
line_of_byte index text = 1 + count_by is_feed (take index text)

-- the objects and the roots of a text after its header; that text begins in this line
unfoldable pub graph_behind : List AreaRule → ℕ → ℕ → List ℕ → Result (List Object × List Value) SexprFault
graph_behind areas registers line text =
    let pieces = pieces_of areas line text in do
      rooted ← roots_from (length pieces) (unrooted registers) pieces
      Ok (rooted.objects, rooted.roots)

-- what a text means, from the text after its first line
unfoldable pub said_behind : List ℕ → Result World SexprFault
said_behind text = do
  head ← header (length text) second_place 2 text
  (objects, roots) ← graph_behind head.world.areas head.world.space.registers head.line head.rest
  Ok (record head.world { objects = objects; roots = roots })

-- what a text of at most `limit` bytes means
abbrev pub meaning_within : ℕ → List ℕ → Result World SexprFault
meaning_within limit text =
    if nat_lt limit (length text) then Err (Bad (line_of_byte limit text) InputTooLong)
    else if nat_lt 32768 (length (first_line text)) then Err (Bad 1 (Header LineTooLong))
    else if bytes_eq (first_line text) (codes "sexpr-world 1") then said_behind (behind_line text)
    else Err (Bad 1 (Header NotAWorld))

-- What a text means.
abbrev pub meaning : List ℕ → Result World SexprFault
meaning text = meaning_within (2 ^ 40) text
