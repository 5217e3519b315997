-- What a line of a world means in its place. The first test that fails gives the reason.
use Rattle.std.specs.Prelude.{ℕ, List, length, drop, Bool, true, false, ◌&&◌, if◌then◌else◌, bytes_eq, codes, Err}
use Rattle.world_text.specs.declared.reading.reason.Reason.TheVariants.{NotAWorld, BadLine, SpaceExpected, AreaExpected, CapacityExpected, UnexpectedLine}
use Rattle.world_text.specs.declared.fault.WorldFault.TheVariants.{Bad}
use Rattle.world_text.specs.declared.reading.reader.Section.{Section}
use Rattle.world_text.specs.declared.reading.reader.Section.TheVariants.{Opening, Sizing, FirstArea, Areas, Objects, Roots, Closed}
use Rattle.world_text.specs.declared.reading.reader.WorldReader.{WorldReader}
use Rattle.world_text.specs.reading.Words.{first_word, is_well_formed, words_of}
use Rattle.world_text.specs.reading.Reader.{Said}
use Rattle.world_text.specs.reading.Header.{area_line, capacity_line, opening_line, space_line}
use Rattle.world_text.specs.reading.Objects.{block_line, cons_line, run_line}
use Rattle.world_text.specs.reading.Closing.{closing_line, closing_word, missing_at, root_line, unless_missing}

-- Each line has the first word `head` and `count` words, `words` after the first.

-- a root line, or the line that closes the world
unfoldable pub last_lines : WorldReader → List ℕ → ℕ → List (List ℕ) → Said
last_lines place head count words =
    if bytes_eq head (codes "root") then unless_missing (missing_at place) (root_line place count words)
    else if bytes_eq head (closing_word place.file) then unless_missing (missing_at place) (closing_line place count)
    else Err (Bad UnexpectedLine)

-- an object line, or a later one
unfoldable pub object_lines : WorldReader → List ℕ → ℕ → List (List ℕ) → Said
object_lines place head count words =
    if bytes_eq head (codes "cons") then cons_line place count words
    else if bytes_eq head (codes "block") then block_line place count words
    else if place.second && bytes_eq head (codes "run") then run_line place count words
    else last_lines place head count words

-- one more area line; after them the capacity line in format 2, and an object line or a later one in format 1
unfoldable pub area_lines : WorldReader → List ℕ → ℕ → List (List ℕ) → Said
area_lines place head count words =
    if bytes_eq head (codes "area") then area_line place count words
    else if place.second then (if bytes_eq head (codes "capacity") then capacity_line place count words else Err (Bad CapacityExpected))
    else object_lines place head count words

unfoldable pub line_in : Section → WorldReader → List ℕ → ℕ → List (List ℕ) → Said
line_in Opening place head count words = Err (Bad NotAWorld)
line_in Sizing place head count words = if bytes_eq head (codes "space") then space_line place count words else Err (Bad SpaceExpected)
line_in FirstArea place head count words = if bytes_eq head (codes "area") then area_line place count words else Err (Bad AreaExpected)
line_in Areas place head count words = area_lines place head count words
line_in Objects place head count words = object_lines place head count words
line_in Roots place head count words = last_lines place head count words
line_in Closed place head count words = Err (Bad UnexpectedLine)

abbrev pub is_opening : Section → Bool
is_opening Opening = true
is_opening _ = false

-- What the line means in its place.
abbrev pub line_at : WorldReader → List ℕ → Said
line_at place text =
    if is_opening place.part then opening_line place text
    else if is_well_formed text then line_in place.part place (first_word (words_of text)) (length (words_of text)) (drop 1 (words_of text))
    else Err (Bad BadLine)
