-- The lines of pages, as a memory of frames has them.
use Rattle.std.specs.Prelude.{ℕ, List, [], eqb, not, if◌then◌else◌}
use Rattle.paged_memory.specs.page_map.Map.{place_at}
use Rattle.paged_memory.specs.Paging.{Paging, is_swapped, marks_of}
use Rattle.inside_text.specs.Words.{resident_line, swapped_line}

-- the line of a page in a frame
abbrev pub frame_of : Paging → ℕ → List ℕ
frame_of p page = resident_line page (not (eqb (marks_of p page) 0))

-- the line of a page on the swap device; none if the page isn't there
abbrev pub row_of : Paging → ℕ → List ℕ
row_of p page = if is_swapped (place_at p.places page) then swapped_line page (marks_of p page) else []
