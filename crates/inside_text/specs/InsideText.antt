-- The text that shows a machine: a line for each fact, in the order of regions, words and pages.
use Rattle.std.specs.Prelude.{ℕ, ◌*◌, ◌/◌, ◌%◌, ◌==◌, not, eqb, Bool, if◌then◌else◌, List, [], ◌∷◌, ◌++◌, map, flat_map, take, length, slice_index, codes, decimal, Option, Some, None, get_or}
use Rattle.std.specs.List.{range_with_len}
use Rattle.store_word.specs.Words.{null_word}
use Rattle.store_word.specs.declared.space.Space.{Space}
use Rattle.store_word.specs.declared.sizes.TheConstants.{REGION_WORDS}
use Rattle.lisp_graph.specs.declared.command.Condemn.{Condemn}
use Rattle.lisp_graph.specs.declared.world.AreaKind.{AreaKind}
use Rattle.area_space.specs.mem_port.Swaps.{Swaps}
use Rattle.world_text.specs.Spelling.{kind_text}
use Rattle.area_space.specs.Table.{Table, kind_of, levels_of, used_of, mark_of, quota_of}
use Rattle.area_space.specs.Accounts.{account_of}
use Rattle.scavenger.specs.declared.scan_set.Unit.{Unit as ScanUnit}
use Rattle.scavenger.specs.declared.scan_set.Unit.TheVariants.{Register, Word}
use Rattle.scavenger.specs.Left.{next_of, register_left, word_left}
use Rattle.lisp_heap.specs.HeapView.{HeapView}
use Rattle.lisp_heap.specs.Costs.{left_in}
use Rattle.inside_text.specs.Regions.{class_at}
use Rattle.inside_text.specs.Words.{age_word, condemned_word, counts_line, line, marked_line, resident_line, swapped_line}

-- Sizes and areas

abbrev pub space_line : Space → List ℕ
space_line space = line (codes "space" ∷ map decimal (space.regions ∷ space.frames ∷ space.registers ∷ space.levels ∷ space.rate ∷ []))

-- a number for each level
abbrev pub capacity_line : Space → List ℕ
capacity_line space = line (codes "capacity" ∷ map decimal (take space.levels space.capacity))

abbrev pub charged_line : ℕ → AreaKind → ℕ → ℕ → List ℕ
charged_line area kind quota charged = line (codes "area" ∷ decimal area ∷ kind_text kind ∷ codes "quota" ∷ decimal quota ∷ codes "charged" ∷ decimal charged ∷ [])

abbrev pub area_line : HeapView → ℕ → List ℕ
area_line heap area = charged_line area (kind_of heap.table area) (quota_of heap.table area) (account_of heap.table area)

abbrev pub area_lines : HeapView → List ℕ
area_lines heap = flat_map (area_line heap) (range_with_len 0 (length heap.table.kinds))

-- the first line, the sizes and the areas
abbrev pub head_lines : HeapView → List ℕ
head_lines heap = codes "lispm-inside 1" ++ 10 ∷ (space_line heap.space ++ (capacity_line heap.space ++ area_lines heap))

-- The collection

abbrev pub phase_words : Option Condemn → Bool → List (List ℕ)
phase_words None over = codes "idle" ∷ []
phase_words (Some what) over = (if over then codes "over" else codes "running") ∷ condemned_word what ∷ []

abbrev pub unit_words : Option ScanUnit → List (List ℕ)
unit_words None = codes "none" ∷ []
unit_words (Some (Register register)) = codes "register" ∷ decimal register ∷ []
unit_words (Some (Word at)) = codes "word" ∷ decimal at ∷ []

abbrev pub page_words : Option ℕ → List (List ℕ)
page_words None = codes "none" ∷ []
page_words (Some page) = decimal page ∷ []

abbrev pub phase_line : HeapView → List ℕ
phase_line heap = line (codes "phase" ∷ phase_words heap.table.aim heap.scan.over)

abbrev pub left_line : HeapView → List ℕ
left_line heap = line (codes "left" ∷ decimal (left_in heap) ∷ [])

abbrev pub next_line : HeapView → List ℕ
next_line heap = line (codes "next" ∷ unit_words (next_of heap.scan heap.table))

abbrev pub moved_line : HeapView → List ℕ
moved_line heap = line (codes "moved" ∷ page_words heap.table.last)

-- what a collection condemned, how many units have yet to be scanned, which is next, and the page of the latest transport
abbrev pub phase_lines : HeapView → List ℕ
phase_lines heap = phase_line heap ++ (left_line heap ++ (next_line heap ++ moved_line heap))

-- Registers, regions and their words

abbrev pub register_line : HeapView → ℕ → List ℕ
register_line heap register = marked_line (codes "register") register (get_or heap.registers register null_word) (register_left heap.scan register)

abbrev pub register_lines : HeapView → List ℕ
register_lines heap = flat_map (register_line heap) (range_with_len 0 (length heap.registers))

abbrev pub word_line : HeapView → ℕ → List ℕ
word_line heap at = marked_line (codes "word") at (get_or heap.memory.words at null_word) (word_left heap.scan heap.table at)

-- a region of this area and this level, which is old or live
abbrev pub owned_line : Table → ℕ → ℕ → ℕ → Bool → List ℕ
owned_line t region area level old = line (codes "region" ∷ decimal region ∷ codes "area" ∷ decimal area ∷ codes "level" ∷ decimal level
    ∷ age_word old ∷ codes "used" ∷ decimal (used_of t region) ∷ codes "mark" ∷ decimal (mark_of t region) ∷ [])

-- a region of this class: the area and the level of its slot, and whether it is old
abbrev pub region_line : HeapView → ℕ → ℕ → List ℕ
region_line heap region class = owned_line heap.table region (class / 2 / levels_of heap.table) (class / 2 % levels_of heap.table) (class % 2 == 1)

-- a region that isn't free, and its used words
abbrev pub lines_of_class : HeapView → ℕ → Option ℕ → List ℕ
lines_of_class heap region None = []
lines_of_class heap region (Some class) = region_line heap region class ++ flat_map (word_line heap) (range_with_len (REGION_WORDS * region) (used_of heap.table region))

abbrev pub region_lines : HeapView → ℕ → List ℕ
region_lines heap region = lines_of_class heap region (class_at heap.table region)

abbrev pub all_region_lines : HeapView → List ℕ
all_region_lines heap = flat_map (region_lines heap) (range_with_len 0 heap.table.regions)

-- Pages

-- a page in a frame; its tag is set if it has marks
abbrev pub frame_line : HeapView → ℕ → List ℕ
frame_line heap page = resident_line page (not (eqb (slice_index heap.memory.marks page) 0))

-- a page on the swap device, and its row in the table
abbrev pub row_line : HeapView → ℕ → List ℕ
row_line heap page = swapped_line page (slice_index heap.memory.marks page)

abbrev pub calls_line : Swaps → List ℕ
calls_line swaps = counts_line swaps.writes swaps.reads

-- the pages in frames, the least recently used first, then those on the swap device in ascending order, and the page calls
abbrev pub page_lines : HeapView → List ℕ
page_lines heap = flat_map (frame_line heap) heap.resident ++ (flat_map (row_line heap) heap.counts.swaps.out ++ calls_line heap.counts.swaps)

-- All of it

-- the collection, the registers and the regions
abbrev pub middle_lines : HeapView → List ℕ
middle_lines heap = phase_lines heap ++ (register_lines heap ++ all_region_lines heap)

abbrev pub inside_text : HeapView → List ℕ
inside_text heap =
    head_lines heap
    ++ (middle_lines heap
    ++ (page_lines heap
    ++ (codes "end-inside" ++ 10 ∷ [])))
