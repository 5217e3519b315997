-- Two regions after the first transport, and their text.
use Rattle.std.specs.Prelude.{◌≡◌, ℕ, pos, List, [], ◌∷◌, ◌++◌, codes, false, Some, replicate}
use Rattle.store_word.specs.Words.{Parts, null_word}
use Rattle.store_word.specs.declared.word.CdrCode.{CdrCode}
use Rattle.store_word.specs.declared.word.CdrCode.TheVariants.{Next, Normal, Second}
use Rattle.store_word.specs.declared.word.Content.{Content}
use Rattle.store_word.specs.declared.word.Content.TheVariants.{Nil, List as ListAt, GcForward, Fixnum}
use Rattle.store_word.specs.declared.space.Space.{Space}
use Rattle.lisp_graph.specs.declared.command.Condemn.TheVariants.{Full}
use Rattle.lisp_graph.specs.declared.world.AreaKind.TheVariants.{Dynamic}
use Rattle.area_space.specs.Table.{Table}
use Rattle.scavenger.specs.Scan.{Scan}
use Rattle.lisp_heap.specs.HeapView.{HeapView, MemoryLists}
use Rattle.area_space.specs.mem_port.Swaps.{no_swaps}
use Rattle.inside_text.specs.InsideText.{inside_text}

abbrev pub word : CdrCode → Content → Parts
word code content = record { cdr = code; content = content }

abbrev pub two_words : List Parts
two_words = word Normal (Fixnum (pos 1)) ∷ word Second (Fixnum (pos 1)) ∷ []

-- the words of region 0, including those that aren't used
abbrev pub old_words : List Parts
old_words = two_words ++ (word Next (GcForward 4096) ∷ word Second (Fixnum (pos 1)) ∷ replicate 4092 null_word)

abbrev pub barrier_words : List Parts
barrier_words = old_words ++ two_words

abbrev pub barrier_table : Table
barrier_table = record {
  regions = 2;
  top = 1;
  quotas = 4 ∷ [];
  kinds = Dynamic ∷ [];
  chains = (1 ∷ []) ∷ (0 ∷ []) ∷ [] ∷ [] ∷ [];
  charges = 2 ∷ 2 ∷ 0 ∷ 0 ∷ [];
  husks = 0 ∷ 0 ∷ 0 ∷ 0 ∷ [];
  used = 4 ∷ 2 ∷ [];
  marks = 0 ∷ 0 ∷ [];
  aim = Some Full;
  last = Some 16;
  pages = 16 ∷ [];
  placed = 2;
}

abbrev pub barrier_scan : Scan
barrier_scan = record { registers = 4; scanned = 0; pages = 4 ∷ replicate 31 0; over = false; begun = 4; done = 0 }

unfoldable pub barrier_heap : HeapView
barrier_heap = record {
  memory = (let m : MemoryLists = record { words = barrier_words; levels = 0 ∷ 0 ∷ []; marks = replicate 32 0; top = 1 } in m);
  table = barrier_table;
  scan = barrier_scan;
  registers = word Next (Fixnum (pos 1)) ∷ word Next (ListAt 4096) ∷ word Next Nil ∷ word Next (Fixnum (pos 1)) ∷ [];
  space = (let s : Space = record { regions = 2; frames = 32; registers = 4; levels = 1; rate = 2; capacity = 0 ∷ 0 ∷ 0 ∷ 0 ∷ 0 ∷ 0 ∷ [] } in s);
  faults = 0;
  resident = 0 ∷ 16 ∷ [];
  counts = record { swaps = no_swaps; taken = 0 };
}

abbrev pub text_front : List ℕ
text_front = codes "lispm-inside 1" ++ 10 ∷ codes "space 2 32 4 1 2" ++ 10 ∷ codes "capacity 0" ++ 10 ∷ codes "area 0 dynamic quota 4 charged 4" ++ 10 ∷ []

abbrev pub text_middle : List ℕ
text_middle =
    codes "phase running full" ++ 10 ∷ codes "left 6" ++ 10 ∷ codes "next word 4096" ++ 10 ∷ codes "moved 16" ++ 10
    ∷ codes "register 0 100000001 left" ++ 10 ∷ codes "register 1 020001000 left" ++ 10 ∷ codes "register 2 010000000 left" ++ 10 ∷ codes "register 3 100000001 left" ++ 10
    ∷ codes "region 0 area 0 level 0 old used 4 mark 0" ++ 10 ∷ codes "word 0 900000001" ++ 10 ∷ codes "word 1 d00000001" ++ 10 ∷ codes "word 2 060001000" ++ 10 ∷ codes "word 3 d00000001" ++ 10
    ∷ codes "region 1 area 0 level 0 live used 2 mark 0" ++ 10 ∷ codes "word 4096 900000001 left" ++ 10 ∷ codes "word 4097 d00000001 left" ++ 10 ∷ []

abbrev pub text_end : List ℕ
text_end = codes "page 0 resident tag no" ++ 10 ∷ codes "page 16 resident tag no" ++ 10 ∷ codes "calls write 0 read 0" ++ 10 ∷ codes "end-inside" ++ 10 ∷ []

unfoldable pub barrier_text : List ℕ
barrier_text = text_front ++ (text_middle ++ text_end)

abbrev pub IsWorked : Type 0
IsWorked = inside_text barrier_heap ≡ barrier_text
