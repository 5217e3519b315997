-- The text of the worked heap, line by line.
use Rattle.std.proofs.Common.{◌⊎◌, inl, inr, pos, ◌≡◌, ℕ, zero, suc, ◌+◌, ◌*◌, ◌/◌, ◌%◌, ◌<◌, ◌≤◌, ◌&&◌, Bool, true, false, nat_le, nat_lt, List, [], ◌∷◌, ◌++◌, length, get_or, slice_index, codes, decimal, Option, Some, None, refl, sym, ap, ◌∙◌, arith}
use Rattle.std.specs.Fmt.{digits}
use Rattle.std.proofs.lemmas.List.{get_or-append-add, length-append, length-replicate}
use Rattle.std.proofs.lemmas.Bool.{cases_eq, le-ltb}
use Rattle.store_word.specs.Words.{Parts, null_word}
use Rattle.store_word.specs.declared.word.CdrCode.TheVariants.{Normal, Second}
use Rattle.store_word.specs.declared.word.Content.TheVariants.{Fixnum}
use Rattle.lisp_graph.specs.Totals.{total, if_true}
use Rattle.lisp_graph.proofs.Totals.{total-plus}
use Rattle.area_space.specs.Table.{used_of}
use Rattle.scavenger.specs.declared.scan_set.Unit.{Unit as ScanUnit}
use Rattle.scavenger.specs.declared.scan_set.Unit.TheVariants.{Word}
use Rattle.scavenger.specs.Left.{is_open, is_page, near_of, next_of, register_left, unit_of, word_left}
use Rattle.lisp_heap.specs.lisp_meaning.Units.{lowest, lowest_or}
use Rattle.lisp_heap.proofs.lisp_meaning.reading.NextUnits.{none-lowest}
use Rattle.lisp_heap.specs.Costs.{left_in}
use Rattle.inside_text.specs.Regions.{class_from}
use Rattle.inside_text.specs.Words.{line, marked_line}
use Rattle.inside_text.specs.InsideText.{all_region_lines, head_lines, middle_lines, moved_line, next_line, page_lines, phase_line, region_line, region_lines, register_lines, unit_words, word_line}
use Rattle.inside_text.specs.Example.{IsWorked, barrier_heap, barrier_scan, barrier_table, barrier_text, barrier_words, old_words, text_end, text_front, text_middle, two_words, word}

lowest_some : (p : ℕ → Bool) (n m : ℕ) → m < n → p m ≡ true → ((k : ℕ) → k < m → p k ≡ false) → lowest p n ≡ Some m
unfolding lowest
lowest_some p zero m l passes none = absurd (omega arith)
lowest_some p (suc n) m l passes none = at (cases_eq m n) (λ (q : m < n). lowest_some p n m q passes none)
  where
    at : (m ≡ n) ⊎ (m ≡ n → ⊥) → (m < n → lowest p n ≡ Some m) → lowest_or (lowest p n) n (p n) ≡ Some m
    at (inl e) before =
        let none_below : lowest p n ≡ None = none-lowest p n (λ k q. none k (omega arith)) in
        let here : p n ≡ true = ap p (sym e) ∙ passes in
        ap (λ (o : Option ℕ). lowest_or o n (p n)) none_below ∙ ap (lowest_or None n) here ∙ ap (λ (x : ℕ). Some x) (sym e)
    at (inr ne) before = ap (λ (o : Option ℕ). lowest_or o n (p n)) (before (omega arith))

and_second : (b c : Bool) → c ≡ false → (b && c) ≡ false
and_second true c e = e
and_second false c e = refl

-- The words

old_length : length old_words ≡ 4096
old_length = ap (λ (n : ℕ). suc (suc (suc (suc n)))) (length-replicate 4092 null_word)

word_at : (n : ℕ) → get_or barrier_words (4096 + n) null_word ≡ get_or two_words n null_word
word_at n = ap (λ (k : ℕ). get_or barrier_words (k + n) null_word) (sym old_length) ∙ get_or-append-add old_words two_words n null_word

-- What has yet to be scanned

closed : (a : ℕ) → a < 4096 → is_open barrier_scan barrier_table a ≡ false
closed zero low = refl
closed (suc zero) low = refl
closed (suc (suc zero)) low = refl
closed (suc (suc (suc zero))) low = refl
closed (suc (suc (suc (suc b)))) low = behind (suc (suc (suc (suc b)))) (omega arith) low
  where
    behind : (a : ℕ) → 4 ≤ a → a < 4096 → is_open barrier_scan barrier_table a ≡ false
    behind a used low =
        let here : a / 4096 ≡ 0 = omega arith in
        and_second (nat_le (slice_index barrier_scan.pages (a / 256)) (a % 256)) (nat_lt (a % 4096) (used_of barrier_table (a / 4096)))
        (ap (λ (r : ℕ). nat_lt (a % 4096) (used_of barrier_table r)) here ∙ le-ltb (a % 4096) 4 (omega arith))

none_total : (f : ℕ → ℕ) (n : ℕ) → ((m : ℕ) → m < n → f m ≡ 0) → total f n ≡ 0
unfolding total
none_total f zero none = refl
none_total f (suc n) none = let here = none n (omega arith) in let below = none_total f n (λ m low. none m (omega arith)) in omega (arith, here, below)

two_left : 0 + total (λ l. if_true (word_left barrier_scan barrier_table (4096 + l)) 1) 2 ≡ 2
unfolding total
two_left = refl

words_left : total (λ a. if_true (word_left barrier_scan barrier_table a) 1) (4096 + 2) ≡ 2
words_left =
    total-plus (λ a. if_true (word_left barrier_scan barrier_table a) 1) 4096 2
    ∙ ap (λ (n : ℕ). n + total (λ l. if_true (word_left barrier_scan barrier_table (4096 + l)) 1) 2) (none_total (λ a. if_true (word_left barrier_scan barrier_table a) 1) 4096 (λ a low. ap (λ (b : Bool). if_true b 1) (closed a low)))
    ∙ two_left

registers_left : total (λ r. if_true (register_left barrier_scan r) 1) 4 ≡ 4
unfolding total
registers_left = refl

words_length : length barrier_words ≡ 4096 + 2
words_length = length-append old_words two_words ∙ ap (λ (n : ℕ). n + 2) old_length

left_is : left_in barrier_heap ≡ 6
unfolding barrier_heap
left_is =
    ap (λ (n : ℕ). total (λ r. if_true (register_left barrier_scan r) 1) 4 + total (λ a. if_true (word_left barrier_scan barrier_table a) 1) n) words_length
    ∙ ap (λ (n : ℕ). total (λ r. if_true (register_left barrier_scan r) 1) 4 + n) words_left
    ∙ ap (λ (n : ℕ). n + 2) registers_left

near_is : near_of barrier_scan barrier_table ≡ Some 4096
near_is = lowest_some (λ a. word_left barrier_scan barrier_table a && is_page barrier_table.last (a / 256)) (4096 * 2) 4096 (omega arith) refl
    (λ a low. ap (λ (b : Bool). b && is_page barrier_table.last (a / 256)) (closed a low))

near_first : (near register far : Option ℕ) (at : ℕ) → near ≡ Some at → unit_of near register far ≡ Some (Word at)
near_first (Some near) register far at e = ap (λ (o : Option ℕ). unit_of o register far) e
near_first None register far at e = absurd (cc (e))

next_is : next_of barrier_scan barrier_table ≡ Some (Word 4096)
next_is = near_first (near_of barrier_scan barrier_table) _ _ 4096 near_is

-- The lines

regions_are : all_region_lines barrier_heap ≡ region_lines barrier_heap 0 ++ ((region_line barrier_heap 1 0 ++ (marked_line (codes "word") 4096 (word Normal (Fixnum (pos 1))) true ++ (marked_line (codes "word") 4097 (word Second (Fixnum (pos 1))) true ++ []))) ++ [])
unfolding barrier_heap class_from
regions_are =
    ap (λ (w : Parts). region_lines barrier_heap 0 ++ ((region_line barrier_heap 1 0 ++ (marked_line (codes "word") 4096 w true ++ (word_line barrier_heap 4097 ++ []))) ++ [])) (word_at 0)
    ∙ ap (λ (w : Parts). region_lines barrier_heap 0 ++ ((region_line barrier_heap 1 0 ++ (marked_line (codes "word") 4096 (word Normal (Fixnum (pos 1))) true ++ (marked_line (codes "word") 4097 w true ++ []))) ++ [])) (word_at 1)

middle_is : middle_lines barrier_heap ≡ (phase_line barrier_heap ++ (line (codes "left" ∷ decimal 6 ∷ []) ++ (line (codes "next" ∷ codes "word" ∷ decimal 4096 ∷ []) ++ moved_line barrier_heap))) ++ (register_lines barrier_heap ++ (region_lines barrier_heap 0 ++ ((region_line barrier_heap 1 0 ++ (marked_line (codes "word") 4096 (word Normal (Fixnum (pos 1))) true ++ (marked_line (codes "word") 4097 (word Second (Fixnum (pos 1))) true ++ []))) ++ [])))
unfolding barrier_heap
middle_is =
    ap (λ (n : ℕ). (phase_line barrier_heap ++ (line (codes "left" ∷ decimal n ∷ []) ++ (next_line barrier_heap ++ moved_line barrier_heap))) ++ (register_lines barrier_heap ++ all_region_lines barrier_heap)) left_is
    ∙ ap (λ (u : Option ScanUnit). (phase_line barrier_heap ++ (line (codes "left" ∷ decimal 6 ∷ []) ++ (line (codes "next" ∷ unit_words u) ++ moved_line barrier_heap))) ++ (register_lines barrier_heap ++ all_region_lines barrier_heap)) next_is
    ∙ ap (λ (r : List ℕ). (phase_line barrier_heap ++ (line (codes "left" ∷ decimal 6 ∷ []) ++ (line (codes "next" ∷ codes "word" ∷ decimal 4096 ∷ []) ++ moved_line barrier_heap))) ++ (register_lines barrier_heap ++ r)) regions_are

both : {a b c d : List ℕ} → a ≡ b → c ≡ d → a ++ c ≡ b ++ d
both {b = b} {c} e f = ap (λ (w : List ℕ). w ++ c) e ∙ ap (λ (w : List ℕ). b ++ w) f

front_is : head_lines barrier_heap ≡ text_front
unfolding barrier_heap digits total
front_is = refl

phase_is : phase_line barrier_heap ≡ codes "phase running full" ++ 10 ∷ []
unfolding barrier_heap
phase_is = refl

count_is : line (codes "left" ∷ decimal 6 ∷ []) ≡ codes "left 6" ++ 10 ∷ []
unfolding digits
count_is = refl

unit_is : line (codes "next" ∷ codes "word" ∷ decimal 4096 ∷ []) ≡ codes "next word 4096" ++ 10 ∷ []
unfolding digits
unit_is = refl

moved_is : moved_line barrier_heap ≡ codes "moved 16" ++ 10 ∷ []
unfolding barrier_heap digits
moved_is = refl

registers_are : register_lines barrier_heap ≡ codes "register 0 100000001 left" ++ 10 ∷ codes "register 1 020001000 left" ++ 10 ∷ codes "register 2 010000000 left" ++ 10 ∷ codes "register 3 100000001 left" ++ 10 ∷ []
unfolding barrier_heap digits
registers_are = refl

old_is : region_lines barrier_heap 0 ≡ codes "region 0 area 0 level 0 old used 4 mark 0" ++ 10 ∷ codes "word 0 900000001" ++ 10 ∷ codes "word 1 d00000001" ++ 10 ∷ codes "word 2 060001000" ++ 10 ∷ codes "word 3 d00000001" ++ 10 ∷ []
unfolding barrier_heap class_from digits
old_is = refl

live_is : region_line barrier_heap 1 0 ≡ codes "region 1 area 0 level 0 live used 2 mark 0" ++ 10 ∷ []
unfolding barrier_heap digits
live_is = refl

first_is : marked_line (codes "word") 4096 (word Normal (Fixnum (pos 1))) true ≡ codes "word 4096 900000001 left" ++ 10 ∷ []
unfolding digits
first_is = refl

second_is : marked_line (codes "word") 4097 (word Second (Fixnum (pos 1))) true ≡ codes "word 4097 d00000001 left" ++ 10 ∷ []
unfolding digits
second_is = refl

end_is : page_lines barrier_heap ++ (codes "end-inside" ++ 10 ∷ []) ≡ text_end
unfolding barrier_heap digits
end_is = refl

told_is : (phase_line barrier_heap ++ (line (codes "left" ∷ decimal 6 ∷ []) ++ (line (codes "next" ∷ codes "word" ∷ decimal 4096 ∷ []) ++ moved_line barrier_heap))) ++ (register_lines barrier_heap ++ (region_lines barrier_heap 0 ++ ((region_line barrier_heap 1 0 ++ (marked_line (codes "word") 4096 (word Normal (Fixnum (pos 1))) true ++ (marked_line (codes "word") 4097 (word Second (Fixnum (pos 1))) true ++ []))) ++ []))) ≡ text_middle
told_is = both (both phase_is (both count_is (both unit_is moved_is))) (both registers_are (both old_is (both (both live_is (both first_is (both second_is refl))) refl)))

pub worked : IsWorked
unfolding barrier_text
worked = both front_is (both (middle_is ∙ told_is) end_is)
