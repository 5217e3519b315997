-- Which pages get marks by words that are written.
use Rattle.std.proofs.Common.{◌≡◌, ℕ, ◌+◌, ◌∙◌, ap, subst, List, Option, Some, None}
use Rattle.store_word.specs.Words.{Parts}
use Rattle.mem_port.specs.Store.{Store, level_of_word}
use Rattle.area_space.specs.Table.{Table}
use Rattle.obj_layout.specs.Forwards.{word_at}
use Rattle.lisp_ground.specs.Placing.{Opens}
use Rattle.transporter.specs.Writes.{Writes}
use Rattle.transporter.specs.WrittenMarks.{MarksByWords}

-- no page gets marks when a region is opened
marks_opened : {m m1 : Store} {t t1 : Table} {area level : ℕ} (region : Option ℕ) → Opens m t m1 t1 region area level → (page : ℕ) → m1.marks page ≡ m.marks page
marks_opened None opens page = ap (λ (s : Store). s.marks page) opens.behind
marks_opened (Some r) opens page = ap (λ (s : Store). s.marks page) opens.region_level

-- nor when words are written, except by one of them
pub marks_written : {m1 m2 : Store} {at count : ℕ} {word : ℕ → Parts} → Writes m1 m2 at count word → MarksByWords m1 m2 at count
marks_written {m1} {m2} {at} {count} {word} writes page clean low =
    writes.unmarked page clean (λ i less on. subst (λ (w : Parts). level_of_word m1.levels w ≡ 0) (writes.there i less) (subst (λ (levels : List ℕ). level_of_word levels (word_at m2.words (at + i)) ≡ 0) writes.levels (low i less on)))

pub marks_by_words : {m m1 m2 : Store} {t t1 : Table} {area level at count : ℕ} {word : ℕ → Parts} (region : Option ℕ) → Opens m t m1 t1 region area level → Writes m1 m2 at count word → MarksByWords m m2 at count
marks_by_words region opens writes page clean low = marks_written writes page (marks_opened region opens page ∙ clean) low
