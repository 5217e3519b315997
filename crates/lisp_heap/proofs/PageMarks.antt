-- Which pages a command may have marked.
use Rattle.std.proofs.Common.{◌≡◌, ℕ, ◌+◌, ◌*◌, ◌/◌, ◌%◌, ◌<◌, ◌≤◌, ◌⊎◌, inl, inr, Bool, true, false, refl, sym, ◌∙◌, subst, List, length, Some, None, arith}
use Rattle.std.specs.Prelude.{Contains, MatchBool, map}
use Rattle.std.specs.List.{range_with_len}
use Rattle.std.proofs.lemmas.Bool.{cases_eq, cases_lt}
use Rattle.std.proofs.lemmas.List.{get_or_past, length-map}
use Rattle.std.proofs.lemmas.List.FromFn.{length-range_with_len}
use Rattle.store_word.specs.Words.{Parts}
use Rattle.lisp_graph.specs.declared.command.Command.{Command}
use Rattle.lisp_graph.specs.declared.reply.Reply.{Reply}
use Rattle.lisp_graph.specs.declared.reply.Reply.TheVariants as R
use Rattle.mem_port.specs.Store.{Store, level_of_word}
use Rattle.area_space.specs.Table.{Table, stale}
use Rattle.heap_state.specs.Marks.{MarksByStoring, MarksOf, stores}
use Rattle.heap_state.specs.transporter.LiveWordsUnchanged.{OnlyGrows}
use Rattle.heap_state.specs.transporter.Marking.{HasMarker, IsForward, IsPlaced, MarksFollow, MayMark, TurnsOneWay, placed, forwarded, settled}
use Rattle.heap_state.specs.transporter.Settling.{RefersToOld}
use Rattle.heap_state.specs.transporter.obj_layout.Forwards.{word_at, Final}
use Rattle.heap_state.proofs.transporter.LiveObjects.{grows-then, old-before}
use Rattle.heap_state.proofs.FetchedValues.{fault_cases}
use Rattle.heap_state.proofs.PageMarks.{marks_after, marks_of}
use Rattle.heap_commands.specs.NewMarks as made
use Rattle.heap_collect.specs.Freeing.{FreesAtMost, IsFreed}
use Rattle.heap_collect.proofs.FreedRegions.{frees_nothing}
use Rattle.lisp_heap.specs.HeapView.{HeapView, MemoryLists, lists_of, store_of}
use Rattle.lisp_heap.specs.Marked.{HasMarked, IsGone, MarksPages, WasPlaced, by_forward, by_place, by_settling, by_storing}
use Rattle.lisp_heap.specs.NewMarks.{GaveMarks, MarksMade}
use Rattle.lisp_heap.proofs.ListedMemory.{same_mark}

-- no page got marks
pub pages_unmarked : {m m' : Store} {r : Reply} (t t' : Table) (c : Command) → ((page : ℕ) → m.marks page ≡ 0 → m'.marks page ≡ 0) → MarksPages c r m t m' t'
pages_unmarked t t' c h = record { at = 0; unmarked = λ page clean. inl (h page clean) }

pub pages_same : {m m' : Store} {r : Reply} (t t' : Table) (c : Command) → m' ≡ m → MarksPages c r m t m' t'
pages_same {m} {m'} {r} t t' c same = pages_unmarked t t' c (λ page clean. subst (λ (n : Store). n.marks page ≡ 0) (sym same) clean)

-- whatever a command performs turns words one way
pub turns_of : {m m' : Store} {t t' : Table} (c : Command) (r : Reply) → MarksOf c r m t m' t' → TurnsOneWay m t m' t'
turns_of {m} {m'} {t} {t'} c r x = by (stores c) x
  where
    by : (b : Bool) → MatchBool b (MarksByStoring r m t m' t') (MarksFollow m t m' t') → TurnsOneWay m t m' t'
    by true y = y.but.turns
    by false y = y.turns

-- After calls that free regions
module _ (m m1 m2 : Store) (t t1 t2 : Table) (c : Command) (r : Reply) (frees : FreesAtMost m t m1 t1) (grows : OnlyGrows t1 t2) where
  gone : (region : ℕ) → IsFreed t t1 region → IsGone t t2 region
  gone region x = record { old = x.old; now = λ old. (let was = old-before grows old in x.free (stale was.0) was.1) }

  still_old : (w : Parts) → RefersToOld t1 w → RefersToOld t2 w
  still_old w x = (x.0, x.1, (x.2.0, subst (λ (rs : List ℕ). Contains rs (x.0 / 4096)) (sym (grows.old_chains x.2.0)) x.2.1))

  was_placed : (a : ℕ) → IsPlaced t1 t2 a → WasPlaced t t2 a
  was_placed a p = record {
    past = elim (frees.used (a / 4096)) [ inl e ↦ inl (subst (λ (n : ℕ). n ≤ a % 4096) e p.past) | inr x ↦ inr (gone (a / 4096) x) ];
    used = p.used;
  }

  turned : (at a : ℕ) → MayMark m1 t1 m2 t2 a → HasMarked c r at m.words t m2.words m2.levels t2 a
  turned at a (placed p) = by_place (was_placed a p)
  turned at a (forwarded before after) =
      by_forward (λ was. elim (frees.words a) [ inl e ↦ absurd (before (subst IsForward (sym e) was)) | inr x ↦ gone (a / 4096) x.0 ]) after
  turned at a (settled had lost) = elim (frees.words a) [
    | inl e ↦ by_settling (still_old (word_at m.words a) (subst (RefersToOld t1) e had)) lost
    | inr x ↦ absurd (let h = subst (RefersToOld t1) x.1 had in let none : None ≡ Some h.0 = h.1 in cc)
  ]

  marker : (at page : ℕ) → (m2.marks page ≡ 0) ⊎ HasMarker m1 t1 m2 t2 page → (m2.marks page ≡ 0) ⊎ ((a : ℕ) × (a / 256 ≡ page) × HasMarked c r at m.words t m2.words m2.levels t2 a)
  marker at page (inl e) = inl e
  marker at page (inr x) = inr (x.0, x.1, turned at x.0 x.2)

  pub pages_after : MarksOf c r m1 t1 m2 t2 → MarksPages c r m t m2 t2
  pages_after marks = by (stores c) refl marks
    where
      by : (b : Bool) → stores c ≡ b → MatchBool b (MarksByStoring r m1 t1 m2 t2) (MarksFollow m1 t1 m2 t2) → MarksPages c r m t m2 t2
      by false e x = record { at = 0; unmarked = λ page clean. marker 0 page (x.unmarked page (frees.unmarked page clean)) }
      by true e x = record {
        at = x.at;
        unmarked = λ page clean. elim (cases_eq page (x.at / 256)) [
          | inl same ↦ elim (fault_cases r) [
            | inl fault ↦ inr (x.at, sym same, by_storing e refl (λ sure. absurd (sure fault)))
            | inr sure ↦ elim (cases_eq (level_of_word m2.levels (word_at m2.words x.at)) 0) [
              | inl none ↦ marker x.at page ((x.low sure none).unmarked page (frees.unmarked page clean))
              | inr some ↦ inr (x.at, sym same, by_storing e refl (λ _. omega arith))
            ]
          ]
          | inr ne ↦ marker x.at page (x.but.unmarked page ne (frees.unmarked page clean))
        ];
      }

  -- a page without marks gets some only from a word that gives them, also if an object is made
  pub made_turned : (word : Parts) (count : ℕ) (x : made.MarksMade m1 t1 m2 t2 word count) (page : ℕ) → m.marks page ≡ 0
      → (m2.marks page ≡ 0) ⊎ ((a : ℕ) × (a / 256 ≡ page) × HasMarked c r x.at m.words t m2.words m2.levels t2 a × (x.at ≤ a → a < x.at + count → 0 < level_of_word m2.levels (word_at m2.words a)))
  made_turned word count x page clean = elim (x.unmarked page (frees.unmarked page clean)) [
    | inl e ↦ inl e
    | inr h ↦ inr (h.0, h.1, turned x.at h.0 h.2.may, h.2.young)
  ]

-- an object was made after silent steps, and the marks are in lists
pub made_marked : (old new : HeapView) (m m1 m2 : Store) (t1 : Table) (c : Command) → old.memory ≡ lists_of m → new.memory ≡ lists_of m2 → length m2.levels ≡ length m.levels → FreesAtMost m old.table m1 t1 → OnlyGrows t1 new.table
    → (word : Parts) (count : ℕ) → made.MarksMade m1 t1 m2 new.table word count → MarksMade c old new word count
made_marked old new m m1 m2 t1 c is_old is_new size frees grows word count x = record {
  address = x.address;
  refers = x.refers;
  at = x.at;
  final = subst (λ (lists : MemoryLists). Final lists.words x.address x.at) (sym is_new) x.final;
  placed = λ a from to. was_placed m m1 m2 old.table t1 new.table c R.Fine frees grows a (x.placed a from to);
  unmarked = λ page clean. elim (cases_lt page (16 * length m.levels)) [
    | inl low ↦ elim (made_turned m m1 m2 old.table t1 new.table c R.Fine frees grows word count x page (sym (same_mark m page low) ∙ subst (λ (lists : MemoryLists). (store_of lists).marks page ≡ 0) is_old clean)) [
      | inl e ↦ inl (subst (λ (lists : MemoryLists). (store_of lists).marks page ≡ 0) (sym is_new) (same_mark m2 page (omega arith) ∙ e))
      | inr h ↦ inr (h.0, h.1, gave h.0 h.2 h.3)
    ]
    | inr past ↦
        let size_listed = length-map (range_with_len 0 (16 * length m2.levels)) m2.marks in
        let all = length-range_with_len 0 (16 * length m2.levels) in
        inl (subst (λ (lists : MemoryLists). (store_of lists).marks page ≡ 0) (sym is_new) (get_or_past (map m2.marks (range_with_len 0 (16 * length m2.levels))) page 0 (omega arith)))
  ];
}
  where
    gave : (a : ℕ) → HasMarked c R.Fine x.at m.words old.table m2.words m2.levels new.table a → (x.at ≤ a → a < x.at + count → 0 < level_of_word m2.levels (word_at m2.words a)) → GaveMarks c old new x.at count a
    gave a may young = record {
      may = subst (λ (lists : MemoryLists). HasMarked c R.Fine x.at lists.words old.table new.memory.words new.memory.levels new.table a) (sym is_old)
          (subst (λ (lists : MemoryLists). HasMarked c R.Fine x.at m.words old.table lists.words lists.levels new.table a) (sym is_new) may);
      young = subst (λ (lists : MemoryLists). x.at ≤ a → a < x.at + count → 0 < level_of_word lists.levels (word_at lists.words a)) (sym is_new) young;
    }

-- what was performed on the heap
pub pages_marked : (m m' : Store) (t t' : Table) (c : Command) (r : Reply) → OnlyGrows t t' → MarksOf c r m t m' t' → MarksPages c r m t m' t'
pages_marked m m' t t' c r grows marks = pages_after m m m' t t t' c r (frees_nothing m t) grows marks

-- and after silent steps and a scan
pub pages_made : (m m1 m2 m3 : Store) (t t1 t2 t3 : Table) (c : Command) (r : Reply) → FreesAtMost m t m1 t1 → OnlyGrows t1 t2 → MarksFollow m1 t1 m2 t2 → OnlyGrows t2 t3 → MarksOf c r m2 t2 m3 t3 → MarksPages c r m t m3 t3
pages_made m m1 m2 m3 t t1 t2 t3 c r frees grows follow more marks = pages_after m m1 m3 t t1 t3 c r frees (grows-then grows more) (marks_after m1 m2 m3 t1 t2 t3 c r follow marks)

-- and after silent steps and a scan alone
pub pages_scanned : (m m1 m2 : Store) (t t1 t2 : Table) (c : Command) (r : Reply) → FreesAtMost m t m1 t1 → OnlyGrows t1 t2 → MarksFollow m1 t1 m2 t2 → MarksPages c r m t m2 t2
pages_scanned m m1 m2 t t1 t2 c r frees grows follow = pages_after m m1 m2 t t1 t2 c r frees grows (marks_of c r follow)

-- The marks in lists
pub pages_listed : {m m' : Store} {t t' : Table} {c : Command} {r : Reply} → length m'.levels ≡ length m.levels → MarksPages c r m t m' t' → MarksPages c r (store_of (lists_of m)) t (store_of (lists_of m')) t'
pages_listed {m} {m'} {t} {t'} {c} {r} size x = record {
  at = x.at;
  unmarked = λ page clean. elim (cases_lt page (16 * length m.levels)) [
    | inl low ↦ elim (x.unmarked page (sym (same_mark m page low) ∙ clean)) [ inl e ↦ inl (same_mark m' page (omega arith) ∙ e) | inr y ↦ inr y ]
    | inr past ↦
        let count = length-map (range_with_len 0 (16 * length m'.levels)) m'.marks in
        let all = length-range_with_len 0 (16 * length m'.levels) in
        inl (get_or_past (map m'.marks (range_with_len 0 (16 * length m'.levels))) page 0 (omega arith))
  ];
}
