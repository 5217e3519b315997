-- Which pages get marks by the words of a block that grows.
use Rattle.std.proofs.Common.{◌≡◌, ◌⊎◌, inl, inr, ℕ, zero, suc, refl, ◌+◌, ◌/◌, ◌<◌, ◌≤◌, sym, ◌∙◌, subst, arith, List, Option}
use Rattle.store_word.specs.Words.{Parts}
use Rattle.store_word.specs.declared.word.Content.TheVariants.{Struct as StructAt}
use Rattle.area_space.specs.lisp_graph.Effect.{grown_length}
use Rattle.mem_port.specs.Store.{Store, StoresNothing, level_of_word}
use Rattle.area_space.specs.Table.{Table}
use Rattle.obj_layout.specs.Forwards.{word_at, Final}
use Rattle.transporter.specs.lisp_ground.Placing.{Opens}
use Rattle.transporter.proofs.lisp_ground.words.FinalAddresses.{one_final}
use Rattle.block_store.specs.declared.header.Head.{Head}
use Rattle.block_store.specs.Growing.{LaysAnew}
use Rattle.block_store.specs.Headers.{IsHead}
use Rattle.transporter.proofs.WrittenMarks.{marks_written, marks_by_words}
use Rattle.block_store.specs.Marks.{MarksGrown}
use Rattle.block_store.proofs.BlockReferences.{tells_length}

-- A block grows

module _ {m m1 m2 m3 : Store} {t t2 : Table} {area level at wide : ℕ} {head : Head} (region : Option ℕ) (reads : StoresNothing m m1) (opens : Opens m1 t m2 t2 region area level) (laid : LaysAnew m2 m3 head at wide) (apart : (head.at + head.length + 1 ≤ at) ⊎ (at + wide + 1 ≤ head.at)) where
  out : (i : ℕ) → i < wide + 1 → (head.at + head.length + 1 ≤ at) ⊎ (at + wide + 1 ≤ head.at) → (head.at ≤ at + i) × (at + i < head.at + (head.length + 1)) → ⊥
  out i low (inl l) y = let b = y.1 in omega arith
  out i low (inr l) y = let a = y.0 in omega arith

  -- the words of the wider block are the same after the husk is written
  copied_level : (i : ℕ) → i < wide + 1 → level_of_word m3.levels (word_at m3.words (at + i)) ≡ 0 → level_of_word laid.copied.levels (word_at laid.copied.words (at + i)) ≡ 0
  copied_level i less low =
      subst (λ (w : Parts). level_of_word laid.copied.levels w ≡ 0) (laid.leaves.others (at + i) (out i less apart)) (subst (λ (levels : List ℕ). level_of_word levels (word_at m3.words (at + i)) ≡ 0) laid.leaves.levels low)

  -- the first word of the husk is a forward, and the others are NULL
  husk_level : (page : ℕ) → (head.at / 256 ≡ page → level_of_word m3.levels (word_at m3.words head.at) ≡ 0) → (i : ℕ) → i < head.length + 1 → (head.at + i) / 256 ≡ page → level_of_word m3.levels (word_at m3.words (head.at + i)) ≡ 0
  husk_level page low zero less on =
      let first : head.at + 0 ≡ head.at = omega arith in
      subst (λ (a : ℕ). level_of_word m3.levels (word_at m3.words a) ≡ 0) (sym first) (low (subst (λ (a : ℕ). a / 256 ≡ page) first on))
  husk_level page low (suc i) less on = subst (λ (w : Parts). level_of_word m3.levels w ≡ 0) (sym (laid.leaves.there (suc i) less)) refl

  marks_grown : (page : ℕ) → m.marks page ≡ 0 → (head.at / 256 ≡ page → level_of_word m3.levels (word_at m3.words head.at) ≡ 0) → ((i : ℕ) → i < wide + 1 → (at + i) / 256 ≡ page → level_of_word m3.levels (word_at m3.words (at + i)) ≡ 0) → m3.marks page ≡ 0
  marks_grown page clean first low =
      marks_written laid.leaves page (marks_by_words region opens laid.writes page (reads.unmarked page clean) (λ i less on. copied_level i less (low i less on))) (husk_level page first)

same_reference : (a b : ℕ) → StructAt a ≡ StructAt b → a ≡ b
same_reference a b e = cc

pub block_marks_grown : {m m1 m2 m3 : Store} {t t2 : Table} {area level : ℕ} {head : Head} (of : Parts) (wanted wide at : ℕ) (is : IsHead m.words of.content head) → wide ≡ grown_length head.length wanted
    → (region : Option ℕ) → StoresNothing m m1 → Opens m1 t m2 t2 region area level → LaysAnew m2 m3 head at wide → (head.at + head.length + 1 ≤ at) ⊎ (at + wide + 1 ≤ head.at)
    → (reference here : ℕ) → of.content ≡ StructAt reference → Final m.words reference here → MarksGrown m t m3 of.content here at wanted
block_marks_grown {m} {m1} {m2} {m3} {t} {t2} {area} {level} {head} of wanted wide at is wide_is region reads opens laid apart reference here refers final =
    let base : head.at ≡ here = one_final m.words reference head.at here (subst (λ (a : ℕ). Final m.words a head.at) (same_reference is.reference reference (sym is.is ∙ refers)) is.final) final in
    subst (λ (a : ℕ). MarksGrown m t m3 of.content a at wanted) base (record {
      code = head.code;
      count = head.length;
      header = is.header;
      length_is = tells_length m t of.content head is;
      unmarked = λ page clean first low.
          marks_grown region reads opens laid apart page clean first (subst (λ (n : ℕ). (i : ℕ) → i < n + 1 → (at + i) / 256 ≡ page → level_of_word m3.levels (word_at m3.words (at + i)) ≡ 0) (sym wide_is) low);
    })
