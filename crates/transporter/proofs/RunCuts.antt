-- The last cell of a compact run before a forward becomes a pair.
use Rattle.std.proofs.Common.{ℕ, suc, ◌≡◌, ◌⊎◌, ◌+◌, ◌-◌, ◌<◌, ◌≤◌, List, Option, Some, refl, sym, ◌∙◌, ap, subst, inl, inr, arith}
use Rattle.std.proofs.lemmas.Bool.{cases_lt, lt-ltb, le-ltb}
use Rattle.store_word.specs.Words.{Parts}
use Rattle.mem_port.specs.Store.{Store, level_of_word}
use Rattle.obj_layout.specs.Forwards.{word_at}
use Rattle.transporter.specs.declared.parcel.Parcel.{Parcel}
use Rattle.transporter.specs.Writes.{Writes, pair_word}
use Rattle.transporter.specs.Parcels.{moved_word, word_more, word_count_of, new_word}

module _ (s0 s1 s2 : Store) (at words to rest : ℕ) (some : 1 ≤ words) (apart : (at + words ≤ to) ⊎ (to + (words + 1) ≤ at))
    (copied : Writes s0 s1 to (words - 1) (λ i. word_at s0.words (at + i))) (pair : Writes s1 s2 (to + (words - 1)) 2 (pair_word (word_at s1.words (at + (words - 1))) rest)) where
  out : (to ≤ at + (words - 1)) × (at + (words - 1) < to + (words - 1)) → ⊥
  out x = go apart
    where
      go : (at + words ≤ to) ⊎ (to + (words + 1) ≤ at) → ⊥
      go (inl l) = let a = x.0 in omega arith
      go (inr l) = let b = x.1 in omega arith

  cell : word_at s1.words (at + (words - 1)) ≡ word_at s0.words (at + words - 1)
  cell = copied.others (at + (words - 1)) out ∙ ap (word_at s0.words) (let e : at + (words - 1) ≡ at + words - 1 = omega arith in e)

  before : (i : ℕ) → suc i < words → word_at s2.words (to + i) ≡ moved_word s0.words at words (Some rest) i
  before i l = pair.others (to + i) (λ x. (let a = x.0 in omega arith)) ∙ copied.there i (omega arith) ∙ rw (lt-ltb (suc i) words l) refl

  behind : (i : ℕ) → i < words + 1 → words ≤ suc i → word_at s2.words (to + i) ≡ moved_word s0.words at words (Some rest) i
  behind i l m =
      let place : to + i ≡ to + (words - 1) + (suc i - words) = omega arith in
      ap (word_at s2.words) place ∙ pair.there (suc i - words) (omega arith) ∙ ap (λ (w : Parts). pair_word w rest (suc i - words)) cell ∙ rw (le-ltb (suc i) words m) refl

  pub writes-cut : Writes s0 s2 to (words + 1) (moved_word s0.words at words (Some rest))
  writes-cut = record {
    size = pair.size ∙ copied.size;
    there = λ i l. go i l (cases_lt (suc i) words);
    others = λ a x. pair.others a (λ y. (let l = y.0 in let m = y.1 in x (omega arith, omega arith))) ∙ copied.others a (λ y. (let l = y.0 in let m = y.1 in x (omega arith, omega arith)));
    levels = pair.levels ∙ copied.levels;
    top = pair.top ∙ copied.top;
    unmarked = λ page clean low. pair.unmarked page (copied.unmarked page clean (λ i l on. early i (omega arith) (low i (omega arith) on))) (λ i l on. late i l (low (words - 1 + i) (omega arith) (omega arith)));
  }
    where
      early : (i : ℕ) → suc i < words → level_of_word s0.levels (moved_word s0.words at words (Some rest) i) ≡ 0 → level_of_word s0.levels (word_at s0.words (at + i)) ≡ 0
      early i l none =
          let same : word_at s0.words (at + i) ≡ moved_word s0.words at words (Some rest) i = rw (lt-ltb (suc i) words l) refl in
          ap (level_of_word s0.levels) same ∙ none

      late : (i : ℕ) → i < 2 → level_of_word s0.levels (moved_word s0.words at words (Some rest) (words - 1 + i)) ≡ 0 → level_of_word s1.levels (pair_word (word_at s1.words (at + (words - 1))) rest i) ≡ 0
      late i l none =
          let place : to + (words - 1) + i ≡ to + (words - 1 + i) = omega arith in
          let same : pair_word (word_at s1.words (at + (words - 1))) rest i ≡ moved_word s0.words at words (Some rest) (words - 1 + i) = sym (pair.there i l) ∙ ap (word_at s2.words) place ∙ behind (words - 1 + i) (omega arith) (omega arith) in
          ap (λ (ls : List ℕ). level_of_word ls (pair_word (word_at s1.words (at + (words - 1))) rest i)) copied.levels ∙ ap (level_of_word s0.levels) same ∙ none

      go : (i : ℕ) → i < words + 1 → (suc i < words) ⊎ (words ≤ suc i) → word_at s2.words (to + i) ≡ moved_word s0.words at words (Some rest) i
      go i l (inl m) = before i m
      go i l (inr m) = behind i l m

-- the same, by what moves
pub copies-cut : (s0 s1 s2 : Store) (p : Parcel) (to rest : ℕ) → p.rest ≡ Some rest → 1 ≤ p.words → (p.at + p.words ≤ to) ⊎ (to + word_count_of p ≤ p.at)
    → Writes s0 s1 to (p.words - 1) (λ i. word_at s0.words (p.at + i)) → Writes s1 s2 (to + (p.words - 1)) 2 (pair_word (word_at s1.words (p.at + (p.words - 1))) rest)
    → Writes s0 s2 to (word_count_of p) (new_word s0.words p)
copies-cut s0 s1 s2 p to rest is some apart copied pair =
    let P : Option ℕ → Type 0 = λ o. Writes s0 s2 to (p.words + word_more o) (moved_word s0.words p.at p.words o) in
    let A : Option ℕ → Type 0 = λ o. (p.at + p.words ≤ to) ⊎ (to + (p.words + word_more o) ≤ p.at) in
    subst P (sym is) (writes-cut s0 s1 s2 p.at p.words to rest some (subst A is apart) copied pair)
