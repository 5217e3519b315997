-- What is tidy stays so when a unit is scanned.
use Rattle.std.proofs.Common.{◌≡◌, ◌≢◌, ℕ, ◌+◌, ◌/◌, ◌%◌, ◌<◌, ◌≤◌, ◌⊎◌, inl, inr, false, List, length, get_or, slice_index, slice_set, length-set, sym, ◌∙◌, ap, subst, arith}
use Rattle.std.proofs.lemmas.Bool.{cases_lt, cases_eq}
use Rattle.std.proofs.lemmas.List.{get_or-set_same, get_or-set_other}
use Rattle.store_word.specs.Words.{Parts, null_word}
use Rattle.mem_port.specs.Store.{Store}
use Rattle.area_space.specs.Table.{Table, used_of, IsLive, IsOld, IsUnclassed}
use Rattle.area_space.specs.Sound.{IsTable}
use Rattle.transporter.specs.obj_layout.Forwards.{word_at}
use Rattle.transporter.proofs.lisp_ground.regions.Owners.{region_cases}
use Rattle.transporter.specs.LiveWordsUnchanged.{IsLiveWord}
use Rattle.transporter.specs.Preserving.{FreshOn}
use Rattle.scavenger.specs.Scan.{Scan}
use Rattle.scavenger.specs.Left.{is_open}
use Rattle.scavenger.specs.Scanning.{register_done, word_done}
use Rattle.scavenger.proofs.OpenWords.{register-fewer, word-few, word-fewer}
use Rattle.scavenger.proofs.RemainingUnits.{still-open}
use Rattle.scavenger.proofs.LowestNumbers.{is-open, not-behind}
use Rattle.scavenger.proofs.TidyScans.{Tidy}

-- the word that is scanned follows the scanned words of its page
pub tidy-word : (m : Store) (t : Table) (s : Scan) (registers : List Parts) (at : ℕ) → ((i : ℕ) → used_of t i ≤ 4096) → slice_index s.pages (at / 256) ≡ at % 256 → at % 4096 < used_of t (at / 4096) → at / 256 < length s.pages
    → FreshOn t (word_at m.words at).content → Tidy m t s registers → Tidy m t (word_done s at) registers
tidy-word m t s registers at full first used low fresh x = record {
  count = x.count;
  pages = length-set s.pages (at / 256) (at % 256 + 1) ∙ x.pages;
  few = word-few s t at full x.few first used low;
  young = λ a here old. x.young a (still-open s t at first low a here) old;
  registers_fresh = x.registers_fresh;
  words_fresh = words;
  counted = (let n = x.counted in let size = x.pages in let e = word-fewer s t at full x.few first used low (omega arith) in omega arith);
}
  where
    here : (a : ℕ) → a / 256 ≡ at / 256 → slice_index (word_done s at).pages (a / 256) ≡ at % 256 + 1
    here a e = ap (slice_index (word_done s at).pages) e ∙ get_or-set_same s.pages (at / 256) (at % 256 + 1) 0 low

    there : (a : ℕ) → a / 256 ≢ at / 256 → slice_index (word_done s at).pages (a / 256) ≡ slice_index s.pages (a / 256)
    there a ne = get_or-set_other s.pages (at / 256) (a / 256) (at % 256 + 1) 0 ne

    shut : (a : ℕ) → a ≢ at → IsLiveWord t a → is_open (word_done s at) t a ≡ false → is_open s t a ≡ false
    shut a ne live closed =
        elim (cases_lt (a % 256) (slice_index s.pages (a / 256))) [
          | inl l ↦ not-behind s t a l
          | inr h ↦ elim (cases_eq (a / 256) (at / 256)) [
            | inl e ↦
                let is = here a e in
                let was : slice_index s.pages (a / 256) ≡ at % 256 = ap (slice_index s.pages) e ∙ first in
                let apart : a % 256 ≡ at % 256 → ⊥ = λ q. ne (omega arith) in
                let yes = is-open (word_done s at) t a (omega arith) live.used in
                absurd cc
            | inr other ↦
                let is = there a other in
                let yes = is-open (word_done s at) t a (omega arith) live.used in
                absurd cc
          ]
        ]

    words : (a : ℕ) → IsLiveWord t a → is_open (word_done s at) t a ≡ false → FreshOn t (word_at m.words a).content
    words a live closed = elim (cases_eq a at) [
      | inl e ↦ subst (λ (b : ℕ). FreshOn t (word_at m.words b).content) (sym e) fresh
      | inr ne ↦ x.words_fresh a live (shut a ne live closed)
    ]

-- a register is scanned
pub tidy-register : (m : Store) (t : Table) (s : Scan) (registers : List Parts) (r : ℕ) (word : Parts) → ((i : ℕ) → used_of t i ≤ 4096) → Tidy m t s registers → r ≡ s.scanned → r < length registers → FreshOn t word.content → Tidy m t (register_done s r) (slice_set registers r word)
tidy-register m t s registers r word full x is inside fresh = record {
  count = length-set registers r word ∙ x.count;
  pages = x.pages;
  few = x.few;
  young = x.young;
  registers_fresh = λ i done low. (let size = length-set registers r word in elim (cases_eq i r) [
    | inl e ↦ subst (λ (w : Parts). FreshOn t w.content) (sym (ap (λ (j : ℕ). get_or (slice_set registers r word) j null_word) e ∙ get_or-set_same registers r word null_word (omega arith))) fresh
    | inr ne ↦ subst (λ (w : Parts). FreshOn t w.content) (sym (get_or-set_other registers r i word null_word ne)) (x.registers_fresh i (omega arith) (omega arith))
  ]);
  words_fresh = x.words_fresh;
  counted = (let low' : r < s.registers = (let e = x.count in omega arith) in let n = x.counted in let e = register-fewer s t r full x.few is low' in omega arith);
}

-- an open word is a used one of a live region
pub open-live : (t : Table) (a : ℕ) → IsTable t → a % 4096 < used_of t (a / 4096) → (IsOld t (a / 4096) → ⊥) → IsLiveWord t a
open-live t a v used young = record { live = go (region_cases t (a / 4096)); used = used }
  where
    go : IsUnclassed t (a / 4096) ⊎ (IsLive t (a / 4096) ⊎ IsOld t (a / 4096)) → IsLive t (a / 4096)
    go (inl free) = let none = v.blank (a / 4096) free in absurd (omega arith)
    go (inr (inl alive)) = alive
    go (inr (inr old)) = absurd (young old)
