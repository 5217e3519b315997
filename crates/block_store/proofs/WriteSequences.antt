-- Words that are written one after another, and a block that is written again.
use Rattle.std.proofs.Common.{ℕ, suc, ◌≡◌, ◌⊎◌, ◌+◌, ◌-◌, ◌/◌, ◌<◌, ◌≤◌, List, length, refl, ◌∙◌, ap, subst, inl, inr, arith}
use Rattle.std.proofs.lemmas.Bool.{cases_lt, lt-ltb, le-ltb}
use Rattle.store_word.specs.Words.{Parts, null_word}
use Rattle.store_word.specs.declared.word.CdrCode.TheVariants.{Next}
use Rattle.store_word.specs.declared.word.Content.TheVariants.{Nil as NilWord, Header, HeaderForward}
use Rattle.mem_port.specs.Store.{Store, Stores, StoresNothing, level_of_word}
use Rattle.obj_layout.specs.Forwards.{word_at}
use Rattle.transporter.specs.Writes.{Writes}
use Rattle.transporter.proofs.WriteSequences.{writes-more, writes-none}
use Rattle.block_store.specs.Growing.{grown_word, husk_word}

-- words that follow those that were written
pub writes-joined : {old mid new : Store} {at count more : ℕ} {first second : ℕ → Parts} (word : ℕ → Parts) → Writes old mid at count first → Writes mid new (at + count) more second
    → ((i : ℕ) → i < count → first i ≡ word i) → ((i : ℕ) → i < more → second i ≡ word (count + i)) → Writes old new at (count + more) word
writes-joined {old} {mid} {new} {at} {count} {more} {first} {second} word one two first_is second_is = record {
  size = two.size ∙ one.size;
  there = λ i l. go i l (cases_lt i count);
  others = λ a out. two.others a (λ x. (let l = x.0 in let h = x.1 in out (omega arith, omega arith))) ∙ one.others a (λ x. (let l = x.0 in let h = x.1 in out (omega arith, omega arith)));
  levels = two.levels ∙ one.levels;
  top = two.top ∙ one.top;
  unmarked = λ page clean low. two.unmarked page (one.unmarked page clean (λ i l on. ap (level_of_word old.levels) (first_is i l) ∙ low i (omega arith) on)) (λ i l on. level i l (low (count + i) (omega arith) (ap (λ (a : ℕ). a / 256) (let e : at + (count + i) ≡ at + count + i = omega arith in e) ∙ on)));
}
  where
    level : (i : ℕ) → i < more → level_of_word old.levels (word (count + i)) ≡ 0 → level_of_word mid.levels (second i) ≡ 0
    level i l none = ap (λ (ls : List ℕ). level_of_word ls (second i)) one.levels ∙ ap (level_of_word old.levels) (second_is i l) ∙ none

    go : (i : ℕ) → i < count + more → (i < count) ⊎ (count ≤ i) → word_at new.words (at + i) ≡ word i
    go i l (inl low) = two.others (at + i) (λ x. (let a = x.0 in omega arith)) ∙ one.there i low ∙ first_is i low
    go i l (inr past) =
        let place : at + i ≡ at + count + (i - count) = omega arith in
        let same : count + (i - count) ≡ i = omega arith in
        ap (word_at new.words) place ∙ two.there (i - count) (omega arith) ∙ second_is (i - count) (omega arith) ∙ ap word same

-- one word, and those that follow it
pub writes-behind : {old mid new : Store} {at count : ℕ} {first : Parts} {second : ℕ → Parts} (word : ℕ → Parts) → Stores old mid at first → at < length old.words → Writes mid new (at + 1) count second
    → first ≡ word 0 → ((i : ℕ) → i < count → second i ≡ word (suc i)) → Writes old new at (count + 1) word
writes-behind {old} {mid} {new} {at} {count} {first} {second} word one inside two first_is second_is =
    let here : Stores old mid (at + 0) first = subst (λ (a : ℕ). Stores old mid a first) (let e : at ≡ at + 0 = omega arith in e) one in
    let once : Writes old mid at (0 + 1) word = writes-more (writes-none old at word) here (omega arith) first_is in
    subst (λ (n : ℕ). Writes old new at n word) (let e : 0 + 1 + count ≡ count + 1 = omega arith in e)
    (writes-joined word once (subst (λ (a : ℕ). Writes mid new a count second) (let e : at + 1 ≡ at + (0 + 1) = omega arith in e) two) (λ i l. refl) (λ i l. second_is i l ∙ ap word (let e : suc i ≡ 0 + 1 + i = omega arith in e)))

-- nothing is stored before
pub writes-held : {old held new : Store} {at count : ℕ} {word : ℕ → Parts} → StoresNothing old held → Writes held new at count word → Writes old new at count word
writes-held {old} {held} {new} {at} {count} {word} stays w = record {
  size = w.size ∙ ap length stays.words;
  there = w.there;
  others = λ a out. w.others a out ∙ ap (λ (ws : List Parts). word_at ws a) stays.words;
  levels = w.levels ∙ stays.levels;
  top = w.top ∙ stays.top;
  unmarked = λ page clean low. w.unmarked page (stays.unmarked page clean) (λ i l on. ap (λ (ls : List ℕ). level_of_word ls (word i)) stays.levels ∙ low i l on);
}

-- The words of a block that grew

module _ (s0 s1 s2 s3 : Store) (here code count wide to : ℕ) (more : count < wide) (inside : to + wide + 1 ≤ length s0.words) (apart : (here + count + 1 ≤ to) ⊎ (to + wide + 1 ≤ here))
    (one : Stores s0 s1 to (record { cdr = Next; content = Header code wide })) (two : Writes s1 s2 (to + 1) count (λ i. word_at s1.words (here + 1 + i)))
    (three : Writes s2 s3 (to + 1 + count) (wide - count) (λ i. record { cdr = Next; content = NilWord })) where
  once : Writes s0 s1 to (0 + 1) (grown_word s0.words here code count wide)
  once = writes-more (writes-none s0 to (grown_word s0.words here code count wide)) (subst (λ (a : ℕ). Stores s0 s1 a (record { cdr = Next; content = Header code wide })) (let e : to ≡ to + 0 = omega arith in e) one) (omega arith) refl

  old_field : (i : ℕ) → i < count → word_at s1.words (here + 1 + i) ≡ grown_word s0.words here code count wide (suc i)
  old_field i low =
      once.others (here + 1 + i) (out i low) ∙ ap (word_at s0.words) (let e : here + 1 + i ≡ suc here + i = omega arith in e) ∙ rw (lt-ltb i count low) refl
    where
      out : (i : ℕ) → i < count → (to ≤ here + 1 + i) × (here + 1 + i < to + (0 + 1)) → ⊥
      out i low x =
          let a = x.0 in
          let b = x.1 in
          elim apart [ inl l ↦ omega arith | inr l ↦ omega arith ]

  new_field : (i : ℕ) → i < wide - count → record { cdr = Next; content = NilWord } ≡ grown_word s0.words here code count wide (suc (count + i))
  new_field i low = rw (le-ltb (count + i) count (omega arith)) refl

  pub writes-wide : Writes s0 s3 to (wide + 1) (grown_word s0.words here code count wide)
  writes-wide =
      let fields = writes-joined {first = λ i. word_at s1.words (here + 1 + i)} {second = λ i. record { cdr = Next; content = NilWord }} (λ i. grown_word s0.words here code count wide (suc i)) two three old_field new_field in
      writes-behind {second = λ i. grown_word s0.words here code count wide (suc i)} (grown_word s0.words here code count wide) one (omega arith) (subst (λ (n : ℕ). Writes s1 s3 (to + 1) n (λ i. grown_word s0.words here code count wide (suc i))) (let e : count + (wide - count) ≡ wide = omega arith in e) fields) refl (λ i l. refl)

-- its husk
pub writes-husk : {s0 s1 s2 : Store} {here count : ℕ} (to : ℕ) → Stores s0 s1 here (record { cdr = Next; content = HeaderForward to }) → Writes s1 s2 (here + 1) count (λ i. null_word) → here < length s0.words → Writes s0 s2 here (count + 1) (husk_word to)
writes-husk {s0} {s1} {s2} {here} {count} to one two inside = writes-behind (husk_word to) one inside two refl (λ i l. refl)

-- and what was held before
pub writes-wide-held : {old held new : Store} (here code count wide to : ℕ) → StoresNothing old held → Writes held new to (wide + 1) (grown_word held.words here code count wide) → Writes old new to (wide + 1) (grown_word old.words here code count wide)
writes-wide-held {old} {held} {new} here code count wide to stays w =
    writes-held stays (subst (λ (ws : List Parts). Writes held new to (wide + 1) (grown_word ws here code count wide)) stays.words w)
