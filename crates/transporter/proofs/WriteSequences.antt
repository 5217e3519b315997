-- Words are written one after another.
use Rattle.std.proofs.Common.{ℕ, ◌≡◌, ◌≢◌, ◌⊎◌, ◌+◌, ◌-◌, ◌%◌, ◌<◌, ◌≤◌, List, length, refl, sym, ◌∙◌, ap, subst, inl, inr, arith}
use Rattle.std.specs.Prelude.{Result, Ok, Err, OnOk, OnErr}
use Rattle.std.proofs.lemmas.Bool.{cases_eq, cases_lt}
use Rattle.std.proofs.lemmas.List.{get_or-set_same, get_or-set_other, length-set}
use Rattle.store_word.specs.Words.{Parts, null_word}
use Rattle.mem_port.specs.Store.{Store, Stores, StoresNothing, Covers, level_of_word}
use Rattle.obj_layout.specs.Forwards.{word_at}
use Rattle.transporter.specs.Settling.{Replaces}
use Rattle.transporter.specs.Writes.{Writes, pair_word}

-- no word is written
pub writes-none : (s : Store) (at : ℕ) (word : ℕ → Parts) → Writes s s at 0 word
writes-none s at word = record {
  size = refl;
  there = λ i l. absurd (omega arith);
  others = λ a out. refl;
  levels = refl;
  top = refl;
  unmarked = λ page clean low. clean;
}

-- a word more
pub writes-more : {old mid new : Store} {at i : ℕ} {word : ℕ → Parts} {w : Parts} → Writes old mid at i word → Stores mid new (at + i) w → at + i < length mid.words → w ≡ word i
    → Writes old new at (i + 1) word
writes-more {old} {mid} {new} {at} {i} {word} {w} before stores inside is = record {
  size = ap length stores.words ∙ length-set mid.words (at + i) w ∙ before.size;
  there = λ j l. go j l (cases_eq j i);
  others = λ a out. else_where a out;
  levels = stores.levels ∙ before.levels;
  top = stores.top ∙ before.top;
  unmarked = λ page clean low. stores.unmarked page (before.unmarked page clean (λ j l on. low j (omega arith) on)) (λ own. level (low i (omega arith) (sym own)));
}
  where
    level : level_of_word old.levels (word i) ≡ 0 → level_of_word mid.levels w ≡ 0
    level none = ap (λ (ls : List ℕ). level_of_word ls w) before.levels ∙ ap (level_of_word old.levels) is ∙ none

    same : (a : ℕ) → a ≢ at + i → word_at new.words a ≡ word_at mid.words a
    same a ne = ap (λ (ws : List Parts). word_at ws a) stores.words ∙ get_or-set_other mid.words (at + i) a w null_word ne

    go : (j : ℕ) → j < i + 1 → (j ≡ i) ⊎ (j ≡ i → ⊥) → word_at new.words (at + j) ≡ word j
    go j l (inl e) =
        ap (λ (x : ℕ). word_at new.words (at + x)) e ∙ ap (λ (ws : List Parts). word_at ws (at + i)) stores.words ∙ get_or-set_same mid.words (at + i) w null_word inside ∙ is ∙ ap word (sym e)
    go j l (inr ne) = same (at + j) (λ e. ne (omega arith)) ∙ before.there j (omega arith)

    else_where : (a : ℕ) → ((at ≤ a) × (a < at + (i + 1)) → ⊥) → word_at new.words a ≡ word_at old.words a
    else_where a out = same a (λ e. out (omega arith, omega arith)) ∙ before.others a (λ x. (let l = x.0 in let m = x.1 in out (omega arith, omega arith)))

-- a call in between stores nothing
pub writes-then_read : {old mid new : Store} {at count : ℕ} {word : ℕ → Parts} → Writes old mid at count word → StoresNothing mid new → Writes old new at count word
writes-then_read {old} {mid} {new} {at} before stays = record {
  size = ap length stays.words ∙ before.size;
  there = λ i l. ap (λ (ws : List Parts). word_at ws (at + i)) stays.words ∙ before.there i l;
  others = λ a out. ap (λ (ws : List Parts). word_at ws a) stays.words ∙ before.others a out;
  levels = stays.levels ∙ before.levels;
  top = stays.top ∙ before.top;
  unmarked = λ page clean low. stays.unmarked page (before.unmarked page clean low);
}

-- two words
pub writes-two : {s0 s1 s2 : Store} {at : ℕ} {first second : Parts} (word : ℕ → Parts) → Stores s0 s1 at first → Stores s1 s2 (at + 1) second → at + 2 ≤ length s0.words → first ≡ word 0 → second ≡ word 1 → Writes s0 s2 at 2 word
writes-two {s0} {s1} {s2} {at} {first} {second} word one two inside first_is second_is =
    let size : length s1.words ≡ length s0.words = ap length one.words ∙ length-set s0.words at first in
    let here : Stores s0 s1 (at + 0) first = subst (λ (a : ℕ). Stores s0 s1 a first) (let e : at ≡ at + 0 = omega arith in e) one in
    let once : Writes s0 s1 at (0 + 1) word = writes-more (writes-none s0 at word) here (omega arith) first_is in
    writes-more once two (omega arith) second_is

-- a call before stores nothing
pub read-then_writes : {s0 s1 s2 : Store} {at count : ℕ} {word : ℕ → Parts} → StoresNothing s0 s1 → Writes s1 s2 at count word → Writes s0 s2 at count word
read-then_writes {s0} {s1} {s2} {at} {count} {word} stays w = record {
  size = w.size ∙ ap length stays.words;
  there = w.there;
  others = λ a out. w.others a out ∙ ap (λ (ws : List Parts). word_at ws a) stays.words;
  levels = w.levels ∙ stays.levels;
  top = w.top ∙ stays.top;
  unmarked = λ page clean low. w.unmarked page (stays.unmarked page clean) (λ i l on. ap (λ (ls : List ℕ). level_of_word ls (word i)) stays.levels ∙ low i l on);
}

-- a pair's two words
pub writes-pair : {s0 s1 s2 s3 : Store} {at : ℕ} {first second : Parts} (cell : Parts) (rest : ℕ) → StoresNothing s0 s1 → Stores s1 s2 at first → Stores s2 s3 (at + 1) second → at + 2 ≤ length s0.words
    → first ≡ pair_word cell rest 0 → second ≡ pair_word cell rest 1 → Writes s0 s3 at 2 (pair_word cell rest)
writes-pair {s0} {s1} {s2} {s3} {at} {first} {second} cell rest reads one two inside first_is second_is =
    let size : length s1.words ≡ length s0.words = ap length reads.words in
    read-then_writes reads (writes-two (pair_word cell rest) one two (omega arith) first_is second_is)

-- the same words in another form
pub writes-as : {old new : Store} {at n m : ℕ} {word other : ℕ → Parts} → m ≡ n → ((i : ℕ) → i < n → word i ≡ other i) → Writes old new at n word → Writes old new at m other
writes-as {old} {new} {at} {n} {m} {word} {other} count is w = subst (λ (k : ℕ). Writes old new at k other) (sym count) (record {
  size = w.size;
  there = λ i l. w.there i l ∙ is i l;
  others = w.others;
  levels = w.levels;
  top = w.top;
  unmarked = λ page clean low. w.unmarked page clean (λ i l on. ap (level_of_word old.levels) (is i l) ∙ low i l on);
})

-- many words more, on one page
pub writes-span : {old mid new : Store} {at done piece : ℕ} {word part : ℕ → Parts} → Writes old mid at done word → Covers mid new (at + done) piece part → (at + done) % 256 + piece ≤ 256 → ((i : ℕ) → i < piece → part i ≡ word (done + i)) → Writes old new at (done + piece) word
writes-span {old} {mid} {new} {at} {done} {piece} {word} {part} before covers page_of is = record {
  size = covers.words.size ∙ before.size;
  there = λ i l. there i l (cases_lt i done);
  others = λ a out. covers.words.others a (λ x. (let l = x.0 in let m = x.1 in out (omega arith, omega arith))) ∙ before.others a (λ x. (let l = x.0 in let m = x.1 in out (l, omega arith)));
  levels = covers.levels ∙ before.levels;
  top = covers.top ∙ before.top;
  unmarked = λ page clean low. covers.unmarked page (before.unmarked page clean (λ i l on. low i (omega arith) on)) (λ own i l. level i l (low (done + i) (omega arith) (omega arith)));
}
  where
    level : (i : ℕ) → i < piece → level_of_word old.levels (word (done + i)) ≡ 0 → level_of_word mid.levels (part i) ≡ 0
    level i l none = ap (λ (ls : List ℕ). level_of_word ls (part i)) before.levels ∙ ap (level_of_word old.levels) (is i l) ∙ none

    there : (i : ℕ) → i < done + piece → (i < done) ⊎ (done ≤ i) → word_at new.words (at + i) ≡ word i
    there i l (inl early) = covers.words.others (at + i) (λ x. (let m = x.0 in omega arith)) ∙ before.there i early
    there i l (inr late) =
        let k : ℕ = i - done in
        let low : k < piece = omega arith in
        let place : at + done + k ≡ at + i = omega arith in
        let same : done + k ≡ i = omega arith in
        ap (word_at new.words) (sym place) ∙ covers.words.here k low ∙ is k low ∙ ap word same

-- a word that is stored if it is another leaves the size, whatever the call answers
pub size-replaced : {T E : Type 0} (m m' : Store) (at : ℕ) (old new : Parts) (r : Result T E) → OnOk r (Replaces m m' at old new) → OnErr r (StoresNothing m m') → length m'.words ≡ length m.words
size-replaced m m' at old new (Ok x) stored none = elim stored [
  | inl same ↦ ap length same.1.words
  | inr other ↦ ap length other.1.words ∙ length-set m.words at new
]
size-replaced m m' at old new (Err e) stored none = ap length none.words
