-- The words of all frames are those that are stored, and NULL words.
use Rattle.std.proofs.Common.{◌≡◌, ℕ, ◌+◌, ◌-◌, ◌*◌, ◌%◌, ◌<◌, ◌≤◌, List, [], ◌++◌, Option, Some, refl, length, slice_get, get_or, set, replicate, sym, ap, subst, ◌∙◌, arith, inl, inr, length-append, length-set}
use Rattle.std.proofs.lemmas.Bool.{cases_lt}
use Rattle.std.proofs.lemmas.Option.{slice_get-get_or, slice_get_past, unwrap_or-slice_get}
use Rattle.std.specs.Prelude.{unwrap_or}
use Rattle.std.proofs.lemmas.List.{append_assoc, length-replicate, replicate-append-replicate, set-append_left, get_or-replicate, get_or_past, get_or-append_right, get_or_append_left}
use Rattle.store_word.specs.Words.{Parts, null_word}
use Rattle.frame_pool.specs.Fills.{Fills, FillsSpan}
use Rattle.frame_pool.specs.Stored.{padded}

pub length-padded : (n : ℕ) (xs : List Parts) → length xs ≤ n → length (padded n xs) ≡ n
length-padded n xs h = omega (arith, length-append xs (replicate (n - length xs) null_word), length-replicate (n - length xs) null_word)

-- more NULL words are stored
pub padded-more : (n k : ℕ) (xs : List Parts) → length xs + k ≤ n → padded n (xs ++ replicate k null_word) ≡ padded n xs
padded-more n k xs h =
    let size : length (xs ++ replicate k null_word) ≡ length xs + k = omega (arith, length-append xs (replicate k null_word), length-replicate k null_word) in
    let rest : k + (n - length (xs ++ replicate k null_word)) ≡ n - length xs = omega arith in
    append_assoc xs (replicate k null_word) (replicate (n - length (xs ++ replicate k null_word)) null_word)
    ∙ ap (λ ys. xs ++ ys) (replicate-append-replicate k (n - length (xs ++ replicate k null_word)) null_word ∙ ap (λ m. replicate m null_word) rest)

-- a word
same_null : (n i : ℕ) → get_or (replicate n null_word) i null_word ≡ null_word
same_null n i = elim (cases_lt i n) [ inl low ↦ get_or-replicate n i null_word null_word low | inr high ↦ get_or_past (replicate n null_word) i null_word (rw length-replicate high) ]

pub padded_at : (n i : ℕ) (xs : List Parts) → get_or (padded n xs) i null_word ≡ get_or xs i null_word
padded_at n i xs =
    elim (cases_lt i (length xs)) [
      | inl low ↦ get_or_append_left xs (replicate (n - length xs) null_word) null_word i low
      | inr high ↦ get_or-append_right xs (replicate (n - length xs) null_word) (length xs) i null_word refl high ∙ same_null (n - length xs) (i - length xs) ∙ sym (get_or_past xs i null_word high)
    ]

pub padded_get : (n i : ℕ) (xs : List Parts) → length xs ≤ n → i < length xs → slice_get (padded n xs) i ≡ slice_get xs i
padded_get n i xs h low =
    slice_get-get_or (padded n xs) i null_word (omega (arith, length-padded n xs h)) ∙ ap (λ (w : Parts). Some w) (padded_at n i xs) ∙ sym (slice_get-get_or xs i null_word low)

pub padded_null : (n i : ℕ) (xs : List Parts) → length xs ≤ i → i < n → slice_get (padded n xs) i ≡ Some null_word
padded_null n i xs past low =
    slice_get-get_or (padded n xs) i null_word (omega (arith, length-padded n xs (omega arith))) ∙ ap (λ (w : Parts). Some w) (padded_at n i xs ∙ get_or_past xs i null_word past)

-- words at the same position of two lists of stored words
same_at : (n i : ℕ) (xs ys : List Parts) → length ys ≡ length xs → length xs ≤ n → get_or ys i null_word ≡ get_or xs i null_word → slice_get (padded n ys) i ≡ slice_get (padded n xs) i
same_at n i xs ys size h e =
    let xn = length-padded n xs h in
    let yn = length-padded n ys (omega arith) in
    elim (cases_lt i n) [
      | inl low ↦
          slice_get-get_or (padded n ys) i null_word (omega arith) ∙ ap (λ (w : Parts). Some w) (padded_at n i ys ∙ e ∙ sym (padded_at n i xs))
          ∙ sym (slice_get-get_or (padded n xs) i null_word (omega arith))
      | inr high ↦ slice_get_past (padded n ys) i (omega arith) ∙ sym (slice_get_past (padded n xs) i (omega arith))
    ]

same_word : (xs ys : List Parts) (i : ℕ) → slice_get xs i ≡ slice_get ys i → get_or xs i null_word ≡ get_or ys i null_word
same_word xs ys i e = sym (unwrap_or-slice_get xs i null_word) ∙ ap (λ o. unwrap_or o null_word) e ∙ unwrap_or-slice_get ys i null_word

-- the words of a frame are written
pub padded_fills : (n frame : ℕ) (xs ys : List Parts) (word : ℕ → Option Parts) → length xs ≤ n → 256 * frame + 256 ≤ length xs → Fills xs ys frame word → Fills (padded n xs) (padded n ys) frame word
padded_fills n frame xs ys word h inside f = record {
  size = length-padded n ys (omega (arith, f.size)) ∙ sym (length-padded n xs h);
  here = λ k low. padded_get n (256 * frame + k) ys (omega (arith, f.size)) (omega (arith, f.size)) ∙ f.here k low;
  below = λ i low. same_at n i xs ys f.size h (same_word ys xs i (f.below i low));
  above = λ i high. same_at n i xs ys f.size h (same_word ys xs i (f.above i high));
}

-- some words are written
pub padded_span : (n at count : ℕ) (xs ys : List Parts) (word word' : ℕ → Parts) → length xs ≤ n → ((i : ℕ) → word i ≡ word' i) → FillsSpan xs ys at count word → FillsSpan (padded n xs) (padded n ys) at count word'
padded_span n at count xs ys word word' h is f = record {
  size = length-padded n ys (omega (arith, f.size)) ∙ sym (length-padded n xs h);
  here = λ i low. padded_at n (at + i) ys ∙ f.here i low ∙ is i;
  others = λ i out. padded_at n i ys ∙ f.others i out ∙ sym (padded_at n i xs);
}

-- words up to a number have been stored
record IsReached (n e : ℕ) (xs mid : List Parts) : Type 0 where
  same : padded n mid ≡ padded n xs
  far : e ≤ length mid
  within : length mid ≤ n

reached : (n e : ℕ) (xs mid : List Parts) → mid ≡ xs ++ replicate (e - length xs) null_word → length xs ≤ n → e ≤ n → IsReached n e xs mid
reached n e xs mid is h low =
    let size : length mid ≡ length xs + (e - length xs) = ap length is ∙ omega (arith, length-append xs (replicate (e - length xs) null_word), length-replicate (e - length xs) null_word) in
    record {
      same = ap (padded n) is ∙ padded-more n (e - length xs) xs (omega arith);
      far = omega (arith, size);
      within = omega (arith, size);
    }

-- then the words of a frame are written
pub stored_frame : (n e frame : ℕ) (xs mid before ys : List Parts) (word : ℕ → Option Parts) → mid ≡ xs ++ replicate (e - length xs) null_word → length xs ≤ n → e ≤ n → 256 * frame + 256 ≤ e → before ≡ mid
    → Fills before ys frame word → Fills (padded n xs) (padded n ys) frame word
stored_frame n e frame xs mid before ys word is h low inside same f =
    let r = reached n e xs mid is h low in
    let g : Fills mid ys frame word = subst (λ (ws : List Parts). Fills ws ys frame word) same f in
    subst (λ (ws : List Parts). Fills ws (padded n ys) frame word) r.same (padded_fills n frame mid ys word r.within (omega (arith, r.far)) g)

-- or some words
pub stored_span : (n e at at' count : ℕ) (xs mid before ys : List Parts) (word word' : ℕ → Parts) → mid ≡ xs ++ replicate (e - length xs) null_word → length xs ≤ n → e ≤ n → before ≡ mid → at ≡ at'
    → ((i : ℕ) → word i ≡ word' i) → FillsSpan before ys at count word → FillsSpan (padded n xs) (padded n ys) at' count word'
stored_span n e at at' count xs mid before ys word word' is h low same place words f =
    let r = reached n e xs mid is h low in
    let g : FillsSpan mid ys at count word = subst (λ (ws : List Parts). FillsSpan ws ys at count word) same f in
    let there = subst (λ (ws : List Parts). FillsSpan ws (padded n ys) at count word') r.same (padded_span n at count mid ys word word' r.within words g) in
    subst (λ (k : ℕ). FillsSpan (padded n xs) (padded n ys) k count word') place there

-- a word that is read from them
pub stored_word : (n e at at' : ℕ) (xs mid before : List Parts) → mid ≡ xs ++ replicate (e - length xs) null_word → length xs ≤ n → e ≤ n → before ≡ mid → at ≡ at'
    → get_or before at null_word ≡ get_or (padded n xs) at' null_word
stored_word n e at at' xs mid before is h low same place =
    let r = reached n e xs mid is h low in
    ap (λ (ws : List Parts). get_or ws at null_word) same ∙ sym (padded_at n at mid) ∙ ap (λ (ws : List Parts). get_or ws at null_word) r.same ∙ ap (λ (k : ℕ). get_or (padded n xs) k null_word) place

-- or one word
pub stored_set : (n e at at' : ℕ) (xs mid : List Parts) (word : Parts) → mid ≡ xs ++ replicate (e - length xs) null_word → length xs ≤ n → e ≤ n → at < e → at ≡ at' → padded n (set mid at word) ≡ set (padded n xs) at' word
stored_set n e at at' xs mid word is h low inside place =
    let r = reached n e xs mid is h low in
    ap (λ (k : ℕ). set mid at word ++ replicate (n - k) null_word) (length-set mid at word)
    ∙ sym (set-append_left mid (replicate (n - length mid) null_word) at word (omega (arith, r.far)))
    ∙ ap (λ (ws : List Parts). set ws at word) r.same ∙ ap (λ (k : ℕ). set (padded n xs) k word) place

-- or two
pub stored_two : (n e at one two : ℕ) (xs mid : List Parts) (first second : Parts) → mid ≡ xs ++ replicate (e - length xs) null_word → length xs ≤ n → e ≤ n → at + 1 < e → at ≡ one → at + 1 ≡ two
    → padded n (set (set mid at first) (at + 1) second) ≡ set (set (padded n xs) one first) two second
stored_two n e at one two xs mid first second is h low inside place next =
    let r = reached n e xs mid is h low in
    let size = length-set mid at first in
    ap (λ (k : ℕ). set (set mid at first) (at + 1) second ++ replicate (n - k) null_word) (length-set (set mid at first) (at + 1) second)
    ∙ sym (set-append_left (set mid at first) (replicate (n - length (set mid at first)) null_word) (at + 1) second (omega (arith, r.far, size)))
    ∙ ap (λ (ws : List Parts). set ws (at + 1) second) (stored_set n e at one xs mid first is h low (omega arith) place)
    ∙ ap (λ (k : ℕ). set (set (padded n xs) one first) k second) next

-- a frame whose words aren't stored
pub padded_blank : (n frame k : ℕ) (xs blank : List Parts) → length xs % 256 ≡ 0 → length xs ≤ n → length xs ≤ frame * 256 → 256 * frame + 256 ≤ n → blank ≡ replicate 256 null_word → k < 256
    → slice_get blank k ≡ slice_get (padded n xs) (256 * frame + k)
padded_blank n frame k xs blank whole h past inside is low =
    let size : length blank ≡ 256 = ap length is ∙ length-replicate 256 null_word in
    slice_get-get_or blank k null_word (omega (arith, size)) ∙ ap (λ (w : Parts). Some w) (ap (λ (ws : List Parts). get_or ws k null_word) is ∙ get_or-replicate 256 k null_word null_word low)
    ∙ sym (padded_null n (256 * frame + k) xs (omega arith) (omega arith))

-- at first no word is stored
pub padded_fresh : (n : ℕ) (xs : List Parts) → xs ≡ [] → padded (256 * n) xs ≡ replicate (n * 256) null_word
padded_fresh n xs is =
    let size : length xs ≡ 0 = ap length is in
    let count : 256 * n - length xs ≡ n * 256 = omega (arith, size) in
    ap (λ (ws : List Parts). ws ++ replicate (256 * n - length xs) null_word) is ∙ ap (λ k. replicate k null_word) count
