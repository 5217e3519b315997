-- Words and marks by the places of pages.
use Rattle.std.proofs.Common.{ℕ, ◌≡◌, ◌+◌, ◌-◌, ◌*◌, ◌/◌, ◌%◌, ◌<◌, ◌≤◌, ◌^◌, ◌↔◌, Bool, true, List, Option, Some, None, length, slice_get, slice_index, get_or, unwrap_or, refl, sym, ap, subst, ◌∙◌, arith, inl, inr}
use Rattle.std.specs.Int.{bit_at}
use Rattle.std.proofs.lemmas.Bool.{cases_eq, cond-true}
use Rattle.std.proofs.lemmas.Option.{slice_get-get_or, unwrap_or-slice_get}
use Rattle.std.proofs.lemmas.List.FromFn.{length-map-range_with_len, get_or-map-range_with_len, fill_by_all}
use Rattle.std.proofs.lemmas.Nat.{pow_below}
use Rattle.std.proofs.lemmas.Nat.Bits.{bit_at-lt, bit_at-zero, same_from_bits}
use Rattle.store_word.specs.Words.{Parts, null_word, address_of}
use Rattle.store_word.specs.Sets.{HasLevel}
use Rattle.store_word.proofs.SetLaws.{has_none}
use Rattle.mem_port.specs.Store.{level_of_word, level_of_address}
use Rattle.mem_port.specs.Tags.{marks_of_tag}
use Rattle.page_map.specs.declared.place.PagePlace.{PagePlace}
use Rattle.page_map.specs.declared.place.PagePlace.TheVariants.{Empty, InFrame, Swapped}
use Rattle.page_map.specs.Map.{place_at}
use Rattle.frame_pool.specs.Pool.{Pool, tag_of}
use Rattle.ref_table.specs.Sets.{set_at}
use Rattle.paged_memory.specs.Paging.{Paging, word_in, word_at, size_of, words_of, marks_in, marks_of, HasWord, IsPaged}

pub words_size : (p : Paging) (stored : List Parts) → length (words_of p stored) ≡ 256 * size_of p
words_size p stored = length-map-range_with_len (word_at p stored) 0 (256 * size_of p)

pub words_get : (p : Paging) (stored : List Parts) (at : ℕ) → at < 256 * size_of p → slice_get (words_of p stored) at ≡ Some (word_at p stored at)
words_get p stored at low =
    let size = words_size p stored in
    slice_get-get_or (words_of p stored) at null_word (omega (arith, size)) ∙ ap (λ (w : Parts). Some w) (get_or-map-range_with_len (word_at p stored) 0 (256 * size_of p) at at null_word low (omega arith))

-- the same word at each address makes the same list of words
pub words_same : (p p' : Paging) (stored stored' : List Parts) → size_of p' ≡ size_of p → ((at : ℕ) → word_at p' stored' at ≡ word_at p stored at) → words_of p' stored' ≡ words_of p stored
words_same p p' stored stored' size same =
    fill_by_all (word_at p stored) (words_of p' stored') (256 * size_of p) null_word (words_size p' stored' ∙ ap (λ n. 256 * n) size)
    (λ k low. get_or-map-range_with_len (word_at p' stored') 0 (256 * size_of p') k k null_word (omega (arith, size, low)) (omega arith) ∙ same k)

pub inside_of : (p : Paging) (stored : List Parts) (at : ℕ) → at < length (words_of p stored) → at < 256 * size_of p
inside_of p stored at low = omega (arith, low, words_size p stored)

pub page_inside : (p : Paging) (stored : List Parts) (at : ℕ) → at < length (words_of p stored) → at / 256 < size_of p
page_inside p stored at low = let n = inside_of p stored at low in omega arith

pub page_in : (p : Paging) (stored : List Parts) (page : ℕ) → 256 * page < length (words_of p stored) → page < size_of p
page_in p stored page low = omega (arith, low, words_size p stored)

pub get_or_same : (xs ys : List Parts) (i j : ℕ) (d : Parts) → slice_get xs i ≡ slice_get ys j → get_or xs i d ≡ get_or ys j d
get_or_same xs ys i j d e = sym (unwrap_or-slice_get xs i d) ∙ ap (λ o. unwrap_or o d) e ∙ unwrap_or-slice_get ys j d

-- the word at a place of a page
pub word_on : (p : Paging) (stored : List Parts) (page k : ℕ) (place : PagePlace) → k < 256 → place_at p.places page ≡ place → word_at p stored (256 * page + k) ≡ word_in p.pool stored (256 * page + k) place
word_on p stored page k place low e =
    let q : (256 * page + k) / 256 ≡ page = omega arith in
    ap (λ n. word_in p.pool stored (256 * page + k) (place_at p.places n)) q ∙ ap (word_in p.pool stored (256 * page + k)) e

pub word_framed : (p : Paging) (stored : List Parts) (page k frame : ℕ) → k < 256 → place_at p.places page ≡ InFrame frame → word_at p stored (256 * page + k) ≡ get_or p.pool.words (256 * frame + k) null_word
word_framed p stored page k frame low e =
    let m : (256 * page + k) % 256 ≡ k = omega arith in
    word_on p stored page k (InFrame frame) low e ∙ ap (λ n. get_or p.pool.words (256 * frame + n) null_word) m

-- a place whose frame and whose stored word are the same has the same word
pub word_kept : (pool pool' : Pool) (stored stored' : List Parts) (at : ℕ) (place : PagePlace)
    → ((frame : ℕ) → place ≡ InFrame frame → get_or pool'.words (256 * frame + at % 256) null_word ≡ get_or pool.words (256 * frame + at % 256) null_word)
    → (place ≡ Swapped → get_or stored' at null_word ≡ get_or stored at null_word) → word_in pool' stored' at place ≡ word_in pool stored at place
word_kept pool pool' stored stored' at Empty f s = refl
word_kept pool pool' stored stored' at (InFrame frame) f s = f frame refl
word_kept pool pool' stored stored' at Swapped f s = s refl

-- a place whose tag and whose row are the same has the same marks
pub marks_kept : (p p' : Paging) (page : ℕ) (place : PagePlace) → p'.top ≡ p.top → ((frame : ℕ) → place ≡ InFrame frame → tag_of p'.pool frame ≡ tag_of p.pool frame)
    → set_at p'.rows.sets page ≡ set_at p.rows.sets page → marks_in p' page place ≡ marks_in p page place
marks_kept p p' page Empty top t s = refl
marks_kept p p' page (InFrame frame) top t s = ap (λ n. marks_of_tag n (tag_of p'.pool frame)) top ∙ ap (marks_of_tag p.top) (t frame refl)
marks_kept p p' page Swapped top t s = s

-- the same words on a page have the same levels
pub has_on : (f g : ℕ → Parts) (levels : List ℕ) (page level : ℕ) → ((k : ℕ) → k < 256 → f (256 * page + k) ≡ g (256 * page + k)) → HasWord f levels page level → HasWord g levels page level
has_on f g levels page level same w = (w.0, (w.1.0, ap (level_of_word levels) (sym (same w.0 w.1.0)) ∙ w.1.1))

pub has_both_ways : (f g : ℕ → Parts) (levels : List ℕ) (page level : ℕ) (A : Type 0) → ((k : ℕ) → k < 256 → f (256 * page + k) ≡ g (256 * page + k)) → A ↔ HasWord f levels page level → A ↔ HasWord g levels page level
has_both_ways f g levels page level A same h = ((λ a. has_on f g levels page level same (h.0 a)), (λ w. h.1 (has_on g f levels page level (λ k low. sym (same k low)) w)))

pub level_low : (levels : List ℕ) (top : ℕ) (word : Parts) → ((region : ℕ) → slice_index levels region ≤ top) → level_of_word levels word ≤ top
level_low levels top word low = at_most (address_of word.content)
  where
    at_most : (o : Option ℕ) → level_of_address levels o ≤ top
    at_most None = omega arith
    at_most (Some at) = low (at / 4096)

-- every level is some level
pub all_marks : (top : ℕ) (b : Bool) → b ≡ true → 1 ≤ top → marks_of_tag top b ≡ 0 → ⊥
all_marks top b t pos e =
    let n = pow_below 0 top (omega arith) in
    let f : marks_of_tag top b ≡ 2 ^ top - 1 = cond-true _ _ _ t in
    omega (arith, n, f, e)

-- a page without marks has no address of level 1 or more
unmarked_at : (p : Paging) (stored : List Parts) (page level : ℕ) (place : PagePlace) → IsPaged p stored → place_at p.places page ≡ place → marks_in p page place ≡ 0 → 1 ≤ level → HasWord (word_at p stored) p.levels page level → ⊥
unmarked_at p stored page level Empty h e m pos w =
    let word = word_on p stored page w.0 Empty w.1.0 e in
    let zero' : ◌≡◌ {A = ℕ} 0 level = ap (level_of_word p.levels) (sym word) ∙ w.1.1 in omega arith
unmarked_at p stored page level (InFrame frame) h e m pos w =
    let low = level_low p.levels p.top (word_at p stored (256 * page + w.0)) h.low in
    all_marks p.top (tag_of p.pool frame) (h.tagged page frame e level pos w) (omega (arith, low, w.1.1)) m
unmarked_at p stored page level Swapped h e m pos w = has_none level (subst (λ s. HasLevel s level) m ((h.exact page e level pos).1 w))

pub unmarked : (p : Paging) (stored : List Parts) (page level : ℕ) → IsPaged p stored → marks_of p page ≡ 0 → 1 ≤ level → HasWord (word_at p stored) p.levels page level → ⊥
unmarked p stored page level h m pos w = unmarked_at p stored page level (place_at p.places page) h refl m pos w

-- a set without levels is empty
pub set_empty : (set : ℕ) → ((level : ℕ) → 1 ≤ level → ¬ HasLevel set level) → set ≡ 0
set_empty set none = same_from_bits set 0 (λ i.
    let low = bit_at-lt set i in let z = bit_at-zero i in
    let k : i + 1 - 1 ≡ i = omega arith in
    elim (cases_eq (bit_at set i) 1) [
      | inl e ↦ absurd (none (i + 1) (omega arith) (let there : HasLevel set (i + 1) = rw k e in there))
      | inr ne ↦ omega arith
    ])

-- the words of a swapped page are those that the device holds
pub swapped_read : (p : Paging) (stored : List Parts) (at : ℕ) → IsPaged p stored → at < 256 * size_of p → place_at p.places (at / 256) ≡ Swapped → slice_get (words_of p stored) at ≡ slice_get stored at
swapped_read p stored at h low e =
    words_get p stored at low ∙ ap (λ (w : Parts). Some w) (ap (word_in p.pool stored at) e) ∙ sym (slice_get-get_or stored at null_word (omega (arith, low, h.size)))
