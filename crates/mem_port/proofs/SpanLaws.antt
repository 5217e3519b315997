-- The pages of spans in a list.
use Rattle.std.proofs.Common.{ℕ, ◌≡◌, ◌≢◌, ◌+◌, ◌-◌, ◌*◌, ◌/◌, ◌<◌, ◌≤◌, List, length, take, length-take, slice_index, slice_index_or, arith, ◌∙◌, subst, inl, inr}
use Rattle.std.proofs.lemmas.Bool.{cases_eq, cases_lt}
use Rattle.std.proofs.lemmas.Bool.Decides.{nat_tests}
use Rattle.std.proofs.lemmas.List.{get_or-take, get_or_default}
use Rattle.mem_port.specs.declared.spans.Span.{Span}
use Rattle.mem_port.specs.Spans.{page_count, ListsSpans, HoldsSpan}

-- no words, no page
count_none : (span : Span) → span.words ≡ 0 → page_count span ≡ 0
count_none span none = grind (arith, nat_tests)

-- from the page of the first word to that of the last
count_some : (span : Span) → span.words ≢ 0 → page_count span ≡ (span.at + span.words - 1) / 256 - span.at / 256 + 1
count_some span some = grind (arith, nat_tests)

-- a page of a span has a word of it
page_within : (span : Span) (k : ℕ) → k < page_count span → 256 * (span.at / 256 + k) < span.at + span.words
page_within span k low =
    elim (cases_eq span.words 0) [
      | inl none ↦ absurd (omega (arith, count_none span none))
      | inr some ↦ omega (arith, count_some span some)
    ]

-- the page of each word of a span is among its pages
page_of_word : (span : Span) (at : ℕ) → span.at ≤ at → at < span.at + span.words → at / 256 - span.at / 256 < page_count span
page_of_word span at low high = let some : span.words ≢ 0 = λ none. omega arith in omega (arith, count_some span some)

-- a list into which the pages of one span were written, and then those of another
pub lists_spans : (mid pages : List ℕ) (first second : Span) (middle : ℕ) → middle ≡ 0 + page_count first → ((k : ℕ) → k < page_count first → slice_index mid (0 + k) ≡ first.at / 256 + k) → ((k : ℕ) → k < middle → slice_index pages k ≡ slice_index mid k) → ((k : ℕ) → k < page_count second → slice_index pages (middle + k) ≡ second.at / 256 + k) → page_count first + page_count second ≤ length pages → ListsSpans pages first second
lists_spans mid pages first second middle is one kept two room = record {
  room = room;
  front = λ k low. let e : 0 + k ≡ k = omega arith in kept k (omega arith) ∙ rw e at (one k low);
  back = λ k low. let e : middle ≡ page_count first = omega arith in rw e at (two k low);
}

-- what is listed at a place
listed_at : (pages : List ℕ) (first second : Span) (end k d : ℕ) → ListsSpans pages first second → end ≡ page_count first + page_count second → k < end → slice_index_or (take end pages) k d ≡ slice_index pages k
listed_at pages first second end k d h is low = get_or-take end pages k d low ∙ get_or_default pages k d 0 (let room : page_count first + page_count second ≤ length pages = h.room in omega arith)

-- each listed page is inside the memory
pub listed_inside : (pages : List ℕ) (first second : Span) (end size : ℕ) → ListsSpans pages first second → end ≡ page_count first + page_count second → first.at + first.words ≤ size → second.at + second.words ≤ size → (k d : ℕ) → k < length (take end pages) → 256 * slice_index_or (take end pages) k d < size
listed_inside pages first second end size h is one two k d low =
    let below : k < end = omega (arith, length-take end pages) in
    elim (cases_lt k (page_count first)) [
      | inl early ↦ rw (listed_at pages first second end k d h is below ∙ h.front k early) (omega (arith, page_within first k early))
      | inr late ↦
          let j : ℕ = k - page_count first in
          let low' : j < page_count second = omega arith in
          let same : page_count first + j ≡ k = omega arith in
          let there : slice_index pages k ≡ second.at / 256 + j = rw same at (h.back j low') in
          rw (listed_at pages first second end k d h is below ∙ there) (omega (arith, page_within second j low'))
    ]

-- if each listed page is held, both spans are
pub front_held : (held : ℕ → Type 0) (pages : List ℕ) (first second : Span) (end : ℕ) → ListsSpans pages first second → end ≡ page_count first + page_count second → ((k d : ℕ) → k < length (take end pages) → held (slice_index_or (take end pages) k d)) → HoldsSpan held first
front_held held pages first second end h is all at low high =
    let k : ℕ = at / 256 - first.at / 256 in
    let early : k < page_count first = page_of_word first at low high in
    let room : page_count first + page_count second ≤ length pages = h.room in
    let there : slice_index_or (take end pages) k 0 ≡ first.at / 256 + k = listed_at pages first second end k 0 h is (omega arith) ∙ h.front k early in
    let same : first.at / 256 + k ≡ at / 256 = omega arith in
    subst held (there ∙ same) (all k 0 (omega (arith, length-take end pages)))

pub back_held : (held : ℕ → Type 0) (pages : List ℕ) (first second : Span) (end : ℕ) → ListsSpans pages first second → end ≡ page_count first + page_count second → ((k d : ℕ) → k < length (take end pages) → held (slice_index_or (take end pages) k d)) → HoldsSpan held second
back_held held pages first second end h is all at low high =
    let k : ℕ = at / 256 - second.at / 256 in
    let early : k < page_count second = page_of_word second at low high in
    let room : page_count first + page_count second ≤ length pages = h.room in
    let there : slice_index_or (take end pages) (page_count first + k) 0 ≡ second.at / 256 + k = listed_at pages first second end (page_count first + k) 0 h is (omega arith) ∙ h.back k early in
    let same : second.at / 256 + k ≡ at / 256 = omega arith in
    subst held (there ∙ same) (all (page_count first + k) 0 (omega (arith, length-take end pages)))
