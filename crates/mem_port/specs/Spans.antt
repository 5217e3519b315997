-- Consecutive words, and their pages.
use Rattle.std.specs.Prelude.{ℕ, ◌≡◌, ◌==◌, ◌+◌, ◌-◌, ◌/◌, ◌<◌, ◌≤◌, List, length, slice_index, if◌then◌else◌}
use Rattle.store_word.specs.declared.sizes.TheConstants.{PAGE_WORDS}
use Rattle.mem_port.specs.declared.spans.Span.{Span}

-- on how many pages the words are: from the page of the first word to that of the last
abbrev pub page_count : Span → ℕ
page_count span = if span.words == 0 then 0 else (span.at + span.words - 1) / PAGE_WORDS - span.at / PAGE_WORDS + 1

-- a list begins with the pages of two spans, each ascending, one span after the other
pub record ListsSpans (pages : List ℕ) (first second : Span) : Type 0 where
  pub room : page_count first + page_count second ≤ length pages
  pub front : (k : ℕ) → k < page_count first → slice_index pages k ≡ first.at / PAGE_WORDS + k
  pub back : (k : ℕ) → k < page_count second → slice_index pages (page_count first + k) ≡ second.at / PAGE_WORDS + k

-- the page of each of the words is held
abbrev pub HoldsSpan : (ℕ → Type 0) → Span → Type 0
HoldsSpan held span = (at : ℕ) → span.at ≤ at → at < span.at + span.words → held (at / PAGE_WORDS)
