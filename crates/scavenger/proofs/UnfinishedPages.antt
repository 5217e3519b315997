-- A page with an unscanned word: the scan hasn't finished, and the page's next word may be next.
use Rattle.std.proofs.Common.{◌≡◌, ℕ, ◌+◌, ◌*◌, ◌/◌, ◌%◌, ◌<◌, Bool, false, nat_le, length, slice_index, refl, sym, ◌∙◌, ap, subst, arith, Option, Some, None}
use Rattle.std.specs.Prelude.{Contains}
use Rattle.std.proofs.lemmas.Bool.{leb-false}
use Rattle.std.proofs.lemmas.List.{get_or-set_same}
use Rattle.mem_port.specs.Store.{Store}
use Rattle.area_space.specs.index_lists.Chains.{first_of}
use Rattle.area_space.specs.Table.{Table, used_of}
use Rattle.scavenger.specs.declared.scan_set.Unit.TheVariants.{Word}
use Rattle.scavenger.specs.Scan.{Scan}
use Rattle.scavenger.specs.Left.{HasOpen, IsPaged, closed, is_none, next_of}
use Rattle.scavenger.specs.Scanning.{EndsPage, page_done, word_done}
use Rattle.scavenger.proofs.ScanEnd.{going-on}
use Rattle.scavenger.proofs.PageEnds.{ended-table, or_none}
use Rattle.scavenger.proofs.LowestNumbers.{open-first}
use Rattle.scavenger.proofs.NextUnits.{opened, same-next}
use Rattle.scavenger.proofs.OpenPages.{first-none, near-next}

-- a page that isn't done has an open word
left-open : (s : Scan) (t : Table) (page : ℕ) → page_done s t page ≡ false → HasOpen s t page
left-open s t page left =
    let first : ℕ = slice_index s.pages page in
    let none = or_none (nat_le 256 (slice_index s.pages page)) (nat_le (used_of t (page / 16)) (256 * (page % 16) + slice_index s.pages page)) left in
    let a = leb-false 256 (slice_index s.pages page) none.0 in
    let b = leb-false (used_of t (page / 16)) (256 * (page % 16) + slice_index s.pages page) none.1 in
    let on : (256 * page + slice_index s.pages page) / 256 ≡ page = omega arith in
    (256 * page + slice_index s.pages page, on, open-first s t page (slice_index s.pages page) refl (omega arith) (omega arith))

-- so the scan hasn't finished
left-going : (s : Scan) (t : Table) (page : ℕ) → length t.used ≡ t.regions → IsPaged s t → page_done s t page ≡ false → is_none (next_of (opened s) t) ≡ false
left-going s t page size x left = by-first (first_of t.pages) refl
  where
    has : Contains t.pages page
    has = (x.exact page).1 (left-open s t page left)

    by-first : (o : Option ℕ) → first_of t.pages ≡ o → is_none (next_of (opened s) t) ≡ false
    by-first None e = absurd (first-none t.pages page e has)
    by-first (Some lowest) e = going-on s t size x lowest e

-- A word was scanned, and another of its page remains

module _ (m m' : Store) (t t' : Table) (s : Scan) (at : ℕ) (ending : EndsPage m t (word_done s at) m' t' (at / 256)) (size : length t.used ≡ t.regions) (x : IsPaged (word_done s at) t')
    (going : s.over ≡ false) (left : page_done (word_done s at) t (at / 256) ≡ false) where
  sized : length t'.used ≡ t'.regions
  sized = subst (λ (u : Table). length u.used ≡ u.regions) (sym (ended-table ending)) size

  left-there : page_done (word_done s at) t' (at / 256) ≡ false
  left-there = ap (λ (u : Table). page_done (word_done s at) u (at / 256)) (ended-table ending) ∙ left

  pub left-closed : closed (word_done s at) t' ≡ word_done s at
  left-closed = ap (λ (b : Bool). (let r : Scan = record (word_done s at) { over = b } in r)) (left-going (word_done s at) t' (at / 256) sized x left-there ∙ sym going)

  -- it is next if the latest transport ended there
  pub left-next : at / 256 < length s.pages → t'.last ≡ Some (at / 256) → next_of (word_done s at) t' ≡ Some (Word (at + 1))
  left-next inside last =
      let here : slice_index (word_done s at).pages (at / 256) ≡ at % 256 + 1 = get_or-set_same s.pages (at / 256) (at % 256 + 1) 0 inside in
      let same : 256 * (at / 256) + slice_index (word_done s at).pages (at / 256) ≡ at + 1 = omega arith in
      sym (same-next (word_done s at) t' going)
      ∙ near-next (word_done s at) t' sized x (at / 256) last ((x.exact (at / 256)).1 (left-open (word_done s at) t' (at / 256) left-there))
      ∙ ap (λ (a : ℕ). Some (Word a)) same
