-- No unit is scanned twice.
use Rattle.std.proofs.Common.{◌≡◌, ℕ, ◌+◌, ◌*◌, ◌/◌, ◌%◌, ◌<◌, inl, inr, List, length, slice_index, slice_set, Some, ◌∙◌, ap, arith}
use Rattle.std.proofs.lemmas.Bool.{cases_eq, cases_lt}
use Rattle.std.proofs.lemmas.List.{get_or_past, get_or-set_same, get_or-set_other}
use Rattle.store_word.specs.Words.{Parts}
use Rattle.mem_port.specs.Store.{Store}
use Rattle.area_space.specs.Table.{Table}
use Rattle.scavenger.specs.declared.scan_set.Unit.{Unit as Left}
use Rattle.scavenger.specs.declared.scan_set.Unit.TheVariants.{Register, Word}
use Rattle.scavenger.specs.declared.scan_set.Progress.TheVariants.{Scanned}
use Rattle.scavenger.specs.Scan.{Scan}
use Rattle.scavenger.specs.Left.{next_of}
use Rattle.scavenger.specs.Scanning.{Scans, register, word}
use Rattle.scavenger.specs.Sweeping.{ScansMany, nothing, more}
use Rattle.scavenger.specs.Laws.{IsPast}
use Rattle.scavenger.proofs.NextUnits.{next-register, next-word, next-first}

pub scans-new : (m m' : Store) (t t' : Table) (scan scan' : Scan) (registers registers' : List Parts) → length scan.pages ≡ 16 * t.regions → Scans m t scan registers m' t' scan' registers' Scanned
    → (unit : Left) × (next_of scan t ≡ Some unit) × (IsPast scan unit → ⊥) × IsPast scan' unit
scans-new m m' t t' scan scan' registers registers' size (register r x) =
    let next = next-register scan t r x.next in
    let is = next.is in
    let done : scan'.scanned ≡ r + 1 = ap (λ (s : Scan). s.scanned) x.done in
    (Register r, x.next, (λ low. omega arith), (omega arith))
scans-new m m' t t' scan scan' registers registers' size (word a x) =
    let next = next-word scan t a x.next in
    let low = next.low in
    let place = next-first scan t a next in
    let first = place.0 in
    let inside : a / 256 < length scan.pages = omega arith in
    let done : slice_index scan'.pages (a / 256) ≡ a % 256 + 1 = ap (λ (s : Scan). slice_index s.pages (a / 256)) x.done ∙ get_or-set_same scan.pages (a / 256) (a % 256 + 1) 0 inside in
    (Word a, x.next, (λ behind. omega arith), (omega arith))

one-past : (m m' : Store) (t t' : Table) (scan scan' : Scan) (registers registers' : List Parts) (unit : Left) → Scans m t scan registers m' t' scan' registers' Scanned → IsPast scan unit → IsPast scan' unit
one-past m m' t t' scan scan' registers registers' (Register i) (register r x) past =
    let next = next-register scan t r x.next in
    let is = next.is in
    let done : scan'.scanned ≡ r + 1 = ap (λ (s : Scan). s.scanned) x.done in
    omega arith
one-past m m' t t' scan scan' registers registers' (Register i) (word a x) past =
    let done : scan'.scanned ≡ scan.scanned = ap (λ (s : Scan). s.scanned) x.done in
    omega arith
one-past m m' t t' scan scan' registers registers' (Word b) (register r x) past =
    let done : slice_index scan'.pages (b / 256) ≡ slice_index scan.pages (b / 256) = ap (λ (s : Scan). slice_index s.pages (b / 256)) x.done in
    omega arith
one-past m m' t t' scan scan' registers registers' (Word b) (word a x) past =
    let place = next-first scan t a (next-word scan t a x.next) in
    let first = place.0 in
    let done : slice_index scan'.pages (b / 256) ≡ slice_index (slice_set scan.pages (a / 256) (a % 256 + 1)) (b / 256) = ap (λ (s : Scan). slice_index s.pages (b / 256)) x.done in
    elim (cases_eq (b / 256) (a / 256)) [
      | inr ne ↦ let same : slice_index (slice_set scan.pages (a / 256) (a % 256 + 1)) (b / 256) ≡ slice_index scan.pages (b / 256) = get_or-set_other scan.pages (a / 256) (b / 256) (a % 256 + 1) 0 ne in omega arith
      | inl e ↦
          let was : slice_index scan.pages (b / 256) ≡ slice_index scan.pages (a / 256) = ap (slice_index scan.pages) e in
          elim (cases_lt (a / 256) (length scan.pages)) [
            | inl inside ↦
                let set : slice_index (slice_set scan.pages (a / 256) (a % 256 + 1)) (b / 256) ≡ a % 256 + 1 = ap (slice_index (slice_set scan.pages (a / 256) (a % 256 + 1))) e ∙ get_or-set_same scan.pages (a / 256) (a % 256 + 1) 0 inside in
                omega arith
            | inr high ↦ let none = get_or_past scan.pages (a / 256) 0 high in absurd (omega arith)
          ]
    ]

pub many-past : (m : Store) (t : Table) (scan : Scan) (registers : List Parts) (m' : Store) (t' : Table) (scan' : Scan) (registers' : List Parts) (count : ℕ) (unit : Left) → ScansMany m t scan registers m' t' scan' registers' count → IsPast scan unit → IsPast scan' unit
many-past m t scan registers m' t' scan' registers' count unit nothing past = past
many-past m t scan registers m' t' scan' registers' count unit (more m1 m2 t1 t2 s1 s2 r1 r2 n many one) past =
    one-past m1 m2 t1 t2 s1 s2 r1 r2 unit one (many-past m t scan registers m1 t1 s1 r1 n unit many past)
