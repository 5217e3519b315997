-- Units that are scanned one after another.
use Rattle.std.proofs.Common.{◌≡◌, ℕ, suc, ◌+◌, ◌-◌, ◌*◌, ◌<◌, ◌≤◌, inl, inr, true, List, length, get_or, slice_set, length-set, refl, sym, ◌∙◌, ap, subst, arith}
use Rattle.std.proofs.lemmas.Bool.{cases_eq}
use Rattle.std.proofs.lemmas.List.{get_or-set_same, get_or-set_other}
use Rattle.store_word.specs.Words.{Parts, null_word}
use Rattle.mem_port.specs.Store.{Store}
use Rattle.area_space.specs.Table.{Table}
use Rattle.transporter.specs.obj_layout.Forwards.{word_at}
use Rattle.transporter.specs.LiveWordsUnchanged.{OnlyGrows}
use Rattle.transporter.specs.Moving.{MovesAtMost, none as nothing_moves}
use Rattle.transporter.specs.Preserving.{FreshOn, PreservesScanned, RegistersPreserved}
use Rattle.transporter.proofs.LiveObjects.{grows-same, grows-then, still-live, old-before}
use Rattle.transporter.proofs.ScannedWords.{fresh-grown}
use Rattle.scavenger.specs.declared.scan_set.Progress.{Progress}
use Rattle.scavenger.specs.declared.scan_set.Progress.TheVariants.{Scanned, Finished}
use Rattle.scavenger.specs.Scan.{Scan}
use Rattle.scavenger.specs.Left.{units_of}
use Rattle.scavenger.specs.Collecting.{IsCollecting}
use Rattle.scavenger.specs.Moves.{MovesEach}
use Rattle.scavenger.specs.Scanning.{Scans, register, word, none, units_in, ScanPreserves, EndsPage, StillCollects}
use Rattle.scavenger.specs.Sweeping.{ScansMany, more, ScansUpTo}
use Rattle.scavenger.proofs.PageEnds.{ended-table, ended-memory, repaged-grows}
use Rattle.transporter.specs.lisp_meaning.Interpretation.{by_map}

-- no transport was made
pub moves-none : {m : Store} {t : Table} → MovesAtMost m t m t 0
moves-none = record { count = 0; few = omega arith; moves = nothing_moves }

-- nothing was done
pub still-same : (m : Store) (t : Table) (scan : Scan) (registers : List Parts) → StillCollects m t scan registers m t scan registers 0
still-same m t scan registers it values x = record { map = it.map; collects = x; refines = λ kind a n e. e; moves = omega arith; units = omega arith }

-- two, one after the other
pub still-twice : (m m1 m2 : Store) (t t1 t2 : Table) (scan scan1 scan2 : Scan) (registers registers1 registers2 : List Parts) (a b : ℕ)
    → StillCollects m t scan registers m1 t1 scan1 registers1 a → StillCollects m1 t1 scan1 registers1 m2 t2 scan2 registers2 b → StillCollects m t scan registers m2 t2 scan2 registers2 (a + b)
still-twice m m1 m2 t t1 t2 scan scan1 scan2 registers registers1 registers2 a b one two it values x =
    let first = one it values x in
    let then = two (by_map it first.map) values first.collects in
    let u1 = first.units in
    let u2 = then.units in
    let m1' = first.moves in
    let m2' = then.moves in
    record { map = then.map; collects = then.collects; refines = λ kind c n e. then.refines kind c n (first.refines kind c n e); moves = omega arith; units = omega arith }

-- so it collects afterwards
pub collecting-after : (m m' : Store) (t t' : Table) (scan scan' : Scan) (registers registers' : List Parts) (n : ℕ) → IsCollecting m t scan registers → StillCollects m t scan registers m' t' scan' registers' n → IsCollecting m' t' scan' registers'
collecting-after m m' t t' scan scan' registers registers' n x still =
    let after = still x.it x.values x.collects in
    record { it = by_map x.it after.map; values = x.values; collects = after.collects }

-- the state after a scan
pub scanned-still : (m m' : Store) (t t' : Table) (scan scan' : Scan) (registers registers' : List Parts) → Scans m t scan registers m' t' scan' registers' Scanned → StillCollects m t scan registers m' t' scan' registers' 1
scanned-still m m' t t' scan scan' registers registers' (register r x) = x.still
scanned-still m m' t t' scan scan' registers registers' (word a x) = x.still

pub turn-cost : (s0 s1 s2 s3 p0 p1 p2 i n : ℕ) → p0 ≤ p1 → p1 ≤ p2 → s1 ≤ s0 + 4 * (p1 - p0) + 48 * i → s2 ≤ s1 + n + 1 → s3 ≤ s2 + 4 * (p2 - p1) + 47 → s3 ≤ s0 + 4 * (p2 - p0) + 48 * (i + (n + 1))
turn-cost s0 s1 s2 s3 p0 p1 p2 i n a b c d e = omega arith

-- the number of units that was counted
pub still-up-to : {m m' : Store} {t t' : Table} {scan scan' : Scan} {registers registers' : List Parts} (n : ℕ) → n ≡ scan'.done - scan.done → StillCollects m t scan registers m' t' scan' registers' n → StillCollects m t scan registers m' t' scan' registers' (scan'.done - scan.done)
still-up-to {m} {m'} {t} {t'} {scan} {scan'} {registers} {registers'} n e x = subst (λ (k : ℕ). StillCollects m t scan registers m' t' scan' registers' k) e x

-- they and those that remain are those that remained before and the words placed
pub units-add : {m m' : Store} {t t' : Table} {scan scan' : Scan} {registers registers' : List Parts} → IsCollecting m t scan registers → t.placed ≤ t'.placed → StillCollects m t scan registers m' t' scan' registers' (scan'.done - scan.done)
    → (scan'.done - scan.done) + units_of m' scan' t' registers' ≡ units_of m scan t registers + (t'.placed - t.placed)
units-add {m} {m'} {t} {t'} {scan} {scan'} x grows still = let units = (still x.it x.values x.collects).units in omega arith

-- No unit remained

pub finished-over : (m m' : Store) (t t' : Table) (scan scan' : Scan) (registers registers' : List Parts) → Scans m t scan registers m' t' scan' registers' Finished → (scan'.over ≡ true) × (scan'.done ≡ scan.done) × (t'.placed ≡ t.placed)
finished-over m m' t t' scan scan' registers registers' (none next over em et es er) = (ap (λ (s : Scan). s.over) es ∙ over, ap (λ (s : Scan). s.done) es, ap (λ (u : Table). u.placed) et)

pub finished-still : (m m' : Store) (t t' : Table) (scan scan' : Scan) (registers registers' : List Parts) → Scans m t scan registers m' t' scan' registers' Finished → StillCollects m t scan registers m' t' scan' registers' 0
finished-still m m' t t' scan scan' registers registers' (none next over em et es er) =
    subst (λ (x : Store). StillCollects m t scan registers x t' scan' registers' 0) (sym em)
    (subst (λ (x : Table). StillCollects m t scan registers m x scan' registers' 0) (sym et)
    (subst (λ (x : Scan). StillCollects m t scan registers m t x registers' 0) (sym es)
    (subst (λ (x : List Parts). StillCollects m t scan registers m t scan x 0) (sym er) (still-same m t scan registers))))

pub finished-up-to : (m m1 m2 : Store) (t t1 t2 : Table) (scan scan1 scan2 : Scan) (registers registers1 registers2 : List Parts) (n limit : ℕ)
    → ScansMany m t scan registers m1 t1 scan1 registers1 n → scan1.done ≡ scan.done + n → n < limit → MovesAtMost m t m1 t1 n → MovesEach m t scan registers m1 t1 scan1 registers1 n → Scans m1 t1 scan1 registers1 m2 t2 scan2 registers2 Finished
    → ScansUpTo m t scan registers m2 t2 scan2 registers2 limit
finished-up-to m m1 m2 t t1 t2 scan scan1 scan2 registers registers1 registers2 n limit many counted low moves each (none next over em et es er) =
    subst (λ (x : Store). ScansUpTo m t scan registers x t2 scan2 registers2 limit) (sym em)
    (subst (λ (x : Table). ScansUpTo m t scan registers m1 x scan2 registers2 limit) (sym et)
    (subst (λ (x : Scan). ScansUpTo m t scan registers m1 t1 x registers2 limit) (sym es)
    (subst (λ (x : List Parts). ScansUpTo m t scan registers m1 t1 scan1 x limit) (sym er)
    (record { count = n; many = many; counted = counted; few = omega arith; moves = moves; each = each; all = λ l. next }))))

pub one-more : (m m1 m2 : Store) (t t1 t2 : Table) (scan scan1 scan2 : Scan) (registers registers1 registers2 : List Parts) (n : ℕ)
    → ScansMany m t scan registers m1 t1 scan1 registers1 n → Scans m1 t1 scan1 registers1 m2 t2 scan2 registers2 Scanned → ScansMany m t scan registers m2 t2 scan2 registers2 (n + 1)
one-more m m1 m2 t t1 t2 scan scan1 scan2 registers registers1 registers2 n many next =
    let e : suc n ≡ n + 1 = omega arith in
    subst (λ (k : ℕ). ScansMany m t scan registers m2 t2 scan2 registers2 k) e (more m1 m2 t1 t2 scan1 scan2 registers1 registers2 n many next)

-- What is counted

pub scans-count : {m m' : Store} {t t' : Table} {scan scan' : Scan} {registers registers' : List Parts} {progress : Progress} → Scans m t scan registers m' t' scan' registers' progress → scan'.done ≡ scan.done + units_in progress
scans-count {m} {m'} {t} {t'} {scan} {scan'} (register r x) = ap (λ (s : Scan). s.done) x.done
scans-count {m} {m'} {t} {t'} {scan} {scan'} (word a x) = ap (λ (s : Scan). s.done) x.done
scans-count {m} {m'} {t} {t'} {scan} {scan'} (none next over em et es er) = (let e = ap (λ (s : Scan). s.done) es in omega arith)

-- What preserves the ground, except for the set of pages

pub preserves-same : {m : Store} {t : Table} → ScanPreserves m t m t
preserves-same = record { grows = grows-same; young = λ r old. refl; placed = refl; words = λ a live. inl refl }

pub scans-then : {m m1 m2 : Store} {t t1 t2 : Table} → ScanPreserves m t m1 t1 → ScanPreserves m1 t1 m2 t2 → ScanPreserves m t m2 t2
scans-then {m} {m1} {m2} {t} {t1} {t2} x y = record {
  grows = grows-then x.grows y.grows;
  young = λ r old. y.young r old ∙ x.young r (old-before y.grows old);
  placed = (let a = x.placed in let b = y.placed in omega arith);
  words = λ a live. elim (y.words a (still-live x.grows live)) [
    | inl same ↦ elim (x.words a live) [
      | inl was ↦ inl (same ∙ was)
      | inr fresh ↦ inr (subst (λ (w : Parts). FreshOn t2 w.content) (sym same) (fresh-grown (word_at m1.words a).content y.grows fresh))
    ]
    | inr fresh ↦ inr fresh
  ];
}

pub ended-preserves : {m m1 m2 : Store} {t t1 t2 : Table} {scan : Scan} {page : ℕ} → EndsPage m1 t1 scan m2 t2 page → PreservesScanned m t m1 t1 → ScanPreserves m t m2 t2
ended-preserves {m} {m1} {m2} {t} {t1} {t2} ending x = subst (λ (u : Table). ScanPreserves m t m2 u) (sym (ended-table ending)) (record {
  grows = repaged-grows t t1 t2.pages x.grows;
  young = x.young;
  placed = x.placed;
  words = λ a live. elim (x.words a live) [
    | inl same ↦ inl (ap (λ (ws : List Parts). word_at ws a) (ended-memory ending).words ∙ same)
    | inr fresh ↦ inr (subst (λ (ws : List Parts). FreshOn t1 (word_at ws a).content) (sym (ended-memory ending).words) fresh)
  ];
})

-- Registers

pub registers-then : {t1 t2 : Table} {registers registers1 registers2 : List Parts} → OnlyGrows t1 t2 → RegistersPreserved t1 registers registers1 → RegistersPreserved t2 registers1 registers2 → RegistersPreserved t2 registers registers2
registers-then {t1} {t2} {registers} {registers1} {registers2} grows x y = record {
  count = y.count ∙ x.count;
  each = λ r low. elim (y.each r (let c = x.count in omega arith)) [
    | inl same ↦ elim (x.each r low) [
      | inl was ↦ inl (same ∙ was)
      | inr fresh ↦ inr (subst (λ (w : Parts). FreshOn t2 w.content) (sym same) (fresh-grown (get_or registers1 r null_word).content grows fresh))
    ]
    | inr fresh ↦ inr fresh
  ];
}

pub register-preserves : (t : Table) (registers : List Parts) (r : ℕ) (new : Parts) → r < length registers → FreshOn t new.content → RegistersPreserved t registers (slice_set registers r new)
register-preserves t registers r new inside fresh = record {
  count = length-set registers r new;
  each = λ i low. elim (cases_eq i r) [
    | inl e ↦ inr (subst (λ (w : Parts). FreshOn t w.content) (sym (ap (λ (j : ℕ). get_or (slice_set registers r new) j null_word) e ∙ get_or-set_same registers r new null_word inside)) fresh)
    | inr ne ↦ inl (get_or-set_other registers r i new null_word ne)
  ];
}
