-- How many units there were at the start is unchanged while units are scanned.
use Rattle.std.proofs.Common.{◌≡◌, ℕ, List, refl, ◌∙◌, ap}
use Rattle.store_word.specs.Words.{Parts}
use Rattle.mem_port.specs.Store.{Store}
use Rattle.area_space.specs.Table.{Table}
use Rattle.scavenger.specs.declared.scan_set.Progress.TheVariants.{Scanned}
use Rattle.scavenger.specs.Scan.{Scan}
use Rattle.scavenger.specs.Scanning.{Scans, register, word}
use Rattle.scavenger.specs.Sweeping.{ScansMany, nothing, more}

one_begun : (m m' : Store) (t t' : Table) (scan scan' : Scan) (registers registers' : List Parts) → Scans m t scan registers m' t' scan' registers' Scanned → scan'.begun ≡ scan.begun
one_begun m m' t t' scan scan' registers registers' (register r x) = ap (λ (s : Scan). s.begun) x.done
one_begun m m' t t' scan scan' registers registers' (word a x) = ap (λ (s : Scan). s.begun) x.done

pub many_begun : (m : Store) (t : Table) (scan : Scan) (registers : List Parts) (m' : Store) (t' : Table) (scan' : Scan) (registers' : List Parts) (count : ℕ) → ScansMany m t scan registers m' t' scan' registers' count → scan'.begun ≡ scan.begun
many_begun m t scan registers m' t' scan' registers' count nothing = refl
many_begun m t scan registers m' t' scan' registers' count (more m1 m2 t1 t2 s1 s2 r1 r2 n many one) =
    one_begun m1 m2 t1 t2 s1 s2 r1 r2 one ∙ many_begun m t scan registers m1 t1 s1 r1 n many
