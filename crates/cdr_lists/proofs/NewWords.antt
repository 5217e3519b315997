-- Words are written at a used end and committed: what is live is unchanged.
use Rattle.std.proofs.Common.{◌≡◌, ℕ, ◌+◌, ◌<◌, length, refl, subst, arith}
use Rattle.store_word.specs.Words.{Parts, null_word}
use Rattle.mem_port.specs.Store.{Stores, StoresNothing}
use Rattle.mem_port.specs.Store as Memory
use Rattle.area_space.specs.Table.{Table}
use Rattle.transporter.specs.lisp_ground.Writes.{WritesWithin}
use Rattle.transporter.proofs.lisp_ground.words.Words.{get_or_same}
use Rattle.transporter.specs.LiveWordsUnchanged.{LiveWordsUnchanged}
use Rattle.transporter.specs.Writes.{Writes}
use Rattle.transporter.proofs.UsedEnds.{Extends, extends-grows, used-apart}
use Rattle.transporter.proofs.WriteSequences.{writes-more, writes-none, writes-then_read}
use Rattle.cdr_lists.specs.Pairs.{words_of_pair}

pub laid_live : (m m2 : Memory.Store) (t t2 : Table) (slot at words : ℕ) → Extends t t2 slot at words → WritesWithin m m2 at words → LiveWordsUnchanged m t m2 t2
laid_live m m2 t t2 slot at words x writes = record {
  table = extends-grows t t2 slot at words x;
  words = λ a l. get_or_same m2.words m.words a null_word (writes.others a (used-apart t t2 slot at words x a l.used));
}

-- the words of a pair were stored, one after the other
pub pair_written : {m0 m1 m2 m3 : Memory.Store} {at : ℕ} {first second : Parts} → StoresNothing m0 m1 → Stores m1 m2 at first → Stores m2 m3 (at + 1) second → at + 1 < length m0.words → Writes m0 m3 at 2 (words_of_pair first second)
pair_written {m0} {m1} {m2} {m3} {at} {first} {second} reads one two inside =
    let start : Writes m0 m1 at 0 (words_of_pair first second) = writes-then_read (writes-none m0 at (words_of_pair first second)) reads in
    let size = start.size in
    let once : Writes m0 m2 at (0 + 1) (words_of_pair first second) = writes-more start (subst (λ (a : ℕ). Stores m1 m2 a first) (let e : at ≡ at + 0 = omega arith in e) one) (omega arith) refl in
    let same = once.size in
    writes-more once (subst (λ (a : ℕ). Stores m2 m3 a second) (let e : at + 1 ≡ at + (0 + 1) = omega arith in e) two) (omega arith) refl
