-- Which words move as words are settled, one after another.
use Rattle.std.specs.Prelude.{◌≡◌, ℕ, suc, ◌/◌, ◌≤◌, Some}
use Rattle.store_word.specs.Words.{Parts}
use Rattle.store_word.specs.declared.sizes.TheConstants.{REGION_WORDS}
use Rattle.mem_port.specs.Store.{Store, StoresNothing}
use Rattle.area_space.specs.Table.{Table, IsOld}
use Rattle.obj_layout.specs.Forwards.{word_at}
use Rattle.transporter.specs.Growth.{OpensOrStays}
use Rattle.transporter.specs.LiveWordsUnchanged.{IsLiveWord}
use Rattle.transporter.specs.Settling.{reference_of, readdressed, RefersToOld, Replaces}
use Rattle.transporter.specs.Transports.{MovesFrom}

-- A word is settled: without an old address it is unchanged, and nothing moves; otherwise the object that it refers to is transported, and it gets the new address. (Six parameters: memory, table and word, each before and after.)
pub data MovesFor (m : Store) (t : Table) (m' : Store) (t' : Table) (old new : Parts) : Type 0 where
  stays : (RefersToOld t old → ⊥) → StoresNothing m m' → t' ≡ t → new ≡ old → MovesFor m t m' t' old new
  moves : (at to : ℕ) → reference_of old.content ≡ Some at → IsOld t (at / REGION_WORDS) → MovesFrom m t m' t' at to → new ≡ readdressed old to → MovesFor m t m' t' old new

-- The word at an address is settled, and the result is stored there if it differs
pub record FetchMoves (m : Store) (t : Table) (m' : Store) (t' : Table) (a : ℕ) : Type 0 where
  pub between : Store
  pub moves : MovesFor m t between t' (word_at m.words a) (word_at m'.words a)
  pub stored : Replaces between m' a (word_at m.words a) (word_at m'.words a)

-- Nothing is placed: only used words of live regions change, and they keep their cdr codes; a region may be opened, and the set of pages may change
pub record WritesLive (m : Store) (t : Table) (m' : Store) (t' : Table) : Type 0 where
  pub room : Table
  pub opens : OpensOrStays t room
  pub but : t' ≡ record room { pages = t'.pages }
  pub words : (a : ℕ) → (IsLiveWord t a → ⊥) → word_at m'.words a ≡ word_at m.words a
  pub codes : (a : ℕ) → (word_at m'.words a).cdr ≡ (word_at m.words a).cdr

-- this many transports lead from one ground to another; before and after each of them nothing is placed
pub data Transported (m : Store) (t : Table) : Store → Table → ℕ → Type 0 where
  none : Transported m t m t 0
  written : {m1 m2 : Store} {t1 t2 : Table} {count : ℕ} → Transported m t m1 t1 count → WritesLive m1 t1 m2 t2 → Transported m t m2 t2 count
  moved : {m1 m2 : Store} {t1 t2 : Table} {count at to : ℕ} → Transported m t m1 t1 count → MovesFrom m1 t1 m2 t2 at to → Transported m t m2 t2 (suc count)

-- whatever is placed between two grounds is placed by transports, at most this many
pub record MovesAtMost (m : Store) (t : Table) (m' : Store) (t' : Table) (most : ℕ) : Type 0 where
  pub count : ℕ
  pub few : count ≤ most
  pub moves : Transported m t m' t' count
