-- Words that are written, one after another.
use Rattle.std.proofs.Common.{◌≡◌, ℕ, ◌+◌, ◌/◌, ◌%◌, ◌<◌, ◌≤◌, inl, inr, List, length, slice_get, slice_index, sym, ◌∙◌, ap, arith, length-set, Some}
use Rattle.area_space.specs.store_word.Words.{Parts}
use Rattle.area_space.specs.mem_port.Store.{Store, Stores, StoresNothing}
use Rattle.area_space.proofs.mem_port.Lookups.{get-set_same, get-set_other}
use Rattle.area_space.specs.Table.{Table, used_of}
use Rattle.area_space.specs.Ground.{IsGround, NamesNoFree}
use Rattle.lisp_ground.specs.GroundInvariant.{NamesUsed}
use Rattle.lisp_ground.specs.Writes.{Within, WritesWithin}
use Rattle.lisp_ground.proofs.words.PlacedWords.{within_or_not}

-- if nothing is stored, nothing is written
pub reads_within : (old new : Store) (b count : ℕ) → StoresNothing old new → WritesWithin old new b count
reads_within old new b count n = record {
  size = ap length n.words;
  others = λ a out. ap (λ (ws : List Parts). slice_get ws a) n.words;
  levels = n.levels;
  top = n.top;
}

pub stores_within : (old new : Store) (at : ℕ) (word : Parts) → Stores old new at word → WritesWithin old new at 1
stores_within old new at word st = record {
  size = ap length st.words ∙ length-set old.words at word;
  others = λ a out. ap (λ (ws : List Parts). slice_get ws a) st.words ∙ get-set_other old.words at a word (λ e. out (omega arith, omega arith));
  levels = st.levels;
  top = st.top;
}

-- the word that was stored is there
pub stored_there : (old new : Store) (at : ℕ) (word : Parts) → Stores old new at word → at < length old.words → slice_get new.words at ≡ Some word
stored_there old new at word st low = ap (λ (ws : List Parts). slice_get ws at) st.words ∙ get-set_same old.words at word low

-- in a wider range
pub within_wider : (old new : Store) (b count c wide : ℕ) → WritesWithin old new b count → c ≤ b → b + count ≤ c + wide → WritesWithin old new c wide
within_wider old new b count c wide w from to = record {
  size = w.size;
  others = λ a out. w.others a (λ x. (let y = x.0 in let z = x.1 in out (omega arith, omega arith)));
  levels = w.levels;
  top = w.top;
}

-- What is known of a ground stays

-- if the words are below used ends
pub ground_written : (s s' : Store) (t : Table) (b count : ℕ) → IsGround s t → WritesWithin s s' b count → ((a : ℕ) → Within b count a → a % 4096 < used_of t (a / 4096)) → IsGround s' t
ground_written s s' t b count g w below = record {
  size = w.size ∙ g.size;
  levels_size = ap length w.levels ∙ g.levels_size;
  top = w.top ∙ g.top;
  level_live = λ slot r m. ap (λ (ls : List ℕ). slice_index ls r) w.levels ∙ g.level_live slot r m;
  level_old = λ slot r m. ap (λ (ls : List ℕ). slice_index ls r) w.levels ∙ g.level_old slot r m;
  blank = λ a low free. (let size = w.size in w.others a (λ x. (let y = below a x in absurd (omega arith))) ∙ g.blank a (omega arith) free);
}

-- and have no address in a free region
pub named_written : (s s' : Store) (t : Table) (b count : ℕ) → NamesNoFree s t → WritesWithin s s' b count
    → ((a : ℕ) (word : Parts) → Within b count a → slice_get s'.words a ≡ Some word → NamesUsed t word.content) → NamesNoFree s' t
named_written s s' t b count named w safe = λ a to word got has free.
    elim (within_or_not b count a) [
      | inl x ↦ safe a word x got to has free
      | inr out ↦ named a to word (sym (w.others a out) ∙ got) has free
    ]
