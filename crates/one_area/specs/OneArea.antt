-- What is known of a ground with one dynamic area and one level above 0: no word was written, and every object is at level 0.
use Rattle.std.specs.Prelude.{◌≡◌, ℕ, ◌+◌, ◌*◌, ◌≤◌, Some, slice_get, slice_index}
use Rattle.store_word.specs.Words.{Parts, address_of}
use Rattle.mem_port.specs.Store.{Store}
use Rattle.lisp_graph.specs.declared.world.AreaKind.TheVariants.{Dynamic}
use Rattle.area_space.specs.Table.{Table, areas_of, kind_of, quota_of}
use Rattle.area_space.specs.Room.{RoomRule, words_of_class}
use Rattle.area_space.specs.Sound.{IsTable}
use Rattle.area_space.specs.Ground.{IsGround}

-- no word has an address
abbrev pub NamesNothing : Store → Type 0
NamesNothing s = (at to : ℕ) (word : Parts) → slice_get s.words at ≡ Some word → address_of word.content ≡ Some to → ⊥

-- this many words are live and this many old, the live ones are charged, and old objects with this charge remain to be moved
pub record IsOneArea (s : Store) (t : Table) (live_words old_words moving : ℕ) : Type 0 where
  pub top : t.top ≡ 1
  pub one : areas_of t ≡ 1
  pub dynamic : kind_of t 0 ≡ Dynamic
  pub room : RoomRule t
  pub table : IsTable t
  pub ground : IsGround s t
  pub nothing : NamesNothing s
  pub live_0 : words_of_class t 0 ≡ live_words
  pub old_0 : words_of_class t 1 ≡ old_words
  pub live_1 : words_of_class t 2 ≡ 0
  pub old_1 : words_of_class t 3 ≡ 0
  pub live_charge : live_words ≤ slice_index t.charges 0
  pub old_charge : moving ≤ slice_index t.charges 1
  pub within : live_words + old_words ≤ 2 * quota_of t 0
