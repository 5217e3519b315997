-- A block that grows on a ground.
use Rattle.std.specs.Prelude.{◌≡◌, ◌⊎◌, ℕ, zero, suc, ◌+◌, ◌/◌, ◌<◌, ◌≤◌, if◌then◌else◌, nat_lt, List, length, Some, Contains}
use Rattle.store_word.specs.Words.{Parts, null_word}
use Rattle.store_word.specs.declared.word.CdrCode.TheVariants.{Next}
use Rattle.store_word.specs.declared.word.Content.{Content}
use Rattle.store_word.specs.declared.word.Content.TheVariants.{Nil as NilWord, Header, HeaderForward}
use Rattle.store_word.specs.declared.sizes.TheConstants.{REGION_WORDS}
use Rattle.area_space.specs.lisp_graph.declared.object.Value.{Value}
use Rattle.area_space.specs.lisp_graph.declared.object.Value.TheVariants as V
use Rattle.area_space.specs.lisp_graph.declared.object.Body.TheVariants.{Block}
use Rattle.area_space.specs.lisp_graph.Effect.{grown_block, grown_length}
use Rattle.mem_port.specs.Store as Memory
use Rattle.area_space.specs.Table.{Table, areas_of, chain, live, quota_of, slot_of}
use Rattle.area_space.specs.Charges.{husked}
use Rattle.area_space.specs.Accounts.{account_of}
use Rattle.obj_layout.specs.Forwards.{word_at}
use Rattle.transporter.specs.lisp_meaning.State.{Store, object, rule_of}
use Rattle.transporter.specs.lisp_meaning.Charges.{account}
use Rattle.transporter.specs.lisp_meaning.Changes.{with_grown}
use Rattle.transporter.specs.lisp_meaning.Image.{region}
use Rattle.transporter.specs.lisp_meaning.Roles.{AsBlock, Kind, RoleMap, Refines, names_as, value_of}
use Rattle.transporter.specs.lisp_ground.Image.{ground_image}
use Rattle.transporter.specs.lisp_ground.GroundInvariant.{GroundInvariant}
use Rattle.transporter.specs.lisp_meaning.Interpretation.{Interpretation}
use Rattle.transporter.specs.lisp_ground.After.{old_on}
use Rattle.transporter.specs.lisp_ground.Writes.{Within}
use Rattle.transporter.specs.Making.{PlacesNew}
use Rattle.transporter.specs.Settling.{RefersToOld}
use Rattle.transporter.specs.Writes.{Writes}
use Rattle.block_store.specs.declared.header.Head.{Head}
use Rattle.block_store.specs.Headers.{TellsArea, TellsLength}

-- Words

-- the words of a block that grew, one by one: a header, the fields that it had, and NIL in each field after them
abbrev pub grown_word : List Parts → ℕ → ℕ → ℕ → ℕ → ℕ → Parts
grown_word words here code count wide zero = record { cdr = Next; content = Header code wide }
grown_word words here code count wide (suc i) = if nat_lt i count then word_at words (suc here + i) else record { cdr = Next; content = NilWord }

-- the words of the husk at its old place: a HEADER-FORWARD to the block, and NULL
abbrev pub husk_word : ℕ → ℕ → Parts
husk_word at zero = record { cdr = Next; content = HeaderForward at }
husk_word at (suc i) = null_word

-- a block can be written again at an address, with more fields: both places are in a memory of these words, and apart
pub record CanLayAnew (words : List Parts) (head : Head) (to wide : ℕ) : Type 0 where
  pub few : wide ≤ 2047
  pub more : head.length < wide
  pub from_inside : head.at + head.length + 1 ≤ length words
  pub to_inside : to + wide + 1 ≤ length words
  pub apart : (head.at + head.length + 1 ≤ to) ⊎ (to + wide + 1 ≤ head.at)

-- a block is written again at an address, with `wide` fields, and then a husk in its old place; no other word changes
pub record LaysAnew (old new : Memory.Store) (head : Head) (at wide : ℕ) : Type 0 where
  pub copied : Memory.Store
  pub writes : Writes old copied at (wide + 1) (grown_word old.words head.at head.code head.length wide)
  pub leaves : Writes copied new head.at (head.length + 1) (husk_word at)

-- the old place of the block is its husk, exactly its words; the words of the grown block are at another address; no other word has changed
pub record IsHusk (old new : Memory.Store) (here at wanted : ℕ) : Type 0 where
  pub code : ℕ
  pub count : ℕ
  pub header : (word_at old.words here).content ≡ Header code count
  pub husk : (i : ℕ) → i < count + 1 → word_at new.words (here + i) ≡ husk_word at i
  pub grown : (i : ℕ) → i < grown_length count wanted + 1 → word_at new.words (at + i) ≡ grown_word old.words here code count (grown_length count wanted) i
  pub others : (a : ℕ) → (Within here (count + 1) a → ⊥) → (Within at (grown_length count wanted + 1) a → ⊥) → word_at new.words a ≡ word_at old.words a

-- the words of the grown block are placed in the class of the old one, which is charged for them, and then the words of the old one become a husk. (Six parameters: the memory before, the table before and after, the address of the block before and after, and the number of fields that is wanted.)
pub record PlacesGrown (m : Memory.Store) (t t' : Table) (here at wanted : ℕ) : Type 0 where
  pub code : ℕ
  pub count : ℕ
  pub header : (word_at m.words here).content ≡ Header code count
  pub area : ℕ
  pub level : ℕ
  pub class : Contains (chain t (live (slot_of t area level))) (here / REGION_WORDS)
  pub table : Table
  pub placed : PlacesNew t table area level at (grown_length count wanted + 1) (grown_length count wanted + 1)
  pub husk : t' ≡ husked table (live (slot_of t area level)) (count + 1)

-- Objects

-- the ground represents some objects, of which the word has a value; if that refers to a block, it isn't old, has fewer fields than requested, and its new charge fits the quota of its area
pub record CanGrow (m : Memory.Store) (t : Table) (of : Parts) (wanted : ℕ) : Type 0 where
  pub it : Interpretation
  pub kept : GroundInvariant m t it
  pub value : Value
  pub value_is : value_of it.map.role of.content ≡ Some value
  pub young : RefersToOld t of → ⊥
  pub fewer : (n code : ℕ) (fields : List Value) → value ≡ V.Ref n → (object it.store n).body ≡ Block code fields → length fields < wanted
  pub quota : (n code : ℕ) (fields : List Value) → value ≡ V.Ref n → (object it.store n).body ≡ Block code fields
      → account it.top it.store it.aim (object it.store n).area + suc (grown_length (length fields) wanted) ≤ (rule_of it.areas (object it.store n).area).quota

-- The ground represents these objects by a later map, under which what meant a name still means it, and a reference of this kind to an address means a name. The charges in old regions are the same, and `words` words were placed.
pub record LaidOn (m : Memory.Store) (t : Table) (m' : Memory.Store) (t' : Table) (it : Interpretation) (s' : Store) (kind : Kind) (at n words : ℕ) : Type 0 where
  pub map : RoleMap
  pub kept : GroundInvariant m' t' (record it { map = map; store = s' })
  pub refines : Refines it.map.role map.role
  pub there : names_as kind (map.role at) ≡ Some n
  pub old : old_on m' t' s' it.aim map.at ≡ old_on m t it.store it.aim it.map.at
  pub placed : t'.placed ≡ t.placed + words

-- a block grew: whatever objects the ground represented, it represents them with the wider block at an address, and with the husk of the old one in its class. (Seven parameters: memory and table, each before and after, the block, the number of fields that is wanted, and the new address.)
abbrev pub GrowsBlock : Memory.Store → Table → Memory.Store → Table → Content → ℕ → ℕ → Type 0
GrowsBlock m t m' t' content wanted at =
    (it : Interpretation) (n code level : ℕ) (fields : List Value)
    → GroundInvariant m t it → value_of it.map.role content ≡ Some (V.Ref n) → (object it.store n).body ≡ Block code fields → (region (ground_image m t) (it.map.at n)).level ≡ level
    → LaidOn m t m' t' it (with_grown it.store n (grown_block (object it.store n).area code fields (grown_length (length fields) wanted)) (object it.store n).area level (suc (length fields))) AsBlock at n (suc (grown_length (length fields) wanted))

-- the block to which the content refers has fewer fields than requested, and its new charge fits the quota of its area
pub record GrowsWithin (m : Memory.Store) (t : Table) (content : Content) (wanted : ℕ) : Type 0 where
  pub count : ℕ
  pub area : ℕ
  pub length_is : TellsLength m t content count
  pub area_is : TellsArea m t content area
  pub area_in : area < areas_of t
  pub fewer : count < wanted
  pub fits : account_of t area + suc (grown_length count wanted) ≤ quota_of t area
