-- Changes of objects at their places keep the invariant.
use Rattle.std.specs.Prelude.{◌≡◌, ℕ, suc, ◌+◌, ◌<◌, ◌≤◌, List, length, slice_set, Some, None}
use Rattle.lisp_graph.specs.store_word.Words.{Parts, null_word}
use Rattle.lisp_graph.specs.store_word.declared.word.CdrCode.TheVariants.{Next as CdrNext, Normal as CdrNormal}
use Rattle.lisp_graph.specs.store_word.declared.word.Content.TheVariants.{Nil as NilWord, Header, HeaderForward}
use Rattle.lisp_graph.specs.declared.object.Value.{Value}
use Rattle.lisp_graph.specs.declared.object.Body.TheVariants.{Cons, Block}
use Rattle.lisp_graph.specs.declared.object.Value.TheVariants as V
use Rattle.lisp_graph.specs.declared.command.Command.TheVariants as C
use Rattle.lisp_graph.specs.Graph.{value_at}
use Rattle.lisp_graph.specs.Effect.{grown_length, grown_block, grown}
use Rattle.lisp_meaning.specs.machine.State.{rule_of, State, object, in_use}
use Rattle.lisp_meaning.specs.machine.Changes.{put_body, with_grown}
use Rattle.lisp_meaning.specs.machine.Charges.{account}
use Rattle.lisp_meaning.specs.machine.Flip.{graph_of}
use Rattle.lisp_meaning.specs.machine.Step.{allocated, level_now}
use Rattle.lisp_meaning.specs.reading.Image.{Live, Image, word, region, with_words}
use Rattle.lisp_meaning.specs.reading.Classes.{classes, class_at}
use Rattle.lisp_meaning.specs.reading.Forwards.{forward_of}
use Rattle.lisp_meaning.specs.invariants.Roles.{Kind, AsCons, AsBlock, RoleMap, names_as, value_of}
use Rattle.lisp_meaning.specs.reading.Marks.{Marks}
use Rattle.lisp_meaning.specs.invariants.Placed.{Placed, Recharged}
use Rattle.lisp_meaning.specs.invariants.Invariant.{MemoryInvariant}
use Rattle.lisp_meaning.specs.invariants.Interpretation.{Interpretation, interpretation}
use Rattle.lisp_meaning.specs.keeping.After.{After, AfterWord}

-- a reference to a means n, and the object is at a
pub record StandsThere (g : Image) (k : RoleMap) (kind : Kind) (a n : ℕ) : Type 0 where
  pub named : names_as kind (k.role a) ≡ Some n
  pub here : forward_of (word g a).content ≡ None

-- Stores

-- one word is written, with this value, and keeps its cdr code
pub record StoresAt (g : Image) (ws : List Parts) (k : RoleMap) (a : ℕ) (value : Value) : Type 0 where
  pub value_is : value_of k.role (word (with_words g ws) a).content ≡ Some value
  pub code : (word (with_words g ws) a).cdr ≡ (word g a).cdr
  pub others : (c : ℕ) → (c ≡ a → ⊥) → word (with_words g ws) c ≡ word g c
  pub marks : Marks (with_words g ws)

-- into a car
abbrev pub CarStored : Type 0
CarStored =
    (g : Image) (ws : List Parts) (it : Interpretation) (a n : ℕ) (car cdr new : Value)
    → MemoryInvariant g it → StandsThere g it.map AsCons a n → (object it.store n).body ≡ Cons car cdr → StoresAt g ws it.map a new
    → AfterWord g (with_words g ws) it (put_body it.store n (Cons new cdr))

-- into the cdr of a pair
abbrev pub CdrStored : Type 0
CdrStored =
    (g : Image) (ws : List Parts) (it : Interpretation) (a n : ℕ) (car cdr new : Value)
    → MemoryInvariant g it → StandsThere g it.map AsCons a n → (word g a).cdr ≡ CdrNormal → (object it.store n).body ≡ Cons car cdr → StoresAt g ws it.map (suc a) new
    → AfterWord g (with_words g ws) it (put_body it.store n (Cons car new))

-- into a field
abbrev pub FieldStored : Type 0
FieldStored =
    (g : Image) (ws : List Parts) (it : Interpretation) (a n i code : ℕ) (fields : List Value) (new : Value)
    → MemoryInvariant g it → StandsThere g it.map AsBlock a n → (object it.store n).body ≡ Block code fields → i < length fields → StoresAt g ws it.map (suc a + i) new
    → AfterWord g (with_words g ws) it (put_body it.store n (Block code (slice_set fields i new)))

-- a word that has a value gets another content with that value: no object changes
abbrev pub Resettled : Type 0
Resettled =
    (g : Image) (ws : List Parts) (it : Interpretation) (a : ℕ) (value : Value)
    → MemoryInvariant g it → value_of it.map.role (word g a).content ≡ Some value → StoresAt g ws it.map a value
    → AfterWord g (with_words g ws) it it.store

-- Objects that are relocated

-- An object that is live at a gets `count` words from b on in its class, in which its charge and its husk change; its first word becomes a HEADER-FORWARD, and the `blank` words after it NULL. `g1` has the new words, `ws` the others too
pub record Relays (g g1 : Image) (ws : List Parts) (a b count area level before after husk blank : ℕ) : Type 0 where
  pub live : class_at (classes g) a ≡ record { area = area; level = level; standing = Live }
  pub placed : Placed g g1 b count area level
  pub charged : Recharged g g1 area level before after husk
  pub forward : (word (with_words g1 ws) a).content ≡ HeaderForward b
  pub blanks : (j : ℕ) → 0 < j → j < suc blank → word (with_words g1 ws) (a + j) ≡ null_word
  pub others : (c : ℕ) → ((a ≤ c) × (c < a + suc blank) → ⊥) → word (with_words g1 ws) c ≡ word g1 c
  pub marks : Marks (with_words g1 ws)

-- a cell becomes a pair with another cdr
abbrev pub CellRelaid : Type 0
CellRelaid =
    (g g1 : Image) (ws : List Parts) (it : Interpretation) (a b n area level : ℕ) (car cdr new : Value)
    → MemoryInvariant g it → StandsThere g it.map AsCons a n → ((word g a).cdr ≡ CdrNormal → ⊥) → (object it.store n).body ≡ Cons car cdr
    → Relays g g1 ws a b 2 area level 3 3 0 0
    → value_of it.map.role (word g1 b).content ≡ Some car → (word g1 b).cdr ≡ CdrNormal
    → value_of it.map.role (word g1 (suc b)).content ≡ Some new → (word g1 (suc b)).cdr ≡ CdrNext
    → After g (with_words g1 ws) it (put_body it.store n (Cons car new)) 0 AsCons b 1 (λ i. n)

-- the words of a block that grew: a header, the old fields and then NIL
pub record WritesGrown (g g1 : Image) (a b code size wide : ℕ) : Type 0 where
  pub header : (word g1 b).content ≡ Header code wide
  pub header_code : (word g1 b).cdr ≡ CdrNext
  pub copied : (j : ℕ) → j < size → (word g1 (suc b + j)).content ≡ (word g (suc a + j)).content
  pub nils : (j : ℕ) → size ≤ j → j < wide → (word g1 (suc b + j)).content ≡ NilWord

-- a block becomes a wider one, and its old words become a husk
abbrev pub BlockGrown : Type 0
BlockGrown =
    (g g1 : Image) (ws : List Parts) (it : Interpretation) (a b n code wanted area level : ℕ) (fields : List Value)
    → MemoryInvariant g it → StandsThere g it.map AsBlock a n → (object it.store n).body ≡ Block code fields → length fields < wanted → wanted ≤ 2047
    → account it.top it.store it.aim area + suc (grown_length (length fields) wanted) ≤ (rule_of it.areas area).quota
    → Relays g g1 ws a b (suc (grown_length (length fields) wanted)) area level (suc (length fields)) (suc (grown_length (length fields) wanted)) (suc (length fields)) (length fields)
    → WritesGrown g g1 a b code (length fields) (grown_length (length fields) wanted)
    → After g (with_words g1 ws) it (with_grown it.store n (grown_block area code fields (grown_length (length fields) wanted)) area level (suc (length fields))) 0 AsBlock b 1 (λ i. n)

-- an object in a live region is at its present level: its own or, if it is condemned, its survivor's
abbrev pub LiveLevel : Type 0
LiveLevel =
    (g : Image) (k : RoleMap) (s : State) (n : ℕ)
    → MemoryInvariant g (interpretation k s) → in_use s.store n → (region g (k.at n)).standing ≡ Live
    → (region g (k.at n)).level ≡ level_now s n

-- the store after a `grow` that isn't refused is the one with the wider block and the husk
abbrev pub GrownStore : Type 0
GrownStore =
    (s : State) (target wanted n code : ℕ) (fields : List Value)
    → value_at s.registers target ≡ V.Ref n → (object s.store n).body ≡ Block code fields → length fields < wanted
    → (allocated s (C.Grow target wanted) (object s.store n).area (grown (graph_of s) n code fields wanted).graph).store
    ≡ with_grown s.store n (grown_block (object s.store n).area code fields (grown_length (length fields) wanted)) (object s.store n).area (level_now s n) (suc (length fields))

-- A store into a part of an object, another content with the same value, a cell that becomes a pair, and a block that grows keep the invariant.
pub record StoresKeep : Type 0 where
  pub car : CarStored
  pub cdr : CdrStored
  pub field : FieldStored
  pub same_value : Resettled
  pub cell_becomes_pair : CellRelaid
  pub block_grows : BlockGrown
  pub level : LiveLevel
  pub grown_store : GrownStore
