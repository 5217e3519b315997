-- What it means to settle a word (to apply the read barrier).
use Rattle.std.specs.Prelude.{◌≡◌, ◌≢◌, ◌⊎◌, ℕ, ◌/◌, List, Option, Some, None, IsTrue}
use Rattle.store_word.specs.Words.{Parts}
use Rattle.store_word.specs.declared.word.Content.{Content}
use Rattle.store_word.specs.declared.word.Content.TheVariants.{List as ListAt, Struct as StructAt}
use Rattle.store_word.specs.declared.sizes.TheConstants.{REGION_WORDS}
use Rattle.area_space.specs.lisp_graph.declared.object.Value.{Value}
use Rattle.area_space.specs.lisp_graph.declared.object.Value.TheVariants as V
use Rattle.mem_port.specs.Store.{Store, Stores, StoresNothing}
use Rattle.area_space.specs.Table.{Table, IsOld}
use Rattle.lisp_ground.specs.lisp_meaning.State.{Condemned}
use Rattle.lisp_ground.specs.lisp_meaning.State as M
use Rattle.lisp_ground.specs.lisp_meaning.Sound.{is_kept, Reaches}
use Rattle.lisp_ground.specs.lisp_meaning.Roles.{value_of}
use Rattle.lisp_ground.specs.GroundInvariant.{GroundInvariant}
use Rattle.lisp_ground.specs.lisp_meaning.Interpretation.{Interpretation}
use Rattle.transporter.specs.Transports.{RepresentedByLaterMap}

-- the address of a reference
abbrev pub reference_of : Content → Option ℕ
reference_of (ListAt at) = Some at
reference_of (StructAt at) = Some at
reference_of _ = None

-- a reference of the same kind to another address
abbrev pub content_to : Content → ℕ → Content
content_to (ListAt at) to = ListAt to
content_to (StructAt at) to = StructAt to
content_to content to = content

-- the same word with another address
abbrev pub readdressed : Parts → ℕ → Parts
readdressed word to = record word { content = content_to word.content to }

-- a word is a reference to an old address
abbrev pub RefersToOld : Table → Parts → Type 0
RefersToOld t word = (at : ℕ) × (reference_of word.content ≡ Some at) × IsOld t (at / REGION_WORDS)

-- a collection runs, and keeps the object that a value refers to
pub record IsKeptValue (t : Table) (registers : List Value) (s : M.Store) (aim : Condemned) (v : Value) : Type 0 where
  pub running : t.aim ≡ Some aim.what
  pub reaches : Reaches registers s aim
  pub name : (n : ℕ) → v ≡ V.Ref n → IsTrue (is_kept s aim n)

-- a word that is a reference has a value and, if its address is old, one that the running collection keeps. (Six parameters: memory and table with what they represent, the values of the registers, and a word with its value.)
pub record CanSettle (m : Store) (t : Table) (it : Interpretation) (registers : List Value) (word : Parts) (v : Value) : Type 0 where
  pub kept : GroundInvariant m t it
  pub value : (at : ℕ) → reference_of word.content ≡ Some at → value_of it.map.role word.content ≡ Some v
  pub survives : RefersToOld t word → IsKeptValue t registers it.store it.aim v

-- by some map, for some objects
pub record IsSettleable (m : Store) (t : Table) (word : Parts) : Type 0 where
  pub it : Interpretation
  pub registers : List Value
  pub value : Value
  pub can : CanSettle m t it registers word value

-- The word is unchanged, or has a live address in place of an old one
pub record Settles (t t' : Table) (old new : Parts) : Type 0 where
  pub is : (new ≡ old) ⊎ ((to : ℕ) × RefersToOld t old × (new ≡ readdressed old to))
  pub fresh : RefersToOld t' new → ⊥

-- the ground represents the same objects by a later map, by which the new word has each value that the old one had. (Seven parameters: memory, table and word, each before and after, and what is represented.)
pub record SettlesOn (m : Store) (t : Table) (m' : Store) (t' : Table) (it : Interpretation) (old new : Parts) : Type 0 where
  pub later : RepresentedByLaterMap m t m' t' it
  pub value : (v : Value) → value_of it.map.role old.content ≡ Some v → value_of later.map.role new.content ≡ Some v

-- whatever objects the ground represented: if the word could be settled, it represents them by a later map, by which the new word has each value of the old one. (Six parameters: memory, table and word, each before and after.)
abbrev pub SettlesAlways : Store → Table → Store → Table → Parts → Parts → Type 0
SettlesAlways m t m' t' old new = (it : Interpretation) (registers : List Value) (v : Value) → CanSettle m t it registers old v → SettlesOn m t m' t' it old new

-- whatever objects the ground represented: if the word could be settled, it represents them by a later map
abbrev pub RemainsRepresented : Store → Table → Store → Table → Parts → Type 0
RemainsRepresented m t m' t' word = (it : Interpretation) (registers : List Value) (v : Value) → CanSettle m t it registers word v → RepresentedByLaterMap m t m' t' it

-- a word is stored in place of another, if they differ
abbrev pub Replaces : Store → Store → ℕ → Parts → Parts → Type 0
Replaces s s' at old new = ((new ≡ old) × StoresNothing s s') ⊎ ((new ≢ old) × Stores s s' at new)
