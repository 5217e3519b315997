-- Laws of all grounds.
use Rattle.std.specs.Prelude.{◌≡◌, ◌↔◌, ℕ, suc, ◌+◌, ◌*◌, ◌/◌, ◌%◌, ◌<◌, ◌≤◌, ◌==◌, true, IsTrue, List, length, get_or, Option, Some, None, Contains}
use Rattle.area_space.specs.store_word.declared.sizes.TheConstants.{PAGE_WORDS, REGION_WORDS}
use Rattle.area_space.specs.store_word.Words.{Parts}
use Rattle.area_space.specs.store_word.Sets.{HasLevel}
use Rattle.area_space.specs.store_word.declared.levels.Levels.{Levels}
use Rattle.area_space.specs.store_word.declared.word.CdrCode.TheVariants.{Nil as CdrNil, Normal as CdrNormal}
use Rattle.area_space.specs.store_word.declared.word.Content.{Content}
use Rattle.area_space.specs.store_word.declared.word.Content.TheVariants.{List as ListAt}
use Rattle.area_space.specs.lisp_graph.declared.object.Value.{Value}
use Rattle.area_space.specs.lisp_graph.declared.world.AreaRule.{AreaRule}
use Rattle.area_space.specs.lisp_graph.declared.world.World.{World}
use Rattle.area_space.specs.lisp_graph.declared.command.Condemn.{Condemn}
use Rattle.area_space.specs.mem_port.Store.{Store, IsFresh, MarksHold, Stores, StoresNothing}
use Rattle.area_space.specs.declared.classes.Origin.TheVariants.{New, Moved}
use Rattle.area_space.specs.Table.{Table, areas_of, levels_of, slot_of, live, stale, chain, used_of, quota_of, IsUnclassed, IsLive, IsOld}
use Rattle.area_space.specs.Accounts.{account_of, level_total}
use Rattle.area_space.specs.Room.{RoomRule, words_of_class, words_of_area}
use Rattle.area_space.specs.Sound.{IsTable}
use Rattle.area_space.specs.Places.{IsEnd}
use Rattle.area_space.specs.Charges.{AllowsOrigin}
use Rattle.area_space.specs.Flips as A
use Rattle.area_space.specs.Flips.{survivor}
use Rattle.area_space.specs.Fresh.{fresh}
use Rattle.area_space.specs.Ground.{IsGround, NamesNoFree}
use Rattle.obj_layout.specs.Forwards as F
use Rattle.obj_layout.specs.Forwards.{Final, HasFinal, IsFinal}
use Rattle.obj_layout.specs.Shapes.{shape_of, word_count, charge_at, IsWhole}
use Rattle.obj_layout.specs.declared.run.RunEnd.TheVariants.{Nil, Pair, Forwarded}
use Rattle.obj_layout.specs.Runs.{IsRun, HasRun}
use Rattle.lisp_meaning.specs.State.{rule_of, no_aim, State, object}
use Rattle.lisp_meaning.specs.State as M
use Rattle.lisp_meaning.specs.Charges.{account}
use Rattle.lisp_meaning.specs.Charges as C
use Rattle.lisp_meaning.specs.ChargesIn.{spares_in}
use Rattle.lisp_meaning.specs.Opening.{opening}
use Rattle.lisp_meaning.specs.Empty.{IsBare, blank_map}
use Rattle.lisp_meaning.specs.Image.{Live, Old, no_region, region, old_at, is_used, used_words, with_words, word}
use Rattle.lisp_meaning.specs.Classes.{classes, of_class, in_class}
use Rattle.lisp_meaning.specs.Roles.{Kind, Cell, RoleMap, names_as, value_of}
use Rattle.lisp_meaning.specs.Marks.{Marks}
use Rattle.lisp_meaning.specs.Units.{on_page_of}
use Rattle.lisp_meaning.specs.Invariant.{MemoryInvariant}
use Rattle.lisp_meaning.specs.After.{AfterWord}
use Rattle.lisp_meaning.specs.Forwards as G
use Rattle.lisp_meaning.specs.Forwards.{forward_of}
use Rattle.lisp_meaning.specs.Objects.{words_at}
use Rattle.lisp_meaning.specs.TableChanges.{condemned_classes}
use Rattle.lisp_meaning.specs.Transport.{CellsStand}
use Rattle.lisp_meaning.specs.Rewriting.{StandsThere, StoresAt}
use Rattle.lisp_ground.specs.Image.{Rest, image_of, ground_image}
use Rattle.lisp_ground.specs.GroundInvariant.{Agrees, GroundInvariant, NamesUsed}
use Rattle.lisp_meaning.specs.Interpretation.{Interpretation, interpretation}
use Rattle.lisp_ground.specs.Placing.{Opens}
use Rattle.lisp_ground.specs.After.{AfterStore}

-- The image

-- its regions by the chains: those of live chains are live, those of old chains old, all others free
pub record RegionsAreChains : Type 0 where
  pub live_is : (m : Store) (t : Table) (rest : Rest) (r slot : ℕ) → IsTable t → Contains (chain t (live slot)) r
      → get_or (image_of m t rest).regions r no_region ≡ record { standing = Live; area = slot / levels_of t; level = slot % levels_of t; used = used_of t r }
  pub old_is : (m : Store) (t : Table) (rest : Rest) (r slot : ℕ) → IsTable t → Contains (chain t (stale slot)) r
      → get_or (image_of m t rest).regions r no_region ≡ record { standing = Old; area = slot / levels_of t; level = slot % levels_of t; used = used_of t r }
  pub free_is : (m : Store) (t : Table) (rest : Rest) (r : ℕ) → IsTable t → IsUnclassed t r → get_or (image_of m t rest).regions r no_region ≡ no_region
  pub live_only : (m : Store) (t : Table) (rest : Rest) → IsTable t → (a : ℕ) → (region (image_of m t rest) a).standing ≡ Live → IsLive t (a / REGION_WORDS)
  pub old_only : (m : Store) (t : Table) (rest : Rest) → IsTable t → (a : ℕ) → old_at (image_of m t rest) a ≡ true → IsOld t (a / REGION_WORDS)

-- the used words of a live class are those of its chain
abbrev pub UsedWordsAreChains : Type 0
UsedWordsAreChains = (m : Store) (t : Table) (rest : Rest) (area level : ℕ) → IsTable t → level < levels_of t
    → used_words (image_of m t rest) (of_class area level) ≡ words_of_class t (live (slot_of t area level))

-- the law of marks of a memory is that of the image
abbrev pub MarksAreKept : Type 0
MarksAreKept = (m : Store) (t : Table) (rest : Rest) → IsTable t → IsGround m t → NamesNoFree m t → MarksHold m → Marks (image_of m t rest)

-- what always holds of a ground is the invariant of each machine with that ground
abbrev pub GroundIsMachine : Type 0
GroundIsMachine = (m : Store) (t : Table) (rest : Rest) (it : Interpretation)
    → GroundInvariant m t it → MarksHold m → MemoryInvariant (image_of m t rest) it

-- a new memory and a new table represent a world without objects
abbrev pub FreshStands : Type 0
FreshStands = (m : Store) (w : World) (regions : ℕ) → IsFresh m regions w.space.levels → IsTable (fresh regions w.space.levels w.areas) → RoomRule (fresh regions w.space.levels w.areas) → IsBare w
    → GroundInvariant m (fresh regions w.space.levels w.areas) (interpretation blank_map (opening w))

-- the page of the latest transport is the table's
abbrev pub LatestPageIs : Type 0
LatestPageIs = (m : Store) (t : Table) (rest : Rest) (page : ℕ) → t.last ≡ Some page → (a : ℕ) → on_page_of (image_of m t rest).last_moved a ≡ (a / PAGE_WORDS == page)

-- while a collection runs, the level of a survivor is that of the table
abbrev pub SurvivorsAgree : Type 0
SurvivorsAgree = (t : Table) (what : Condemn) (level : ℕ) → t.aim ≡ Some what → survivor t level ≡ M.survivor t.top what level

-- a level is in a set for each layer alike
pub record LevelsAgree : Type 0 where
  pub table : (levels : Levels) (level : ℕ) → A.has_level levels.0 level ≡ M.has_level levels level
  pub set : (levels : Levels) (level : ℕ) → 1 ≤ level → IsTrue (M.has_level levels level) ↔ HasLevel levels.0 level

-- and the classes that a flip of the table condemns are those of the state
abbrev pub CondemnedAgree : Type 0
CondemnedAgree = (t : Table) (top : ℕ) (areas : List AreaRule) (what : Condemn) (slot : ℕ) → Agrees t top areas → A.condemns t what slot ≡ condemned_classes areas what (slot / levels_of t) (slot % levels_of t)

-- A table and a state agree on a collection: on the page of the latest transport, the level of a survivor, the levels of a set, and the classes that a flip condemns.
pub record CollectionsAgree : Type 0 where
  pub latest : LatestPageIs
  pub survivors : SurvivorsAgree
  pub levels : LevelsAgree
  pub condemned : CondemnedAgree

-- Places

-- a place keeps the objects that the ground represents
abbrev pub PlaceKeeps : Type 0
PlaceKeeps = (m m' : Store) (t t' : Table) (opened : Option ℕ) (area level : ℕ) (it : Interpretation)
    → GroundInvariant m t it → area < areas_of t → level < levels_of t → Opens m t m' t' opened area level → GroundInvariant m' t' it

-- The used words of an area and those to be placed are at most twice its quota:
-- those of a new object that fits the quota,
abbrev pub RoomForNew : Type 0
RoomForNew = (m : Store) (t : Table) (it : Interpretation) → GroundInvariant m t it
    → (area words charge : ℕ) → area < length it.areas → words ≤ charge → account it.top it.store it.aim area + charge ≤ (rule_of it.areas area).quota → words_of_area t area + words ≤ 2 * quota_of t area

-- those of objects that move out of an old class that is charged for them,
abbrev pub RoomForMoved : Type 0
RoomForMoved = (m : Store) (t : Table) (it : Interpretation) → GroundInvariant m t it
    → (area words charge from : ℕ) → area < length it.areas → words ≤ charge → from < suc it.top → charge ≤ (ground_image m t).old_charge area from → words_of_area t area + words ≤ 2 * quota_of t area

-- and the two of a live cell that becomes a pair
abbrev pub RoomForSpare : Type 0
RoomForSpare = (m : Store) (t : Table) (it : Interpretation) → GroundInvariant m t it
    → (area words level : ℕ) → area < length it.areas → level < suc it.top → words ≤ spares_in it.store it.map (classes (ground_image m t)) (in_class area level) → words_of_area t area + words ≤ 2 * quota_of t area

-- There is room for the words of a new object, for those of objects that move, and for those of a cell that becomes a pair.
pub record PlacesHaveRoom : Type 0 where
  pub new : RoomForNew
  pub moved : RoomForMoved
  pub spare : RoomForSpare

-- the account of an area that the table keeps is that of its objects
abbrev pub AccountsAgree : Type 0
AccountsAgree = (m : Store) (t : Table) (it : Interpretation) → GroundInvariant m t it → (area : ℕ) → account_of t area ≡ account it.top it.store it.aim area

-- and while no collection runs the total of a level that it keeps is that of the level's objects and husks
abbrev pub LevelTotalsOn : Type 0
LevelTotalsOn = (m : Store) (t : Table) (k : RoleMap) (s : State) → GroundInvariant m t (record (interpretation k s) { aim = no_aim }) → (level : ℕ) → level ≤ s.space.levels → level_total t level ≡ C.level_total s level

-- so a new object that fits the quota of its area may be committed,
abbrev pub NewAllowed : Type 0
NewAllowed = (m : Store) (t : Table) (it : Interpretation) → GroundInvariant m t it
    → (area level at words : ℕ) → area < length it.areas → level < levels_of t → IsEnd t (slot_of t area level) at words
    → (charge : ℕ) → account it.top it.store it.aim area + charge ≤ (rule_of it.areas area).quota → (slot : ℕ) → IsEnd t slot at words → AllowsOrigin t slot charge New

-- and one that moves out of an old class that is charged for it
abbrev pub MovedAllowed : Type 0
MovedAllowed = (m : Store) (t : Table) (it : Interpretation) → GroundInvariant m t it
    → (area level at words : ℕ) → area < length it.areas → level < levels_of t → IsEnd t (slot_of t area level) at words
    → (charge from : ℕ) → from < levels_of t → charge ≤ (ground_image m t).old_charge area from → (slot : ℕ) → IsEnd t slot at words
    → AllowsOrigin t slot charge (Moved (record { area = area; level = from; stale = true }))

-- The table's accounts and totals are those of the objects, so what the quota allows may be committed.
pub record CommitsAreAllowed : Type 0 where
  pub accounts : AccountsAgree
  pub levels : LevelTotalsOn
  pub new : NewAllowed
  pub moved : MovedAllowed

-- Words

-- if nothing is stored, the ground represents what it did
abbrev pub ReadsKeep : Type 0
ReadsKeep = (m m' : Store) (t : Table) (it : Interpretation) → GroundInvariant m t it → StoresNothing m m' → GroundInvariant m' t it

-- a word with a value has no address in a free region
abbrev pub ValuesNameUsed : Type 0
ValuesNameUsed = (m : Store) (t : Table) (it : Interpretation) → GroundInvariant m t it
    → (content : Content) (v : Value) → value_of it.map.role content ≡ Some v → NamesUsed t content

-- a word with a value is stored below a used end, with the cdr code of the word before it: the image has the same store; and what the image keeps after it, the ground keeps
pub record StoreKeeps : Type 0 where
  pub stored : (m m' : Store) (t : Table) (it : Interpretation) → GroundInvariant m t it
      → (a : ℕ) (w : Parts) (v : Value) → Stores m m' a w → IsTrue (is_used (ground_image m t) a) → value_of it.map.role w.content ≡ Some v
      → w.cdr ≡ (word (ground_image m t) a).cdr → StoresAt (ground_image m t) m'.words it.map a v
  pub kept : (m m' : Store) (t : Table) (it : Interpretation) → GroundInvariant m t it
      → (a : ℕ) (w : Parts) (v : Value) → Stores m m' a w → IsTrue (is_used (ground_image m t) a) → value_of it.map.role w.content ≡ Some v
      → (s' : M.Store) → AfterWord (ground_image m t) (with_words (ground_image m t) m'.words) it s' → AfterStore m t m' it s'

-- Reads keep what the ground represents, and so does a store of a word with a value, if the image keeps it.
pub record WordsKeepGrounds : Type 0 where
  pub reads : ReadsKeep
  pub stores : StoreKeeps
  pub named : ValuesNameUsed

-- Objects

-- both layers read from words the same forwards, the same final addresses, and the same number of words of an object
pub record WordsAgree : Type 0 where
  pub forward : (content : Content) → F.forward_of content ≡ forward_of content
  pub final : (m : Store) (t : Table) (a b : ℕ) → G.Final (ground_image m t) a b → Final m.words a b
  pub size : (w : Parts) → words_at w ≡ word_count (shape_of w)

-- the final address of an address that has a name is the place of the object with this name
pub record FinalsArePlaces : Type 0 where
  pub has_final : (m : Store) (t : Table) (it : Interpretation) → GroundInvariant m t it
      → (kind : Kind) (a n : ℕ) → names_as kind (it.map.role a) ≡ Some n → HasFinal m.words a
  pub is_place : (m : Store) (t : Table) (it : Interpretation) → GroundInvariant m t it
      → (kind : Kind) (a n : ℕ) → names_as kind (it.map.role a) ≡ Some n → (b : ℕ) → Final m.words a b → b ≡ it.map.at n
  pub stands : (m : Store) (t : Table) (it : Interpretation) → GroundInvariant m t it
      → (kind : Kind) (a n : ℕ) → names_as kind (it.map.role a) ≡ Some n → (b : ℕ) → Final m.words a b → IsFinal m.words b → StandsThere (ground_image m t) it.map kind b n

-- an object at its place is charged what its words show, and all its words are in the memory
pub record ChargesAreWords : Type 0 where
  pub charge_is : (m : Store) (t : Table) (it : Interpretation) → GroundInvariant m t it
      → (b n : ℕ) (kind : Kind) → StandsThere (ground_image m t) it.map kind b n → charge_at m.words b ≡ (object it.store n).charge
  pub whole : (m : Store) (t : Table) (it : Interpretation) → GroundInvariant m t it
      → (b n : ℕ) (kind : Kind) → StandsThere (ground_image m t) it.map kind b n → IsWhole m.words b

-- a compact run of at most 1,024 cells begins at each cell
abbrev pub CellsHaveRuns : Type 0
CellsHaveRuns = (m : Store) (t : Table) (it : Interpretation) → GroundInvariant m t it
    → (b n i : ℕ) → it.map.role b ≡ Cell n i → HasRun m.words b

-- the end of a compact run shows how its cells may move: up to the last cell of a list, with the pair that follows, or cut before a forward, whose final address is a reference to the rest of the list
pub record RunEndsAre : Type 0 where
  pub nil : (m : Store) (t : Table) (it : Interpretation) → GroundInvariant m t it
      → (b cells : ℕ) → IsRun m.words b (record { cells = suc cells; ending = Nil })
      → CellsStand (ground_image m t) b cells × (forward_of (word (ground_image m t) (b + cells)).content ≡ None) × ((word (ground_image m t) (b + cells)).cdr ≡ CdrNil)
  pub pair : (m : Store) (t : Table) (it : Interpretation) → GroundInvariant m t it
      → (b cells : ℕ) → IsRun m.words b (record { cells = cells; ending = Pair })
      → CellsStand (ground_image m t) b cells × (forward_of (word (ground_image m t) (b + cells)).content ≡ None) × ((word (ground_image m t) (b + cells)).cdr ≡ CdrNormal)
  pub cut : (m : Store) (t : Table) (it : Interpretation) → GroundInvariant m t it
      → (b n i cells to : ℕ) → it.map.role b ≡ Cell n i → IsRun m.words b (record { cells = suc cells; ending = Forwarded to })
      → CellsStand (ground_image m t) b (suc cells) × (value_of it.map.role (ListAt to) ≡ value_of it.map.role (ListAt (suc (b + cells))))
