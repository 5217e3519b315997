-- Memory images that represent no state, each wrong in one point, beside an image that is right in it.
use Rattle.std.specs.Prelude.{ℕ, ◌+◌, ◌*◌, Bool, true, false, ◌&&◌, ◌==◌, nat_lt, if◌then◌else◌, List, [], ◌∷◌, codes, pos, Option, Some, None}
use Rattle.lisp_graph.specs.store_word.Words.{Parts, null_word}
use Rattle.lisp_graph.specs.store_word.declared.word.CdrCode.TheVariants.{Next as CdrNext, Nil as CdrNil, Normal as CdrNormal}
use Rattle.lisp_graph.specs.store_word.declared.word.Content.TheVariants.{Nil, Fixnum, List as ListAt, Header, HeaderForward}
use Rattle.lisp_graph.specs.declared.object.Value.TheVariants as V
use Rattle.lisp_graph.specs.declared.object.Body.TheVariants as B
use Rattle.lisp_graph.specs.declared.command.Condemn.{Condemn}
use Rattle.lisp_graph.specs.declared.command.Condemn.TheVariants.{Full, Chosen}
use Rattle.lisp_graph.specs.declared.world.AreaKind.TheVariants.{Dynamic}
use Rattle.lisp_meaning.specs.machine.State.{Condemned, no_aim, Phase, Idle, Running, Store}
use Rattle.lisp_meaning.specs.reading.Image.{Standing, Free, Live, Old, Region, Image}
use Rattle.lisp_meaning.specs.reading.Objects.{Objects}
use Rattle.lisp_meaning.specs.reading.Marks.{Marks}
use Rattle.lisp_meaning.specs.reading.Stands.{Classes, IsScanned, PhaseOf, Accounts, Room, Work}
use Rattle.lisp_meaning.specs.examples.Worked.{area, image, nothing}

-- a region of area 0
abbrev pub used_region : Standing → ℕ → ℕ → Region
used_region standing level used = record { standing = standing; area = 0; level = level; used = used }

-- these words in these regions, and no unit to scan
abbrev pub words_in : List Parts → List Region → Image
words_in words regions = record (image words nothing nothing None) { regions = regions }

-- a reference to a list
abbrev pub list_at : ℕ → Parts
list_at a = record { cdr = CdrNil; content = ListAt a }

-- Objects

-- a block of one field, followed by the cell of a list of one
abbrev pub neighbours : List Parts
neighbours = record { cdr = CdrNext; content = Header 9 1 } ∷ record { cdr = CdrNil; content = Nil } ∷ record { cdr = CdrNil; content = Nil } ∷ []

abbrev pub two_objects : Store
two_objects = record {
  objects = record { area = 0; charge = 2; body = B.Block 9 (V.Nil ∷ []) } ∷ record { area = 0; charge = 3; body = B.Cons V.Nil V.Nil } ∷ [];
  held = λ n. if nat_lt n 2 then Some 0 else None;
  husks = λ a l. 0;
}

-- the cons is at the third word, not at the second, which has the same bits and is the block's field
pub record WordsApart : Type 0 where
  pub third : Objects (image neighbours nothing nothing None) two_objects (λ n. 2 * n)
  pub second : Objects (image neighbours nothing nothing None) two_objects (λ n. n) → ⊥

-- Room

-- husks alone, which are charged for 4,096 words in each class
abbrev pub husks_alone : Store
husks_alone = record { objects = []; held = λ n. None; husks = λ a l. 4096 }

-- a chain of two regions; the first has `used` used words, the second one
abbrev pub chain : ℕ → Image
chain used = record (words_in [] (used_region Live 0 used ∷ used_region Live 0 1 ∷ [])) { is_last = λ i. i == 1 }

-- a region that isn't the last of its chain is more than half full
pub record ChainIsFull : Type 0 where
  pub more : Room (chain 2049) husks_alone no_aim (λ n. n)
  pub half : Room (chain 2048) husks_alone no_aim (λ n. n) → ⊥

-- a number in the first word of a region that has `used` used words
abbrev pub five_below : ℕ → Image
five_below used = words_in (record { cdr = CdrNil; content = Fixnum (pos 5) } ∷ []) (used_region Live 0 used ∷ [])

-- a word above the used end is NULL
pub record NullAbove : Type 0 where
  pub below : Room (five_below 1) husks_alone no_aim (λ n. n)
  pub above : Room (five_below 0) husks_alone no_aim (λ n. n) → ⊥

-- a block of one field, after a forward to it and three NULL words, and two pairs of charge 3
abbrev pub block_after_husk : List Parts
block_after_husk =
    record { cdr = CdrNext; content = HeaderForward 4 } ∷ null_word ∷ null_word ∷ null_word
    ∷ record { cdr = CdrNext; content = Header 9 1 } ∷ record { cdr = CdrNext; content = Nil }
    ∷ record { cdr = CdrNormal; content = Nil } ∷ record { cdr = CdrNext; content = Nil }
    ∷ record { cdr = CdrNormal; content = Nil } ∷ record { cdr = CdrNext; content = Nil } ∷ []

-- the block and the pairs, and this many words of husks
abbrev pub husk_of : ℕ → Store
husk_of words = record {
  objects = record { area = 0; charge = 2; body = B.Block 9 (V.Nil ∷ []) } ∷ record { area = 0; charge = 3; body = B.Cons V.Nil V.Nil } ∷ record { area = 0; charge = 3; body = B.Cons V.Nil V.Nil } ∷ [];
  held = λ n. if nat_lt n 3 then Some 0 else None;
  husks = λ a l. words;
}

-- the forward and the three NULL words must be four words of husks, although the charges of the pairs leave a slack of two
pub record HusksAreFew : Type 0 where
  pub four : Room (words_in block_after_husk (used_region Live 0 10 ∷ [])) (husk_of 4) no_aim (λ n. 4 + 2 * n)
  pub three : Room (words_in block_after_husk (used_region Live 0 10 ∷ [])) (husk_of 3) no_aim (λ n. 4 + 2 * n) → ⊥

-- Marks

-- a reference on page 0 to page 1, both of level 1, with these marks
abbrev pub marked_by : (ℕ → ℕ → Bool) → Image
marked_by marks = record (words_in (list_at 256 ∷ []) (used_region Live 1 257 ∷ [])) { marks = marks }

-- the page of the reference is marked with the level to which it refers
pub record PageIsMarked : Type 0 where
  pub marked : Marks (marked_by (λ p l. p == 0 && l == 1))
  pub other_page : Marks (marked_by (λ p l. p == 1 && l == 1)) → ⊥
  pub other_level : Marks (marked_by (λ p l. p == 0 && l == 2)) → ⊥

-- a reference to the second region, which is free, live or old
abbrev pub referring_to : Standing → Image
referring_to standing = words_in (list_at 4096 ∷ []) (used_region Live 0 1 ∷ used_region standing 0 0 ∷ [])

-- no reference is to a free region, though one may be to an old one
pub record NoneIsFree : Type 0 where
  pub old : Marks (referring_to Old)
  pub free : Marks (referring_to Free) → ⊥

-- The scan

-- a register and a word that refer to the second region, which is free, live or old; and whether each of the two remains to be scanned
abbrev pub scanning : Standing → Bool → Bool → Image
scanning standing register_left word_left = record (referring_to standing) {
  registers = list_at 4096 ∷ [];
  register_left = λ r. r == 0 && register_left;
  word_left = λ a. a == 0 && word_left;
}

-- a unit with an old address remains to be scanned, and the scan isn't finished; if no unit remains, it is finished
pub record OldIsLeft : Type 0 where
  pub both : IsScanned (scanning Old true true) false
  pub word_alone : IsScanned (scanning Old false true) false → ⊥
  pub register_alone : IsScanned (scanning Old true false) false → ⊥
  pub over : IsScanned (scanning Old true true) true → ⊥
  pub none : IsScanned (scanning Live false false) true
  pub not_over : IsScanned (scanning Live false false) false → ⊥

-- Accounts

-- a pair of charge 2
abbrev pub one_pair : Store
one_pair = record { objects = record { area = 0; charge = 2; body = B.Cons V.Nil V.Nil } ∷ []; held = λ n. if n == 0 then Some 0 else None; husks = λ a l. 0 }

-- the table has this charge for the pair, and the area this quota
abbrev pub Tells : ℕ → ℕ → Type 0
Tells charged quota = Accounts (record (words_in [] []) { live_charge = λ a l. if l == 0 then charged else 0 }) 1 (area (codes "work") Dynamic quota ∷ []) one_pair no_aim

-- the table has the charge of the pair, which is within the quota
pub record AccountIsTrue : Type 0 where
  pub equal : Tells 2 2
  pub less : Tells 1 2 → ⊥
  pub above_quota : Tells 2 1 → ⊥

-- Classes

-- a region with two used words, which are a pair
abbrev pub pair_in : Standing → ℕ → Image
pair_in standing level = words_in [] (used_region standing level 2 ∷ [])

-- a name that is held at level 0 and isn't condemned is in a live region of level 0
pub record SparedStaysLive : Type 0 where
  pub live : Classes (pair_in Live 0) 1 one_pair no_aim (λ n. n)
  pub other_level : Classes (pair_in Live 1) 1 one_pair no_aim (λ n. n) → ⊥
  pub old : Classes (pair_in Old 0) 1 one_pair no_aim (λ n. n) → ⊥

-- a full flip condemned the pair, which is bound or not
abbrev pub condemning : Bool → Condemned
condemning bound = record no_aim { condemned = λ n. n == 0; bound = λ n. n == 0 && bound }

-- a condemned name is in an old region of its level; or in a live one of its survivor's level, 0, and then it is bound
pub record DoomedMovesBound : Type 0 where
  pub moved : Classes (pair_in Live 0) 1 one_pair (condemning true) (λ n. n)
  pub waiting : Classes (pair_in Old 0) 1 one_pair (condemning false) (λ n. n)
  pub unbound : Classes (pair_in Live 0) 1 one_pair (condemning false) (λ n. n) → ⊥
  pub other_survivor : Classes (pair_in Live 1) 1 one_pair (condemning true) (λ n. n) → ⊥
  pub other_level : Classes (pair_in Old 1) 1 one_pair (condemning false) (λ n. n) → ⊥

-- The phase and the work

-- a collection of the pair that owes this much, and has paid 1
abbrev pub owing : ℕ → Phase
owing owed = Running (record { aim = condemning true; owed = owed; paid = 1; over = false })

-- a machine that runs this collection, with two units to scan
abbrev pub running : Option Condemn → Image
running collection = record (scanning Old true true) { collection = collection }

-- the machine runs the collection that the state runs; while none runs, no region is old
pub record PhaseIsTold : Type 0 where
  pub same : PhaseOf (running (Some Full)) (owing 5)
  pub other : PhaseOf (running (Some (Chosen (record { 0 = 1 })))) (owing 5) → ⊥
  pub none : PhaseOf (running None) (owing 5) → ⊥
  pub idle : PhaseOf (referring_to Live) Idle
  pub idle_and_old : PhaseOf (referring_to Old) Idle → ⊥

-- 1 is paid, two units remain to be scanned, and the charge of the pair in an old region is 2: so 5 suffices as what is owed, and 4 doesn't
pub record WorkIsOwed : Type 0 where
  pub five : Work (running (Some Full)) one_pair (λ n. 4096) (owing 5)
  pub four : Work (running (Some Full)) one_pair (λ n. 4096) (owing 4) → ⊥

-- The law

-- Each of these images is wrong in one point and represents no state; the image beside it is right in that point.
pub record RefusedImages : Type 0 where
  pub words_apart : WordsApart
  pub chain_is_full : ChainIsFull
  pub null_above : NullAbove
  pub husks_are_few : HusksAreFew
  pub page_is_marked : PageIsMarked
  pub none_is_free : NoneIsFree
  pub old_is_left : OldIsLeft
  pub account_is_true : AccountIsTrue
  -- classes, the phase, and the work owed
  pub spared_stays_live : SparedStaysLive
  pub doomed_moves_bound : DoomedMovesBound
  pub phase_is_told : PhaseIsTold
  pub work_is_owed : WorkIsOwed
