-- Worked runs: inputs, and the replies that are shown.
use Rattle.std.specs.Prelude.{◌≡◌, ℕ, Bool, true, false, ◌||◌, ◌==◌, if◌then◌else◌, List, [], ◌∷◌, length, replicate, codes, pos, Option, Some, None}
use Rattle.lisp_graph.specs.store_word.Words.{Parts, null_word}
use Rattle.lisp_graph.specs.store_word.declared.word.CdrCode.TheVariants.{Next, Normal}
use Rattle.lisp_graph.specs.store_word.declared.word.Content.TheVariants.{Nil, Fixnum, List as ListAt, HeaderForward, GcForward}
use Rattle.lisp_graph.specs.declared.object.Value.TheVariants as V
use Rattle.lisp_graph.specs.declared.object.Body.TheVariants as B
use Rattle.lisp_graph.specs.declared.command.Command.{Command}
use Rattle.lisp_graph.specs.declared.command.Command.TheVariants as C
use Rattle.lisp_graph.specs.declared.command.Condemn.TheVariants.{Full, Chosen}
use Rattle.lisp_graph.specs.declared.reply.Reply.TheVariants as R
use Rattle.lisp_graph.specs.declared.world.AreaKind.{AreaKind}
use Rattle.lisp_graph.specs.declared.world.AreaKind.TheVariants.{Dynamic, Ephemeral}
use Rattle.lisp_graph.specs.declared.world.AreaRule.{AreaRule}
use Rattle.lisp_graph.specs.declared.world.World.{World}
use Rattle.lisp_meaning.specs.machine.State.{Store, State, object}
use Rattle.lisp_meaning.specs.machine.Step.{Answer, Replied, Accounts, Contents}
use Rattle.lisp_meaning.specs.machine.Run.{Run}
use Rattle.lisp_meaning.specs.machine.Opening.{opening}
use Rattle.lisp_meaning.specs.reading.Image.{Live, Image}
use Rattle.lisp_meaning.specs.reading.Forwards.{Final}
use Rattle.lisp_meaning.specs.reading.Value.{Means}
use Rattle.lisp_meaning.specs.reading.Objects.{StandsAt}
use Rattle.lisp_meaning.specs.reading.Units.{InRegister, InWord, next_unit}

-- some run shows these answers
abbrev pub Shows : World → List Command → List Answer → Type 0
Shows w commands answers = (new : State) × Run (opening w) commands answers new

-- Inputs

abbrev pub area : List ℕ → AreaKind → ℕ → AreaRule
area name kind quota = record { name = name; kind = kind; quota = quota }

-- 16 regions, 32 frames, 8 registers; one level, or more; the capacity of level 1
abbrev pub world : List AreaRule → ℕ → ℕ → ℕ → World
world areas levels rate capacity = record {
  space = record { regions = 16; frames = 32; registers = 8; levels = levels; rate = rate; capacity = capacity ∷ 0 ∷ 0 ∷ 0 ∷ 0 ∷ 0 ∷ [] };
  areas = areas;
  objects = [];
  roots = replicate 8 V.Nil;
}

-- one dynamic area
abbrev pub work : ℕ → World
work quota = world (area (codes "work") Dynamic quota ∷ []) 1 2 0

abbrev pub ok : Answer
ok = Replied R.Fine

abbrev pub number : ℕ → Answer
number n = Replied (R.Number (pos n))

abbrev pub five : ℕ → Command
five to = C.Set to (V.Fix (pos 5))

abbrev pub account : List ℕ → ℕ → ℕ → Answer
account name charged quota = Accounts (record { name = name; charged = charged; quota = quota } ∷ [])

-- Runs

-- an allocation is refused if it exceeds the quota, and only then
abbrev pub exact_quota : List Command
exact_quota = five 0 ∷ C.Cons 1 0 0 0 ∷ C.Cons 2 0 1 0 ∷ C.Cons 3 0 0 0 ∷ C.Car 4 1 ∷ []

abbrev pub ExactQuota : Type 0
ExactQuota = Shows (work 4) exact_quota (ok ∷ ok ∷ ok ∷ Replied (R.Exhausted 0 4 2 4) ∷ number 5 ∷ [])

-- RPLACD in a full area: the charge is the same, and the changed cons is the same object
abbrev pub full_area : List Command
full_area =
    five 0 ∷ C.List 1 0 (0 ∷ 0 ∷ 0 ∷ []) ∷ C.Cdr 2 1 ∷ C.Set 3 V.Nil ∷ C.Rplacd 2 3 ∷ C.Cdr 4 2 ∷ C.Stats
    ∷ C.Cdr 5 1 ∷ C.Eq 5 2 ∷ C.Eq 5 1 ∷ []

abbrev pub FullArea : Type 0
FullArea = Shows (work 9) full_area
    (ok ∷ ok ∷ Replied R.Cons ∷ ok ∷ ok ∷ Replied R.Nil ∷ account (codes "work") 9 9 ∷ Replied R.Cons ∷ Replied R.True ∷ Replied R.Nil ∷ [])

-- the first cons of a list is dropped, and a collection frees it
abbrev pub dropped_front : List Command
dropped_front =
    five 0 ∷ C.List 1 0 (0 ∷ 0 ∷ 0 ∷ []) ∷ C.Cdr 2 1 ∷ (C.Set 1 V.Nil)
    ∷ C.Flip Full ∷ C.Scavenge 100 ∷ C.Reclaim ∷ C.Stats ∷ []

abbrev pub DroppedFront : Type 0
DroppedFront = Shows (work 9) dropped_front
    (ok ∷ ok ∷ Replied R.Cons ∷ ok ∷ Replied (R.Flipped 0) ∷ Replied R.Done ∷ Replied R.Reclaimed ∷ account (codes "work") 6 9 ∷ [])

-- an allocation that was refused succeeds after a collection
abbrev pub space_regained : List Command
space_regained =
    five 0 ∷ C.Cons 1 0 0 0 ∷ C.Cons 1 0 0 0 ∷ (C.Cons 2 0 0 0)
    ∷ C.Flip Full ∷ C.Scavenge 100 ∷ C.Reclaim ∷ C.Cons 2 0 0 0 ∷ C.Stats ∷ []

abbrev pub SpaceRegained : Type 0
SpaceRegained = Shows (work 4) space_regained
    (ok ∷ ok ∷ ok ∷ Replied (R.Exhausted 0 4 2 4) ∷ Replied (R.Flipped 0) ∷ Replied R.Done ∷ Replied R.Reclaimed ∷ ok ∷ account (codes "work") 4 4 ∷ [])

-- the program continues between a flip and the reclaim
abbrev pub between_flip_and_reclaim : List Command
between_flip_and_reclaim =
    five 0 ∷ C.Cons 1 0 0 0 ∷ C.Flip Full ∷ C.Car 2 1 ∷ C.Cons 3 0 1 2 ∷ C.Reclaim ∷ C.Scavenge 100 ∷ C.Reclaim
    ∷ C.Car 4 3 ∷ C.Eq 4 1 ∷ C.Cdr 5 3 ∷ []

abbrev pub BetweenFlipAndReclaim : Type 0
BetweenFlipAndReclaim = Shows (work 100) between_flip_and_reclaim
    (ok ∷ ok ∷ Replied (R.Flipped 0) ∷ number 5 ∷ ok ∷ Replied R.NotDone ∷ Replied R.Done ∷ Replied R.Reclaimed ∷ Replied R.Cons ∷ Replied R.True ∷ number 5 ∷ [])

-- the phases: the scan of a collection with eight registers is finished when eight units are paid
abbrev pub phases : List Command
phases = C.Flip Full ∷ C.Flip Full ∷ C.Reclaim ∷ C.Scavenge 7 ∷ C.Scavenge 1 ∷ C.Reclaim ∷ C.Reclaim ∷ C.Scavenge 5 ∷ []

abbrev pub Phases : Type 0
Phases = Shows (work 100) phases
    (Replied (R.Flipped 0) ∷ Replied R.Busy ∷ Replied R.NotDone ∷ Replied R.More ∷ Replied R.Done ∷ Replied R.Reclaimed ∷ Replied R.NotFlipped ∷ Replied R.NotFlipped ∷ [])

-- a survivor of the last level becomes dynamic, so a second flip of that level doesn't free it
abbrev pub last_level : List Command
last_level =
    five 0 ∷ C.Cons 1 0 0 0 ∷ C.Flip (Chosen (record { 0 = 1 })) ∷ C.Scavenge 100 ∷ C.Reclaim
    ∷ C.Set 1 V.Nil ∷ C.Flip (Chosen (record { 0 = 1 })) ∷ C.Scavenge 100 ∷ C.Reclaim ∷ C.Stats
    ∷ C.Flip Full ∷ C.Scavenge 100 ∷ C.Reclaim ∷ C.Stats ∷ []

abbrev pub pool : ℕ → ℕ → World
pool rate capacity = world (area (codes "pool") Ephemeral 100 ∷ []) 1 rate capacity

abbrev pub LastLevel : Type 0
LastLevel = Shows (pool 2 0) last_level
    (ok ∷ ok ∷ Replied (R.Flipped 0) ∷ Replied R.Done ∷ Replied R.Reclaimed
    ∷ ok ∷ Replied (R.Flipped 0) ∷ Replied R.Done ∷ Replied R.Reclaimed ∷ account (codes "pool") 2 100
    ∷ Replied (R.Flipped 0) ∷ Replied R.Done ∷ Replied R.Reclaimed ∷ account (codes "pool") 0 100 ∷ [])

-- refusals by type and by index
abbrev pub refusals : List Command
refusals =
    C.Set 0 (V.Fix (pos 3)) ∷ C.Make 1 0 9 2 ∷ C.Get 2 1 2 ∷ C.Get 2 1 1 ∷ C.Car 3 0 ∷ C.Get 3 0 0 ∷ (C.Size 1)
    ∷ C.Cons 4 0 1 0 ∷ C.Car 5 4 ∷ C.Eq 5 1 ∷ []

abbrev pub Refusals : Type 0
Refusals = Shows (work 100) refusals
    (ok ∷ ok ∷ Replied (R.NoField 2) ∷ Replied R.Nil ∷ Replied R.WrongType ∷ Replied R.WrongType ∷ number 2 ∷ ok ∷ Replied (R.Block 9 2) ∷ Replied R.True ∷ [])

-- a cons that was moved and then relocated, so that both forwards lead to it, is one object
abbrev pub both_forwards : List Command
both_forwards =
    C.Set 0 (V.Fix (pos 7)) ∷ C.List 1 0 (0 ∷ 0 ∷ []) ∷ C.Cdr 2 1 ∷ C.Flip Full ∷ C.Rplacd 2 0 ∷ C.Cdr 3 1 ∷ C.Eq 3 2 ∷ C.Cdr 4 3 ∷ []

abbrev pub BothForwards : Type 0
BothForwards = Shows (work 100) both_forwards (ok ∷ ok ∷ Replied R.Cons ∷ Replied (R.Flipped 0) ∷ ok ∷ Replied R.Cons ∷ Replied R.True ∷ number 7 ∷ [])

-- a block grows: its husk is charged until a collection, its name and its field stay, and a refused growth changes nothing
abbrev pub grown_block : List Command
grown_block =
    five 0 ∷ C.Make 1 0 9 1 ∷ C.Put 1 0 0 ∷ C.Move 2 1 ∷ C.Grow 1 3 ∷ C.Size 2 ∷ C.Get 3 2 0 ∷ C.Eq 1 2 ∷ C.Stats
    ∷ C.Flip Full ∷ C.Scavenge 100 ∷ C.Reclaim ∷ C.Stats ∷ C.Get 3 2 0 ∷ C.Grow 1 2 ∷ C.Grow 1 2000 ∷ []

abbrev pub GrownBlock : Type 0
GrownBlock = Shows (work 12) grown_block
    (ok ∷ ok ∷ ok ∷ ok ∷ ok ∷ number 3 ∷ number 5 ∷ Replied R.True ∷ account (codes "work") 6 12
    ∷ Replied (R.Flipped 0) ∷ Replied R.Done ∷ Replied R.Reclaimed ∷ account (codes "work") 4 12 ∷ number 5 ∷ ok ∷ Replied (R.Exhausted 0 4 2001 12) ∷ [])

-- a level that has reached its capacity is flipped before the third cons, and reclaimed before the fourth
abbrev pub silent_steps : List Command
silent_steps =
    C.Set 0 (V.Fix (pos 7)) ∷ C.Cons 1 0 0 0 ∷ C.Cons 2 0 0 0 ∷ C.Set 2 V.Nil ∷ C.Cons 3 0 0 0 ∷ C.Reclaim ∷ C.Scavenge 100 ∷ C.Stats
    ∷ C.Cons 4 0 0 0 ∷ C.Stats ∷ C.Reclaim ∷ []

abbrev pub SilentSteps : Type 0
SilentSteps = Shows (pool 4 4) silent_steps
    (ok ∷ ok ∷ ok ∷ ok ∷ ok ∷ Replied R.NotDone ∷ Replied R.Done ∷ account (codes "pool") 6 100 ∷ ok ∷ account (codes "pool") 6 100 ∷ Replied R.NotFlipped ∷ [])

-- two levels: survivors of level 1 are promoted to level 2, and those of the last level become dynamic; a flip of level 2 then frees what was promoted there, and a full flip the rest
abbrev pub two_levels : List Command
two_levels =
    five 0 ∷ C.Cons 1 0 0 0 ∷ C.Flip (Chosen (record { 0 = 1 })) ∷ C.Scavenge 100 ∷ C.Reclaim
    ∷ C.Cons 2 0 0 0 ∷ C.Flip (Chosen (record { 0 = 3 })) ∷ C.Scavenge 100 ∷ C.Reclaim
    ∷ C.Set 1 V.Nil ∷ C.Set 2 V.Nil ∷ C.Flip (Chosen (record { 0 = 1 })) ∷ C.Scavenge 100 ∷ C.Reclaim ∷ C.Stats
    ∷ C.Flip (Chosen (record { 0 = 2 })) ∷ C.Scavenge 100 ∷ C.Reclaim ∷ C.Stats
    ∷ C.Flip Full ∷ C.Scavenge 100 ∷ C.Reclaim ∷ C.Stats ∷ []

abbrev pub pools : World
pools = world (area (codes "pool") Ephemeral 100 ∷ []) 2 2 0

abbrev pub TwoLevels : Type 0
TwoLevels = Shows pools two_levels
    (ok ∷ ok ∷ Replied (R.Flipped 0) ∷ Replied R.Done ∷ Replied R.Reclaimed
    ∷ ok ∷ Replied (R.Flipped 0) ∷ Replied R.Done ∷ Replied R.Reclaimed
    ∷ ok ∷ ok ∷ Replied (R.Flipped 0) ∷ Replied R.Done ∷ Replied R.Reclaimed ∷ account (codes "pool") 4 100
    ∷ Replied (R.Flipped 0) ∷ Replied R.Done ∷ Replied R.Reclaimed ∷ account (codes "pool") 2 100
    ∷ Replied (R.Flipped 0) ∷ Replied R.Done ∷ Replied R.Reclaimed ∷ account (codes "pool") 0 100 ∷ [])

-- a command that meets a swap error changes nothing, and may be given again
abbrev pub faulted : List Command
faulted = five 0 ∷ C.Cons 1 0 0 0 ∷ C.Stats ∷ C.Cons 1 0 0 0 ∷ C.Car 2 1 ∷ C.Car 2 1 ∷ C.Stats ∷ []

abbrev pub Faulted : Type 0
Faulted = Shows (work 4) faulted
    (ok ∷ Replied R.Fault ∷ account (codes "work") 0 4 ∷ ok ∷ Replied R.Fault ∷ number 5 ∷ account (codes "work") 2 4 ∷ [])

-- a circle of one cons is dumped unchanged
abbrev pub circle : World
circle = record (work 100) {
  objects = record { area = 0; charge = 2; body = B.Cons (V.Fix (pos 1)) (V.Ref 0) } ∷ [];
  roots = V.Ref 0 ∷ replicate 7 V.Nil;
}

abbrev pub circular_list : List Command
circular_list = C.Dump ∷ C.Cdr 1 0 ∷ C.Eq 0 1 ∷ []

abbrev pub CircularList : Type 0
CircularList = Shows circle circular_list (Contents circle ∷ Replied R.Cons ∷ Replied R.True ∷ [])

-- Words

-- a memory image of these words, with these words and registers to scan, and the last word of the latest transport
abbrev pub image : List Parts → (ℕ → Bool) → (ℕ → Bool) → Option ℕ → Image
image words registers left last = record {
  words = words;
  regions = record { standing = Live; area = 0; level = 0; used = length words } ∷ [];
  is_last = λ i. true;
  live_charge = λ a l. 0;
  live_husks = λ a l. 0;
  old_charge = λ a l. 0;
  old_husks = λ a l. 0;
  registers = replicate 8 null_word;
  collection = None;
  register_left = registers;
  word_left = left;
  last_moved = last;
  marks = λ p l. false;
}

abbrev pub nothing : ℕ → Bool
nothing n = false

-- a cell that was relocated as a pair, and the pair moved: both forwards, and after them the pair (7)
abbrev pub forwarded_words : List Parts
forwarded_words =
    record { cdr = Next; content = HeaderForward 1 } ∷ record { cdr = Next; content = GcForward 3 } ∷ null_word
    ∷ record { cdr = Normal; content = Fixnum (pos 7) } ∷ record { cdr = Next; content = Nil } ∷ []

abbrev pub forwarded_store : Store
forwarded_store = record {
  objects = record { area = 0; charge = 3; body = B.Cons (V.Fix (pos 7)) V.Nil } ∷ [];
  held = λ n. if n == 0 then Some 0 else None;
  husks = λ a l. 0;
}

-- the first word leads to the last pair, and a reference to it means the cons there
pub record ForwardsLead : Type 0 where
  pub final : Final (image forwarded_words nothing nothing None) 0 3
  pub value : Means (image forwarded_words nothing nothing None) forwarded_store (λ n. 3) (ListAt 0) (V.Ref 0)
  pub stands : StandsAt (image forwarded_words nothing nothing None) forwarded_store (λ n. 3) 3 (object forwarded_store 0)

-- the next unit: a word on the page of the latest transport, else a register, else the lowest word
pub record NextUnits : Type 0 where
  pub near : next_unit (image (replicate 600 null_word) (λ r. r == 2) (λ a. a == 5 || a == 300) (Some 400)) ≡ Some (InWord 300)
  pub register : next_unit (image (replicate 600 null_word) (λ r. r == 2) (λ a. a == 5) (Some 400)) ≡ Some (InRegister 2)
  pub lowest : next_unit (image (replicate 600 null_word) nothing (λ a. a == 5 || a == 9) (Some 400)) ≡ Some (InWord 5)
  pub none : next_unit (image (replicate 600 null_word) nothing nothing (Some 400)) ≡ None

-- The law

-- Some run shows the answers of each of these inputs; forwards lead to the right address, and the next unit is the right one.
pub record WorkedExamples : Type 0 where
  pub exact_quota : ExactQuota
  pub full_area : FullArea
  pub dropped_front : DroppedFront
  -- collections
  pub space_regained : SpaceRegained
  pub between_flip_and_reclaim : BetweenFlipAndReclaim
  pub phases : Phases
  pub last_level : LastLevel
  -- refusals, forwards, and a block that grows
  pub refusals : Refusals
  pub both_forwards : BothForwards
  pub grown_block : GrownBlock
  -- silent steps, levels, swap errors, and a list that leads to itself
  pub silent_steps : SilentSteps
  pub two_levels : TwoLevels
  pub faulted : Faulted
  pub circular_list : CircularList
  -- words: the end of a chain of forwards, and the unit that is next
  pub forwards_lead : ForwardsLead
  pub next_units : NextUnits
