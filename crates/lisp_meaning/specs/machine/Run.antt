-- Runs: lists of commands, one transition each, and the silent steps before them.
use Rattle.std.specs.Prelude.{◌≡◌, ℕ, suc, ◌-◌, ◌*◌, ◌^◌, ◌≤◌, Bool, true, false, ◌&&◌, nat_lt, nat_le, List, [], ◌∷◌, slice_index, MatchBool}
use Rattle.lisp_graph.specs.store_word.declared.sizes.TheConstants.{REGION_PAGES}
use Rattle.std.specs.List.{list_any}
use Rattle.lisp_graph.specs.store_word.declared.levels.Levels.{Levels}
use Rattle.lisp_graph.specs.declared.command.Command.{Command}
use Rattle.lisp_graph.specs.declared.command.Command.TheVariants as C
use Rattle.lisp_graph.specs.declared.command.Condemn.TheVariants.{Chosen}
use Rattle.lisp_graph.specs.Totals.{total, if_true}
use Rattle.lisp_meaning.specs.machine.Maps.{some_below}
use Rattle.lisp_meaning.specs.machine.State.{Phase, Idle, Running, is_idle, State}
use Rattle.lisp_meaning.specs.machine.Charges.{level_total}
use Rattle.lisp_meaning.specs.machine.Flip.{flipped, Settles}
use Rattle.lisp_meaning.specs.machine.Step.{Answer, Step}

-- Silent steps

-- the charge at which a level is flipped without a command; 0 is never
abbrev pub capacity_of : State → ℕ → ℕ
capacity_of s level = slice_index s.space.capacity (level - 1)

-- some level has a capacity, so the machine collects without a command
abbrev pub collects_itself : State → Bool
collects_itself s = list_any (nat_lt 0) s.space.capacity

-- a level has reached its capacity
abbrev pub is_full : State → ℕ → Bool
is_full s level = nat_lt 0 (capacity_of s level) && nat_le (capacity_of s level) (level_total s level)

-- the set of the levels that have reached their capacity
abbrev pub full_levels : State → Levels
full_levels s = record { 0 = total (λ i. if_true (is_full s (suc i)) (2 ^ i)) s.space.levels }

-- the commands before which silent steps are taken
abbrev pub allocates : Command → Bool
allocates (C.Cons to area car cdr) = true
allocates (C.List to area items) = true
allocates (C.Make to area code length) = true
allocates (C.Grow target length) = true
allocates _ = false

-- first a reclaim, if a collection's scan is finished
abbrev pub SilentReclaim : State → Phase → State → Type 0
SilentReclaim s Idle new = new ≡ s
SilentReclaim s (Running c) new = MatchBool c.over (Settles s c.aim new) (new ≡ s)

-- then a flip, if no collection runs and some level is full
abbrev pub SilentFlip : State → State → Type 0
SilentFlip s new =
    MatchBool (is_idle s.phase && some_below (λ i. is_full s (suc i)) s.space.levels)
    ((pages : ℕ) × (pages ≤ REGION_PAGES * s.space.regions) × (new ≡ flipped s (Chosen (full_levels s)) pages))
    (new ≡ s)

-- the silent steps before a command
abbrev pub Silent : State → Command → State → Type 0
Silent s c new =
    MatchBool (allocates c && collects_itself s)
    ((mid : State) × SilentReclaim s s.phase mid × SilentFlip mid new)
    (new ≡ s)

-- Runs

-- the silent steps before a command, and its transition
abbrev pub Does : State → Command → Answer → State → Type 0
Does s c a new = (mid : State) × Silent s c mid × Step mid c a new

-- a run of a list of commands, with the answer to each and the last state
abbrev pub Run : State → List Command → List Answer → State → Type 0
Run s [] [] new = new ≡ s
Run s (c ∷ cs) (a ∷ answers) new = (after : State) × Does s c a after × Run after cs answers new
Run s [] (a ∷ answers) new = ⊥
Run s (c ∷ cs) [] new = ⊥
