-- The transition of one command.
use Rattle.std.specs.Prelude.{◌≡◌, ℕ, suc, ◌+◌, ◌*◌, ◌≤◌, Bool, true, false, not, ◌&&◌, ◌||◌, ◌⊎◌, if◌then◌else◌, nat_lt, nat_le, List, [], ◌∷◌, length, Option, Some, None, is_some, unwrap_or, IsTrue, MatchBool}
use Rattle.lisp_graph.specs.store_word.declared.sizes.TheConstants.{REGION_PAGES}
use Rattle.lisp_graph.specs.declared.command.Command.{Command}
use Rattle.lisp_graph.specs.declared.command.Command.TheVariants as C
use Rattle.lisp_graph.specs.declared.command.Condemn.{Condemn}
use Rattle.lisp_graph.specs.declared.reply.Reply.{Reply}
use Rattle.lisp_graph.specs.declared.reply.Reply.TheVariants as R
use Rattle.lisp_graph.specs.declared.world.AreaRule.{AreaRule}
use Rattle.lisp_graph.specs.declared.world.World.{World}
use Rattle.lisp_graph.specs.Graph.{Graph, value_at}
use Rattle.lisp_graph.specs.Effect.{Effect, Wanted, effect, when_block}
use Rattle.lisp_meaning.specs.machine.State.{rule_of, new_level, survivor, aim_of, Phase, Idle, Running, is_over, State, object}
use Rattle.lisp_meaning.specs.machine.Changes.{holding, with_husk}
use Rattle.lisp_meaning.specs.machine.Charges.{account_now}
use Rattle.lisp_meaning.specs.machine.Flip.{graph_of, flipped, Settles}

-- What a run shows

-- a line of `stats`
pub record AreaLine : Type 0 where
  pub name : List ℕ
  pub charged : ℕ
  pub quota : ℕ

-- a reply, or for `stats` each area's account, or for `dump` the world that is written
pub data Answer : Type 0 where
  Replied : Reply → Answer
  Accounts : List AreaLine → Answer
  Contents : World → Answer

-- the lines of the areas from number a on
abbrev pub area_lines : State → ℕ → List AreaRule → List AreaLine
area_lines s a [] = []
area_lines s a (rule ∷ rules) = record { name = rule.name; charged = account_now s a; quota = rule.quota } ∷ area_lines s (suc a) rules

-- the world with a state's registers and objects
abbrev pub world_of : State → World
world_of s = record { space = s.space; areas = s.areas; objects = s.store.objects; roots = s.registers }

-- Counting the work of a collection

abbrev pub counted_phase : ℕ → ℕ → Phase → Phase
counted_phase owed paid Idle = Idle
counted_phase owed paid (Running c) = Running (record c { owed = c.owed + owed; paid = c.paid + paid })

-- while a collection runs, the work owed and the work paid grow by these numbers
abbrev pub counted : ℕ → ℕ → State → State
counted owed paid s = record s { phase = counted_phase owed paid s.phase }

-- the work that a command without an allocation adds to what is owed: 2 words for an `rplacd`, which may have to relocate a cell as a pair
abbrev pub owed_by : Command → Reply → ℕ
owed_by (C.Rplacd target from) R.Fine = 2
owed_by _ _ = 0

-- Allocation

-- the state with the registers and objects of a graph
abbrev pub with_graph : State → Graph → State
with_graph s graph = record s { registers = graph.registers; store = record s.store { objects = graph.objects } }

-- the present level of a name; for a condemned one its survivor's
abbrev pub level_now : State → ℕ → ℕ
level_now s n =
    let aim = aim_of s.phase in
    let level = unwrap_or (s.store.held n) 0 in
    if aim.condemned n then survivor s.space.levels aim.what level else level

-- a block that grows leaves its old words, a header and the fields, as a husk in its area and at its level; the other commands leave none
abbrev pub husks_after : State → Command → (ℕ → ℕ → ℕ)
husks_after s (C.Grow target count) =
    when_block s.store.objects (value_at s.registers target)
    (λ n code fields. with_husk s.store.husks (object s.store n).area (level_now s n) (suc (length fields)))
    s.store.husks
husks_after s _ = s.store.husks

-- the state after an allocation in an area: the new names are held at the area's level of new objects
abbrev pub allocated : State → Command → ℕ → Graph → State
allocated s c area graph = record s {
  registers = graph.registers;
  store = record {
    objects = graph.objects;
    held = holding s.store.held (length s.store.objects) (length graph.objects) (new_level (rule_of s.areas area).kind);
    husks = husks_after s c;
  };
}

-- the account plus the charge wanted exceeds the area's quota
abbrev pub exceeds : State → Wanted → Bool
exceeds s w = nat_lt (rule_of s.areas w.area).quota (account_now s w.area + w.charge)

abbrev pub exhausted : State → Wanted → Reply
exhausted s w = R.Exhausted w.area (account_now s w.area) w.charge (rule_of s.areas w.area).quota

-- the reply and the state after a command of the program, by what it wants: an allocation is refused if it exceeds the quota
abbrev pub answer_wanting : State → Command → Effect → Option Wanted → Reply × State
answer_wanting s c e None = (e.reply, counted (owed_by c e.reply) 0 (with_graph s e.graph))
answer_wanting s c e (Some w) =
    if exceeds s w
    then (exhausted s w, s)
    else (e.reply, counted w.charge (s.space.rate * w.charge) (allocated s c w.area e.graph))

abbrev pub answer_of : State → Command → Effect → Reply × State
answer_of s c e = answer_wanting s c e e.wanted

-- The end of a collection

abbrev pub with_over_phase : Bool → Phase → Phase
with_over_phase over Idle = Idle
with_over_phase over (Running c) = Running (record c { over = over })

abbrev pub with_over : Bool → State → State
with_over over s = record s { phase = with_over_phase over s.phase }

-- a collection runs, and has paid all that it owes
abbrev pub is_paid : Phase → Bool
is_paid Idle = false
is_paid (Running c) = nat_le c.owed c.paid

abbrev pub is_exhausted : Reply → Bool
is_exhausted (R.Exhausted area charged wanted quota) = true
is_exhausted _ = false

abbrev pub wanted_by : Option Effect → Option Wanted
wanted_by None = None
wanted_by (Some e) = e.wanted

abbrev pub is_scavenge : Command → Bool
is_scavenge (C.Scavenge count) = true
is_scavenge _ = false

-- the command scans: `scavenge`, and an allocation that isn't refused
abbrev pub scans : State → Command → Reply → Bool
scans s c r = is_scavenge c || (is_some (wanted_by (effect (graph_of s) c)) && not (is_exhausted r))

-- Whether the scan of a collection has finished (`over`) after a transition: a finished scan stays finished; only a transition that may finish it does; and it has finished if all that is owed is paid.
pub record IsOverAfter (s : State) (may : Bool) (after : State) (over : Bool) : Type 0 where
  pub stays : is_over s.phase ≡ true → over ≡ true
  pub only_by : is_over s.phase ≡ false → over ≡ true → may ≡ true
  pub at_last : is_paid after.phase ≡ true → over ≡ true

-- a transition that leaves one choice: whether the collection's scan has finished, which only a command that scans may decide
abbrev pub Ends : State → Command → Reply → State → Answer → State → Type 0
Ends s c r after a new = (over : Bool) × IsOverAfter s (scans s c r) after over × (a ≡ Replied r) × (new ≡ with_over over after)

-- Steps

-- a command of the program, by its effect
abbrev pub Answers : State → Command → Effect → Answer → State → Type 0
Answers s c e a new = Ends s c (answer_of s c e).0 (answer_of s c e).1 a new

abbrev pub Flips : State → Phase → Condemn → Answer → State → Type 0
Flips s (Running c) what a new = (a ≡ Replied R.Busy) × (new ≡ s)
Flips s Idle what a new = (pages : ℕ) × (pages ≤ REGION_PAGES * s.space.regions) × (a ≡ Replied (R.Flipped pages)) × (new ≡ flipped s what pages)

abbrev pub Scavenges : State → Phase → ℕ → Answer → State → Type 0
Scavenges s Idle count a new = (a ≡ Replied R.NotFlipped) × (new ≡ s)
Scavenges s (Running c) count a new =
    (over : Bool) × IsOverAfter s true (counted 0 count s) over
    × (a ≡ Replied (if over then R.Done else R.More)) × (new ≡ with_over over (counted 0 count s))

abbrev pub Reclaims : State → Phase → Answer → State → Type 0
Reclaims s Idle a new = (a ≡ Replied R.NotFlipped) × (new ≡ s)
Reclaims s (Running c) a new = MatchBool c.over ((a ≡ Replied R.Reclaimed) × Settles s c.aim new) ((a ≡ Replied R.NotDone) × (new ≡ s))

-- the commands that have no effect on the graph
abbrev pub Serves : State → Command → Answer → State → Type 0
Serves s (C.Flip what) a new = Flips s s.phase what a new
Serves s (C.Scavenge count) a new = Scavenges s s.phase count a new
Serves s C.Reclaim a new = Reclaims s s.phase a new
Serves s (C.PageOut count) a new = (a ≡ Replied R.Fine) × (new ≡ s)
Serves s C.Stats a new = (a ≡ Accounts (area_lines s 0 s.areas)) × (new ≡ s)
Serves s C.Dump a new = (a ≡ Contents (world_of s)) × (new ≡ s)
Serves s _ a new = ⊥

-- the commands that may meet a swap error
abbrev pub may_fault : Command → Bool
may_fault (C.Set to value) = false
may_fault (C.Flip what) = false
may_fault C.Reclaim = false
may_fault C.Stats = false
may_fault _ = true

-- a command that meets a swap error replies `fault` and changes nothing, except that it may have scanned
abbrev pub Faults : State → Command → Answer → State → Type 0
Faults s c a new = IsTrue (may_fault c) × Ends s c R.Fault s a new

abbrev pub StepsBy : State → Command → Option Effect → Answer → State → Type 0
StepsBy s c (Some e) a new = Answers s c e a new
StepsBy s c None a new = Serves s c a new

-- the transition of a command, with its answer and the state after it
abbrev pub Step : State → Command → Answer → State → Type 0
Step s c a new = StepsBy s c (effect (graph_of s) c) a new ⊎ Faults s c a new
