-- Laws of all states, all runs and all memory images.
use Rattle.std.specs.Prelude.{◌≡◌, ℕ, suc, ◌+◌, ◌*◌, ◌<◌, ◌≤◌, Bool, true, not, ◌&&◌, ◌||◌, List, length, slice_get, Some, None, IfSome, IsTrue}
use Rattle.lisp_graph.specs.store_word.declared.word.Content.{Content}
use Rattle.lisp_graph.specs.declared.object.Value.{Value}
use Rattle.lisp_graph.specs.declared.object.Object.{Object}
use Rattle.lisp_graph.specs.declared.command.Command.{Command}
use Rattle.lisp_graph.specs.declared.world.World.{World}
use Rattle.lisp_graph.specs.Graph.{object_at, refers_in, body_refers}
use Rattle.lisp_graph.specs.Effect.{Effect, effect}
use Rattle.lisp_graph.specs.Commands.{InLimits}
use Rattle.lisp_graph.specs.World.{IsWorld}
use Rattle.lisp_graph.specs.Totals.{total}
use Rattle.lisp_meaning.specs.machine.State.{rule_of, Condemned, Store, State, is_held, in_use}
use Rattle.lisp_meaning.specs.machine.Charges.{charges, per_area, account, account_now}
use Rattle.lisp_meaning.specs.machine.Reach.{closure}
use Rattle.lisp_meaning.specs.machine.Flip.{graph_of, Settles}
use Rattle.lisp_meaning.specs.machine.Step.{Answer, Step}
use Rattle.lisp_meaning.specs.machine.Run.{Does, Run}
use Rattle.lisp_meaning.specs.machine.Opening.{opening, IsWhole}
use Rattle.lisp_meaning.specs.machine.Sound.{IsAllowed, IsSound}
use Rattle.lisp_meaning.specs.machine.Follows.{IsRefusal, FollowsAll}
use Rattle.lisp_meaning.specs.reading.Image.{Image, Live, region, is_used, used_words}
use Rattle.lisp_meaning.specs.reading.Classes.{of_class, old_of}
use Rattle.lisp_meaning.specs.reading.Value.{Distinct, Means}
use Rattle.lisp_meaning.specs.invariants.Roles.{RoleMap}
use Rattle.lisp_meaning.specs.reading.Units.{NothingLeft, InRegister, InWord, next_unit}
use Rattle.lisp_meaning.specs.reading.Stands.{IsScanned, StandsUnder, Stands}
use Rattle.lisp_meaning.specs.keeping.Empty.{IsEmpty, IsBare}
use Rattle.lisp_meaning.specs.invariants.Invariant.{MachineInvariant}

-- Runs

-- a world within the limits of a machine is whole, and a command within them introduces no name
pub record LimitsSuffice : Type 0 where
  pub worlds : (w : World) → IsWorld w → IsWhole w
  pub commands : (c : Command) → InLimits c → IsAllowed c

-- a whole world opens to a sound state
abbrev pub OpeningIsSound : Type 0
OpeningIsSound = (w : World) → IsWhole w → IsSound (opening w)

-- a command takes a sound state to a sound state
abbrev pub StaysSound : Type 0
StaysSound = (s : State) (c : Command) (a : Answer) (new : State) → IsAllowed c → IsSound s → Does s c a new → IsSound new

-- and so does its transition without the silent steps
abbrev pub StepStaysSound : Type 0
StepStaysSound = (s : State) (c : Command) (a : Answer) (new : State) → IsAllowed c → IsSound s → Step s c a new → IsSound new

-- each command has an answer in each sound state
abbrev pub IsAnswered : Type 0
IsAnswered = (s : State) (c : Command) → IsSound s → (a : Answer) × (new : State) × Does s c a new

-- and so does each list of commands
abbrev pub HasRun : Type 0
HasRun =
    (s : State) (commands : List Command) → ((i : ℕ) → i < length commands → IfSome (slice_get commands i) IsAllowed) → IsSound s
    → (answers : List Answer) × (new : State) × Run s commands answers new

-- From the opening state of a whole world on, each command has an answer, and each list of commands within a machine's limits has a run.
pub record EveryCommandIsAnswered : Type 0 where
  pub limits : LimitsSuffice
  pub opening : OpeningIsSound
  pub sound : StaysSound
  pub step : StepStaysSound
  pub answered : IsAnswered
  pub run : HasRun

-- The graph

-- a run has the replies and the effect that it would have on a graph that is never moved or collected
abbrev pub RunFollows : Type 0
RunFollows =
    (s : State) (commands : List Command) (answers : List Answer) (new : State)
    → Run s commands answers new → FollowsAll (graph_of s) commands answers (graph_of new)

-- two states with the same registers and objects, whatever they hold, give the same reply to a command of the program, if neither refuses it
abbrev pub AnswersAlike : Type 0
AnswersAlike =
    (s t : State) (c : Command) (e : Effect) (a b : Answer) (s' t' : State)
    → graph_of s ≡ graph_of t → effect (graph_of s) c ≡ Some e → Does s c a s' → Does t c b t' → (IsRefusal a → ⊥) → (IsRefusal b → ⊥)
    → (a ≡ b) × (graph_of s' ≡ graph_of t')

-- The replies to a program depend on registers and objects alone.
pub record RunsFollowTheGraph : Type 0 where
  pub follows : RunFollows
  pub alike : AnswersAlike

-- The closure of a set of names

-- it contains the set
abbrev pub ClosureStarts : Type 0
ClosureStarts = (objects : List Object) (start : ℕ → Bool) (n : ℕ) → IsTrue (start n) → IsTrue (closure objects start n)

-- it has each name that an object of it refers to
abbrev pub ClosureIsClosed : Type 0
ClosureIsClosed =
    (objects : List Object) (start : ℕ → Bool) (m n : ℕ) → m < length objects → n < length objects
    → IsTrue (closure objects start m) → IsTrue (body_refers n (object_at objects m).body) → IsTrue (closure objects start n)

-- and it is contained in each set that does so and contains the start
abbrev pub ClosureIsLeast : Type 0
ClosureIsLeast =
    (objects : List Object) (start set : ℕ → Bool)
    → ((m n : ℕ) → m < length objects → IsTrue (set m) → IsTrue (body_refers n (object_at objects m).body) → IsTrue (set n))
    → ((n : ℕ) → IsTrue (start n) → IsTrue (set n))
    → (n : ℕ) → IsTrue (closure objects start n) → IsTrue (set n)

-- The closure of a set of names is the least closed set that contains it.
pub record IsLeastClosure : Type 0 where
  pub starts : ClosureStarts
  pub closed : ClosureIsClosed
  pub least : ClosureIsLeast

-- Collections

-- what a collection has to keep, whatever was bound: the names in the registers, and the held names that weren't condemned
abbrev pub is_root : State → Condemned → ℕ → Bool
is_root s aim n = refers_in n s.registers || (is_held s.store n && not (aim.condemned n))

-- the end of a collection loses no name that is reachable from these
abbrev pub SettleLosesNone : Type 0
SettleLosesNone =
    (old : State) (aim : Condemned) (new : State) → Settles old aim new
    → (n : ℕ) → IsTrue (closure old.store.objects (is_root old aim) n) → in_use new.store n

-- the charges of the names that are no longer held
abbrev pub gone_charges : Store → Store → ℕ → ℕ
gone_charges old new area = charges old (λ n. (is_held old n && not (is_held new n)) && per_area old area n)

-- the charges of the held names that weren't condemned or are bound
abbrev pub kept_charges : Store → Condemned → ℕ → ℕ
kept_charges s aim area = charges s (λ n. (is_held s n && (not (aim.condemned n) || aim.bound n)) && per_area s area n)

-- What an area is charged after a collection has ended: what it was charged before, less the condemned husks and the charges of the names no longer held; and at most the husks that weren't condemned and the charges of the names that weren't condemned or are bound
pub record Retains (old : State) (aim : Condemned) (new : State) (area : ℕ) : Type 0 where
  pub freed : account_now new area + (aim.gone area + gone_charges old.store new.store area) ≡ account old.space.levels old.store aim area
  pub at_most : account_now new area ≤ total (old.store.husks area) (suc old.space.levels) + kept_charges old.store aim area

abbrev pub Retention : Type 0
Retention = (old : State) (aim : Condemned) (new : State) → Settles old aim new → (area : ℕ) → Retains old aim new area

-- Memory images

-- the invariant implies the reading (the representation relation)
abbrev pub InvariantStands : Type 0
InvariantStands = (g : Image) (k : RoleMap) (s : State) → MachineInvariant g k s → StandsUnder g s k.at

-- The reading alone

-- a word represents at most one value
abbrev pub MeansOne : Type 0
MeansOne = (g : Image) (s : Store) (at : ℕ → ℕ) → Distinct s at → (c : Content) (v w : Value) → Means g s at c v → Means g s at c w → v ≡ w

-- a state that a machine represents is sound
abbrev pub StandingIsSound : Type 0
StandingIsSound = (g : Image) (s : State) (at : ℕ → ℕ) → StandsUnder g s at → 0 < s.space.registers → IsSound s

-- and the used words of each area, old ones included, are at most twice its quota: memory suffices for whatever the quotas allow
abbrev pub RoomSuffices : Type 0
RoomSuffices =
    (g : Image) (s : State) (at : ℕ → ℕ) → StandsUnder g s at → (area : ℕ) → area < length s.areas
    → total (λ level. used_words g (of_class area level)) (suc s.space.levels) + used_words g (old_of area) ≤ 2 * (rule_of s.areas area).quota

-- an empty machine represents a world without objects
abbrev pub EmptyStands : Type 0
EmptyStands = (g : Image) (w : World) → IsEmpty g (length w.roots) → IsBare w → Stands g (opening w)

-- there is a next unit if and only if a unit remains to be scanned, and the next unit is one that remains
pub record NextIsLeft (g : Image) : Type 0 where
  pub none : next_unit g ≡ None → NothingLeft g
  pub no_other : NothingLeft g → next_unit g ≡ None
  pub register : (r : ℕ) → next_unit g ≡ Some (InRegister r) → (r < length g.registers) × (g.register_left r ≡ true)
  pub word : (a : ℕ) → next_unit g ≡ Some (InWord a) → (a < length g.words) × (g.word_left a ≡ true)

abbrev pub NextUnitIsLeft : Type 0
NextUnitIsLeft = (g : Image) → NextIsLeft g

-- while a collection runs, the next unit, if it is a word, is a used word of a live region
abbrev pub NextUnitIsUsed : Type 0
NextUnitIsUsed = (g : Image) (over : Bool) (a : ℕ) → IsScanned g over → next_unit g ≡ Some (InWord a) → IsTrue (is_used g a) × ((region g a).standing ≡ Live)
