-- Runs that no machine may show, and images that represent no state: what too weak a definition would allow.
use Rattle.std.specs.Prelude.{ℕ, false, ◌==◌, if◌then◌else◌, List, [], ◌∷◌, replicate, codes, Some, None}
use Rattle.lisp_graph.specs.store_word.Words.{Parts, null_word}
use Rattle.lisp_graph.specs.store_word.declared.word.CdrCode.TheVariants.{Next, Normal, Second}
use Rattle.lisp_graph.specs.store_word.declared.word.Content.TheVariants.{Nil, Header, HeaderForward}
use Rattle.lisp_graph.specs.declared.object.Value.TheVariants as V
use Rattle.lisp_graph.specs.declared.object.Body.TheVariants as B
use Rattle.lisp_graph.specs.declared.command.Command.{Command}
use Rattle.lisp_graph.specs.declared.command.Command.TheVariants as C
use Rattle.lisp_graph.specs.declared.command.Condemn.TheVariants.{Full, Chosen}
use Rattle.lisp_graph.specs.declared.reply.Reply.{Reply}
use Rattle.lisp_graph.specs.declared.reply.Reply.TheVariants as R
use Rattle.lisp_graph.specs.declared.world.AreaKind.TheVariants.{Static, Ephemeral}
use Rattle.lisp_graph.specs.declared.world.World.{World}
use Rattle.lisp_meaning.specs.machine.State.{Store}
use Rattle.lisp_meaning.specs.machine.Step.{Answer, Replied}
use Rattle.lisp_meaning.specs.reading.Image.{Live, Old, Image}
use Rattle.lisp_meaning.specs.reading.Stands.{IsScanned, NoStale}
use Rattle.lisp_meaning.specs.examples.Worked.{Shows, area, world, work, pool, pools, ok, five, account, image, nothing}

-- a world, commands, and answers to them
pub record Trial : Type 0 where
  pub start : World
  pub commands : List Command
  pub answers : List Answer

-- no run shows these answers
abbrev pub Refuses : Trial → Type 0
Refuses t = Shows t.start t.commands t.answers → ⊥

-- The end of a collection

-- a collection that owes eight units isn't finished when eight are paid
abbrev pub paid_and_not_over : Trial
paid_and_not_over = record { start = work 100; commands = C.Flip Full ∷ C.Scavenge 7 ∷ C.Scavenge 1 ∷ []; answers = Replied (R.Flipped 0) ∷ Replied R.More ∷ Replied R.More ∷ [] }

-- a `set` finishes a collection
abbrev pub ended_by_a_set : Trial
ended_by_a_set = record { start = work 100; commands = C.Flip Full ∷ five 0 ∷ C.Reclaim ∷ []; answers = Replied (R.Flipped 0) ∷ ok ∷ Replied R.Reclaimed ∷ [] }

-- a collection that has finished is unfinished later
abbrev pub over_and_then_not : Trial
over_and_then_not = record { start = work 100; commands = C.Flip Full ∷ C.Scavenge 3 ∷ C.Scavenge 1 ∷ []; answers = Replied (R.Flipped 0) ∷ Replied R.Done ∷ Replied R.More ∷ [] }

-- 16 regions have 257 pages
abbrev pub too_many_pages : Trial
too_many_pages = record { start = work 100; commands = C.Flip Full ∷ []; answers = Replied (R.Flipped 257) ∷ [] }

-- Which objects remain held, and which don't

-- a cons is made, `before` is executed, and the account is shown after a whole collection that begins with `flip`
abbrev pub after_flip : Command → Command → List Command
after_flip before flip = five 0 ∷ C.Cons 1 0 0 0 ∷ before ∷ flip ∷ C.Scavenge 100 ∷ C.Reclaim ∷ C.Stats ∷ []

abbrev pub shown : List ℕ → ℕ → ℕ → List Answer
shown name charged quota = ok ∷ ok ∷ ok ∷ Replied (R.Flipped 0) ∷ Replied R.Done ∷ Replied R.Reclaimed ∷ account name charged quota ∷ []

-- a condemned name that isn't bound remains held
abbrev pub unbound_that_stays : Trial
unbound_that_stays = record { start = work 100; commands = after_flip (C.Set 1 V.Nil) (C.Flip Full); answers = shown (codes "work") 2 100 }

-- a condemned name that a register refers to is freed
abbrev pub bound_that_goes : Trial
bound_that_goes = record { start = work 100; commands = after_flip (C.Move 2 1) (C.Flip Full); answers = shown (codes "work") 0 100 }

abbrev pub perm : World
perm = world (area (codes "perm") Static 100 ∷ []) 1 2 0

-- a static one is freed
abbrev pub static_that_goes : Trial
static_that_goes = record { start = perm; commands = after_flip (C.Set 1 V.Nil) (C.Flip Full); answers = shown (codes "perm") 0 100 }

-- one of a level that isn't condemned is freed
abbrev pub other_level_that_goes : Trial
other_level_that_goes = record { start = pools; commands = after_flip (C.Set 1 V.Nil) (C.Flip (Chosen (record { 0 = 2 }))); answers = shown (codes "pool") 0 100 }

-- a cons survives a flip of the first level, is dropped, and the second level is flipped
abbrev pub flipped_twice : ℕ → ℕ → List Command
flipped_twice first second =
    five 0 ∷ C.Cons 1 0 0 0 ∷ C.Flip (Chosen (record { 0 = first })) ∷ C.Scavenge 100 ∷ C.Reclaim
    ∷ C.Set 1 V.Nil ∷ C.Flip (Chosen (record { 0 = second })) ∷ C.Scavenge 100 ∷ C.Reclaim ∷ C.Stats ∷ []

abbrev pub shown_twice : ℕ → List Answer
shown_twice charged =
    ok ∷ ok ∷ Replied (R.Flipped 0) ∷ Replied R.Done ∷ Replied R.Reclaimed
    ∷ ok ∷ Replied (R.Flipped 0) ∷ Replied R.Done ∷ Replied R.Reclaimed ∷ account (codes "pool") charged 100 ∷ []

-- a survivor of the last level stays at that level, so that a second flip of the level frees it
abbrev pub last_level_that_stays : Trial
last_level_that_stays = record { start = pool 2 0; commands = flipped_twice 1 1; answers = shown_twice 0 }

-- with two levels: a survivor of level 1 stays at level 1, so that a second flip of that frees it; or is at neither, so that a flip of level 2 doesn't free it
abbrev pub survivor_at_its_level : Trial
survivor_at_its_level = record { start = pools; commands = flipped_twice 1 1; answers = shown_twice 0 }

abbrev pub survivor_past_the_next : Trial
survivor_past_the_next = record { start = pools; commands = flipped_twice 1 2; answers = shown_twice 2 }

-- Silent steps

-- three conses, and then a reclaim
abbrev pub three_conses : List Command
three_conses = five 0 ∷ C.Cons 1 0 0 0 ∷ C.Cons 2 0 0 0 ∷ C.Cons 3 0 0 0 ∷ C.Reclaim ∷ []

-- a level that has reached its capacity isn't flipped before the third cons
abbrev pub full_and_not_flipped : Trial
full_and_not_flipped = record { start = pool 0 4; commands = three_conses; answers = ok ∷ ok ∷ ok ∷ ok ∷ Replied R.NotFlipped ∷ [] }

-- a level whose charge is 1 below its capacity is flipped before it
abbrev pub flipped_below_capacity : Trial
flipped_below_capacity = record { start = pool 0 5; commands = three_conses; answers = ok ∷ ok ∷ ok ∷ ok ∷ Replied R.NotDone ∷ [] }

-- a level that has reached its capacity is flipped before a `set`
abbrev pub flipped_before_a_set : Trial
flipped_before_a_set = record {
  start = pool 0 4;
  commands = five 0 ∷ C.Cons 1 0 0 0 ∷ C.Cons 2 0 0 0 ∷ five 3 ∷ C.Reclaim ∷ [];
  answers = ok ∷ ok ∷ ok ∷ ok ∷ Replied R.NotDone ∷ [];
}

-- two levels, of which only the first has a capacity
abbrev pub first_collected : World
first_collected = world (area (codes "pool") Ephemeral 100 ∷ []) 2 0 4

-- a silent flip condemns level 2 too: the cons that was promoted to it, and then dropped, is freed; the three of level 1 remain charged
abbrev pub other_level_flipped : Trial
other_level_flipped = record {
  start = first_collected;
  commands =
      five 0 ∷ C.Cons 1 0 0 0 ∷ C.Flip (Chosen (record { 0 = 1 })) ∷ C.Scavenge 100 ∷ C.Reclaim ∷ C.Set 1 V.Nil
      ∷ C.Cons 2 0 0 0 ∷ C.Cons 3 0 0 0 ∷ C.Cons 4 0 0 0 ∷ C.Scavenge 100 ∷ C.Reclaim ∷ C.Stats ∷ [];
  answers =
      ok ∷ ok ∷ Replied (R.Flipped 0) ∷ Replied R.Done ∷ Replied R.Reclaimed ∷ ok
      ∷ ok ∷ ok ∷ ok ∷ Replied R.Done ∷ Replied R.Reclaimed ∷ account (codes "pool") 6 100 ∷ [];
}

-- a collection whose scan isn't finished begins again before the third cons, and what was paid is lost
abbrev pub flipped_while_running : Trial
flipped_while_running = record {
  start = pool 0 4;
  commands = five 0 ∷ C.Cons 1 0 0 0 ∷ C.Cons 2 0 0 0 ∷ C.Flip Full ∷ C.Scavenge 11 ∷ C.Cons 3 0 0 0 ∷ C.Scavenge 3 ∷ [];
  answers = ok ∷ ok ∷ ok ∷ Replied (R.Flipped 0) ∷ Replied R.More ∷ ok ∷ Replied R.More ∷ [];
}

-- a collection whose scan is finished, then a command, then the reclaim
abbrev pub over_before : Command → List Command
over_before command = C.Flip Full ∷ C.Scavenge 100 ∷ command ∷ C.Reclaim ∷ []

abbrev pub over_shown : Reply → List Answer
over_shown last = Replied (R.Flipped 0) ∷ Replied R.Done ∷ ok ∷ Replied last ∷ []

-- the collection isn't reclaimed before a cons, in a world in which some level has a capacity
abbrev pub over_and_not_reclaimed : Trial
over_and_not_reclaimed = record { start = pool 2 100; commands = over_before (C.Cons 1 0 0 0); answers = over_shown R.Reclaimed }

-- it is reclaimed before a `set`, which allocates nothing
abbrev pub reclaimed_before_a_set : Trial
reclaimed_before_a_set = record { start = pool 2 100; commands = over_before (five 0); answers = over_shown R.NotFlipped }

-- it is reclaimed before a cons, though no level has a capacity
abbrev pub reclaimed_without_capacity : Trial
reclaimed_without_capacity = record { start = pool 2 0; commands = over_before (C.Cons 1 0 0 0); answers = over_shown R.NotFlipped }

-- What is owed and what is paid: each of these collections has paid all that it owes, and yet isn't finished

-- more than 256 words are owed for a base page
abbrev pub wide_page : Trial
wide_page = record { start = perm; commands = C.Flip Full ∷ C.Scavenge 264 ∷ []; answers = Replied (R.Flipped 1) ∷ Replied R.More ∷ [] }

-- more than 2 words are owed for a condemned cons of charge 2
abbrev pub owed_twice : Trial
owed_twice = record {
  start = work 100;
  commands = five 0 ∷ C.Cons 1 0 0 0 ∷ C.Flip Full ∷ C.Scavenge 10 ∷ [];
  answers = ok ∷ ok ∷ Replied (R.Flipped 0) ∷ Replied R.More ∷ [];
}

-- a cons of charge 2 at rate 2 pays less than 4, or owes more than 2
abbrev pub unpaid_cons : Trial
unpaid_cons = record {
  start = work 100;
  commands = C.Flip Full ∷ C.Cons 1 0 0 0 ∷ C.Scavenge 6 ∷ [];
  answers = Replied (R.Flipped 0) ∷ ok ∷ Replied R.More ∷ [];
}

-- an RPLACD owes more than 2
abbrev pub wide_rplacd : Trial
wide_rplacd = record {
  start = work 100;
  commands = five 0 ∷ C.Cons 1 0 0 0 ∷ C.Flip Full ∷ C.Rplacd 1 0 ∷ C.Scavenge 12 ∷ [];
  answers = ok ∷ ok ∷ Replied (R.Flipped 0) ∷ ok ∷ Replied R.More ∷ [];
}

-- a refused RPLACD owes something
abbrev pub owed_for_a_refused_rplacd : Trial
owed_for_a_refused_rplacd = record {
  start = work 100;
  commands = C.Flip Full ∷ C.Rplacd 1 0 ∷ C.Scavenge 8 ∷ [];
  answers = Replied (R.Flipped 0) ∷ Replied R.WrongType ∷ Replied R.More ∷ [];
}

-- a refused cons owes something
abbrev pub owed_for_a_refused_cons : Trial
owed_for_a_refused_cons = record {
  start = work 1;
  commands = C.Flip Full ∷ C.Cons 1 0 0 0 ∷ C.Scavenge 8 ∷ [];
  answers = Replied (R.Flipped 0) ∷ Replied (R.Exhausted 0 0 2 1) ∷ Replied R.More ∷ [];
}

-- Swap errors and quotas

-- a command that meets a swap error makes an object, or a `set` meets one
abbrev pub fault_that_makes : Trial
fault_that_makes = record { start = work 100; commands = five 0 ∷ C.Cons 1 0 0 0 ∷ C.Stats ∷ []; answers = ok ∷ Replied R.Fault ∷ account (codes "work") 2 100 ∷ [] }

abbrev pub set_that_faults : Trial
set_that_faults = record { start = work 100; commands = five 0 ∷ []; answers = Replied R.Fault ∷ [] }

-- a CAR that meets a swap error finishes a collection, though it scans nothing
abbrev pub fault_that_ends : Trial
fault_that_ends = record {
  start = work 100;
  commands = C.Flip Full ∷ C.Car 1 0 ∷ C.Reclaim ∷ [];
  answers = Replied (R.Flipped 0) ∷ Replied R.Fault ∷ Replied R.Reclaimed ∷ [];
}

-- a cons that meets a swap error owes something
abbrev pub fault_that_owes : Trial
fault_that_owes = record {
  start = work 100;
  commands = C.Flip Full ∷ C.Cons 1 0 0 0 ∷ C.Scavenge 8 ∷ [];
  answers = Replied (R.Flipped 0) ∷ Replied R.Fault ∷ Replied R.More ∷ [];
}

-- a command that uses no word meets a swap error
abbrev pub faults_at_once : Command → Trial
faults_at_once command = record { start = work 100; commands = command ∷ []; answers = Replied R.Fault ∷ [] }

abbrev pub flip_that_faults : Trial
flip_that_faults = faults_at_once (C.Flip Full)

abbrev pub reclaim_that_faults : Trial
reclaim_that_faults = faults_at_once C.Reclaim

abbrev pub stats_that_faults : Trial
stats_that_faults = faults_at_once C.Stats

-- more than the quota is allocated, or less than it is refused
abbrev pub more_than_quota : Trial
more_than_quota = record { start = work 3; commands = five 0 ∷ C.Cons 1 0 0 0 ∷ C.Cons 2 0 0 0 ∷ []; answers = ok ∷ ok ∷ ok ∷ [] }

abbrev pub less_than_quota : Trial
less_than_quota = record { start = work 4; commands = five 0 ∷ C.Cons 1 0 0 0 ∷ C.Cons 2 0 0 0 ∷ []; answers = ok ∷ ok ∷ Replied (R.Exhausted 0 2 2 4) ∷ [] }

-- Words

-- a block of one field that grew from none, a pair, and after it a NULL word that is part of neither
abbrev pub stale_words : List Parts
stale_words =
    record { cdr = Next; content = HeaderForward 1 } ∷ record { cdr = Next; content = Header 9 1 } ∷ record { cdr = Next; content = Nil }
    ∷ record { cdr = Normal; content = Nil } ∷ record { cdr = Second; content = Nil } ∷ null_word ∷ []

abbrev pub stale_store : Store
stale_store = record {
  objects = record { area = 0; charge = 2; body = B.Block 9 (V.Nil ∷ []) } ∷ record { area = 0; charge = 2; body = B.Cons V.Nil V.Nil } ∷ [];
  held = λ n. if n == 0 then Some 0 else (if n == 1 then Some 0 else None);
  husks = λ a l. 1;
}

-- the husk of the block is its first word alone, so that word is stale
abbrev pub HuskIsShort : Type 0
HuskIsShort = NoStale (image stale_words nothing nothing None) stale_store (λ n. if n == 0 then 1 else 3) → ⊥

-- six words, of which the last remains to be scanned, in a live or old region that has this number of used words
abbrev pub left_in : Rattle.lisp_meaning.specs.reading.Image.Standing → ℕ → Image
left_in standing used = record (image (replicate 6 null_word) nothing (λ a. a == 5) None) { regions = record { standing = standing; area = 0; level = 0; used = used } ∷ [] }

-- no word at or above a used end, or in an old region, remains to be scanned
pub record LeftIsUsed : Type 0 where
  pub above : IsScanned (left_in Live 5) false → ⊥
  pub old : IsScanned (left_in Old 6) false → ⊥

-- The laws

-- No run gives these answers, and these words are stale or may not remain to be scanned.
pub record RefusedExamples : Type 0 where
  pub paid_and_not_over : Refuses paid_and_not_over
  pub ended_by_a_set : Refuses ended_by_a_set
  pub over_and_then_not : Refuses over_and_then_not
  pub too_many_pages : Refuses too_many_pages
  -- names that are freed or kept against the rules
  pub unbound_that_stays : Refuses unbound_that_stays
  pub bound_that_goes : Refuses bound_that_goes
  pub static_that_goes : Refuses static_that_goes
  pub other_level_that_goes : Refuses other_level_that_goes
  pub last_level_that_stays : Refuses last_level_that_stays
  -- survivors at another level
  pub survivor_at_its_level : Refuses survivor_at_its_level
  pub survivor_past_the_next : Refuses survivor_past_the_next
  -- swap errors that change something, or occur in a command that can't meet one
  pub fault_that_makes : Refuses fault_that_makes
  pub set_that_faults : Refuses set_that_faults
  -- swap errors that finish a collection, or owe something
  pub fault_that_ends : Refuses fault_that_ends
  pub fault_that_owes : Refuses fault_that_owes
  -- commands that use no word meet a swap error
  pub flip_that_faults : Refuses flip_that_faults
  pub reclaim_that_faults : Refuses reclaim_that_faults
  pub stats_that_faults : Refuses stats_that_faults
  -- quotas that aren't exact
  pub more_than_quota : Refuses more_than_quota
  pub less_than_quota : Refuses less_than_quota
  -- words that are stale, or that may not remain to be scanned
  pub husk_is_short : HuskIsShort
  pub left_is_used : LeftIsUsed

-- No run gives these answers: in each, a silent step is omitted, is taken before the wrong command, or condemns another level.
pub record RefusedSilentSteps : Type 0 where
  pub full_and_not_flipped : Refuses full_and_not_flipped
  pub flipped_below_capacity : Refuses flipped_below_capacity
  pub flipped_before_a_set : Refuses flipped_before_a_set
  pub other_level_flipped : Refuses other_level_flipped
  pub flipped_while_running : Refuses flipped_while_running
  -- silent reclaims
  pub over_and_not_reclaimed : Refuses over_and_not_reclaimed
  pub reclaimed_before_a_set : Refuses reclaimed_before_a_set
  pub reclaimed_without_capacity : Refuses reclaimed_without_capacity

-- No run gives these answers: in each, a collection has paid for all its work, and isn't finished.
pub record RefusedWork : Type 0 where
  pub wide_page : Refuses wide_page
  pub owed_twice : Refuses owed_twice
  pub unpaid_cons : Refuses unpaid_cons
  pub wide_rplacd : Refuses wide_rplacd
  pub owed_for_a_refused_rplacd : Refuses owed_for_a_refused_rplacd
  pub owed_for_a_refused_cons : Refuses owed_for_a_refused_cons
