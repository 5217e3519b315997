-- The state that a machine represents, as a reading of its words.
use Rattle.std.proofs.Common.{inl, inr, ℕ, List, Option, Some, None, Bool}
use Rattle.lisp_graph.specs.declared.command.Command.{Command}
use Rattle.lisp_graph.specs.declared.world.World.{World}
use Rattle.paged_machine.specs.lisp_meaning.State.{State}
use Rattle.paged_machine.specs.lisp_heap.HeapView.{HeapView}
use Rattle.paged_machine.proofs.lisp_heap.RepresentedStates.{means as means_of}
use Rattle.line_input.specs.declared.statuses.status.Status.{Status}
use Rattle.line_input.specs.declared.statuses.status.Status.TheVariants.{Done, WriteFailed, Refused, ReadFailed, NoSpace, NoMemory, SwapFailed, Usage, NoObject}
use Rattle.paged_machine.specs.Holding.{HasReading, StandsFor}
use Rattle.replay_run.specs.Replies.{Answered, Replies}
use Rattle.replay_run.specs.Outcome.{CutLine, CutReply, EndsWith, Wrote}
use Rattle.replay_run.specs.Exercise.{Exercised}
use Rattle.replay_run.proofs.Observations.{HasRun, demands_as, observes}

-- a heap that represents a state has its meaning
pub means_for : (heap : Option HeapView) (s : State) → StandsFor heap s → HasReading heap s
means_for None s stands = stands
means_for (Some heap) s stands = means_of heap s stands

-- what follows from the represented state also holds after a run
module _ (stands means : State → Type 0) (follows : (s : State) → stands s → means s) (loaded : Bool) (rose : ℕ) where
  replies_as : (world : World) (commands : List Command) (text : List ℕ) → Replies world commands stands rose text → Replies world commands means rose text
  replies_as world commands text r = record { answers = r.answers; last = r.last; run = r.run; is = r.is; state = follows r.last r.state; faults = r.faults; quiet = r.quiet }

  answered_as : (world : Option World) (commands : List Command) (text : List ℕ) → Answered world commands stands rose text → Answered world commands means rose text
  answered_as None commands text a = a
  answered_as (Some world) commands text a = replies_as world commands text a

  module _ (source_rose : Type 0) (i b : List ℕ) (last : ℕ) (w : List ℕ) where
    reply_as : CutReply (observes i b last w stands loaded source_rose rose) → CutReply (observes i b last w means loaded source_rose rose)
    unfolding replies_as
    reply_as c = record {
      n = c.n;
      ahead = c.ahead;
      world = c.world;
      opened = c.opened;
      done = c.done;
      later = c.later;
      commands = c.commands;
      text = c.text;
      replies = replies_as c.world c.done c.text c.replies;
      at = c.at;
      answers = c.answers;
      last = c.last;
      run = c.run;
      front = c.front;
    }

    abbrev ends_as : (status : Status) → EndsWith status (observes i b last w stands loaded source_rose rose) → EndsWith status (observes i b last w means loaded source_rose rose)
    ends_as status e = record {
      read = e.read;
      replies = e.replies;
      line = e.line;
      demands = demands_as status i b last w w stands means loaded source_rose rose e.read e.line e.demands;
      answered = answered_as _ e.read.commands e.replies e.answered;
      written = e.written;
      ahead = e.ahead;
      untouched = e.untouched;
    }

  line_as : (source_rose : Type 0) (i b : List ℕ) (last : ℕ) (w : List ℕ) → CutLine (observes i b last w stands loaded source_rose rose) → CutLine (observes i b last w means loaded source_rose rose)
  line_as source_rose i b last w c = record {
    status = c.status;
    whole = c.whole;
    ends = ends_as source_rose i b last c.whole c.status c.ends;
    cause = c.cause;
    part = c.part;
    cut = c.cut;
    is = c.is;
  }

  pub wrote_as : (source_rose : Type 0) (status : Status) (i b : List ℕ) (last : ℕ) (w : List ℕ) → Wrote status (observes i b last w stands loaded source_rose rose) → Wrote status (observes i b last w means loaded source_rose rose)
  wrote_as source_rose WriteFailed i b last w (inl c) = inl (reply_as source_rose i b last w c)
  wrote_as source_rose WriteFailed i b last w (inr c) = inr (line_as source_rose i b last w c)
  wrote_as source_rose Done i b last w e = ends_as source_rose i b last w Done e
  wrote_as source_rose Refused i b last w e = ends_as source_rose i b last w Refused e
  wrote_as source_rose ReadFailed i b last w e = ends_as source_rose i b last w ReadFailed e
  wrote_as source_rose NoSpace i b last w e = ends_as source_rose i b last w NoSpace e
  wrote_as source_rose NoMemory i b last w e = ends_as source_rose i b last w NoMemory e
  wrote_as source_rose SwapFailed i b last w e = ends_as source_rose i b last w SwapFailed e
  wrote_as source_rose Usage i b last w e = absurd e.demands
  wrote_as source_rose NoObject i b last w e = absurd e.demands

  pub ran_as : {source_rose : Type 0} (left left' : Option (List ℕ)) (last : ℕ) (held held' : List ℕ → Type 0) (status : Status) → HasRun left left' last held held' stands loaded source_rose rose status → HasRun left left' last held held' means loaded source_rose rose status
  ran_as {source_rose = source_rose} left left' last held held' status r = (r.0, r.1, r.2, record { input = r.3.input; gave = r.3.gave; rest = r.3.rest; gained = r.3.gained; wrote = wrote_as source_rose status r.0 r.1 last r.2 r.3.wrote })

  pub exercised_as : (number count : ℕ) (held held' : List ℕ → Type 0) (status : Status) → Exercised number count held held' stands loaded rose status → Exercised number count held held' means loaded rose status
  exercised_as number count held held' status e = record {
    ended = e.ended;
    read = e.read;
    replies = e.replies;
    ends = e.ends;
    answered = answered_as _ e.read.commands e.replies e.answered;
    untouched = e.untouched;
    wrote = e.wrote;
  }
