-- A collection begins with a flip, and ends with a reclaim.
use Rattle.std.specs.Prelude.{◌≡◌, ℕ, suc, ◌+◌, ◌*◌, Bool, true, false, not, ◌&&◌, ◌||◌, ◌⊎◌, if◌then◌else◌, List, Option, Some, None, IsTrue}
use Rattle.lisp_graph.specs.store_word.declared.sizes.TheConstants.{PAGE_WORDS}
use Rattle.lisp_graph.specs.declared.world.AreaRule.{AreaRule}
use Rattle.lisp_graph.specs.declared.command.Condemn.{Condemn}
use Rattle.lisp_graph.specs.Graph.{Graph, refers_in}
use Rattle.lisp_graph.specs.Totals.{total, if_true}
use Rattle.lisp_meaning.specs.machine.State.{rule_of, is_static, condemns, survivor, Condemned, Idle, Running, Store, State, object, is_held}
use Rattle.lisp_meaning.specs.machine.Charges.{charges}
use Rattle.lisp_meaning.specs.machine.Reach.{Closed, closure}

-- the registers and the objects of a state
abbrev pub graph_of : State → Graph
graph_of s = record { registers = s.registers; objects = s.store.objects }

abbrev pub is_condemned_level : Condemn → Option ℕ → Bool
is_condemned_level what None = false
is_condemned_level what (Some level) = condemns what level

-- condemned by such a flip: held at a condemned level, in an area that isn't static
abbrev pub condemned_by : List AreaRule → Store → Condemn → ℕ → Bool
condemned_by areas s what n = not (is_static (rule_of areas (object s n).area).kind) && is_condemned_level what (s.held n)

-- the roots of a collection: the names in the registers, and the held names that aren't condemned
abbrev pub roots_of : State → Condemn → ℕ → Bool
roots_of s what n = refers_in n s.registers || (is_held s.store n && not (condemned_by s.areas s.store what n))

-- bound by such a flip: what is reachable from the roots
abbrev pub bound_by : State → Condemn → ℕ → Bool
bound_by s what = closure s.store.objects (roots_of s what)

-- the words of an area's husks that such a flip condemns
abbrev pub gone_by : List AreaRule → Store → ℕ → Condemn → ℕ → ℕ
gone_by areas s top what a = if is_static (rule_of areas a).kind then 0 else total (λ l. if_true (condemns what l) (s.husks a l)) (suc top)

-- the words of an area's husks at a level that such a flip doesn't condemn
abbrev pub husks_left : List AreaRule → Store → Condemn → ℕ → ℕ → ℕ
husks_left areas s what a l = if is_static (rule_of areas a).kind then s.husks a l else if_true (not (condemns what l)) (s.husks a l)

abbrev pub aim_by : State → Condemn → ℕ → Condemned
aim_by s what pages = record {
  what = what;
  condemned = condemned_by s.areas s.store what;
  bound = bound_by s what;
  pages = pages;
  gone = gone_by s.areas s.store s.space.levels what;
}

-- after a flip with this number of base pages to scan: the work owed is one for each register, 256 for each page, and the charges condemned
abbrev pub flipped : State → Condemn → ℕ → State
flipped s what pages = record s {
  phase = Running (record {
    aim = aim_by s what pages;
    owed = s.space.registers + PAGE_WORDS * pages + charges s.store (condemned_by s.areas s.store what);
    paid = 0;
    over = false;
  });
  store = record s.store { husks = husks_left s.areas s.store what };
}

-- A collection with this aim ends: some condemned names are freed, the others remain as survivors, and what is held is closed.
pub record Settles (old : State) (aim : Condemned) (new : State) : Type 0 where
  pub phase : new.phase ≡ Idle
  pub space : new.space ≡ old.space
  pub areas : new.areas ≡ old.areas
  pub registers : new.registers ≡ old.registers
  pub objects : new.store.objects ≡ old.store.objects
  pub husks : new.store.husks ≡ old.store.husks
  -- no name becomes held
  pub nothing_new : (n : ℕ) → old.store.held n ≡ None → new.store.held n ≡ None
  -- a name that isn't condemned remains at its level
  pub spared : (n : ℕ) → aim.condemned n ≡ false → new.store.held n ≡ old.store.held n
  -- a condemned name is freed, or is bound and remains at its survivor's level
  pub doomed : (n level : ℕ) → aim.condemned n ≡ true → old.store.held n ≡ Some level
      → (new.store.held n ≡ None) ⊎ ((new.store.held n ≡ Some (survivor old.space.levels aim.what level)) × IsTrue (aim.bound n))
  pub closed : Closed (graph_of new) (is_held new.store)
