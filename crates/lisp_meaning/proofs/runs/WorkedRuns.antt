-- The worked runs, by computation.
use Rattle.std.proofs.Common.{◌≡◌, ◌==◌, ℕ, zero, suc, ◌<◌, true, pos, inl, inr, refl, subst, arith, List, []}
use Rattle.std.proofs.lemmas.Bool.{eqb-true, or_cases}
use Rattle.lisp_graph.specs.declared.command.Command.{Command}
use Rattle.lisp_graph.specs.declared.world.AreaRule.{AreaRule}
use Rattle.lisp_graph.specs.declared.world.World.{World}
use Rattle.lisp_graph.specs.Graph.{object_at, refers_in, body_refers}
use Rattle.lisp_graph.specs.Totals.{total}
use Rattle.lisp_meaning.specs.machine.Step.{Answer}
use Rattle.lisp_meaning.specs.machine.Run.{Run}
use Rattle.lisp_meaning.specs.machine.Opening.{opening, IsWhole}
use Rattle.lisp_meaning.specs.examples.Worked as E
use Rattle.lisp_meaning.specs.examples.Worked.{Shows, world, work, pool, pools, circle}
use Rattle.lisp_meaning.specs.reading.Forwards.{here, gc_forward, header_forward}
use Rattle.lisp_meaning.specs.reading.Value.{fixnum, nil, cons}
use Rattle.lisp_meaning.specs.reading.Objects.{pair_3}
use Rattle.lisp_meaning.specs.reading.Units.{lowest}
use Rattle.lisp_meaning.proofs.closure.Transitions.{opening_sound}
use Rattle.lisp_meaning.proofs.runs.Plays.{Choices, turns, turns_are, commands_of, plays, may_all, plays_run}

-- a play that may be, and shows so much
pub shows : (w : World) (x : Choices) (commands : List Command) (answers : List Answer) → IsWhole w → may_all (opening w) (turns x 0 commands) ≡ true → (plays (opening w) (turns x 0 commands)).0 ≡ answers → Shows w commands answers
shows w x commands answers whole may is = (
  (plays (opening w) (turns x 0 commands)).1,
  subst (λ (cs : List Command). Run (opening w) cs answers (plays (opening w) (turns x 0 commands)).1) (turns_are x 0 commands)
      (subst (λ (xs : List Answer). Run (opening w) (commands_of (turns x 0 commands)) xs (plays (opening w) (turns x 0 commands)).1) is (plays_run (opening w) (turns x 0 commands) (opening_sound w whole) may)),
)

-- the collections are finished after these commands
abbrev pub ending : List ℕ → Choices
ending over = record { over = over; faults = [] }

-- a world without objects, whose roots are nil
pub world_whole : (areas : List AreaRule) (levels rate capacity : ℕ) → IsWhole (world areas levels rate capacity)
unfolding refers_in
world_whole areas levels rate capacity = record { registers = omega arith; roots = λ n e. absurd cc; objects = λ m n l e. absurd (omega arith) }

pub circle_whole : IsWhole circle
unfolding refers_in
circle_whole = record { registers = omega arith; roots = λ n e. only n e; objects = λ m n l e. objects m n l e }
  where
    same : (n : ℕ) → (0 == n) ≡ true → n < 1
    same n e = let x = eqb-true 0 n e in omega arith

    only : (n : ℕ) → refers_in n circle.roots ≡ true → n < 1
    only n e = elim (or_cases (0 == n) _ e) [ inl x ↦ same n x | inr x ↦ absurd cc ]

    objects : (m n : ℕ) → m < 1 → body_refers n (object_at circle.objects m).body ≡ true → n < 1
    objects zero n l e = same n e
    objects (suc m) n l e = absurd (omega arith)

-- Words

pub forwards_lead : E.ForwardsLead
forwards_lead = record {
  final = (1, 1, omega arith, omega arith, header_forward refl (gc_forward refl (here refl)));
  value = cons 0 0 (1, 1, omega arith, omega arith, header_forward refl (gc_forward refl (here refl))) refl refl;
  stands = pair_3 3 refl refl refl (fixnum (pos 7)) refl nil;
}

pub next_units : E.NextUnits
unfolding total lowest
next_units = record { near = refl; register = refl; lowest = refl; none = refl }
