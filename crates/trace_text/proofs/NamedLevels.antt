-- The levels that the word of a flip names.
use Rattle.std.proofs.Common.{◌≡◌, ℕ, ◌-◌, ◌≤◌, ◌^◌, List, [], ◌∷◌, length, Result, Ok, Err, IfOk, bit_or, inl, inr, sym, subst, arith}
use Rattle.store_word.specs.declared.levels.Levels.{Levels}
use Rattle.store_word.specs.declared.space.Space.{Space}
use Rattle.store_word.specs.Sets.{HasLevel}
use Rattle.store_word.proofs.SetLaws.{has_either, has_none, has_one}
use Rattle.lisp_graph.specs.declared.world.AreaRule.{AreaRule}
use Rattle.lisp_graph.specs.declared.command.Command.{Command}
use Rattle.lisp_graph.specs.declared.command.Command.TheVariants as commands
use Rattle.lisp_graph.specs.declared.command.Condemn.{Condemn}
use Rattle.lisp_graph.specs.declared.command.Condemn.TheVariants.{Full, Chosen}
use Rattle.lisp_graph.specs.Flips.{AreChosen, CondemnsWithin, InLevels}
use Rattle.world_text.specs.declared.reading.reason.Reason.{Reason}
use Rattle.trace_text.specs.declared.read.LineKind.{LineKind}
use Rattle.trace_text.specs.declared.read.LineKind.TheVariants as kinds
use Rattle.trace_text.specs.Commands.{said_by}
use Rattle.trace_text.specs.Spelled.{AreAscending, NamesLevels, SayCommand, SaysLine, SpellsCondemn, set_with}

-- a level of the set remains in it
stays : (set : ℕ) (levels : List ℕ) (level : ℕ) → HasLevel set level → HasLevel (set_with set levels) level
stays set [] level has = has
stays set (next ∷ levels) level has = stays (bit_or set (2 ^ (next - 1))) levels level ((has_either set (2 ^ (next - 1)) level).1 (inl has))

-- ascending levels are at most the top
up_to : (top last set : ℕ) (levels : List ℕ) → AreAscending top last levels → ((level : ℕ) → 1 ≤ level → HasLevel set level → level ≤ top)
    → (level : ℕ) → 1 ≤ level → HasLevel (set_with set levels) level → level ≤ top
up_to top last set [] ascend within level some has = within level some has
up_to top last set (next ∷ levels) ascend within level some has =
    up_to top next (bit_or set (2 ^ (next - 1))) levels ascend.2
    (λ level some has. elim ((has_either set (2 ^ (next - 1)) level).0 has) [
      | inl h ↦ within level some h
      | inr h ↦ omega (arith, (has_one next level (omega (arith, ascend.0)) some).0 h, ascend.1)
    ])
    level some has

are_chosen : (top : ℕ) (levels : List ℕ) (set : Levels) → 1 ≤ length levels → AreAscending top 0 levels → set.0 ≡ set_with 0 levels → AreChosen top set
are_chosen top [] set some ascend is = absurd (omega arith)
are_chosen top (first ∷ levels) set some ascend is =
    let from : 1 ≤ first = omega (arith, ascend.0) in
    let here : HasLevel (bit_or 0 (2 ^ (first - 1))) first = (has_either 0 (2 ^ (first - 1)) first).1 (inr ((has_one first first from from).1 (λ i. first))) in
    let P : ℕ → Type 0 = λ bits. HasLevel bits first in
    record {
      some = (first, from, subst P (sym is) (stays (bit_or 0 (2 ^ (first - 1))) levels first here));
      within = λ level low has.
          let Q : ℕ → Type 0 = λ bits. HasLevel bits level in
          up_to top 0 0 (first ∷ levels) ascend (λ level low none. absurd (has_none level none)) level low (subst Q is has);
    }

condemned : (top : ℕ) (what : Condemn) (word : List ℕ) → SpellsCondemn top what word → CondemnsWithin top what
condemned top Full word is = tt
condemned top (Chosen set) word is = are_chosen top is.0 set is.1 is.2 is.3

said_levels : (space : Space) (areas : List AreaRule) (words : List (List ℕ)) (command : Command) → SayCommand space areas words command → InLevels space.levels command
said_levels space areas words (commands.Flip what) say = condemned space.levels what say.is.0 say.is.2
said_levels space areas words _ say = tt

-- what a line means names levels of the world
pub line_levels : (space : Space) (areas : List AreaRule) (text : List ℕ) (result : Result LineKind Reason) (command : Command) → IfOk result (λ kind. SaysLine space areas text (said_by kind command))
    → IfOk result (λ kind. NamesLevels space.levels (said_by kind command))
line_levels space areas text (Ok kinds.Command) command says = said_levels space areas says.0 command says.2
line_levels space areas text (Ok kinds.End) command says = tt
line_levels space areas text (Err reason) command says = tt
