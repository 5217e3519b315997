-- Lines of the world that were passed and request nothing.
use Rattle.std.proofs.Common.{◌≡◌, ℕ, zero, suc, List, [], Option, true, refl, sym, ◌∙◌}
use Rattle.outer_ports.specs.Ports.{IsAtEnd}
use Rattle.outer_ports.proofs.Gains.{gained_nothing}
use Rattle.lisp_graph.specs.declared.command.Command.{Command}
use Rattle.paged_machine.specs.lisp_meaning.State.{State}
use Rattle.line_input.specs.Reader.{Buffered}
use Rattle.line_input.proofs.Cuts.{passes_whole}
use Rattle.input_verdict.specs.Conses.{Passed}
use Rattle.input_verdict.specs.Input.{JudgedInput}
use Rattle.replay_run.proofs.SessionInvariant.{Going}
use Rattle.replay_run.proofs.AcceptedLines.{going_act}

ended_same : (n : ℕ) (place place' : JudgedInput) (reader reader' : Buffered) → Passed n place place' reader reader' → reader'.ended ≡ reader.ended
ended_same zero place place' reader reader' passed = λ i. (passed.1 i).ended
ended_same (suc n) place place' reader reader' passed = passed.3.ended ∙ ended_same n _ _ _ _ passed.2

-- what holds between two lines holds after them
pub going_passed : {left left' : Option (List ℕ)} {last : ℕ} {held held' : List ℕ → Type 0} {stands : State → Type 0} {takes : Command → Type 0} {idle : Type 0} {before now : ℕ} {place place' : JudgedInput} {reader reader' : Buffered} {pending : List ℕ}
    (n : ℕ) → Passed n place place' reader reader' → Going left left' last held held' stands takes idle before now place reader pending → (reader.ended ≡ true → IsAtEnd left')
    → Going left left' last held held' stands takes idle before now place' reader' pending
going_passed zero passed going end = rw (passed.0, passed.1) going
going_passed {reader' = reader'} (suc n) passed going end =
    let line = passed.3 in
    going_act (going_passed n passed.2 going end) line.sound (λ is. end (sym (ended_same n _ _ _ _ passed.2) ∙ is)) line.found (passes_whole passed.1 line.found line.here) _ line.accepted reader' line.rest line.ended
    (record { given = []; all = refl; gained = gained_nothing }, (λ state stood. stood), refl) ((λ command took. took), (λ was. was))

-- the same for the same place
pub going_here : {left left' : Option (List ℕ)} {last : ℕ} {held held' : List ℕ → Type 0} {stands : State → Type 0} {takes : Command → Type 0} {idle : Type 0} {before now : ℕ} {place place' : JudgedInput} {reader : Buffered} {pending : List ℕ}
    → place' ≡ place → Going left left' last held held' stands takes idle before now place reader pending → Going left left' last held held' stands takes idle before now place' reader pending
going_here same going = rw same going
