-- Worlds that are opened are sound.
use Rattle.std.proofs.Common.{◌≡◌, ◌≤◌, length, Bool, true, false, cond, refl, subst, Option, Some, None}
use Rattle.lisp_graph.specs.declared.world.World.{World}
use Rattle.paged_machine.specs.lisp_meaning.Opening.{opening}
use Rattle.paged_machine.specs.lisp_meaning.Sound.{IsSound as IsSoundState}
use Rattle.paged_machine.proofs.lisp_meaning.closure.Limits.{world_whole}
use Rattle.paged_machine.proofs.lisp_meaning.closure.Transitions.{opening_sound}
use Rattle.input_verdict.specs.Input.{JudgedInput}
use Rattle.world_text.specs.Limits.{IsAccepted}
use Rattle.input_verdict.specs.Places.{IsPlace}
use Rattle.input_verdict.specs.Verdict.{in_trace, world_of}

pub opened_sound : (world : World) → IsAccepted world → IsSoundState (opening world)
opened_sound world h = opening_sound world (world_whole world h.limits)

-- what holds of each world that can be opened holds of the world of a trace
opened_at : (P : World → Type 0) → ((world : World) → IsAccepted world → P world) → (place : JudgedInput) → IsPlace place → (world : World) → world_of place ≡ Some world → P world
opened_at P each place form world is = go (in_trace place) refl is
  where
    go : (b : Bool) → in_trace place ≡ b → ◌≡◌ {A = Option World} (cond b (Some place.judge.builder.world) None) (Some world) → P world
    go true inside e = let same : place.judge.builder.world ≡ world = cc (e) in subst P same (each place.judge.builder.world (form.accepted inside))
    go false inside e = absurd (cc (e))

-- such a world is sound when it is opened
pub sound_at : (place : JudgedInput) → IsPlace place → (world : World) → world_of place ≡ Some world → IsSoundState (opening world)
sound_at place form world is = opened_at (λ w. IsSoundState (opening w)) opened_sound place form world is

-- and has at most 16 areas
pub few_at : (place : JudgedInput) → IsPlace place → (world : World) → world_of place ≡ Some world → length world.areas ≤ 16
few_at place form world is = opened_at (λ w. length w.areas ≤ 16) (λ w h. h.limits.areas.count.1) place form world is
