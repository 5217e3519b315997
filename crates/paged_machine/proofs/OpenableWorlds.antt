-- Worlds that a machine can be opened for.
use Rattle.std.proofs.Common.{◌≡◌, ℕ, ◌<◌, List, length, sym, subst, ap, ◌∙◌, refl, Option, Some, None, Result, Ok, Err}
use Rattle.std.specs.Prelude.{OnOk, is_some, true, false}
use Rattle.std.specs.List.{All}
use Rattle.std.proofs.lemmas.List.{length-map}
use Rattle.lisp_graph.specs.declared.object.Value.TheVariants as V
use Rattle.lisp_graph.specs.declared.world.AreaKind.{AreaKind}
use Rattle.lisp_graph.specs.declared.world.AreaRule.{AreaRule}
use Rattle.lisp_graph.specs.declared.world.World.{World}
use Rattle.lisp_graph.specs.declared.command.Command.{Command}
use Rattle.lisp_graph.specs.declared.command.Command.TheVariants as C
use Rattle.lisp_heap.specs.lisp_meaning.State.{State}
use Rattle.lisp_heap.specs.lisp_meaning.Opening.{opening}
use Rattle.lisp_heap.specs.HeapView.{HeapView}
use Rattle.lisp_heap.specs.Stands.{Stands}
use Rattle.lisp_heap.specs.Form.{IsForm}
use Rattle.world_text.specs.Limits.{IsAccepted}
use Rattle.lisp_graph.specs.Commands.{IsRunnable}
use Rattle.paged_machine.specs.Holding.{CanRun, StandsFor, Takes, holding}
use Rattle.paged_machine.specs.declared.machine.MachineStage.{MachineStage}
use Rattle.paged_machine.specs.declared.machine.MachineStage.TheVariants.{Swap, Memory, Part, Heap}

-- What a heap takes

-- the space and the areas of an accepted world have the form of what a heap can be opened for
pub formed : (world : World) → IsAccepted world → IsForm world.space world.areas
formed world h =
    let limits = h.limits in
    record {
      sizes = limits.space;
      rules = limits.areas;
      room = h.room;
    }

-- a heap has the command
pub runs : (registers areas : ℕ) (world : World) (command : Command) → world.space.registers ≡ registers → length world.areas ≡ areas → IsRunnable world command → CanRun registers areas command
runs registers areas world (C.Set to V.Nil) same few h = (subst (λ n. to < n) same h.registers, tt)
runs registers areas world (C.Set to (V.Fix n)) same few h = (subst (λ n. to < n) same h.registers, tt)
runs registers areas world (C.Set to (V.Ref n)) same few h = absurd h.limits
runs registers areas world (C.Move to from) same few h = (subst (λ n. to < n) same h.registers.0, subst (λ n. from < n) same h.registers.1)
runs registers areas world (C.Cons to area car cdr) same few h =
    (subst (λ n. to < n) same h.registers.0, subst (λ n. area < n) few h.areas, subst (λ n. car < n) same h.registers.1, subst (λ n. cdr < n) same h.registers.2)
runs registers areas world (C.List to area items) same few h =
    (subst (λ n. to < n) same h.registers.0, subst (λ n. area < n) few h.areas, (h.limits.0, subst (λ (n : ℕ). All (λ item. item < n) items) same h.registers.1))
runs registers areas world (C.Make to area code count) same few h = (subst (λ n. to < n) same h.registers, subst (λ n. area < n) few h.areas, h.limits)
runs registers areas world (C.Grow target count) same few h = (subst (λ n. target < n) same h.registers, h.limits)
runs registers areas world (C.Car to from) same few h = (subst (λ n. to < n) same h.registers.0, subst (λ n. from < n) same h.registers.1)
runs registers areas world (C.Cdr to from) same few h = (subst (λ n. to < n) same h.registers.0, subst (λ n. from < n) same h.registers.1)
runs registers areas world (C.Rplaca target from) same few h = (subst (λ n. target < n) same h.registers.0, subst (λ n. from < n) same h.registers.1)
runs registers areas world (C.Rplacd target from) same few h = (subst (λ n. target < n) same h.registers.0, subst (λ n. from < n) same h.registers.1)
runs registers areas world (C.Eq left right) same few h = (subst (λ n. left < n) same h.registers.0, subst (λ n. right < n) same h.registers.1)
runs registers areas world (C.Get to from index) same few h = (subst (λ n. to < n) same h.registers.0, subst (λ n. from < n) same h.registers.1)
runs registers areas world (C.Put target index from) same few h = (subst (λ n. target < n) same h.registers.0, subst (λ n. from < n) same h.registers.1)
runs registers areas world (C.Size of) same few h = subst (λ n. of < n) same h.registers
runs registers areas world (C.Flip what) same few h = tt
runs registers areas world (C.Scavenge count) same few h = tt
runs registers areas world C.Reclaim same few h = tt
runs registers areas world (C.PageOut count) same few h = tt
runs registers areas world C.Stats same few h = tt
runs registers areas world C.Dump same few h = tt

-- if a heap represents what another represented, so does the machine that holds it
pub stands_on : (held : Option HeapView) (old new : HeapView) → held ≡ Some old → ((s : State) → Stands old s → Stands new s) → (s : State) → StandsFor held s → StandsFor (Some new) s
stands_on None old new is on s stands = absurd stands
stands_on (Some heap) old new is on s stands =
    let here : heap ≡ old = cc (is) in
    on s (subst (λ (h : HeapView). Stands h s) here stands)

-- a machine that represents a world's opening can be given each command that can be run in the world
pub takes_on : {E : Type 0} (world : World) (heap : HeapView) (result : Result (Unit {0}) E) → IsAccepted world → OnOk result (Stands heap (opening world)) → OnOk result ((command : Command) → IsRunnable world command → Takes (Some heap) command)
takes_on world heap (Err error) accepted stands = tt
takes_on world heap (Ok done) accepted stands = λ command runnable.
    runs (length heap.registers) (length heap.table.kinds) world command (sym (stands.represents.represents.count ∙ accepted.limits.roots))
    (sym (ap (λ (ks : List AreaKind). length ks) stands.kinds ∙ length-map world.areas (λ (rule : AreaRule). rule.kind))) runnable

-- an idle machine shows no heap
pub idle_bare : {D : Type 0} (faults : D → ℕ) (stage : Option (MachineStage D)) → (holding faults stage).idle ≡ true → is_some (holding faults stage).heap ≡ false
idle_bare faults None is = refl
idle_bare faults (Some (Swap swap)) is = refl
idle_bare faults (Some (Memory memory)) is = refl
idle_bare faults (Some (Part heap)) is = refl
idle_bare faults (Some (Heap heap)) is = absurd (cc (is))
