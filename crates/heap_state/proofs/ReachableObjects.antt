-- A collection keeps what the registers lead to.
use Rattle.transporter.specs.lisp_meaning.Sound.{IsSound}
use Rattle.transporter.specs.lisp_meaning.Step.{Replied}
use Rattle.transporter.proofs.lisp_meaning.invariant.Collections.{strong_sound}
use Rattle.transporter.proofs.lisp_meaning.closure.Transitions.{step_sound}
use Rattle.transporter.specs.lisp_ground.Image.{image_of}
use Rattle.scavenger.specs.Left.{rest_of}
use Rattle.heap_state.specs.Laws.{ReachStays, StepsRepresent}
use Rattle.heap_state.proofs.MachineInvariant.{strong}

pub reach_stays : ReachStays
reach_stays m t scan registers k s c a next x some allowed step =
    let sound : IsSound s = strong_sound (image_of m t (rest_of scan t registers)) k s (strong m t scan registers k s x.represents x.scans x.reach x.marks) some in
    (step_sound s c a next allowed sound step).references.reach

pub steps_bear : StepsRepresent
steps_bear m m' t t' scan scan' registers registers' k s c r b some allowed x marks = record {
  represents = x.represents;
  scans = x.scans;
  reach = reach_stays m t scan registers k s c (Replied r) x.next b some allowed x.step;
  marks = marks;
}
