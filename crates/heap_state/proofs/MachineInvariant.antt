-- What is represented and scanned is the whole invariant.
use Rattle.std.proofs.Common.{◌≡◌, ℕ, ◌*◌, ◌/◌, inl, inr, sym, subst, List, arith}
use Rattle.std.proofs.lemmas.Bool.{cases_Bool}
use Rattle.store_word.specs.Words.{Parts}
use Rattle.mem_port.specs.Store.{Store, MarksHold}
use Rattle.area_space.specs.Table.{Table, IsOld}
use Rattle.transporter.specs.lisp_meaning.State.{State, Phase, Idle, Running}
use Rattle.transporter.specs.lisp_meaning.Image.{old_at}
use Rattle.transporter.specs.lisp_meaning.Roles.{RoleMap}
use Rattle.transporter.specs.lisp_meaning.Sound.{Reach}
use Rattle.transporter.specs.lisp_meaning.Stands.{PhaseOf, IsScanned, Work}
use Rattle.transporter.specs.lisp_meaning.Invariant.{MachineInvariant}
use Rattle.transporter.specs.lisp_meaning.Interpretation.{interpretation}
use Rattle.transporter.specs.lisp_ground.Image.{image_of}
use Rattle.transporter.proofs.lisp_ground.invariant.OfImage.{kept_image}
use Rattle.transporter.proofs.lisp_ground.regions.OldAndLive.{old_region}
use Rattle.scavenger.specs.Scan.{Scan}
use Rattle.scavenger.specs.Left.{rest_of}
use Rattle.transporter.specs.lisp_ground.Collecting.{StandsOn}
use Rattle.transporter.proofs.lisp_ground.regions.OldAndLive.{not_old_region}
use Rattle.heap_state.specs.PhaseAgrees.{PhaseAgrees}
use Rattle.heap_state.specs.Represents.{Represents}
use Rattle.heap_state.specs.RepresentsAll.{RepresentsAll}
use Rattle.heap_state.specs.Laws.{ScanMatchesPhase, RepresentsIsStands}
use Rattle.heap_state.specs.Scans.{Scans}

module _ (m : Store) (t : Table) (scan : Scan) (registers : List Parts) (k : RoleMap) (s : State) (b : Represents m t registers k s) where
  phase_of : (p : Phase) → PhaseAgrees t p → Scans m t scan registers k s.store p 0 → PhaseOf (image_of m t (rest_of scan t registers)) p
  phase_of Idle a x = (
    a.0,
    λ at. elim (cases_Bool (old_at (image_of m t (rest_of scan t registers)) at)) [
      | inl old ↦ absurd (a.1 (at / 4096) (old_region m t (rest_of scan t registers) b.kept.table at old))
      | inr young ↦ young
    ],
  )
  phase_of (Running c) a x = (a, subst (IsScanned (image_of m t (rest_of scan t registers))) x.over x.clean.scanned)

  work_of : (p : Phase) → Scans m t scan registers k s.store p 0 → Work (image_of m t (rest_of scan t registers)) s.store k.at p
  work_of Idle x = tt
  work_of (Running c) x = λ going. (let w = x.work going in omega arith)

  pub strong : Scans m t scan registers k s.store s.phase 0 → Reach s s.phase → MarksHold m → MachineInvariant (image_of m t (rest_of scan t registers)) k s
  strong x reach marks = record {
    kept = kept_image m t (rest_of scan t registers) (interpretation k s) b.kept marks;
    count = b.count;
    registers = b.means;
    phase = phase_of s.phase b.aims x;
    reach = reach;
    work = work_of s.phase x;
  }

-- and conversely

module _ (m : Store) (t : Table) (scan : Scan) (registers : List Parts) (k : RoleMap) (s : State) (x : StandsOn m t (rest_of scan t registers) k s) where
  aims_of : (p : Phase) → PhaseOf (image_of m t (rest_of scan t registers)) p → PhaseAgrees t p
  aims_of Idle phase = (phase.0, none)
    where
      none : (region : ℕ) → IsOld t region → ⊥
      none region old =
          let here : 4096 * region / 4096 ≡ region = omega arith in
          not_old_region m t (rest_of scan t registers) x.ground.table (4096 * region) (phase.1 (4096 * region)) (subst (λ (i : ℕ). IsOld t i) (sym here) old)
  aims_of (Running c) phase = phase.0

  scans_of : (p : Phase) → ScanMatchesPhase m t scan registers p → Work (image_of m t (rest_of scan t registers)) s.store k.at p → Scans m t scan registers k s.store p 0
  scans_of Idle swept work = swept
  scans_of (Running c) swept work = record { clean = swept.0; over = swept.1; work = λ going. (let w = work going in omega arith) }

  pub represents_by : ScanMatchesPhase m t scan registers s.phase → MarksHold m → RepresentsAll m t scan registers k s
  represents_by swept marks = record {
    represents = record { kept = x.ground; count = x.strong.count; means = x.strong.registers; aims = aims_of s.phase x.strong.phase };
    scans = scans_of s.phase swept x.strong.work;
    reach = x.strong.reach;
    marks = marks;
  }

pub stands_by : (m : Store) (t : Table) (scan : Scan) (registers : List Parts) (k : RoleMap) (s : State) → RepresentsAll m t scan registers k s → StandsOn m t (rest_of scan t registers) k s
stands_by m t scan registers k s x = record { strong = strong m t scan registers k s x.represents x.scans x.reach x.marks; ground = x.represents.kept }

pub represents_is_stands : RepresentsIsStands
represents_is_stands = record {
  stands = λ m t scan registers k s x. stands_by m t scan registers k s x;
  represents = λ m t scan registers k s x swept marks. represents_by m t scan registers k s x swept marks;
}
