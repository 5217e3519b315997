use Rattle.std.proofs.Common.{ℕ, ◌≡◌, ◌/◌, refl, sym, ◌∙◌, subst}
use Rattle.area_space.specs.Table.{IsOld}
use Rattle.transporter.specs.Moving.{stays as stays_put}
use Rattle.transporter.specs.Settling.{RefersToOld}
use Rattle.transporter.proofs.PageMarks.{marks-read}
use Rattle.transporter.proofs.TransportSequences.{same-stores, read-once}
use Rattle.transporter.proofs.SettledWords.{reference-inside, settles-same}
use Rattle.transporter.proofs.settling.settle.Goals.{in_default-via-in-Some+else-is_old, in_default-via-in_default}
use Rattle.transporter.proofs.settling.settle.Goals as goal

pub is_old-requires : goal.is_old-requires
is_old-requires g c = reference-inside c.in-Some.at c.requires (sym c.reference.ensures ∙ c.in-Some.is)

pub settle_old-requires-clause-agrees : goal.settle_old-requires-clause-agrees
settle_old-requires-clause-agrees g c = sym c.reference.ensures ∙ c.in-Some.is

pub settle_old-requires-clause-in_range : goal.settle_old-requires-clause-in_range
settle_old-requires-clause-in_range g c = c.is_old.ensures.0 c.if-is_old.true

pub returns-in-Some-clause-unchanged : goal.returns-in-Some-clause-unchanged
returns-in-Some-clause-unchanged g c = λ none. absurd (none (c.in-Some.at, sym c.reference.ensures ∙ c.in-Some.is, c.is_old.ensures.0 c.if-is_old.true))

pub returns-in-Some-clause-stays_fresh : goal.returns-in-Some-clause-stays_fresh
returns-in-Some-clause-stays_fresh g c = λ none. absurd (none (c.in-Some.at, sym c.reference.ensures ∙ c.in-Some.is, c.is_old.ensures.0 c.if-is_old.true))

pub returns-in_default-clause-settles : goal.returns-in_default-clause-settles
returns-in_default-clause-settles g c = λ it registers v can. settles-same (g.M.Memory.seen c.args.ground.now.mem) c.args.ground.now.table it c.args.word can.kept

pub returns-in_default-clause-words : goal.returns-in_default-clause-words
returns-in_default-clause-words g c = stays_put young same-stores refl refl
  where
    young : RefersToOld c.args.ground.now.table c.args.word → ⊥
    young h = elim c.in_default.branch [
      | in_default-via-in-Some+else-is_old w ↦
          let same : h.0 ≡ w.in-Some.at = (let e = sym h.1 ∙ (sym c.reference.ensures ∙ w.in-Some.is) in cc) in
          let e = w.is_old.ensures.1 (subst (λ (a : ℕ). IsOld c.args.ground.now.table (a / 4096)) same h.2) in
          let f = w.if-is_old.false in
          absurd (cc)
      | in_default-via-in_default w ↦ w.in_default.not-Some h.0 (c.reference.ensures ∙ h.1)
    ]

pub returns-in_default-clause-moves : goal.returns-in_default-clause-moves
returns-in_default-clause-moves g c = read-once c.args.ground.now.table same-stores

pub returns-in_default-clause-marks : goal.returns-in_default-clause-marks
returns-in_default-clause-marks g c = marks-read c.args.ground.now.table same-stores

pub returns-in-Some-clause-moves : goal.returns-in-Some-clause-moves
returns-in-Some-clause-moves g c = c.settle_old.ensures.stays_ground.moves

pub returns-in-Some-clause-table : goal.returns-in-Some-clause-table
returns-in-Some-clause-table g c = c.settle_old.ensures.stays_ground.table

pub returns-in-Some-clause-live : goal.returns-in-Some-clause-live
returns-in-Some-clause-live g c = c.settle_old.ensures.stays_ground.live

pub returns-in-Some-clause-preserves : goal.returns-in-Some-clause-preserves
returns-in-Some-clause-preserves g c = c.settle_old.ensures.stays_ground.preserves

pub returns-in-Some-clause-marks : goal.returns-in-Some-clause-marks
returns-in-Some-clause-marks g c = c.settle_old.ensures.stays_ground.marks
