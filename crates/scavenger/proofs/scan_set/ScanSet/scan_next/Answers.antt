use Rattle.std.proofs.Common.{◌∙◌, refl, sym}
use Rattle.transporter.proofs.PageMarks.{marks-read}
use Rattle.transporter.proofs.TransportSequences.{read-once, same-stores}
use Rattle.transporter.proofs.Places.{on-err}
use Rattle.std.specs.Prelude.{Some, None}
use Rattle.scavenger.specs.declared.scan_set.Unit.TheVariants.{Register, Word}
use Rattle.scavenger.specs.Left.{next_of}
use Rattle.scavenger.specs.Scanning.{register, word, none}
use Rattle.scavenger.proofs.UnitScans.{none-is-over}
use Rattle.scavenger.proofs.MovedWords.{next-moves}
use Rattle.scavenger.proofs.NextUnits.{next-goes}
use Rattle.scavenger.proofs.ScanSequences.{scans-count}
use Rattle.scavenger.proofs.scan_set.ScanSet.scan_next.Goals as goal

pub returns-in_err-near-in-Some-Word-clause-fault : goal.returns-in_err-near-in-Some-Word-clause-fault
returns-in_err-near-in-Some-Word-clause-fault g c = on-err c.from_residual-in_err-near-in-Some-Word.result (c.in_err-near-in-Some-Word.ensures.fault c.args.registers.now c.requires.collecting)

pub returns-in_ok-scan_register-in-Some-Register-clause-scans : goal.returns-in_ok-scan_register-in-Some-Register-clause-scans
returns-in_ok-scan_register-in-Some-Register-clause-scans g c = register c.in-Some-Register.register c.in_ok-scan_register-in-Some-Register.ensures.scans

pub returns-in_ok-near-in-Some-Word-clause-scans : goal.returns-in_ok-near-in-Some-Word-clause-scans
returns-in_ok-near-in-Some-Word-clause-scans g c = word c.in-Some-Word.at (c.in_ok-near-in-Some-Word.ensures.scans c.args.registers.now c.requires.collecting)

pub returns-in-None-clause-scans : goal.returns-in-None-clause-scans
returns-in-None-clause-scans g c =
    let is = sym c.choose_unit.ensures ∙ c.in-None.is in
    none is (none-is-over c.requires.collecting is) refl refl refl refl

pub returns-in_err-scan_register-in-Some-Register-clause-over : goal.returns-in_err-scan_register-in-Some-Register-clause-over
returns-in_err-scan_register-in-Some-Register-clause-over g c = λ over.
    next-goes c.args.self.now c.args.ground.now.table c.in-Some-Register.field-0 (sym c.choose_unit.ensures ∙ c.in-Some-Register.is) over

pub returns-in_err-near-in-Some-Word-clause-over : goal.returns-in_err-near-in-Some-Word-clause-over
returns-in_err-near-in-Some-Word-clause-over g c = λ over.
    next-goes c.args.self.now c.args.ground.now.table c.in-Some-Word.field-0 (sym c.choose_unit.ensures ∙ c.in-Some-Word.is) over

pub returns-in_ok-scan_register-in-Some-Register-clause-over : goal.returns-in_ok-scan_register-in-Some-Register-clause-over
returns-in_ok-scan_register-in-Some-Register-clause-over g c = λ over.
    next-goes c.args.self.now c.args.ground.now.table c.in-Some-Register.field-0 (sym c.choose_unit.ensures ∙ c.in-Some-Register.is) over

pub returns-in_ok-near-in-Some-Word-clause-over : goal.returns-in_ok-near-in-Some-Word-clause-over
returns-in_ok-near-in-Some-Word-clause-over g c = λ over.
    next-goes c.args.self.now c.args.ground.now.table c.in-Some-Word.field-0 (sym c.choose_unit.ensures ∙ c.in-Some-Word.is) over

pub returns-in_ok-near-in-Some-Word-clause-count : goal.returns-in_ok-near-in-Some-Word-clause-count
returns-in_ok-near-in-Some-Word-clause-count g c = scans-count (word c.in-Some-Word.at (c.in_ok-near-in-Some-Word.ensures.scans c.args.registers.now c.requires.collecting))

pub returns-in-None-clause-moves : goal.returns-in-None-clause-moves
returns-in-None-clause-moves g c = read-once c.args.ground.now.table same-stores

pub returns-in-None-clause-marks : goal.returns-in-None-clause-marks
returns-in-None-clause-marks g c = marks-read c.args.ground.now.table same-stores

pub returns-in_ok-scan_register-in-Some-Register-clause-words : goal.returns-in_ok-scan_register-in-Some-Register-clause-words
returns-in_ok-scan_register-in-Some-Register-clause-words g c =
    next-moves _ _ _ _ c.args.self.now c.args.registers.now _ (next_of c.args.self.now c.args.ground.now.table) (Some (Register c.in-Some-Register.register)) c.in_ok-scan_register-in-Some-Register.ensures.scans.next c.in_ok-scan_register-in-Some-Register.ensures.words

pub returns-in_ok-near-in-Some-Word-clause-words : goal.returns-in_ok-near-in-Some-Word-clause-words
returns-in_ok-near-in-Some-Word-clause-words g c =
    next-moves _ _ _ _ c.args.self.now c.args.registers.now c.args.registers.now (next_of c.args.self.now c.args.ground.now.table) (Some (Word c.in-Some-Word.at)) (c.in_ok-near-in-Some-Word.ensures.scans c.args.registers.now c.requires.collecting).next c.in_ok-near-in-Some-Word.ensures.words

pub returns-in-None-clause-words : goal.returns-in-None-clause-words
returns-in-None-clause-words g c =
    next-moves _ _ _ _ c.args.self.now c.args.registers.now c.args.registers.now (next_of c.args.self.now c.args.ground.now.table) None (sym c.choose_unit.ensures ∙ c.in-None.is) (refl, refl)
