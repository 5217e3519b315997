use Rattle.std.proofs.Common.{◌≡◌, rules, inl, ℕ, List, Ok, length, refl, sym, ◌∙◌, ap, subst, arith}
use Rattle.band_store.specs.Directory.{directory, index, is_ordered}
use Rattle.band_store.specs.Format.{Holds, Save, gate_behind}
use Rattle.band_store.proofs.UniqueAnswers.{damaged_answer, held_answer, holds_once, not_both}
use Rattle.band_store.proofs.Records.{ordered_index}
use Rattle.band_store.proofs.Texts.{same_length, texts_stand}
use Rattle.band_store.proofs.store.BandStore.open.Goals as goal

pub invariant_of-self-2 : goal.invariant_of-self-2
invariant_of-self-2 g c =
    let read = c.in_ok-gate.ensures.read in
    (ap is_ordered read.2 ∙ ordered_index read.0, omega (arith, c.in-Ok.ensures.0, c.len.ensures, c.read_directory.new.bands.ok.0))

-- a refusal has one cause
pub returns-in_err-gate-clause-value : goal.returns-in_err-gate-clause-value
returns-in_err-gate-clause-value g c saves holds =
    let bytes = g.D.BandDisk.bytes c.args.disk.now in
    held_answer bytes saves c.from_residual.result (search rules) (search rules) holds

pub returns-in_err-gate-clause-damaged : goal.returns-in_err-gate-clause-damaged
returns-in_err-gate-clause-damaged g c at damaged =
    let bytes = g.D.BandDisk.bytes c.args.disk.now in
    damaged_answer bytes at c.from_residual.result (search rules) (search rules) damaged

-- the disk contains what it contained, and everything is synced
pub returns-clause-opened : goal.returns-clause-opened
returns-clause-opened g c =
    let read = c.in_ok-gate.ensures.read in
    let reads = c.read_directory.ensures.reads in (
      read.0,
      record {
        here = record { opened = refl; holds = subst (Holds read.0) (sym reads.bytes_stay) read.1; names = read.2; next = read.3 };
        durable = λ image now. c.requires image (reads.fewer image now) ∙ sym reads.bytes_stay;
      },
      omega (arith, c.in-Ok.ensures.1, c.len.ensures, c.read_directory.new.bands.ok.0, ap length read.2, same_length _ _ _ (texts_stand read.0 _ read.1)),
    )

pub returns-clause-ok : goal.returns-clause-ok
returns-clause-ok g c saves holds =
    let read = c.in_ok-gate.ensures.read in
    let reads = c.read_directory.ensures.reads in
    let same = holds_once _ read.0 saves read.1 holds in
    record {
      here = record { opened = refl; holds = subst (Holds saves) (sym reads.bytes_stay) holds; names = read.2 ∙ ap index same; next = read.3 ∙ ap gate_behind same };
      durable = λ image now. c.requires image (reads.fewer image now) ∙ sym reads.bytes_stay;
    }

pub returns-clause-value : goal.returns-clause-value
returns-clause-value g c saves holds =
    let read = c.in_ok-gate.ensures.read in
    let count : c.in-Ok.count ≡ length (directory read.0) = omega (arith, c.in-Ok.ensures.1, c.len.ensures, c.read_directory.new.bands.ok.0, ap length read.2, same_length _ _ _ (texts_stand read.0 _ read.1)) in
    inl (ap (λ (n : ℕ). Ok n) (count ∙ ap (λ (l : List Save). length (directory l)) (holds_once _ read.0 saves read.1 holds)))

pub returns-clause-damaged : goal.returns-clause-damaged
returns-clause-damaged g c at damaged =
    let read = c.in_ok-gate.ensures.read in
    absurd (not_both _ read.0 at read.1 damaged)
