use Rattle.std.proofs.Common.{◌+◌, length, drop, sym, ◌∙◌, ap, subst, arith}
use Rattle.band_disk.proofs.Moments.{reads_joined}
use Rattle.band_store.specs.Gates.{IsRecordAt}
use Rattle.band_store.proofs.Records.{IsWalked, found_at, walk_broken, walk_first, walk_fits, walk_more, walk_ordered, walk_shut, walk_within}
use Rattle.band_store.proofs.reading.read_directory.Goals as goal

pub records-init : goal.records-init
records-init g c = record {
  walked = walk_first (g.D.BandDisk.bytes c.args.disk.now) c.args.bands.now.items (c.in_ok-has_header.ensures.on_true c.if-not-branch.false) c.requires;
  reads = c.has_header.ensures.reads;
  quiet = c.in_ok-has_header.ensures.cause.quiet;
  changes = c.has_header.ensures.changes;
}

pub gate_at-requires : goal.gate_at-requires
gate_at-requires g c =
    let l = c.records in
    omega (arith, walk_within (g.D.BandDisk.bytes c.args.disk.now) l.bands.items l.gate l.invariant.walked, ap length l.invariant.reads.bytes_stay)

-- what is at the gate, on the unchanged disk
pub returns-in-Shut-clause-read : goal.returns-in-Shut-clause-read
returns-in-Shut-clause-read g c =
    let l = c.records in
    walk_shut (g.D.BandDisk.bytes c.args.disk.now) l.bands.items l.gate l.invariant.walked (found_at l.gate _ _ _ _ l.invariant.reads.bytes_stay c.in_ok-gate_at.ensures.ok c.in-Shut.is)

pub returns-in-Broken-clause-refused : goal.returns-in-Broken-clause-refused
returns-in-Broken-clause-refused g c =
    let l = c.records in
    walk_broken (g.D.BandDisk.bytes c.args.disk.now) l.bands.items l.gate l.invariant.walked (found_at l.gate _ _ _ _ l.invariant.reads.bytes_stay c.in_ok-gate_at.ensures.ok c.in-Broken.is)

pub put_name-requires : goal.put_name-requires
put_name-requires g c =
    let l = c.records in
    walk_ordered (g.D.BandDisk.bytes c.args.disk.now) l.bands.items l.gate l.invariant.walked

-- a record ends within the bytes
pub overflow_add-at : goal.overflow_add-at
overflow_add-at g c =
    let l = c.records in
    let here : IsRecordAt c.in-Record.name c.in-Record.size (drop l.gate (g.D.BandDisk.bytes c.args.disk.now)) = found_at l.gate _ _ _ _ l.invariant.reads.bytes_stay c.in_ok-gate_at.ensures.ok c.in-Record.is in
    let fits = walk_fits (g.D.BandDisk.bytes c.args.disk.now) l.bands.items l.gate l.invariant.walked c.in-Record.name c.in-Record.size here in
    let size = ap length l.invariant.reads.bytes_stay in
    omega (arith, c.gate_at.ensures.fits)

pub overflow_add-at-in-Record : goal.overflow_add-at-in-Record
overflow_add-at-in-Record g c =
    let l = c.records in
    let here : IsRecordAt c.in-Record.name c.in-Record.size (drop l.gate (g.D.BandDisk.bytes c.args.disk.now)) = found_at l.gate _ _ _ _ l.invariant.reads.bytes_stay c.in_ok-gate_at.ensures.ok c.in-Record.is in
    let fits = walk_fits (g.D.BandDisk.bytes c.args.disk.now) l.bands.items l.gate l.invariant.walked c.in-Record.name c.in-Record.size here in
    let size = ap length l.invariant.reads.bytes_stay in
    omega (arith, c.gate_at.ensures.fits, c.len.ensures)

pub overflow_add-gate : goal.overflow_add-gate
overflow_add-gate g c =
    let l = c.records in
    let here : IsRecordAt c.in-Record.name c.in-Record.size (drop l.gate (g.D.BandDisk.bytes c.args.disk.now)) = found_at l.gate _ _ _ _ l.invariant.reads.bytes_stay c.in_ok-gate_at.ensures.ok c.in-Record.is in
    let fits = walk_fits (g.D.BandDisk.bytes c.args.disk.now) l.bands.items l.gate l.invariant.walked c.in-Record.name c.in-Record.size here in
    let size = ap length l.invariant.reads.bytes_stay in
    omega (arith, c.gate_at.ensures.fits, c.len.ensures, c.from.ensures)

pub records-preserved : goal.records-preserved
records-preserved g c =
    let l = c.records in
    let here : IsRecordAt c.in-Record.name c.in-Record.size (drop l.gate (g.D.BandDisk.bytes c.args.disk.now)) = found_at l.gate _ _ _ _ l.invariant.reads.bytes_stay c.in_ok-gate_at.ensures.ok c.in-Record.is in
    let at = l.gate + 6 + c.len.result in
    let walked = walk_more (g.D.BandDisk.bytes c.args.disk.now) l.bands.items l.gate l.invariant.walked c.put_name.new.bands.items c.in-Record.name c.in-Record.size at here (ap (λ n. l.gate + 6 + n) c.len.ensures)
    c.in_ok-put_name-in-Record.ensures.ok in
    record {
      walked = subst (λ n. IsWalked (g.D.BandDisk.bytes c.args.disk.now) c.put_name.new.bands.items (at + n)) (sym c.from.ensures) walked;
      reads = reads_joined _ _ _ _ _ _ _ _ l.invariant.reads c.gate_at.ensures.reads;
      quiet = c.in_ok-gate_at.ensures.cause.quiet ∙ l.invariant.quiet;
      changes = c.gate_at.ensures.changes ∙ l.invariant.changes;
    }
