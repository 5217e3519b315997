use Rattle.std.proofs.Common.{◌+◌, refl, length, ◌∙◌, ap, arith}
use Rattle.band_store.specs.Directory.{put_name}
use Rattle.band_store.proofs.Saves.{gate_within, save_moments, saved_open, under_way, writable}
use Rattle.band_store.proofs.store.BandStore.save.Goals as goal

pub next_gate-requires-clause-in_range : goal.next_gate-requires-clause-in_range
next_gate-requires-clause-in_range g c opened =
    let ready = c.requires opened in
    omega (arith, ready.1.here.next, gate_within ready.0 _ ready.1.here.holds, c.room.ensures.at_least, c.room.ensures.in_range)

pub write_record-requires-clause-place : goal.write_record-requires-clause-place
write_record-requires-clause-place g c =
    let way = under_way c.args.self.now c.room.result c.in_ok-gate.gate c.args.name.now c.args.text.now _ _ c.deref.result.now c.as_bytes-bytes.ensures.value c.as_slice-text.ensures c.as_bytes-bytes.ensures.name c.in_ok-gate.ensures (c.deref.ensures.value ∙ c.in_ok-record.ensures) in
    let gate = ap (λ s. s.gate) (c.self-2.view_is ∙ c.in_ok-add.ensures.ok) in
    let ready = c.requires (writable c.args.self.now c.room.result (record { name = c.args.name.now; text = c.args.text.now }) c.in_ok-gate.gate way.may).opened in
    omega (arith, gate, ready.1.here.next, gate_within ready.0 _ ready.1.here.holds)

-- the whole record follows its open gate
pub returns-in-Ok-clause-ok : goal.returns-in-Ok-clause-ok
returns-in-Ok-clause-ok g c saves ready =
    let way = under_way c.args.self.now c.room.result c.in_ok-gate.gate c.args.name.now c.args.text.now _ _ c.deref.result.now c.as_bytes-bytes.ensures.value c.as_slice-text.ensures c.as_bytes-bytes.ensures.name c.in_ok-gate.ensures (c.deref.ensures.value ∙ c.in_ok-record.ensures) in
    let gate = ap (λ s. s.gate) (c.self-2.view_is ∙ c.in_ok-add.ensures.ok) in
    let old = c.args.self.now in
    let added = c.self-2.view_is ∙ c.in_ok-add.ensures.ok in
    record {
      here = saved_open old c.room.result c.in_ok-gate.gate (g.D.BandDisk.bytes c.args.disk.now) saves (record { name = c.args.name.now; text = c.args.text.now }) c.deref.result.now c.self-2.inside.gate way gate ready.here
          _ (g.D.BandDisk.bytes c.write_record.new.disk) (ap (λ s. s.opened) added) (ap (λ s. s.bands) added ∙ (λ i. put_name c.args.name.now (record { at = old.gate + 6 + length c.args.name.now; size = length (c.as_slice-text.ensures i) }) old.bands)) refl
          c.in-Ok.ensures.written;
      durable = c.in-Ok.ensures.durable;
    }

pub returns-in-Ok-clause-any_moment : goal.returns-in-Ok-clause-any_moment
returns-in-Ok-clause-any_moment g c saves ready =
    let way = under_way c.args.self.now c.room.result c.in_ok-gate.gate c.args.name.now c.args.text.now _ _ c.deref.result.now c.as_bytes-bytes.ensures.value c.as_slice-text.ensures c.as_bytes-bytes.ensures.name c.in_ok-gate.ensures (c.deref.ensures.value ∙ c.in_ok-record.ensures) in
    let gate = ap (λ s. s.gate) (c.self-2.view_is ∙ c.in_ok-add.ensures.ok) in
    save_moments c.args.self.now c.room.result c.in_ok-gate.gate (g.D.BandDisk.bytes c.args.disk.now) saves (record { name = c.args.name.now; text = c.args.text.now }) c.deref.result.now c.self-2.inside.gate way gate ready.here
    g.D.BandDisk.clock g.D.BandDisk.images_since c.args.disk.now c.write_record.new.disk c.write_record.ensures.any_moment

pub returns-clause-any_moment : goal.returns-clause-any_moment
returns-clause-any_moment g c saves ready =
    let way = under_way c.args.self.now c.room.result c.in_ok-gate.gate c.args.name.now c.args.text.now _ _ c.deref.result.now c.as_bytes-bytes.ensures.value c.as_slice-text.ensures c.as_bytes-bytes.ensures.name c.in_ok-gate.ensures (c.deref.ensures.value ∙ c.in_ok-record.ensures) in
    let gate = ap (λ s. s.gate) (c.self-2.view_is ∙ c.in_ok-add.ensures.ok) in
    save_moments c.args.self.now c.room.result c.in_ok-gate.gate (g.D.BandDisk.bytes c.args.disk.now) saves (record { name = c.args.name.now; text = c.args.text.now }) c.deref.result.now c.self-2.inside.gate way gate ready.here
    g.D.BandDisk.clock g.D.BandDisk.images_since c.args.disk.now c.write_record.new.disk c.write_record.ensures.any_moment
