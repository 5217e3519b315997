use Rattle.std.proofs.Common.{◌≡◌, Some, None, length, sym, ◌∙◌, ap, arith}
use Rattle.band_store.specs.Directory.{named}
use Rattle.band_store.proofs.BufferBytes.{list_read}
use Rattle.band_store.proofs.Texts.{open_none, open_text}
use Rattle.band_store.proofs.store.BandStore.load.Goals as goal

pub returns-in_default-clause-none : goal.returns-in_default-clause-none
returns-in_default-clause-none g c _ saves ready =
    let bands = c.deref.ensures.value ∙ ap (λ s. s.bands) c.self.view_is in
    let none : named c.args.name.now c.args.self.now.bands ≡ None = sym (c.in_default.ensures ∙ (λ i. named (c.as_bytes.ensures.value i) (bands i))) in
    open_none c.args.self.now _ saves c.args.name.now ready.here none

pub read_at-requires : goal.read_at-requires
read_at-requires g c =
    let bands = c.deref.ensures.value ∙ ap (λ s. s.bands) c.self.view_is in
    let found : named c.args.name.now c.args.self.now.bands ≡ Some c.in-Some.extent = sym (c.in-Some.ensures ∙ (λ i. named (c.as_bytes.ensures.value i) (bands i))) in
    let ready = c.requires (sym (ap (λ s. s.opened) c.self.view_is) ∙ c.if-not-self.false) in
    omega (arith, (open_text c.args.self.now _ ready.0 c.args.name.now c.in-Some.extent ready.1.here found).1, c.deref_mut.ensures.len, c.in_ok-bytes.ensures.len)

pub returns-in-Ok-clause-text : goal.returns-in-Ok-clause-text
returns-in-Ok-clause-text g c saves ready =
    let bands = c.deref.ensures.value ∙ ap (λ s. s.bands) c.self.view_is in
    let found : named c.args.name.now c.args.self.now.bands ≡ Some c.in-Some.extent = sym (c.in-Some.ensures ∙ (λ i. named (c.as_bytes.ensures.value i) (bands i))) in
    let text = open_text c.args.self.now (g.D.BandDisk.bytes c.args.disk.now) saves c.args.name.now c.in-Some.extent ready.here found in
    let read = list_read c.in_ok-bytes.bytes.len c.in-Some.extent.size c.in-Some.extent.at (length c.deref_mut.result.now) c.read_at.new.into c.in_ok-bytes.bytes.items c.deref-in-Ok.result.now (g.D.BandDisk.bytes c.args.disk.now)
    c.deref_mut.ensures.len c.in_ok-bytes.ensures.len text.1 c.in-Ok.ensures.read c.deref-in-Ok.ensures.value in
    text.0 ∙ ap Some (sym (c.in_ok-from_slice-in-Ok.ensures ∙ read))
