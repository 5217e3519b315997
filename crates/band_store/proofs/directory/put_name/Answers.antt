use Rattle.std.proofs.Common.{set, ◌∙◌, ap, subst}
use Rattle.std.specs.List.{insert}
use Rattle.band_store.specs.Directory.{IsAt, IsGap}
use Rattle.band_store.proofs.Names.{put_at, put_gap}
use Rattle.band_store.proofs.directory.put_name.Goals as goal

pub returns-in-Ok-clause-ok : goal.returns-in-Ok-clause-ok
returns-in-Ok-clause-ok c =
    let bands = c.args.bands.now.items in
    let here = subst (λ l. IsAt l c.as_bytes.result.now c.in-Ok.at) c.deref.ensures.value c.in-Ok.ensures in
    let is = subst (λ n. IsAt bands n c.in-Ok.at) c.as_bytes.ensures.value here in
    ap (λ name. set bands c.in-Ok.at (name, c.args.extent)) c.copy.ensures ∙ put_at bands c.args.name.now c.args.extent c.in-Ok.at is

pub returns-in_ok-insert-in-Err-clause-ok : goal.returns-in_ok-insert-in-Err-clause-ok
returns-in_ok-insert-in-Err-clause-ok c =
    let bands = c.args.bands.now.items in
    let here = subst (λ l. IsGap l c.as_bytes.result.now c.in-Err.at) c.deref.ensures.value c.in-Err.ensures in
    let is = subst (λ n. IsGap bands n c.in-Err.at) c.as_bytes.ensures.value here in
    c.in_ok-insert-in-Err.ensures.items ∙ ap (λ name. insert bands c.in-Err.at (name, c.args.extent)) c.copy-in-Err.ensures ∙ put_gap bands c.args.name.now c.args.extent c.in-Err.at is
