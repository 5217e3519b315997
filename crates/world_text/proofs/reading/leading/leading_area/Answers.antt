use Rattle.std.proofs.Common.{refl, sym, arith}
use Rattle.world_text.proofs.reading_laws.LeadLaws.{area_read}
use Rattle.world_text.proofs.reading.leading.leading_area.Goals as goal

pub slice_bounds-result-count : goal.slice_bounds-result-count
slice_bounds-result-count c =
    let read = area_read c.args.areas.now c.as_slice.result.now c.args.text.now c.in_ok-area.area c.index-as_slice-area.result _ c.as_bytes-name.result.now (sym c.in_ok-area.ensures.value)
    c.as_slice.ensures refl c.as_bytes-name.ensures.value c.as_bytes-name.ensures.name in
    omega (arith, read.0)

pub slice_bounds-result-start : goal.slice_bounds-result-start
slice_bounds-result-start c =
    let read = area_read c.args.areas.now c.as_slice.result.now c.args.text.now c.in_ok-area.area c.index-as_slice-area.result _ c.as_bytes-name.result.now (sym c.in_ok-area.ensures.value)
    c.as_slice.ensures refl c.as_bytes-name.ensures.value c.as_bytes-name.ensures.name in
    omega (arith, read.0)

pub returns-clause-value : goal.returns-clause-value
returns-clause-value c =
    let read = area_read c.args.areas.now c.as_slice.result.now c.args.text.now c.in_ok-area.area c.index-as_slice-area.result _ c.as_bytes-name.result.now (sym c.in_ok-area.ensures.value)
    c.as_slice.ensures refl c.as_bytes-name.ensures.value c.as_bytes-name.ensures.name in
    read.1
