use Rattle.std.proofs.Common.{◌≡◌, ◌*◌, ◌/◌, arith}
use Rattle.std.specs.List.{flat_map, range_with_len}
use Rattle.std.proofs.lemmas.Result.{err_from_is_err_and}
use Rattle.area_space.specs.Table.{used_of}
use Rattle.inside_text.specs.InsideText.{owned_line, word_line}
use Rattle.inside_text.proofs.Classes.{lines_free, lines_owned}
use Rattle.inside_text.proofs.TextSequences.{gathers_cut, gathers_then, none_yet}
use Rattle.inside_text.proofs.regions.tell_region.Goals as goal

pub returns-in-None-clause-gathers : goal.returns-in-None-clause-gathers
returns-in-None-clause-gathers g c =
    let here : 4096 * c.args.region / 4096 ≡ c.args.region = omega arith in
    rw (lines_free c.args.heap.now c.ground.result.now.table (4096 * c.args.region) c.args.region c.ground.ensures.table here c.in-None.ensures.none) (record { whole = none_yet c.args.buffer.now.pending; part = _ })

pub returns-in_err-tell_owned-in-Some-clause-gathers : goal.returns-in_err-tell_owned-in-Some-clause-gathers
returns-in_err-tell_owned-in-Some-clause-gathers g c =
    let p = err_from_is_err_and c.from_residual.result c.from_residual.ensures.1 in
    let owner = c.in-Some.owner in
    let here : 4096 * c.args.region / 4096 ≡ c.args.region = omega arith in
    rw (lines_owned c.args.heap.now c.ground.result.now.table (4096 * c.args.region) c.args.region owner c.ground.ensures.table here c.class_of.ensures.sound c.in-Some.ensures.some c.in-Some.ensures.level)
    (gathers_cut c.args.buffer.now.pending (owned_line c.ground.result.now.table c.args.region owner.area owner.level owner.stale) (flat_map (word_line c.args.heap.now) (range_with_len (4096 * c.args.region) (used_of c.args.heap.now.table c.args.region)))
    c.from_residual.result p.0 p.1 c.in_err-tell_owned-in-Some.ensures.gathers.part)

pub returns-in_ok-tell_owned-in-Some-clause-gathers : goal.returns-in_ok-tell_owned-in-Some-clause-gathers
returns-in_ok-tell_owned-in-Some-clause-gathers g c =
    let owner = c.in-Some.owner in
    let here : 4096 * c.args.region / 4096 ≡ c.args.region = omega arith in
    rw (lines_owned c.args.heap.now c.ground.result.now.table (4096 * c.args.region) c.args.region owner c.ground.ensures.table here c.class_of.ensures.sound c.in-Some.ensures.some c.in-Some.ensures.level)
    (gathers_then c.args.buffer.now.pending (owned_line c.ground.result.now.table c.args.region owner.area owner.level owner.stale) (flat_map (word_line c.args.heap.now) (range_with_len (4096 * c.args.region) (used_of c.args.heap.now.table c.args.region)))
    c.in_ok-tell_owned-in-Some.ensures.gathers.whole c.tell_words_in.ensures.gathers)
