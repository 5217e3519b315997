use Rattle.std.proofs.Common.{◌≡◌, true, rules}
use Rattle.file_modes.proofs.BufferedConses.{cons_judged, whole_line}
use Rattle.file_modes.proofs.read.buffered_cons.Goals as goal

pub returns-clause-found : goal.returns-clause-found
returns-clause-found c =
    let e = rw c.bytes.ensures.value at c.in_ok-length.ensures.found in
    whole_line c.args.reader.now c.in_ok-length.length e

pub returns-clause-judged : goal.returns-clause-judged
returns-clause-judged c =
    let e = rw c.bytes.ensures.value at c.in_ok-length.ensures.found in
    let judged = rw c.bytes.ensures.value at c.in_ok-length.ensures.judged in
    let room : c.has_room_for_a_line.result ≡ true = search rules in
    let short = rw c.bytes.ensures.value at c.bytes.ensures.at_most in
    rw c.advance.ensures.after (cons_judged c.args.reader.now c.in_ok-length.length e c.args.place.now c.cons_before_feed.new.self short (c.has_room_for_a_line.ensures room) c.in_ok-length.ensures.place.0 judged)
