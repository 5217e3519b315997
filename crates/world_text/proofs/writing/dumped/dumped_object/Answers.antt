use Rattle.std.proofs.Common.{◌∙◌, false, true, sym}
use Rattle.world_text.proofs.writing_laws.Walks.{first_kept, first_shown, first_taken, kept_block, kept_cons}
use Rattle.world_text.proofs.writing.dumped.dumped_object.Goals as goal

pub dumped_cons-requires-clause-pair : goal.dumped_cons-requires-clause-pair
dumped_cons-requires-clause-pair g c =
    let G = g.W.Walk.graph c.args.walk.now in
    let kept = first_kept G c.args.visits.now c.args.number c.args.key c.take_first.result c.take_first.new.self.waiting c.requires.visits c.requires.agrees c.requires.listed c.take_first.ensures.value in
    first_shown G c.args.visits.now c.args.number c.args.key true c.requires.visits c.requires.listed (kept_cons G c.args.key c.in-Some.cons (sym c.in-Some.is ∙ kept)).0

pub dumped_cons-requires-clause-agrees : goal.dumped_cons-requires-clause-agrees
dumped_cons-requires-clause-agrees g c =
    let G = g.W.Walk.graph c.args.walk.now in
    let kept = first_kept G c.args.visits.now c.args.number c.args.key c.take_first.result c.take_first.new.self.waiting c.requires.visits c.requires.agrees c.requires.listed c.take_first.ensures.value in
    (kept_cons G c.args.key c.in-Some.cons (sym c.in-Some.is ∙ kept)).1

pub dumped_cons-requires-clause-visits : goal.dumped_cons-requires-clause-visits
dumped_cons-requires-clause-visits g c =
    first_taken (g.W.Walk.graph c.args.walk.now) c.args.visits.now c.take_first.new.self c.take_first.result c.requires.visits c.take_first.ensures.value c.take_first.ensures.done c.take_first.ensures.unchanged

pub dumped_block-requires-clause-object : goal.dumped_block-requires-clause-object
dumped_block-requires-clause-object g c =
    let G = g.W.Walk.graph c.args.walk.now in
    let kept = first_kept G c.args.visits.now c.args.number c.args.key c.take_first.result c.take_first.new.self.waiting c.requires.visits c.requires.agrees c.requires.listed c.take_first.ensures.value in
    (first_shown G c.args.visits.now c.args.number c.args.key false c.requires.visits c.requires.listed (kept_block G c.args.key (sym c.in-None.is ∙ kept))).0

pub dumped_block-requires-clause-pair : goal.dumped_block-requires-clause-pair
dumped_block-requires-clause-pair g c =
    let G = g.W.Walk.graph c.args.walk.now in
    let kept = first_kept G c.args.visits.now c.args.number c.args.key c.take_first.result c.take_first.new.self.waiting c.requires.visits c.requires.agrees c.requires.listed c.take_first.ensures.value in
    kept_block G c.args.key (sym c.in-None.is ∙ kept)

pub dumped_block-requires-clause-visits : goal.dumped_block-requires-clause-visits
dumped_block-requires-clause-visits g c =
    first_taken (g.W.Walk.graph c.args.walk.now) c.args.visits.now c.take_first.new.self c.take_first.result c.requires.visits c.take_first.ensures.value c.take_first.ensures.done c.take_first.ensures.unchanged
