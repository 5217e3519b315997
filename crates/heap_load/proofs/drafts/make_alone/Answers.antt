use Rattle.std.proofs.Common.{◌≡◌, ◌∙◌, ap, arith}
use Rattle.std.proofs.lemmas.List.{get_or-set_same, get_or-set_other}
use Rattle.store_word.specs.Words.{Parts}
use Rattle.block_store.specs.lisp_meaning.Roles.{value_of}
use Rattle.lisp_graph.specs.Graph.{object_at}
use Rattle.lisp_graph.specs.Objects.{body_copied, object_copied}
use Rattle.lisp_graph.specs.declared.object.Object.{Object}
use Rattle.cdr_lists.proofs.PartStores.{on_err}
use Rattle.heap_load.specs.Drafts.{known_part}
use Rattle.heap_load.specs.Places.{no_place}
use Rattle.heap_load.proofs.NewDrafts.{block_drafted, can_make, can_pair, drafted_left, given_means, pair_drafted, whole_block, whole_cons}
use Rattle.heap_load.proofs.ConsPlaces.{laid_block, laid_pair}
use Rattle.heap_load.proofs.drafts.make_alone.Goals as goal

pub make_pair_of-requires : goal.make_pair_of-requires
make_pair_of-requires g c =
    let r = c.requires in
    let object : Object = object_copied c.at-object.result in
    let is : object ≡ object_at c.args.world.now.objects c.args.number = c.at-object.ensures in
    can_pair _ _ c.args.world.now c.args.places.now c.args.number r.loadable r.made r.in_range object is c.in-Cons.car c.in-Cons.cdr (ap body_copied c.in-Cons.is)
    c.word_so_far-car.result c.word_so_far-cdr.result c.word_so_far-car.ensures c.word_so_far-cdr.ensures

pub returns-in_err-at-in-Cons-clause-left : goal.returns-in_err-at-in-Cons-clause-left
returns-in_err-at-in-Cons-clause-left g c =
    on_err c.from_residual.result _ (drafted_left _ _ _ _ c.args.world.now c.args.places.now c.args.number c.requires.made c.in_err-at-in-Cons.ensures.fault.fault c.in_err-at-in-Cons.ensures.stays_ground.preserves.grows)

pub make_block-requires-clause-can : goal.make_block-requires-clause-can
make_block-requires-clause-can g c =
    let r = c.requires in
    let object : Object = object_copied c.at-object.result in
    let is : object ≡ object_at c.args.world.now.objects c.args.number = c.at-object.ensures in
    (can_make _ _ c.args.world.now c.args.places.now c.args.number r.loadable r.made r.in_range object is c.in-Block.code c.in-Block.fields.now (ap body_copied c.in-Block.is))

pub returns-in_err-at-in-Block-clause-left : goal.returns-in_err-at-in-Block-clause-left
returns-in_err-at-in-Block-clause-left g c =
    on_err c.from_residual-in_err-at-in-Block.result _ (drafted_left _ _ _ _ c.args.world.now c.args.places.now c.args.number c.requires.made c.in_err-at-in-Block.ensures.fault c.in_err-at-in-Block.ensures.preserves.grows)

pub returns-in_ok-at-in-Cons-clause-drafted : goal.returns-in_ok-at-in-Cons-clause-drafted
returns-in_ok-at-in-Cons-clause-drafted g c =
    let r = c.requires in
    let object : Object = object_copied c.at-object.result in
    let is : object ≡ object_at c.args.world.now.objects c.args.number = c.at-object.ensures in
    rw c.pair.ensures (pair_drafted _ _ c.args.world.now c.args.places.now c.args.number r.loadable r.made r.in_range object is c.in-Cons.car c.in-Cons.cdr (ap body_copied c.in-Cons.is) _ _
    c.word_so_far-car.result c.word_so_far-cdr.result c.word_so_far-car.ensures c.word_so_far-cdr.ensures
    c.in_ok-at-in-Cons.at c.in_ok-at-in-Cons.ensures.made c.in_ok-at-in-Cons.ensures.stays_ground.preserves.grows r.places)

pub returns-in_ok-at-in-Block-clause-drafted : goal.returns-in_ok-at-in-Block-clause-drafted
returns-in_ok-at-in-Block-clause-drafted g c =
    let r = c.requires in
    let object : Object = object_copied c.at-object.result in
    let is : object ≡ object_at c.args.world.now.objects c.args.number = c.at-object.ensures in
    rw c.block.ensures (block_drafted _ _ c.args.world.now c.args.places.now c.args.number r.loadable r.made r.in_range object is c.in-Block.code c.in-Block.fields.now (ap body_copied c.in-Block.is) _ _ c.in_ok-at-in-Block.at
    c.in_ok-at-in-Block.ensures.made
    c.in_ok-at-in-Block.ensures.preserves.grows r.places)

pub returns-in_ok-at-in-Cons-clause-stays_laid : goal.returns-in_ok-at-in-Cons-clause-stays_laid
returns-in_ok-at-in-Cons-clause-stays_laid g c = λ alone.
    let r = c.requires in
    let kept = (returns-in_ok-at-in-Cons-clause-drafted g c).holds.kept in
    let places = c.args.places.now in
    let place = c.pair.result in
    let object : Object = object_copied c.at-object.result in
    let is : object ≡ object_at c.args.world.now.objects c.args.number = c.at-object.ensures in
    laid_pair _ _ _ _ c.args.world.now places _ c.args.number r.made r.laid c.in_ok-at-in-Cons.ensures.stays_ground.live kept.table kept.ground.size
    (λ i before. get_or-set_other places c.args.number i place no_place (λ e. omega arith))
    c.in-Cons.car c.in-Cons.cdr (whole_cons _ _ c.args.world.now places c.args.number r.loadable r.made r.in_range object is c.in-Cons.car c.in-Cons.cdr (ap body_copied c.in-Cons.is))
    c.in_ok-at-in-Cons.at c.word_so_far-car.result (known_part c.args.number c.in-Cons.car)
    (ap (λ (p : Parts). value_of r.made.holds.map.role p.content) c.word_so_far-car.ensures ∙ given_means _ _ c.args.world.now places c.args.number r.made c.in-Cons.car)
    c.in_ok-at-in-Cons.ensures.words.0
    (get_or-set_same places c.args.number place no_place (let size = r.places in let low = r.in_range in omega arith) ∙ c.pair.ensures) alone

pub returns-in_ok-at-in-Block-clause-stays_laid : goal.returns-in_ok-at-in-Block-clause-stays_laid
returns-in_ok-at-in-Block-clause-stays_laid g c = λ alone.
    let r = c.requires in
    let object : Object = object_copied c.at-object.result in
    let is : object ≡ object_at c.args.world.now.objects c.args.number = c.at-object.ensures in
    let kept = (returns-in_ok-at-in-Block-clause-drafted g c).holds.kept in
    let places = c.args.places.now in
    let place = c.block.result in
    laid_block _ _ _ _ c.args.world.now places _ c.args.number r.made r.laid c.in_ok-at-in-Block.ensures.live kept.table kept.ground.size
    (λ i before. get_or-set_other places c.args.number i place no_place (λ e. omega arith))
    c.in-Block.code c.in-Block.fields.now (whole_block _ _ c.args.world.now places c.args.number r.loadable r.made r.in_range object is c.in-Block.code c.in-Block.fields.now (ap body_copied c.in-Block.is))
    c.in_ok-at-in-Block.at (get_or-set_same places c.args.number place no_place (let size = r.places in let low = r.in_range in omega arith) ∙ c.block.ensures)
    c.in_ok-at-in-Block.ensures.words
