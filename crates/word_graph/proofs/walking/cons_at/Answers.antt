use Rattle.std.proofs.Common.{refl, sym, ◌∙◌, ap, subst, List, arith}
use Rattle.std.proofs.lemmas.Result.{err_from_is_err_and}
use Rattle.store_word.specs.Words.{Parts}
use Rattle.mem_port.specs.View.{WithoutFault, shown}
use Rattle.mem_port.proofs.CallReports.{answered, quiet-then_err, quiet-twice}
use Rattle.area_space.specs.Table.{Table}
use Rattle.obj_layout.specs.Shapes.{charge_at}
use Rattle.obj_layout.proofs.ForwardChains.{stores_nothing-twice, word_at-read}
use Rattle.lisp_ground.specs.Leading.{cdr_in}
use Rattle.word_graph.specs.Placed.{CanSee}
use Rattle.word_graph.specs.Shown.{told}
use Rattle.word_graph.proofs.ShownObjects.{object_classed}
use Rattle.word_graph.proofs.ShownConses.{cons_shaped, car_can, cdr_can, car_told, cdr_told, cons_told}
use Rattle.word_graph.proofs.walking.cons_at.Given.{Over}
use Rattle.word_graph.proofs.walking.cons_at.Goals.{In_ok-first}
use Rattle.word_graph.proofs.walking.cons_at.Goals as goal

pub rest_behind-requires-clause-pair : goal.rest_behind-requires-clause-pair
rest_behind-requires-clause-pair g c =
    let m = g.M.Memory.seen c.args.ground.now.mem in
    cons_shaped m c.args.ground.now.table c.args.key c.requires.object c.requires.pair c.in_ok-first.first (word_at-read m.words m.words c.args.key c.in_ok-first.first refl c.in_ok-first.ensures.value)

pub value_of_word-requires : goal.value_of_word-requires
value_of_word-requires g c =
    let m = g.M.Memory.seen c.args.ground.now.mem in
    let first = word_at-read m.words m.words c.args.key c.in_ok-first.first refl c.in_ok-first.ensures.value in
    car_can m c.args.ground.now.table c.args.key c.requires.object c.requires.pair (g.M.Memory.seen c.rest_behind.new.mem) c.in_ok-first.first.content
    (stores_nothing-twice c.in_ok-first.ensures.unchanged c.in_ok-rest.ensures.unchanged) (sym (ap (λ (w : Parts). w.content) first))

pub returns-in_err-car-clause-unchanged : goal.returns-in_err-car-clause-unchanged
returns-in_err-car-clause-unchanged g c = stores_nothing-twice (stores_nothing-twice c.in_ok-first.ensures.unchanged c.in_ok-rest.ensures.unchanged) c.in_err-car.ensures.unchanged

pub value_of_word-requires-2 : goal.value_of_word-requires-2
value_of_word-requires-2 g c =
    let m = g.M.Memory.seen c.args.ground.now.mem in
    let cdr = c.in_ok-rest.ensures.cdr ∙ ap (λ (words : List Parts). cdr_in words c.args.key) c.in_ok-first.ensures.unchanged.words in
    subst (λ (t : Table). CanSee (g.M.Memory.seen c.value_of_word.new.ground.mem) t c.in_ok-rest.rest.content) (sym c.in_ok-car.ensures.table)
    (cdr_can m c.args.ground.now.table c.args.key c.requires.object c.requires.pair (g.M.Memory.seen c.value_of_word.new.ground.mem) c.in_ok-rest.rest.content
    (stores_nothing-twice (stores_nothing-twice c.in_ok-first.ensures.unchanged c.in_ok-rest.ensures.unchanged) c.in_ok-car.ensures.unchanged) cdr)

pub returns-in_err-cdr-clause-unchanged : goal.returns-in_err-cdr-clause-unchanged
returns-in_err-cdr-clause-unchanged g c =
    stores_nothing-twice (stores_nothing-twice (stores_nothing-twice c.in_ok-first.ensures.unchanged c.in_ok-rest.ensures.unchanged) c.in_ok-car.ensures.unchanged) c.in_err-cdr.ensures.unchanged

pub class_of_object-class-requires-clause-used : goal.class_of_object-class-requires-clause-used
class_of_object-class-requires-clause-used g c = object_classed (g.M.Memory.seen c.args.ground.now.mem) c.args.ground.now.table c.args.key c.requires.object

pub returns-clause-value : goal.returns-clause-value
returns-clause-value g c =
    let m = g.M.Memory.seen c.args.ground.now.mem in
    let t = c.args.ground.now.table in
    let key = c.args.key in
    let last = g.M.Memory.seen c.value_of_word.new.ground.mem in
    let first = word_at-read m.words m.words key c.in_ok-first.first refl c.in_ok-first.ensures.value in
    let cdr = c.in_ok-rest.ensures.cdr ∙ ap (λ (words : List Parts). cdr_in words key) c.in_ok-first.ensures.unchanged.words in
    let charge = c.in_ok-rest.ensures.value ∙ ap (λ (words : List Parts). charge_at words key) c.in_ok-first.ensures.unchanged.words in
    let stays = stores_nothing-twice c.in_ok-first.ensures.unchanged c.in_ok-rest.ensures.unchanged in
    cons_told m t key c.requires.object c.class_of_object-class.result c.in_ok-rest.charge c.in_ok-car.car c.in_ok-cdr.cdr c.class_of_object-class.ensures.found c.class_of_object-class.ensures.level charge
    (c.in_ok-car.ensures.value ∙ car_told m t key c.requires.object c.requires.pair (g.M.Memory.seen c.rest_behind.new.mem) c.in_ok-first.first.content stays (sym (ap (λ (w : Parts). w.content) first)))
    (c.in_ok-cdr.ensures.value ∙ ap (λ (x : Table). told last x c.in_ok-rest.rest.content) c.in_ok-car.ensures.table
    ∙ cdr_told m t key c.requires.object c.requires.pair last c.in_ok-rest.rest.content (stores_nothing-twice stays c.in_ok-car.ensures.unchanged) cdr)

pub returns-clause-unchanged : goal.returns-clause-unchanged
returns-clause-unchanged g c =
    stores_nothing-twice (stores_nothing-twice (stores_nothing-twice c.in_ok-first.ensures.unchanged c.in_ok-rest.ensures.unchanged) c.in_ok-car.ensures.unchanged) c.in_ok-cdr.ensures.unchanged

-- the first word was read
read : (g : Over) (c : In_ok-first g) → WithoutFault (shown g.M.Memory c.args.ground.now.mem) (shown g.M.Memory c.read.new.self) c.args.steps.now c.read.new.steps
read g c =
    let x = c.in_ok-first.ensures in
    record { faults = x.cause.quiet; honest = (let a = x.taken in let b = x.cost in omega arith); room = x.room.answered; sound = λ _. x.sound }

pub returns-in_err-car-clause-accounted : goal.returns-in_err-car-clause-accounted
returns-in_err-car-clause-accounted g c =
    let before = quiet-twice (read g (goal.at.returns-in_err-car-clause-accounted g c).In_ok-first) (answered _ c.in_ok-rest.ensures.accounted) in
    quiet-then_err _ c.from_residual-in_err-car.result (err_from_is_err_and c.from_residual-in_err-car.result c.from_residual-in_err-car.ensures.1).1 before c.in_err-car.ensures.accounted

pub returns-in_err-cdr-clause-accounted : goal.returns-in_err-cdr-clause-accounted
returns-in_err-cdr-clause-accounted g c =
    let before = quiet-twice (quiet-twice (read g (goal.at.returns-in_err-cdr-clause-accounted g c).In_ok-first) (answered _ c.in_ok-rest.ensures.accounted)) (answered _ c.in_ok-car.ensures.accounted) in
    quiet-then_err _ c.from_residual-in_err-cdr.result (err_from_is_err_and c.from_residual-in_err-cdr.result c.from_residual-in_err-cdr.ensures.1).1 before c.in_err-cdr.ensures.accounted
