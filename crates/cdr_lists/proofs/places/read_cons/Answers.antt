use Rattle.std.proofs.Common.{◌≡◌, List, true, ◌∙◌, ap, sym, subst, arith}
use Rattle.store_word.specs.Words.{Parts}
use Rattle.mem_port.proofs.CallReports.{answered, answered-if, answers, quiet-then_fault, quiet-twice}
use Rattle.obj_layout.specs.Forwards.{word_at, IsFinal}
use Rattle.transporter.proofs.Parcels.{first-stays}
use Rattle.cdr_lists.specs.Faults.{is_fault}
use Rattle.cdr_lists.proofs.places.read_cons.Goals as goal

pub first_word-requires-clause-last : goal.first_word-requires-clause-last
first_word-requires-clause-last g c =
    let found = c.in_ok-found.ensures in
    subst (λ (ws : List Parts). IsFinal ws c.in_ok-found.found.at) (sym found.unchanged.words) found.place.last

pub first_word-requires-clause-first : goal.first_word-requires-clause-first
first_word-requires-clause-first g c = first-stays c.in_ok-found.found.at c.in_ok-found.found.first c.in_ok-found.ensures.unchanged c.in_ok-found.ensures.first

pub returns-clause-value : goal.returns-clause-value
returns-clause-value g c =
    let found = c.in_ok-found.ensures in
    let first = c.in_ok-first.ensures in
    record {
      place = found.place;
      code = ap (λ (ws : List Parts). (word_at ws c.in_ok-found.found.at).cdr) (sym found.unchanged.words) ∙ ap (λ (w : Parts). w.cdr) (sym first.value) ∙ sym c.cdr_code.ensures;
    }

pub returns-in_err-first-clause-accounted : goal.returns-in_err-first-clause-accounted
returns-in_err-first-clause-accounted g c =
    let is : is_fault c.from_residual-in_err-first.result ≡ true =
    (let was = c.in_err-first.was in let from = c.from_residual-in_err-first.ensures in let branch = c.branch-first.ensures in let is = c.in_err-first.is in grind arith) in
    quiet-then_fault c.in_err-first.field-0.0 (answered-if c.in_ok-found.ensures.accounted) c.in_err-first.ensures.accounted _ is

pub returns-clause-accounted : goal.returns-clause-accounted
returns-clause-accounted g c = answers (quiet-twice (answered-if c.in_ok-found.ensures.accounted) (answered c.in_ok-first.first c.in_ok-first.ensures.accounted))
