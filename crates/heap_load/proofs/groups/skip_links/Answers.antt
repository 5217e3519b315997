use Rattle.std.proofs.Common.{◌≡◌, ◌+◌, ℕ, inl, inr, sym, ap, ◌∙◌, arith, true}
use Rattle.std.proofs.lemmas.Bool.{cases_lt}
use Rattle.lisp_graph.specs.Graph.{is_ref, object_at}
use Rattle.lisp_graph.specs.Groups.{is_cell}
use Rattle.heap_load.proofs.groups.skip_links.Goals as goal

pub loop-i-init : goal.loop-i-init
loop-i-init c = λ k low below. absurd (omega arith)

pub loop-i-preserved : goal.loop-i-preserved
loop-i-preserved c = λ k low below.
    let objects = c.args.objects.now in
    let i = c.loop-i.i in
    let end = c.requires in
    let more = c.loop-i-test.true in
    let link : is_cell c.args.area (is_ref (i + 1)) (object_at objects i) ≡ true =
    sym c.is_link.ensures ∙ c.if-not-is_link.false in
    elim (cases_lt k i) [
      | inl before ↦ c.loop-i.invariant k low before
      | inr past ↦ (let e : k ≡ i = omega arith in ap (λ (n : ℕ). is_cell c.args.area (is_ref (n + 1)) (object_at objects n)) e ∙ link)
    ]

pub returns-then-not-is_link-clause-before : goal.returns-then-not-is_link-clause-before
returns-then-not-is_link-clause-before c = c.loop-i.invariant

pub returns-then-not-is_link-clause-found : goal.returns-then-not-is_link-clause-found
returns-then-not-is_link-clause-found c = λ low.
    let objects = c.args.objects.now in
    let i = c.loop-i.i in
    let end = c.requires in
    sym c.is_link.ensures ∙ c.if-not-is_link.true

pub returns-clause-before : goal.returns-clause-before
returns-clause-before c = λ k low below. c.loop-i.invariant k low (let past = c.loop-i-test.false in omega arith)
