-- A text after what is pending, and the end of a run after that text.
use Rattle.std.proofs.Common.{◌≡◌, inl, inr, ℕ, List, ◌++◌, Result, Ok, Err, sym, ap, ◌∙◌, subst, arith}
use Rattle.std.specs.Prelude.{IfErr}
use Rattle.std.proofs.lemmas.List.{append-nil, append_assoc, length-append}
use Rattle.outer_ports.specs.Ports.{IsCut}
use Rattle.outer_ports.specs.Buffers.{Gathers}
use Rattle.outer_ports.proofs.Gains.{cut_behind, gained_as, gained_more, gained_none}
use Rattle.line_input.specs.declared.statuses.status.Status.{Status}
use Rattle.line_input.specs.declared.statuses.status.Status.TheVariants.{Done}
use Rattle.line_input.specs.declared.statuses.status.RunStop.{RunStop}
use Rattle.line_input.specs.declared.statuses.status.RunStop.TheVariants.{Tell, Write}
use Rattle.line_input.specs.Statuses.{Closed, Finished}

-- a prefix of a prefix is a prefix, too
cut_front : (text given pending : List ℕ) → IsCut text (given ++ pending) → IsCut text given
cut_front text given pending cut = (pending ++ cut.0, let some = cut.1 in omega (arith, length-append pending cut.0), cut.2 ∙ append_assoc given pending cut.0)

-- what was gathered is written, or the sink failed in it
pub closed_behind : {held held' held'' : List ℕ → Type 0} (had pending text : List ℕ) (outcome : Result (Unit {0}) RunStop) (status : Status)
    → Gathers held held' had pending text outcome → IfErr outcome (λ stop. stop ≡ Write) → Finished held' held'' pending outcome status → Closed held held'' (had ++ text) Done status
closed_behind had pending text (Ok x) status g write (inl f) =
    let h = g.whole in
    inl (f.0, gained_as (ap (λ xs. h.given ++ xs) (append-nil pending) ∙ sym h.all) (gained_more h.gained f.1))
closed_behind had pending text (Ok x) status g write (inr f) =
    let h = g.whole in
    let cut : IsCut pending f.1.0 = subst (λ xs. IsCut xs f.1.0) (append-nil pending) f.1.1 in
    inr (f.0, (h.given ++ f.1.0, subst (λ xs. IsCut xs (h.given ++ f.1.0)) (sym h.all) (cut_behind pending f.1.0 h.given cut), gained_more h.gained f.1.2))
closed_behind had pending text (Err Write) status g write f =
    let p = g.part in
    let h = p.2 in
    inr (f.0, (h.given, cut_front (had ++ text) h.given pending (subst (λ xs. IsCut (had ++ text) xs) h.all (cut_behind text p.0 had p.1)), gained_none h.gained f.1))
closed_behind had pending text (Err (Tell trouble)) status g write f = absurd (cc (write))
