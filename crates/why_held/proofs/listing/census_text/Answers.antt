use Rattle.std.proofs.Common.{◌≡◌, ◌∙◌, ◌++◌, [], ◌∷◌, ℕ, List, ap, sym, codes, append_assoc}
use Rattle.lisp_graph.specs.declared.world.AreaRule.{AreaRule}
use Rattle.why_held.specs.declared.rows.CensusRow.{CensusRow}
use Rattle.why_held.specs.CensusText.{AddUp, census_lines, lines_with}
use Rattle.why_held.proofs.MergedRows.{part_adds_up, part_lines}
use Rattle.why_held.proofs.listing.census_text.Goals as goal

pub push_rows-requires : goal.push_rows-requires
push_rows-requires c =
    let P : List CensusRow → List CensusRow → Type 0 = AddUp in
    rw (c.as_slice-2.ensures, c.as_slice-3.ensures) (part_adds_up c.requires.0 c.args.rows.now c.args.reached.now c.requires.1)

pub returns : goal.returns
returns c = λ counted part.
    let lines : c.push_rows.new.text ≡ census_lines c.args.areas.now counted c.args.rows.now =
    c.in_ok-push_rows.ensures
    ∙ ap (λ (t : List ℕ). t ++ lines_with c.as_slice.result.now c.as_slice-2.result.now c.as_slice-3.result.now) c.new-text.ensures
    ∙ ap (λ (a : List AreaRule). lines_with a c.as_slice-2.result.now c.as_slice-3.result.now) c.as_slice.ensures
    ∙ ap (λ (r : List CensusRow). lines_with c.args.areas.now r c.as_slice-3.result.now) c.as_slice-2.ensures
    ∙ ap (λ (r : List CensusRow). lines_with c.args.areas.now c.args.rows.now r) c.as_slice-3.ensures
    ∙ part_lines c.args.areas.now counted c.args.rows.now c.args.reached.now part in
    c.in_ok-push_all.ensures.ok ∙ ap (λ (t : List ℕ). t ++ (codes "end-census" ++ 10 ∷ [])) lines ∙ sym (append_assoc (census_lines c.args.areas.now counted c.args.rows.now) (codes "end-census") (10 ∷ []))
