-- Areas of a heap are those of the state.
use Rattle.std.proofs.Common.{◌≡◌, ℕ, ◌<◌, sym, ◌∙◌, ap, arith, List, length, get_or, slice_get, Some}
use Rattle.std.proofs.Math.ListN.{get_or-map}
use Rattle.std.proofs.lemmas.List.{length-map}
use Rattle.std.proofs.lemmas.Option.{get_or_from_slice_get}
use Rattle.lisp_graph.specs.declared.world.AreaKind.{AreaKind}
use Rattle.lisp_graph.specs.declared.world.AreaKind.TheVariants.{Static}
use Rattle.lisp_graph.specs.declared.world.AreaRule.{AreaRule}
use Rattle.area_space.specs.Table.{areas_of}
use Rattle.area_space.specs.Accounts.{account_of}
use Rattle.word_graph.specs.lisp_meaning.State.{State, no_rule, rule_of}
use Rattle.word_graph.specs.lisp_meaning.Charges.{account_now}
use Rattle.word_graph.proofs.lisp_ground.sums.Accounts.{account_agrees, areas_agree}
use Rattle.lisp_heap.specs.HeapView.{HeapView, store_of}
use Rattle.lisp_heap.specs.Stands.{Stands}
use Rattle.word_graph.specs.lisp_meaning.Interpretation.{interpretation}

module _ (h : HeapView) (s : State) (st : Stands h s) where
  pub area_known : (area : ℕ) → area < length h.table.kinds → area < length s.areas
  area_known area l = let a = ap (λ (ks : List AreaKind). length ks) st.kinds in let b = length-map s.areas (λ (rule : AreaRule). rule.kind) in omega arith

  pub area_inside : (area : ℕ) → area < length h.table.kinds → area < areas_of h.table
  area_inside area l =
      let a = area_known area l in
      let b = areas_agree (store_of h.memory) h.table (interpretation st.map s) st.represents.represents.kept in
      omega arith

  pub account_is : (area : ℕ) → account_of h.table area ≡ account_now s area
  account_is area = account_agrees (store_of h.memory) h.table (interpretation st.map s) st.represents.represents.kept area

  pub kind_is : (area : ℕ) (kind : AreaKind) → slice_get h.table.kinds area ≡ Some kind → kind ≡ (rule_of s.areas area).kind
  kind_is area kind found =
      sym (get_or_from_slice_get h.table.kinds area kind Static found)
      ∙ ap (λ (ks : List AreaKind). get_or ks area Static) st.kinds
      ∙ get_or-map (λ (rule : AreaRule). rule.kind) s.areas area no_rule
