-- `into_parts` moves the pointer; what the slot owns, the parts own.
use Rattle.std.proofs.Common.{[], ◌∷◌, refl, ap, ◌∙◌, List, Option}
use Rattle.std.specs.Option.{IsSome}
use Rattle.std.proofs.raw_atomic.Walks.{proved_at}
use base.Fml.{ftrue, fsep}
use base.Logic.{id⊢, never, fst∗}
use mathlib.Core.List.{◌++◌}
use mir.Raw.{raw as bare}
use mir.Val.{Val, vptr, vstruct, vcons, vnil, of_list}
use prog.Wp.{WpFn}
use contract.Monad.{fact}
use contract.Running.{tables}
use types.Kit.{‵, raw, ◌⊛◌, ◌$◌, ◌∵◌, !, qed, done, drop, move, join, split, fsplit, fpick, feq_l, regoal, rewrite, prop, use1, suffices, group}
use types.Logic.{sem}
use types.Part.{whole, sub, agg}
use types.Run.{stop, fld, no_more, and_then, of_opd, enter, returns}
use types.ByLocal.{alloc_all, pass_all, free_all, look_at, get, get_in, sets}
use denote.Exit.{yes}
use denote.RawPtr.{Ptr, null_ptr, ptr_val, in_a_block}
use denote.Signature.{plain}
use denote.Steps.{nothing, heard}
use denote.Triple.Walked.{Stays, walk_of, says, stay_dropped, Goes-dropped, ends_at}
use Rattle.std.proofs.alloc.Calls.{token, handle_tells}
use Rattle.std.specs.Box.Ownership.{box_owns}
use Rattle.std_alloc.proofs.BoxSteps.Form.{D, P, R, word, box_typed, τ}
use Rattle.std_alloc.proofs.BoxSteps.Steps.{box_in}
use Rattle.std_heap.specs.contracts.Global as Heap
use Rattle.lispm_c.proofs.Boxes.{E, PartsRow, held_value}
use Rattle.lispm_c.specs.Slots.{slot_owns}
use Rattle.lispm_c.specs.contracts.slot.Slot as slot
use Rattle.lispm_c.specs.contracts.slot.Slot.into_parts as f
use Rattle.lispm_c.proofs.slot.Slot.into_parts.Statement.{statement}
use Rattle.lispm_c.proofs.slot.Slot.into_parts.Code as code

abbrev stayed : Stays f.ended.signature.params f.ended.kept
stayed = (stay_dropped (plain (λ _. slot.the_row)) yes, (stay_dropped (plain (λ _. Heap.the_row)) yes, tt))

pub into_parts_spec : {M : Type 1} → statement M
into_parts_spec 𝓤 𝓛 𝓜 𝓡 wired =
    let c = f.clauses 𝓛 𝓜.mem 𝓡.returns in let W = walk_of 𝓛 f.ended stayed c in let 𝓣 = tables 𝓤 𝓛.H 𝓜 𝓡 𝓡.env in
    proved_at 𝓛 f.ended stayed c 𝓜 𝓡 (Goes-dropped 𝓛 0 (plain (λ _. slot.the_row)) yes (λ κs x w. refl), (Goes-dropped 𝓛 0 (plain (λ _. Heap.the_row)) yes (λ κs x w. refl), tt))
    f.Key.name code.function (code.unfolded 𝓤 𝓛.H 𝓜 𝓡 wired) (λ y are.
    let s = y.0.3.0 in let from = y.0.3.1.0 in
    qed 𝓛 ((‵ ftrue ⊛ ‵ (fsep (slot.the_row.own_val s y.0.4.0) (fsep ((P E).own_val from y.0.4.1.0) ftrue))) ∷ raw (fact 𝓤 (IsSome s.held)) ∷ []) ∵
    split ! $ drop ! $ move ! (1 ∷ []) $ heard ! _ (λ some. let v = held_value s.held some in
    fsplit ! $ move ! (1 ∷ []) $ fsplit ! $ handle_tells E.al ! from y.0.4.1.0 (λ handle handled fits. move ! (1 ∷ []) $ drop ! $ move ! (1 ∷ []) $
    fsplit ! $ fpick ! (λ words. fsplit ! $ feq_l ! (λ slot_is. fsplit ! $ feq_l ! (λ at_is. drop ! $
    rewrite ! 0 (λ (held : Option _). ‵ (slot_owns s.heap s.at held)) v.1 refl $
    in_a_block ! s.at (λ p. box_owns (token E.al s.heap) (R E) p v.0) (fst∗ 𝓤 (never 𝓤) (sem 𝓛 (token E.al s.heap (bare (τ E)) null_ptr))) (λ b o at.
    let made : PartsRow.Denot = record { at = s.at; from = from; value = v.0 } in let boxed : D E = record { ptr = s.at; alloc = from; value = v.0 } in
    regoal ! (λ (us : List Val). prop (WpFn 𝓤 𝓛.H 𝓣.C 𝓣.Λ code.function (us ++ (y.0.4.1.0 ++ [])) (W.post y))) (slot_is ∙ ap (λ (ws : List Val). vstruct (of_list (ws ++ [])) ∷ []) at_is ∙ ap (λ (p : Ptr). vstruct (of_list (ptr_val p ∷ [])) ∷ []) at) refl $
    regoal ! (λ (vs : List Val). prop (WpFn 𝓤 𝓛.H 𝓣.C 𝓣.Λ code.function (vstruct (vcons (vptr b o) vnil) ∷ (vs ++ [])) (W.post y))) handled refl $
    fsplit ! $ box_in E ! boxed b o v.0 at refl $
    -- [what a box owns and its fields]
    enter ! 𝓣.C 𝓣.Λ code.function (vstruct (vcons (vptr b o) vnil) ∷ handle ∷ []) (W.post y) $ alloc_all ! (λ l. pass_all ! refl ((tt, (tt, tt)), (fits, tt)) $
    sets ! (of_opd ! (get_in ! (fld ! refl (stop !)) (sub ! 0 refl (whole !)))) refl (tt, tt) $
    sets ! (of_opd ! (get ! refl)) refl (tt, tt) $
    sets ! (agg ! (and_then ! (get ! refl) (and_then ! (get ! refl) (no_more !)))) refl (box_typed E handle b o fits) $
    returns ! (look_at ! 0 refl) $ free_all ! refl $
    suffices ! _ (ends_at 𝓛 f.ended stayed c y (word E handle b o) made (tt, (tt, tt)) (tt, (tt, tt))) $ says ! (v.1) $
    use1 𝓛 (‵ (PartsRow.own_val made (word E handle b o ∷ []))) (id⊢ 𝓤 _) $
    nothing ! $ nothing ! $ join ! $ nothing ! $ join ! $ nothing ! $ group ! 3 $ done !))))))))
