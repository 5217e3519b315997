-- `of` moves the pointer; what the parts own, the slot owns.
use Rattle.std.proofs.Common.{[], ◌∷◌, refl, sym, ap, List, Some}
use Rattle.std.proofs.raw_atomic.Walks.{proved_at}
use base.Fml.{ftrue, fsep}
use base.Logic.{emp}
use mir.Val.{Val, vptr, vstruct, vcons, vnil}
use mathlib.Core.List.{◌++◌}
use prog.Wp.{WpFn}
use contract.Running.{tables}
use types.Kit.{‵, raw, ◌⊛◌, ◌$◌, ◌∵◌, !, qed, done, drop, move, join, split, fsplit, fjoin, fpack, feq_i, regoal, rewrite, prop, suffices, group}
use types.Part.{whole, sub, agg}
use types.Run.{stop, fld, no_more, and_then, of_opd, enter, returns}
use types.ByLocal.{alloc_all, pass_all, free_all, look_at, get, get_in, sets}
use denote.Exit.{yes}
use denote.RattleType.{Valss}
use denote.RawPtr.{Ptr, RawPtr, ptr_val}
use denote.Struct.Owning.{shape}
use denote.Struct.Struct.{within}
use denote.Signature.{plain}
use denote.Steps.{nothing}
use denote.Triple.Walked.{Stays, walk_of, says, stay_dropped, Goes-dropped, ends_at}
use Rattle.std_alloc.proofs.BoxSteps.Form.{D, R, B, box_typed}
use Rattle.std_alloc.proofs.BoxSteps.Steps.{box_out}
use Rattle.std.proofs.alloc.Calls.{token}
use Rattle.std.specs.Box.Ownership.{box_owns}
use Rattle.lispm_c.proofs.Boxes.{E, PartsRow}
use Rattle.lispm_c.specs.contracts.slot.Slot as slot
use Rattle.lispm_c.specs.contracts.slot.Slot.of as f
use Rattle.lispm_c.proofs.slot.Slot.of.Statement.{statement}
use Rattle.lispm_c.proofs.slot.Slot.of.Code as code

abbrev stayed : Stays f.ended.signature.params f.ended.kept
stayed = (stay_dropped (plain (λ _. PartsRow)) yes, tt)

pub of_spec : {M : Type 1} → statement M
of_spec 𝓤 𝓛 𝓜 𝓡 wired =
    let c = f.clauses 𝓛 𝓜.mem 𝓡.returns in let W = walk_of 𝓛 f.ended stayed c in let 𝓣 = tables 𝓤 𝓛.H 𝓜 𝓡 𝓡.env in
    proved_at 𝓛 f.ended stayed c 𝓜 𝓡 (Goes-dropped 𝓛 0 (plain (λ _. PartsRow)) yes (λ κs x w. refl), tt)
    f.Key.name code.function (code.unfolded 𝓤 𝓛.H 𝓜 𝓡 wired) (λ y are.
    let parts : D E = record { ptr = y.0.3.0.at; alloc = y.0.3.0.from; value = y.0.3.0.value } in
    qed 𝓛 ((‵ ftrue ⊛ ‵ (fsep ((B E).own_val parts y.0.4.0) ftrue)) ∷ raw (emp 𝓤) ∷ []) ∵ split ! $ drop ! $ fsplit ! $
    box_out E ! parts y.0.4.0 (λ b o from at same fits.
    let made : slot.the_row.Denot = record { at = parts.ptr; heap = parts.alloc; held = Some parts.value } in
    let out = vstruct (vcons (vptr b o) vnil) in
    regoal ! (λ (vs : List Val). prop (WpFn 𝓤 𝓛.H 𝓣.C 𝓣.Λ code.function (vs ++ []) (W.post y))) same refl $
    fjoin ! $ move ! (1 ∷ []) $ drop ! $ move ! (1 ∷ []) $ drop ! $ move ! (1 ∷ []) $ drop ! $
    -- [what a box owns]
    enter ! _ _ _ _ _ $ alloc_all ! (λ l. pass_all ! refl (box_typed E from b o fits, tt) $
    sets ! (of_opd ! (get_in ! (fld ! refl (stop !)) (sub ! 0 refl (whole !)))) refl (tt, tt) $
    sets ! (of_opd ! (get_in ! (fld ! refl (stop !)) (sub ! 1 refl (whole !)))) refl fits $
    sets ! (of_opd ! (get ! refl)) refl (tt, tt) $
    sets ! (agg ! (and_then ! (get ! refl) (no_more !))) refl (tt, (tt, tt)) $
    returns ! (look_at ! 0 refl) $ free_all ! refl $
    suffices ! _ (ends_at 𝓛 f.ended stayed c y out made (tt, tt) (tt, tt)) $ says ! refl $
    rewrite ! 0 (λ (p : Ptr). ‵ (box_owns (token E.al parts.alloc) (R E) p parts.value)) (sym at) refl $
    nothing ! $ feq_i ! (List Val) (vptr b o ∷ []) (ptr_val parts.ptr ∷ []) (ap (λ (p : Ptr). ptr_val p ∷ []) (sym at)) $ fjoin ! $
    feq_i ! (List Val) (out ∷ []) (out ∷ []) refl $ fjoin ! $
    fpack ! (Valss (RawPtr ∷ [])) (within (shape slot.the_type) (parts.ptr, tt) (out ∷ [])) (vptr b o ∷ [], tt) $ fjoin ! $
    nothing ! $ nothing ! $ join ! $ nothing ! $ group ! 3 $ done !)))
