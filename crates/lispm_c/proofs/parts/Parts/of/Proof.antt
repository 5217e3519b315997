-- `of` calls the function that takes a box apart. The pointer and the handle go into the parts, and with them what the box owned.
use Rattle.std.proofs.Common.{◌≡◌, [], ◌∷◌, refl, sym, ap, ◌∙◌, List}
use Rattle.std.proofs.raw_atomic.Walks.{proved_at}
use base.Fml.{ftrue, fsep}
use base.Logic.{id⊢, never, fst∗}
use contract.Monad.{fact}
use contract.Running.{tables}
use mathlib.Core.List.{◌++◌}
use mir.MapTy.{inst_fn}
use mir.Raw.{raw as bare}
use mir.Syntax.{Args, Fn, a_type, dcons, dnil}
use mir.Val.{Val, vptr, vstruct, of_list}
use prog.Wp.{WpFn}
use types.Kit.{‵, raw, ◌⊛◌, some, later, ◌$◌, ◌∵◌, !, qed, done, drop, move, join, split, split3, fsplit, fjoin, fpick, feq_l, pick, await, regoal, rewrite, prop, use1, suffices, group}
use types.Logic.{sem}
use types.Part.{whole, sub, agg}
use types.Run.{stop, fld, no_more, and_then, of_opd, enter, returns}
use types.ByLocal.{alloc_all, pass_all, free_all, look_at, get, get_in, sets, lands_as}
use denote.Exit.{no}
use denote.Param.{bounded}
use denote.RattleType.{RattleType}
use denote.RawPtr.{Ptr, RawPtr, null_ptr, ptr_val, in_a_block}
use denote.Signature.{plain}
use denote.Steps.{nothing, heard, only}
use denote.Struct.Tuple.{Tuple}
use denote.Triple.Call.{calls_at}
use denote.Triple.Clauses.{Lasts, lasts}
use denote.Triple.Entry.{alive}
use denote.Triple.Spec.{triple_of}
use denote.Triple.Table.{framed}
use denote.Triple.Walked.{Stays, walk_of, says, stay_dropped, ends_at}
use Rattle.std.proofs.alloc.Calls.{token, handle_tells, Goes-blank}
use Rattle.std.specs.Box.Ownership.{box_owns}
use Rattle.std_alloc.proofs.BoxSteps.Form.{Bx, D, P, R, B, τ, word, box_typed}
use Rattle.std_alloc.proofs.BoxSteps.Steps.{box_in, box_out}
use Rattle.std_alloc.specs.contracts.boxed.Box.into_raw_with_allocator as g
use Rattle.std_alloc.proofs.boxed.Box.into_raw_with_allocator.Met.{met}
use Rattle.lispm_c.specs.contracts.parts.Parts as parts
use Rattle.lispm_c.specs.contracts.parts.Parts.of as f
use Rattle.lispm_c.proofs.parts.Parts.of.Statement.{statement}
use Rattle.lispm_c.proofs.parts.Parts.of.Code as code

pub of_spec : {M : Type 1} → statement M
of_spec 𝓤 𝓛 𝓜 𝓡 wired T A T-laws A-laws ghosts methods drops T-drops allocates A-drop T-drop =
    let E : Bx = record { row = T; laws = T-laws; al = record { row = A; laws = A-laws; g = ghosts; d = methods; drops = drops } } in
    let given : Args = bounded (a_type ∷ a_type ∷ []) (T, (A, tt)) (dcons methods (dcons drops (dcons T-drops dnil))) in
    let run : Fn = inst_fn given code.function in let To : RattleType = parts.the_row (R E) (P E) ghosts in
    let ended = f.ended T A ghosts methods drops T-drops in let c = f.clauses T A ghosts methods drops T-drops 𝓛 𝓜.mem 𝓡.returns in
    let stayed : Stays ended.signature.params ended.kept = (stay_dropped (plain (λ _. B E)) no, tt) in
    let W = walk_of 𝓛 ended stayed c in let 𝓣 = tables 𝓤 𝓛.H 𝓜 𝓡 𝓡.env in
    let G = triple_of 𝓛 (g.signature T A ghosts methods drops T-drops) (g.spec T A ghosts methods drops T-drops 𝓛 𝓜.mem 𝓡.returns) in
    let G-met = met 𝓤 𝓛 𝓜 𝓡 (code.calls-std_alloc::boxed::Box::into_raw_with_allocator 𝓡.env wired) T A T-laws A-laws ghosts methods drops T-drops allocates A-drop T-drop in
    proved_at 𝓛 ended stayed c 𝓜 𝓡 (Goes-blank 𝓛 2 (plain (λ _. B E)) no (λ κs x w. tt), tt)
    (f.Key.name given) run (code.unfolded 𝓤 𝓛.H 𝓜 𝓡 wired (T, (A, tt)) methods drops T-drops) (λ y are.
    let κs = y.0.0 in let boxed = y.0.3.0 in let living = raw (alive 𝓛 ended.signature κs y.0.1) in
    qed 𝓛 ((living ⊛ ‵ (fsep ((B E).own_val boxed y.0.4.0) ftrue)) ∷ raw ((c κs y.0.3).requires y.1) ∷ []) ∵ split ! $ move ! (1 ∷ []) $ fsplit ! $
    box_out E ! boxed y.0.4.0 (λ b o from at same fits.
    regoal ! (λ (vs : List Val). prop (WpFn 𝓤 𝓛.H 𝓣.C 𝓣.Λ run (vs ++ []) (W.post y))) same refl $
    box_in E ! boxed b o boxed.value at refl $ fjoin ! $ move ! (1 ∷ 0 ∷ []) $ join ! $ join ! $
    let z : G.Ghost = ((κs, y.0.1, tt, y.0.3, (word E from b o ∷ [], tt)), tt) in
    use1 𝓛 (raw (G.pre z)) (id⊢ 𝓤 _) $
    enter ! 𝓣.C 𝓣.Λ run (word E from b o ∷ []) (W.post y) $ alloc_all ! (λ l. pass_all ! refl (box_typed E from b o fits, tt) $
    sets ! (of_opd ! (get ! refl)) refl (box_typed E from b o fits) $
    calls_at ! (framed 𝓤 𝓛.H 𝓜 𝓣) G G-met z (and_then ! (get ! refl) (no_more !)) (λ pair.
    let Pair : RattleType = Tuple (RawPtr ∷ P E ∷ []) in
    use1 𝓛 (later (some (λ (r : Pair.Denot). (living ⊛ ‵ (Pair.own_val r (pair ∷ []))) ⊛ some (λ (ws : Lasts (g.ended T A ghosts methods drops T-drops) κs y.0.3).
    ‵ (lasts (g.ended T A ghosts methods drops T-drops) κs y.0.3 ws) ⊛ raw (fact 𝓤 (r.1 ≡ boxed.alloc)) ⊛ ‵ (box_owns (token E.al boxed.alloc) (R E) r.0 boxed.value))))) (id⊢ 𝓤 _) $
    await ! tt $ pick ! (λ r. split ! $ move ! (1 ∷ []) $ pick ! (λ ws. split3 ! $ drop ! $ heard ! _ (λ same_heap.
    let made : To.Denot = record { at = r.0; from = r.1; value = boxed.value } in let rest : D E = record { ptr = r.0; alloc = r.1; value = boxed.value } in
    rewrite ! 0 (λ (heap : A.Denot). ‵ (box_owns (token E.al heap) (R E) r.0 boxed.value)) (sym same_heap) refl $
    in_a_block ! r.0 (λ p. box_owns (token E.al r.1) (R E) p boxed.value) (fst∗ 𝓤 (never 𝓤) (sem 𝓛 (token E.al r.1 (bare (τ E)) null_ptr))) (λ b' o' at'.
    move ! (1 ∷ []) $ split ! $ move ! (1 ∷ []) $ fpick ! (λ words. fsplit ! $ feq_l ! (λ pair_is. fsplit ! $ feq_l ! (λ at_is. fsplit ! $
    handle_tells E.al ! r.1 words.1.0 (λ handle handled fits'.
    let out = word E handle b' o' in let typed = box_typed E handle b' o' fits' in
    move ! (3 ∷ []) $ fsplit ! $ box_in E ! rest b' o' boxed.value at' refl $ move ! (1 ∷ []) $ drop ! $ move ! (1 ∷ []) $
    -- [the lifetimes' tokens; what the parts own]
    lands_as ! (ap only (pair_is ∙ ap (λ (ps : List Val). vstruct (of_list (ps ++ (words.1.0 ++ []))) ∷ []) (at_is ∙ ap (λ (p : Ptr). ptr_val p ∷ []) at')
    ∙ ap (λ (hs : List Val). vstruct (of_list (vptr b' o' ∷ (hs ++ []))) ∷ []) handled)) refl typed $
    sets ! (of_opd ! (get_in ! (fld ! refl (stop !)) (sub ! 0 refl (whole !)))) refl (tt, tt) $
    sets ! (of_opd ! (get_in ! (fld ! refl (stop !)) (sub ! 1 refl (whole !)))) refl fits' $
    sets ! (of_opd ! (get ! refl)) refl fits' $
    sets ! (agg ! (and_then ! (get ! refl) (and_then ! (get ! refl) (no_more !)))) refl typed $
    returns ! (look_at ! 0 refl) $ free_all ! refl $
    suffices ! _ (ends_at 𝓛 ended stayed c y out made ((tt, (tt, tt)), tt) (tt, tt)) $ says ! refl $
    move ! (1 ∷ []) $ use1 𝓛 (‵ (To.own_val made (out ∷ []))) (id⊢ 𝓤 _) $
    nothing ! $ nothing ! $ fjoin ! $ move ! (2 ∷ 0 ∷ []) $ group ! 3 $ done !))))))))))))
