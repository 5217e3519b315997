-- `into_box` calls `from_raw`, which takes what the parts own, and returns its box.
use Rattle.std.proofs.Common.{◌≡◌, [], ◌∷◌, refl, List}
use Rattle.std.proofs.raw_atomic.Walks.{proved_at}
use Rattle.std.proofs.VecSteps.Shapes.{after}
use base.Fml.{ftrue, fsep}
use base.Logic.{id⊢}
use contract.BorrowLft.{◌⊑◌}
use contract.Monad.{fact}
use contract.Running.{tables}
use mathlib.Core.List.{◌++◌}
use mir.MapTy.{inst_fn}
use mir.Syntax.{Fn}
use mir.Val.{Val, vptr}
use prog.Wp.{WpFn}
use types.Kit.{‵, raw, ◌⊛◌, some, later, at_ret, ◌$◌, ◌∵◌, !, qed, done, drop, keep, move, join, split, split3, fsplit, fjoin, feq_i, pick, await, regoal, prop, use1, suffices, group}
use types.Part.{whole, sub}
use types.Run.{stop, fld, no_more, and_then, of_opd, enter, first, blocks, exec, returns}
use types.ByLocal.{alloc_all, pass_all, free_all, look_at, get, get_in, sets, lands_last, env}
use denote.Exit.{no}
use denote.Laws.{shows}
use denote.Param.Laws.{param_laws}
use denote.RattleType.{RattleType}
use denote.RawPtr.{block_ptr}
use denote.Signature.{plain}
use denote.Steps.{nothing, heard, peeks}
use denote.Triple.Call.{calls_at_last}
use denote.Triple.Clauses.{Lasts, lasts}
use denote.Triple.Entry.{alive}
use denote.Triple.Spec.{triple_of}
use denote.Triple.Table.{framed}
use denote.Triple.Walked.{Stays, walk_of, says, stay_dropped, ends_at}
use Rattle.std.proofs.alloc.Calls.{Goes-blank}
use Rattle.std_alloc.proofs.BoxSteps.Form.{Bx, D, P, R, B, args, word, box_typed}
use Rattle.std_alloc.proofs.BoxSteps.Steps.{box_out}
use Rattle.std_alloc.proofs.boxed.Box.TheLaws.{the_row_laws as box_laws}
use Rattle.std_alloc.specs.contracts.boxed.Box.from_raw as g
use Rattle.std_alloc.proofs.boxed.Box.from_raw.Met.{met}
use Rattle.lispm_c.specs.contracts.parts.Parts as parts
use Rattle.lispm_c.specs.contracts.parts.Parts.into_box as f
use Rattle.lispm_c.proofs.parts.Parts.into_box.Statement.{statement}
use Rattle.lispm_c.proofs.parts.Parts.into_box.Code as code

pub into_box_spec : {M : Type 1} → statement M
into_box_spec 𝓤 𝓛 𝓜 𝓡 wired T A T-laws A-laws ghosts methods drops allocates A-drop =
    let E : Bx = record { row = T; laws = T-laws; al = record { row = A; laws = A-laws; g = ghosts; d = methods; drops = drops } } in
    let run : Fn = inst_fn (args E) code.function in let From : RattleType = parts.the_row (R E) (P E) ghosts in
    let ended = f.ended T A ghosts methods drops in let c = f.clauses T A ghosts methods drops 𝓛 𝓜.mem 𝓡.returns in
    let stayed : Stays ended.signature.params ended.kept = (stay_dropped (plain (λ _. From)) no, tt) in
    let W = walk_of 𝓛 ended stayed c in let 𝓣 = tables 𝓤 𝓛.H 𝓜 𝓡 𝓡.env in
    let G = triple_of 𝓛 (g.signature T A ghosts methods drops) (g.spec T A ghosts methods drops 𝓛 𝓜.mem 𝓡.returns) in
    let G-met = met 𝓤 𝓛 𝓜 𝓡 (code.calls-std_alloc::boxed::Box::from_raw 𝓡.env wired) T A T-laws A-laws ghosts methods drops allocates A-drop in
    proved_at 𝓛 ended stayed c 𝓜 𝓡 (Goes-blank 𝓛 2 (plain (λ _. From)) no (λ κs x w. tt), tt)
    (f.Key.name (args E)) run (code.unfolded 𝓤 𝓛.H 𝓜 𝓡 wired (T, (A, tt)) methods drops) (λ y are.
    let κs = y.0.0 in let heap = y.0.3.0.from in let value = y.0.3.0.value in let living = raw (alive 𝓛 ended.signature κs y.0.1) in
    let parts_box : D E = record { ptr = y.0.3.0.at; alloc = heap; value = value } in
    qed 𝓛 ((living ⊛ ‵ (fsep ((B E).own_val parts_box y.0.4.0) ftrue)) ∷ (raw (fact 𝓤 (κs.0 ⊑ T.lives)) ⊛ raw (fact 𝓤 (κs.1.0 ⊑ A.lives)) ⊛ ‵ ftrue) ∷ []) ∵
    split ! $ move ! (1 ∷ []) $ fsplit ! $
    box_out E ! parts_box y.0.4.0 (λ b o handle at same fits.
    regoal ! (λ (vs : List Val). prop (WpFn 𝓤 𝓛.H 𝓣.C 𝓣.Λ run (vs ++ []) (W.post y))) same refl $ fjoin ! $
    let z : G.Ghost = ((κs, y.0.1, tt, (heap, (block_ptr b o, tt)), (handle ∷ [], (vptr b o ∷ [], tt))), value) in
    -- [what the box owns; the handle; nothing; the lifetimes' tokens; what `from_raw` requires of the lifetimes]
    move ! (4 ∷ []) $ split3 ! $ move ! (0 ∷ 1 ∷ 3 ∷ []) $ group ! 3 $
    move ! (1 ∷ []) $ feq_i ! _ (vptr b o ∷ []) (vptr b o ∷ []) refl $ fjoin ! $ move ! (2 ∷ 0 ∷ []) $ fjoin ! $ keep ! (3 ∷ 0 ∷ 1 ∷ []) $ join ! $ join ! $
    use1 𝓛 (raw (G.pre z)) (id⊢ 𝓤 _) $
    enter ! 𝓣.C 𝓣.Λ run (word E handle b o ∷ []) (W.post y) $ alloc_all ! (λ l. pass_all ! refl (box_typed E handle b o fits, tt) $
    sets ! (of_opd ! (get_in ! (fld ! refl (stop !)) (sub ! 0 refl (whole !)))) refl (tt, tt) $
    sets ! (of_opd ! (get_in ! (fld ! refl (stop !)) (sub ! 1 refl (whole !)))) refl fits $
    first ! $ blocks ! $ sets ! (of_opd ! (get ! refl)) refl fits $
    calls_at_last ! (framed 𝓤 𝓛.H 𝓜 𝓣) G G-met z (and_then ! (get ! refl) (and_then ! (get ! refl) (no_more !))) (λ out.
    let called = g.ended T A ghosts methods drops in
    use1 𝓛 (later (some (λ (r : D E). (living ⊛ ‵ ((B E).own_val r (out ∷ []))) ⊛ some (λ (ws : Lasts called κs z.0.3).
    ‵ (lasts called κs z.0.3 ws) ⊛ raw (fact 𝓤 (r.value ≡ value)) ⊛ raw (fact 𝓤 (r.alloc ≡ heap)))))) (id⊢ 𝓤 _) $
    await ! tt $ pick ! (λ r. split ! $ move ! (1 ∷ []) $ pick ! (λ ws. split3 ! $ drop ! $ heard ! _ (λ same_value. drop ! $ split ! $ move ! (1 ∷ []) $
    peeks ! (B E) _ (shows 𝓛 (B E)) r (out ∷ []) (λ is. let typed = ((box_laws (R E) (P E) ghosts (param_laws 0 T T-laws) (param_laws 1 A A-laws)).lawful 𝓛).typed r (out ∷ []) is in
    move ! (1 ∷ []) $
    -- [the lifetimes' tokens; what the box owns]
    lands_last ! refl typed.0 $ exec ! 𝓣.C 𝓣.Λ (env run.locals l) (after 3 run.body) (at_ret (env run.locals l) (W.post y)) $
    sets ! (of_opd ! (get ! refl)) refl typed.0 $ returns ! (look_at ! 0 refl) $ free_all ! refl $
    suffices ! _ (ends_at 𝓛 ended stayed c y out r ((tt, (tt, tt)), tt) (tt, tt)) $ says ! same_value $
    move ! (1 ∷ []) $ nothing ! $ nothing ! $ fjoin ! $ move ! (2 ∷ 0 ∷ []) $ group ! 3 $ done !))))))))
