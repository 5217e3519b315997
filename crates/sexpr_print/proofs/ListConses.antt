-- The conses of a list form whose cars are no references, one after another.
use Rattle.std.proofs.Common.{◌≡◌, ℕ, ◌+◌, ◌≤◌, refl, sym, ◌∙◌, ap, subst, arith, List, [], ◌∷◌, ◌++◌, length, append_assoc, length-append, Some}
use Rattle.lisp_graph.specs.Graph.{IsObject, PartsReferBelow, RefersBelow, object_at}
use Rattle.lisp_graph.specs.declared.object.Body.TheVariants as B
use Rattle.lisp_graph.specs.declared.object.Value.{Value}
use Rattle.lisp_graph.specs.declared.object.Value.TheVariants.{Ref}
use Rattle.lisp_graph.specs.declared.object.Object.{Object}
use Rattle.lisp_graph.specs.declared.world.World.{World}
use Rattle.sexpr_text.specs.declared.token.Token.{Token}
use Rattle.sexpr_text.specs.declared.token.Token.TheVariants.{Atom}
use Rattle.sexpr_print.specs.declared.sharing.References.{References}
use Rattle.sexpr_print.specs.declared.task.PrintTask.{PrintTask}
use Rattle.sexpr_print.specs.declared.task.PrintTask.TheVariants as K
use Rattle.sexpr_print.specs.declared.printer.Printer.{Printer}
use Rattle.sexpr_print.specs.Printing.{next_of}
use Rattle.sexpr_print.specs.Marks.{shared_in}
use Rattle.sexpr_print.specs.Writing.{Adds}
use Rattle.sexpr_print.specs.Tasks.{AllPrint, DoesPrint, Steps}
use Rattle.sexpr_print.proofs.Steps.{work_one}
use Rattle.sexpr_print.proofs.TaskLaws.{prints_atom, rest_goes}
use Rattle.sexpr_print.proofs.Writes.{adds_none, adds_then}

pub cdr_sound : (count : ℕ) (object : Object) (car cdr : Value) → object.body ≡ B.Cons car cdr → IsObject count object → RefersBelow count cdr
cdr_sound count object car cdr is sound = (subst (PartsReferBelow count) is sound.refers).1

-- Conses from the one with the first cdr up to the one with the second cdr were printed.
pub record Along (world : World) (area charge : ℕ) (first cdr : Value) (old new : Printer) : Type 0 where
  pub tokens : List Token
  pub tasks : new.tasks.items ≡ old.tasks.items
  pub adds : Adds world.areas tokens old.text new.text
  pub counts : new.printed.counts ≡ old.printed.counts
  pub prints : (others : List Token) (after : List ℕ) → DoesPrint world.objects (shared_in old.printed.counts) (K.Rest area charge cdr) new.printed.names others after
      → DoesPrint world.objects (shared_in old.printed.counts) (K.Rest area charge first) old.printed.names (tokens ++ others) after
  pub refers : RefersBelow (length world.objects) cdr
  pub more : length old.printed.names ≤ length new.printed.names

pub along_none : (world : World) (area charge : ℕ) (cdr : Value) (now : Printer) → RefersBelow (length world.objects) cdr → Along world area charge cdr cdr now now
along_none world area charge cdr now refers = record {
  tokens = [];
  tasks = refl;
  adds = adds_none world.areas now.text;
  counts = refl;
  prints = λ others after does. does;
  refers = refers;
  more = omega arith;
}

-- one cons more
pub along_more : (world : World) (area charge : ℕ) (first past car cdr : Value) (name : ℕ) (old middle new : Printer) → Along world area charge first past old middle
    → next_of world.objects (shared_in middle.printed.counts) middle.printed.names area charge past ≡ Some name → (object_at world.objects name).body ≡ B.Cons car cdr → ((other : ℕ) → car ≡ Ref other → ⊥)
    → new.tasks.items ≡ middle.tasks.items → Adds world.areas (Atom car ∷ []) middle.text new.text → new.printed.counts ≡ middle.printed.counts → new.printed.names ≡ middle.printed.names ++ name ∷ []
    → RefersBelow (length world.objects) cdr → Along world area charge first cdr old new
along_more world area charge first past car cdr name old middle new along is body atom tasks adds counts names refers =
    let objects = world.objects in
    let shared = shared_in old.printed.counts in
    let N : List References → Type 0 = λ cs. next_of objects (shared_in cs) middle.printed.names area charge past ≡ Some name in
    let here : next_of objects shared middle.printed.names area charge past ≡ Some name = subst N along.counts is in
    let D : List ℕ → List Token → List ℕ → Type 0 = λ ns others after. DoesPrint objects shared (K.Rest area charge cdr) ns others after in
    let E : List Token → List ℕ → Type 0 = λ ts after. DoesPrint objects shared (K.Rest area charge first) old.printed.names ts after in
    record {
      tokens = along.tokens ++ Atom car ∷ [];
      tasks = tasks ∙ along.tasks;
      adds = adds_then world.areas along.tokens (Atom car ∷ []) old.text middle.text new.text along.adds adds;
      counts = counts ∙ along.counts;
      prints = λ others after does. (
          let printed = middle.printed.names ++ name ∷ [] in
          let element : AllPrint objects shared (K.Value car ∷ []) printed (Atom car ∷ []) printed = record {
            front = [];
            middle = printed;
            back = Atom car ∷ [];
            first = (refl, refl);
            others = prints_atom objects shared car printed atom;
            is = refl;
          } in
          let both : AllPrint objects shared (K.Rest area charge cdr ∷ K.Value car ∷ []) printed (Atom car ∷ others) after = record {
            front = Atom car ∷ [];
            middle = printed;
            back = others;
            first = element;
            others = subst (λ ns. D ns others after) names does;
            is = refl;
          } in
          let goes = rest_goes objects shared area charge name car cdr past middle.printed.names after (Atom car ∷ others) here body both in
          subst (λ ts. E ts after) (sym (append_assoc along.tokens (Atom car ∷ []) others)) (along.prints (Atom car ∷ others) after goes));
      refers = refers;
      more = (let a : length new.printed.names ≡ length middle.printed.names + 1 = ap length names ∙ length-append middle.printed.names (name ∷ []) in omega (arith, a, along.more));
    }

-- a step after them
pub along_steps : (world : World) (area charge : ℕ) (first cdr : Value) (old middle new : Printer) → Along world area charge first cdr old middle → Steps world (K.Rest area charge cdr) middle.tasks.items middle new
    → Steps world (K.Rest area charge first) old.tasks.items old new
along_steps world area charge first cdr old middle new along steps =
    let objects = world.objects in
    let shared = shared_in old.printed.counts in
    let A : List References → List Token → List ℕ → Type 0 = λ cs others after. AllPrint objects (shared_in cs) steps.pushed new.printed.names others after in
    let D : List References → List Token → List ℕ → Type 0 = λ cs ts after. DoesPrint objects (shared_in cs) (K.Rest area charge cdr) middle.printed.names ts after in
    let E : List Token → List ℕ → Type 0 = λ ts after. DoesPrint objects shared (K.Rest area charge first) old.printed.names ts after in
    record {
      pushed = steps.pushed;
      tokens = along.tokens ++ steps.tokens;
      tasks = steps.tasks ∙ ap (λ (ts : List PrintTask). ts ++ steps.pushed) along.tasks;
      adds = adds_then world.areas along.tokens steps.tokens old.text middle.text new.text along.adds steps.adds;
      counts = steps.counts ∙ along.counts;
      prints = λ others after all. (
          let does = steps.prints others after (subst (λ cs. A cs others after) (sym along.counts) all) in
          subst (λ ts. E ts after) (sym (append_assoc along.tokens steps.tokens others))
          (along.prints (steps.tokens ++ others) after (subst (λ cs. D cs (steps.tokens ++ others) after) along.counts does)));
      sound = steps.sound;
      less = (
          let a : length middle.printed.counts ≡ length old.printed.counts = ap length along.counts in
          let b = work_one objects (K.Rest area charge cdr) in
          let d = work_one objects (K.Rest area charge first) in
          omega (arith, a, b, d, along.more, steps.less));
    }
