-- The lines of registers.
use Rattle.std.proofs.Common.{◌≡◌, ℕ, ◌+◌, ◌<◌, ◌≤◌, true, false, refl, sym, ◌∙◌, ap, subst, List, [], ◌∷◌, ◌++◌, length, drop, append_assoc, drop_of_length-le}
use Rattle.std.specs.Prelude.{pos, slice_index_or, Result, Ok, Err, OnOk}
use Rattle.std.proofs.lemmas.List.{append-nil, drop_more}
use Rattle.lisp_graph.specs.declared.object.Value.{Value}
use Rattle.lisp_graph.specs.declared.object.Value.TheVariants.{Fix, Nil, Ref}
use Rattle.lisp_graph.specs.declared.world.World.{World}
use Rattle.lisp_graph.specs.declared.world.AreaRule.{AreaRule}
use Rattle.lisp_graph.specs.Groups.{is_nil}
use Rattle.sexpr_text.specs.declared.token.Token.{Token}
use Rattle.sexpr_text.specs.declared.token.Token.TheVariants.{Atom, Root}
use Rattle.sexpr_print.specs.declared.sharing.References.{References}
use Rattle.sexpr_print.specs.declared.token_text.TokenText.{TokenText}
use Rattle.sexpr_print.specs.declared.printer.Printer.{Printer}
use Rattle.sexpr_print.specs.Printing.{Prints, PrintsRoots, done, line, nothing}
use Rattle.sexpr_print.specs.Spelling.{lines_text, tokens_text}
use Rattle.sexpr_print.specs.Marks.{Marks, shared_in}
use Rattle.sexpr_print.specs.Writing.{Adds, added}
use Rattle.sexpr_print.specs.Tasks.{Wrote}
use Rattle.sexpr_print.specs.Lines.{PrintsLines, PrintsRegister}
use Rattle.sexpr_print.proofs.Writes.{adds_then, line_is}

-- the text of tokens that are added at the beginning of a line
pub line_text : (areas : List AreaRule) (tokens : List Token) (old new : TokenText) → old.joined ≡ true → Adds areas tokens old new → new.text ≡ old.text ++ tokens_text areas tokens
line_text areas tokens old new joined adds = adds.text ∙ ap (λ b. old.text ++ added areas b tokens) joined ∙ ap (λ l. old.text ++ l) (sym (line_is areas tokens))

pub one_line : (areas : List AreaRule) (tokens : List Token) → lines_text areas (tokens ∷ []) ≡ tokens_text areas tokens ++ 10 ∷ []
one_line areas tokens = append-nil (tokens_text areas tokens ++ 10 ∷ [])

-- A register that is nil has no line

nil_is : (value : Value) → is_nil value ≡ true → value ≡ Nil
nil_is Nil is = refl
nil_is (Fix n) is = absurd cc
nil_is (Ref name) is = absurd cc

pub register_nil : (world : World) (register : ℕ) (value : Value) (now : Printer) → is_nil value ≡ true → now.text.joined ≡ true → now.tasks.items ≡ [] → PrintsRegister world register value now now
register_nil world register value now nil joined idle = record {
  lines = [];
  prints = λ values others prints. (
      let P : Value → Type 0 = λ v. PrintsRoots world.objects (shared_in now.printed.counts) register now.printed.names (v ∷ values) others in
      subst P (sym (nil_is value nil)) (nothing register now.printed.names values others prints));
  counts = refl;
  text = sym (append-nil now.text.text);
  joined = joined;
  idle = idle;
}

-- Another has one

line_whole : (areas : List AreaRule) (register : ℕ) (tokens : List Token) (old one two three four : TokenText) → old.joined ≡ true → Adds areas (Root ∷ []) old one → Adds areas (Atom (Fix (pos register)) ∷ []) one two
    → Adds areas tokens two three → four.text ≡ three.text ++ 10 ∷ [] → four.text ≡ old.text ++ lines_text areas ((Root ∷ Atom (Fix (pos register)) ∷ tokens) ∷ [])
line_whole areas register tokens old one two three four joined root number value ended =
    let whole = Root ∷ Atom (Fix (pos register)) ∷ tokens in
    let begun = adds_then areas (Root ∷ []) (Atom (Fix (pos register)) ∷ []) old one two root number in
    let all : Adds areas whole old three = adds_then areas (Root ∷ Atom (Fix (pos register)) ∷ []) tokens old two three begun value in
    ended ∙ ap (λ l. l ++ 10 ∷ []) (line_text areas whole old three joined all) ∙ append_assoc old.text (tokens_text areas whole) (10 ∷ [])
    ∙ ap (λ l. old.text ++ l) (sym (one_line areas whole))

register_line : (world : World) (register : ℕ) (value : Value) (old start middle new : Printer) (one : TokenText) → is_nil value ≡ false → old.text.joined ≡ true → start.printed ≡ old.printed
    → Adds world.areas (Root ∷ []) old.text one → Adds world.areas (Atom (Fix (pos register)) ∷ []) one start.text → Wrote world value start middle
    → new.text.text ≡ middle.text.text ++ 10 ∷ [] → new.text.joined ≡ true → new.printed ≡ middle.printed → new.tasks.items ≡ [] → PrintsRegister world register value old new
register_line world register value old start middle new one some joined same root number wrote ended next printed idle =
    let P : Marks → List ℕ → Type 0 = λ m after. Prints world.objects (shared_in m.counts) m.names value wrote.tokens after in
    let names : new.printed.names ≡ middle.printed.names = ap (λ (m : Marks). m.names) printed in
    let here : P old.printed new.printed.names = subst (λ ns. P old.printed ns) (sym names) (subst (λ m. P m middle.printed.names) same wrote.prints) in
    record {
      lines = (Root ∷ Atom (Fix (pos register)) ∷ wrote.tokens) ∷ [];
      prints = λ values others prints. line register old.printed.names new.printed.names value values wrote.tokens others some here prints;
      counts = ap (λ (m : Marks). m.counts) printed ∙ wrote.counts ∙ ap (λ (m : Marks). m.counts) same;
      text = line_whole world.areas register wrote.tokens old.text one start.text middle.text new.text joined root number wrote.adds ended;
      joined = next;
      idle = idle;
    }

pub register_ended : {E : Type 0} (world : World) (register : ℕ) (value : Value) (result : Result (Unit {0}) E) (old start middle new : Printer) (one : TokenText) → is_nil value ≡ false → old.text.joined ≡ true
    → start.printed ≡ old.printed → Adds world.areas (Root ∷ []) old.text one → Adds world.areas (Atom (Fix (pos register)) ∷ []) one start.text → Wrote world value start middle
    → OnOk result (new.text.text ≡ middle.text.text ++ 10 ∷ []) → OnOk result (new.text.joined ≡ true) → new.printed ≡ middle.printed → new.tasks.items ≡ [] → OnOk result (PrintsRegister world register value old new)
register_ended world register value (Ok x) old start middle new one some joined same root number wrote ended next printed idle =
    register_line world register value old start middle new one some joined same root number wrote ended next printed idle
register_ended world register value (Err e) old start middle new one some joined same root number wrote ended next printed idle = tt

-- Lines so far

pub record GoesLines (world : World) (roots : List Value) (register : ℕ) (start now : Printer) : Type 0 where
  pub lines : List (List Token)
  pub prints : (others : List (List Token)) → PrintsRoots world.objects (shared_in start.printed.counts) register now.printed.names (drop register roots) others
      → PrintsRoots world.objects (shared_in start.printed.counts) 0 start.printed.names roots (lines ++ others)
  pub counts : now.printed.counts ≡ start.printed.counts
  pub text : now.text.text ≡ start.text.text ++ lines_text world.areas lines
  pub joined : now.text.joined ≡ true
  pub idle : now.tasks.items ≡ []

pub lines_none : (world : World) (roots : List Value) (now : Printer) → now.text.joined ≡ true → now.tasks.items ≡ [] → GoesLines world roots 0 now now
lines_none world roots now joined idle = record {
  lines = [];
  prints = λ others prints. prints;
  counts = refl;
  text = sym (append-nil now.text.text);
  joined = joined;
  idle = idle;
}

pub lines_append : (areas : List AreaRule) (front back : List (List Token)) → lines_text areas (front ++ back) ≡ lines_text areas front ++ lines_text areas back
lines_append areas [] back = refl
lines_append areas (tokens ∷ front) back = ap (λ l. (tokens_text areas tokens ++ 10 ∷ []) ++ l) (lines_append areas front back) ∙ sym (append_assoc (tokens_text areas tokens ++ 10 ∷ []) (lines_text areas front) (lines_text areas back))

pub lines_next : (world : World) (roots : List Value) (register : ℕ) (value fill : Value) (start old new : Printer) → register < length roots → value ≡ slice_index_or roots register fill → GoesLines world roots register start old
    → PrintsRegister world register value old new → GoesLines world roots (register + 1) start new
lines_next world roots register value fill start old new within is goes one =
    let P : List References → List Value → List (List Token) → Type 0 = λ cs values others. PrintsRoots world.objects (shared_in cs) register old.printed.names values others in
    let Q : List References → List (List Token) → Type 0 = λ cs others. PrintsRoots world.objects (shared_in cs) (register + 1) new.printed.names (drop (register + 1) roots) others in
    let R : List (List Token) → Type 0 = λ ls. PrintsRoots world.objects (shared_in start.printed.counts) 0 start.printed.names roots ls in
    let here : drop register roots ≡ value ∷ drop (register + 1) roots = drop_more roots register fill within ∙ ap (λ v. v ∷ drop (register + 1) roots) (sym is) in
    record {
      lines = goes.lines ++ one.lines;
      prints = λ others prints. (
          let step = one.prints (drop (register + 1) roots) others (subst (λ cs. Q cs others) (sym goes.counts) prints) in
          let moved = subst (λ cs. P cs (value ∷ drop (register + 1) roots) (one.lines ++ others)) goes.counts step in
          subst R (sym (append_assoc goes.lines one.lines others)) (goes.prints (one.lines ++ others) (subst (λ vs. P start.printed.counts vs (one.lines ++ others)) (sym here) moved)));
      counts = one.counts ∙ goes.counts;
      text = one.text ∙ ap (λ l. l ++ lines_text world.areas one.lines) goes.text ∙ append_assoc start.text.text (lines_text world.areas goes.lines) (lines_text world.areas one.lines)
          ∙ ap (λ l. start.text.text ++ l) (sym (lines_append world.areas goes.lines one.lines));
      joined = one.joined;
      idle = one.idle;
    }

pub lines_end : (world : World) (roots : List Value) (register : ℕ) (start now : Printer) → length roots ≤ register → GoesLines world roots register start now → PrintsLines world 0 roots start now
lines_end world roots register start now past goes =
    let P : List Value → Type 0 = λ vs. PrintsRoots world.objects (shared_in start.printed.counts) register now.printed.names vs [] in
    let R : List (List Token) → Type 0 = λ ls. PrintsRoots world.objects (shared_in start.printed.counts) 0 start.printed.names roots ls in
    record {
      lines = goes.lines;
      prints = subst R (append-nil goes.lines) (goes.prints [] (subst P (sym (drop_of_length-le roots past)) (done register now.printed.names)));
      text = goes.text;
      joined = goes.joined;
    }
