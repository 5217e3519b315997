-- What the tasks that replace a task print.
use Rattle.std.proofs.Common.{◌≡◌, ℕ, zero, suc, ◌+◌, Bool, true, false, refl, sym, ◌∙◌, ap, subst, arith, List, [], ◌∷◌, ◌++◌, drop, append_assoc, Some, None}
use Rattle.std.specs.Prelude.{pos, slice_get}
use Rattle.std.proofs.lemmas.List.{append-nil}
use Rattle.lisp_graph.specs.Graph.{object_at}
use Rattle.lisp_graph.specs.declared.object.Value.{Value}
use Rattle.lisp_graph.specs.declared.object.Value.TheVariants.{Fix, Nil, Ref}
use Rattle.lisp_graph.specs.declared.object.Body.{Body}
use Rattle.lisp_graph.specs.declared.object.Body.TheVariants as B
use Rattle.lisp_graph.specs.declared.object.Object.{Object}
use Rattle.lisp_graph.specs.Groups.{is_nil}
use Rattle.sexpr_text.specs.declared.bracket.Bracket.TheVariants.{Curly}
use Rattle.sexpr_text.specs.declared.token.Token.{Token}
use Rattle.sexpr_text.specs.declared.token.Token.TheVariants as T
use Rattle.sexpr_print.specs.declared.task.PrintTask.{PrintTask}
use Rattle.sexpr_print.specs.declared.task.PrintTask.TheVariants as K
use Rattle.sexpr_print.specs.Printing.{Prints, PrintsConses, PrintsFields, PrintsForm, bracket_of, next_of}
use Rattle.sexpr_print.specs.Printing.{number, none, list, block, ends, goes, dotted, done, more}
use Rattle.sexpr_print.specs.Tasks.{AllPrint, DoesPrint, PrintsBlock, PrintsBoth, fields_in}

module _ (objects : List Object) (shared : ℕ → Bool) where
  -- One task, and two

  pub no_task : (task : PrintTask) (printed names after : List ℕ) (tokens others : List Token) → DoesPrint objects shared task printed tokens names → AllPrint objects shared [] names others after
      → DoesPrint objects shared task printed (tokens ++ others) after
  no_task task printed names after tokens others does all =
      let P : List Token → Type 0 = λ ts. DoesPrint objects shared task printed (tokens ++ ts) after in
      let Q : List Token → Type 0 = λ ts. DoesPrint objects shared task printed ts after in
      let R : List ℕ → Type 0 = λ ns. DoesPrint objects shared task printed tokens ns in
      subst P (sym all.0) (subst Q (sym (append-nil tokens)) (subst R (sym all.1) does))

  pub one_task : (task : PrintTask) (printed after : List ℕ) (tokens : List Token) → AllPrint objects shared (task ∷ []) printed tokens after → DoesPrint objects shared task printed tokens after
  one_task task printed after tokens all =
      let e : tokens ≡ all.back = all.is ∙ ap (λ (ts : List Token). ts ++ all.back) all.first.0 in
      let P : List Token → Type 0 = λ ts. DoesPrint objects shared task printed ts after in
      let Q : List ℕ → Type 0 = λ ns. DoesPrint objects shared task ns all.back after in
      subst P (sym e) (subst Q all.first.1 all.others)

  pub two_tasks : (last next : PrintTask) (printed after : List ℕ) (tokens : List Token) → AllPrint objects shared (last ∷ next ∷ []) printed tokens after
      → PrintsBoth (λ front middle. DoesPrint objects shared next printed front middle) (λ middle back. DoesPrint objects shared last middle back after) tokens
  two_tasks last next printed after tokens all = record {
    front = all.front;
    middle = all.middle;
    back = all.back;
    first = one_task next printed all.middle all.front all.first;
    others = all.others;
    is = all.is;
  }

  -- Values

  pub prints_atom : (value : Value) (printed : List ℕ) → ((name : ℕ) → value ≡ Ref name → ⊥) → Prints objects shared printed value (T.Atom value ∷ []) printed
  prints_atom (Fix n) printed other = number printed n
  prints_atom Nil printed other = none printed
  prints_atom (Ref name) printed other = absurd (other name refl)

  -- The conses of a list form

  pub rest_ends : (area charge : ℕ) (cdr : Value) (printed : List ℕ) → is_nil cdr ≡ true → DoesPrint objects shared (K.Rest area charge cdr) printed (T.Close (bracket_of charge) ∷ []) printed
  rest_ends area charge Nil printed nil = λ before car element prints. ends area charge before printed car element prints
  rest_ends area charge (Fix n) printed nil = absurd cc
  rest_ends area charge (Ref name) printed nil = absurd cc

  pub rest_dotted : (area charge : ℕ) (cdr : Value) (printed after : List ℕ) (others : List Token) → is_nil cdr ≡ false → next_of objects shared printed area charge cdr ≡ None
      → AllPrint objects shared (K.Close (bracket_of charge) ∷ K.Value cdr ∷ []) printed others after → DoesPrint objects shared (K.Rest area charge cdr) printed ((T.Dot ∷ []) ++ others) after
  rest_dotted area charge cdr printed after others some last all =
      let both = two_tasks (K.Close (bracket_of charge)) (K.Value cdr) printed after others all in
      let e : others ≡ both.front ++ T.Close (bracket_of charge) ∷ [] = both.is ∙ ap (λ (ts : List Token). both.front ++ ts) both.others.0 in
      λ before car element prints. (
      let P : List Token → Type 0 = λ ts. PrintsConses objects shared area charge before (B.Cons car cdr) (element ++ T.Dot ∷ ts) after in
      let Q : List ℕ → Type 0 = λ ns. Prints objects shared printed cdr both.front ns in
      subst P (sym e) (dotted area charge before printed after car cdr element both.front prints some last (subst Q (sym both.others.1) both.first)))

  pub conses_of : (area charge : ℕ) (car cdr : Value) (body : Body) (printed after : List ℕ) (others : List Token) → body ≡ B.Cons car cdr → AllPrint objects shared (K.Rest area charge cdr ∷ K.Value car ∷ []) printed others after
      → PrintsConses objects shared area charge printed body others after
  conses_of area charge car cdr body printed after others is all =
      let both = two_tasks (K.Rest area charge cdr) (K.Value car) printed after others all in
      let P : Body → Type 0 = λ b. PrintsConses objects shared area charge printed b others after in
      let Q : List Token → Type 0 = λ ts. PrintsConses objects shared area charge printed (B.Cons car cdr) ts after in
      subst P (sym is) (subst Q (sym both.is) (both.others printed car both.front both.first))

  pub rest_goes : (area charge next : ℕ) (car cdr past : Value) (printed after : List ℕ) (others : List Token) → next_of objects shared printed area charge past ≡ Some next → (object_at objects next).body ≡ B.Cons car cdr
      → AllPrint objects shared (K.Rest area charge cdr ∷ K.Value car ∷ []) (printed ++ next ∷ []) others after → DoesPrint objects shared (K.Rest area charge past) printed others after
  rest_goes area charge next car cdr past printed after others is body all =
      λ before front element prints. goes area charge before printed after front past next element others prints is
      (conses_of area charge car cdr (object_at objects next).body (printed ++ next ∷ []) after others body all)

  -- Forms

  pub list_opens : (area charge : ℕ) (car cdr : Value) (body : Body) (printed after : List ℕ) (others : List Token) → body ≡ B.Cons car cdr → AllPrint objects shared (K.Rest area charge cdr ∷ K.Value car ∷ []) printed others after
      → PrintsForm objects shared area charge printed body ((T.Open (Some area) (bracket_of charge) ∷ []) ++ others) after
  list_opens area charge car cdr body printed after others is all =
      let P : Body → Type 0 = λ b. PrintsForm objects shared area charge printed b (T.Open (Some area) (bracket_of charge) ∷ others) after in
      subst P (sym is) (list area charge printed after car cdr others (conses_of area charge car cdr (B.Cons car cdr) printed after others refl all))

  pub block_opens : (area charge code name : ℕ) (fields : List Value) (printed after : List ℕ) (others : List Token) → (object_at objects name).body ≡ B.Block code fields → AllPrint objects shared (K.Fields name 0 ∷ []) printed others after
      → PrintsForm objects shared area charge printed (object_at objects name).body ((T.Open (Some area) Curly ∷ T.Atom (Fix (pos code)) ∷ []) ++ others) after
  block_opens area charge code name fields printed after others is all =
      let whole = one_task (K.Fields name 0) printed after others all in
      let values : drop 0 (fields_in (object_at objects name).body) ≡ fields = ap fields_in is in
      let P : Body → Type 0 = λ b. PrintsForm objects shared area charge printed b (T.Open (Some area) Curly ∷ T.Atom (Fix (pos code)) ∷ others) after in
      let Q : List Token → Type 0 = λ ts. PrintsForm objects shared area charge printed (B.Block code fields) (T.Open (Some area) Curly ∷ T.Atom (Fix (pos code)) ∷ ts) after in
      let R : List Value → Type 0 = λ vs. PrintsFields objects shared printed vs whole.fields after in
      subst P (sym is) (subst Q (sym whole.is) (block area charge code printed after fields whole.fields (subst R values whole.prints)))

  -- Fields

  drop_end : {A : Type 0} (xs : List A) (index : ℕ) → slice_get xs index ≡ None → drop index xs ≡ []
  drop_end [] zero is = refl
  drop_end [] (suc index) is = refl
  drop_end (x ∷ xs) zero is = absurd cc
  drop_end (x ∷ xs) (suc index) is = drop_end xs index is

  drop_next : {A : Type 0} (xs : List A) (index : ℕ) (x : A) → slice_get xs index ≡ Some x → drop index xs ≡ x ∷ drop (index + 1) xs
  drop_next [] index x is = absurd cc
  drop_next (y ∷ ys) zero x is = let e : y ≡ x = cc in ap (λ z. z ∷ ys) e
  drop_next {A} (y ∷ ys) (suc index) x is = let e : suc index + 1 ≡ suc (index + 1) = omega arith in drop_next ys index x is ∙ ap (λ (l : List A). x ∷ l) (ap (λ n. drop n (y ∷ ys)) (sym e))

  pub fields_end : (name index : ℕ) (printed : List ℕ) → slice_get (fields_in (object_at objects name).body) index ≡ None → DoesPrint objects shared (K.Fields name index) printed (T.Close Curly ∷ []) printed
  fields_end name index printed is =
      let P : List Value → Type 0 = λ vs. PrintsBlock objects shared printed vs (T.Close Curly ∷ []) printed in
      subst P (sym (drop_end (fields_in (object_at objects name).body) index is)) (record { fields = []; prints = done printed; is = refl })

  pub fields_go : (name index : ℕ) (value : Value) (printed after : List ℕ) (others : List Token) → slice_get (fields_in (object_at objects name).body) index ≡ Some value
      → AllPrint objects shared (K.Fields name (index + 1) ∷ K.Value value ∷ []) printed others after → DoesPrint objects shared (K.Fields name index) printed others after
  fields_go name index value printed after others is all =
      let both = two_tasks (K.Fields name (index + 1)) (K.Value value) printed after others all in
      let values = fields_in (object_at objects name).body in
      let P : List Value → Type 0 = λ vs. PrintsBlock objects shared printed vs others after in
      subst P (sym (drop_next values index value is))
      (record {
        fields = both.front ++ both.others.fields;
        prints = more printed both.middle after value (drop (index + 1) values) both.front both.others.fields both.first both.others.prints;
        is = both.is ∙ ap (λ (ts : List Token). both.front ++ ts) both.others.is ∙ sym (append_assoc both.front both.others.fields (T.Close Curly ∷ []));
      })

-- Tasks before others

pub tasks_split : (objects : List Object) (shared : ℕ → Bool) (tasks pushed : List PrintTask) (printed after : List ℕ) (tokens : List Token) → AllPrint objects shared (tasks ++ pushed) printed tokens after
    → PrintsBoth (λ front middle. AllPrint objects shared pushed printed front middle) (λ middle back. AllPrint objects shared tasks middle back after) tokens
tasks_split objects shared [] pushed printed after tokens all = record {
  front = tokens;
  middle = after;
  back = [];
  first = all;
  others = (refl, refl);
  is = sym (append-nil tokens);
}
tasks_split objects shared (task ∷ tasks) pushed printed after tokens all =
    let both = tasks_split objects shared tasks pushed printed all.middle all.front all.first in
    record {
      front = both.front;
      middle = both.middle;
      back = both.back ++ all.back;
      first = both.first;
      others = record { front = both.back; middle = all.middle; back = all.back; first = both.others; others = all.others; is = refl };
      is = all.is ∙ ap (λ (ts : List Token). ts ++ all.back) both.is ∙ append_assoc both.front both.back all.back;
    }

pub tasks_join : (objects : List Object) (shared : ℕ → Bool) (tasks pushed : List PrintTask) (printed middle after : List ℕ) (front back : List Token) → AllPrint objects shared pushed printed front middle
    → AllPrint objects shared tasks middle back after → AllPrint objects shared (tasks ++ pushed) printed (front ++ back) after
tasks_join objects shared [] pushed printed middle after front back one other =
    let P : List Token → Type 0 = λ ts. AllPrint objects shared pushed printed (front ++ ts) after in
    let Q : List Token → Type 0 = λ ts. AllPrint objects shared pushed printed ts after in
    let R : List ℕ → Type 0 = λ ns. AllPrint objects shared pushed printed front ns in
    subst P (sym other.0) (subst Q (sym (append-nil front)) (subst R (sym other.1) one))
tasks_join objects shared (task ∷ tasks) pushed printed middle after front back one other = record {
  front = front ++ other.front;
  middle = other.middle;
  back = other.back;
  first = tasks_join objects shared tasks pushed printed middle other.middle front other.front one other.first;
  others = other.others;
  is = ap (λ (ts : List Token). front ++ ts) other.is ∙ sym (append_assoc front other.front other.back);
}
