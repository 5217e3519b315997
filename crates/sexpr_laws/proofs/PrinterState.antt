-- The relation between the objects that were printed and the values that remain to be printed.
use Rattle.std.proofs.Common.{◌≡◌, ℕ, ◌+◌, ◌≤◌, List, [], ◌∷◌, ◌++◌, Bool, true, false, Some, None, inl, inr, refl, ap, sym, ◌∙◌, subst, arith}
use Rattle.std.specs.Prelude.{◌==◌, ◌||◌, ◌&&◌, not, cond, if◌then◌else◌}
use Rattle.std.proofs.lemmas.Bool.Decides.{nat_tests}
use Rattle.file_modes.specs.lisp_graph.Graph.{Graph, is_ref, object_at, width}
use Rattle.file_modes.specs.lisp_graph.KeyedGraph.{code_of}
use Rattle.file_modes.specs.lisp_graph.World.{IsCharge}
use Rattle.file_modes.specs.lisp_graph.declared.object.Value.{Value}
use Rattle.file_modes.specs.lisp_graph.declared.object.Value.TheVariants.{Fix, Nil, Ref}
use Rattle.file_modes.specs.lisp_graph.declared.object.Body.{Body}
use Rattle.file_modes.specs.lisp_graph.declared.object.Object.{Object}
use Rattle.file_modes.specs.sexpr_text.declared.token.Token.{Token}
use Rattle.file_modes.specs.sexpr_print.Places.{held, is_among, is_cons_like, parts}
use Rattle.file_modes.specs.sexpr_print.Printing.{Prints, PrintsConses, PrintsFields, PrintsForm, again, block, dotted, done, ends, first, goes, list, more, next_of, none, number}
use Rattle.file_modes.proofs.dump_laws.KeyNumbers.{Within, key_same, numbered_append, numbered_last}
use Rattle.sexpr_laws.proofs.Counts.{Distinct, distinct_push, held_push, held_refs, one_ref, parts_at, refs, refs_append, refs_cons, same_name, sum_within, true_false}

-- What is known of a graph

-- an object that a text can mean
pub record IsFine (object : Object) : Type 0 where
  pub charge : IsCharge object.body object.charge
  pub wide : width object.body ≤ 2047
  pub code : code_of object.body ≤ 65535

-- an object to which two of the values refer is shared; the named objects refer to named ones, and a text can mean them
pub record IsSetting (graph : Graph) (names : List ℕ) (shared : ℕ → Bool) : Type 0 where
  pub twice : (name : ℕ) → 2 ≤ refs name (held graph names) → shared name ≡ true
  pub closed : (name other : ℕ) → is_among names name ≡ true → 1 ≤ refs other (parts_at graph name) → is_among names other ≡ true
  pub fine : (name : ℕ) → is_among names name ≡ true → IsFine (object_at graph.objects name)

-- one for a name that was printed
abbrev pub one_printed : List ℕ → ℕ → ℕ
one_printed printed name = cond (is_among printed name) 1 0

-- The values are those that the registers and the printed objects hold and that weren't printed. To each printed object some printed value refers; to an object that wasn't printed only these values refer.
pub record Going (graph : Graph) (names printed : List ℕ) (values : List Value) : Type 0 where
  pub fits : (name : ℕ) → one_printed printed name + refs name values ≤ refs name (held graph printed)
  pub left : (name : ℕ) → is_among printed name ≡ false → refs name (held graph printed) ≤ refs name values
  pub distinct : Distinct printed
  pub within : Within printed names
  pub named : (name : ℕ) → 1 ≤ refs name values → is_among names name ≡ true

-- the graph with these registers
abbrev pub graph_with : List Value → List Object → Graph
graph_with registers objects = record { registers = registers; objects = objects }

-- One more value

-- a value that isn't a reference
pub going_plain : (graph : Graph) (names printed : List ℕ) (value : Value) (values : List Value) → ((name : ℕ) → is_ref name value ≡ false) → Going graph names printed (value ∷ values) → Going graph names printed values
going_plain graph names printed value values plain going = record {
  fits = λ name. omega (arith, going.fits name, same name);
  left = λ name fresh. omega (arith, going.left name fresh, same name);
  distinct = going.distinct;
  within = going.within;
  named = λ name some. going.named name (omega (arith, some, same name));
}
  where
    same : (name : ℕ) → refs name (value ∷ values) ≡ refs name values
    same name = let e : one_ref name value ≡ 0 = ap (λ b. cond b 1 0) (plain name) in omega (arith, refs_cons name value values)

ref_more : (name other : ℕ) (values : List Value) → refs other values ≤ refs other (Ref name ∷ values)
ref_more name other values = omega (arith, refs_cons other (Ref name) values)

ref_here : (name : ℕ) (values : List Value) → refs name (Ref name ∷ values) ≡ 1 + refs name values
ref_here name values = let e : one_ref name (Ref name) ≡ 1 = ap (λ b. cond b 1 0) (key_same name) in omega (arith, refs_cons name (Ref name) values)

ref_other : (name other : ℕ) (values : List Value) → (name == other) ≡ false → refs other (Ref name ∷ values) ≡ refs other values
ref_other name other values differs = let e : one_ref other (Ref name) ≡ 0 = ap (λ b. cond b 1 0) differs in omega (arith, refs_cons other (Ref name) values)

-- an object that was printed
pub going_again : (graph : Graph) (names printed : List ℕ) (name : ℕ) (values : List Value) → is_among printed name ≡ true → Going graph names printed (Ref name ∷ values) → Going graph names printed values
going_again graph names printed name values old going = record {
  fits = λ other. omega (arith, going.fits other, ref_more name other values);
  left = λ other fresh. elim (true_false (name == other)) [
    | inl same ↦ let e : is_among printed other ≡ true = subst (λ n. is_among printed n ≡ true) (same_name name other same) old in absurd (cc (e, fresh))
    | inr differs ↦ omega (arith, going.left other fresh, ref_other name other values differs)
  ];
  distinct = going.distinct;
  within = going.within;
  named = λ other some. going.named other (omega (arith, some, ref_more name other values));
}

printed_push : (printed : List ℕ) (name other : ℕ) → (name == other) ≡ false → is_among (printed ++ name ∷ []) other ≡ is_among printed other
printed_push printed name other differs =
    let d : (other == name) ≡ false = grind (arith, nat_tests, differs) in
    numbered_append printed (name ∷ []) other ∙ ap (λ b. is_among printed other || (b || false)) d ∙ or_false (is_among printed other)
  where
    or_false : (b : Bool) → (b || (false || false)) ≡ b
    or_false true = refl
    or_false false = refl

some_is : (n : ℕ) → (n == 0) ≡ false → 1 ≤ n
some_is n is = grind (arith, nat_tests, is)

-- an object that is printed first
pub going_first : (graph : Graph) (names printed : List ℕ) (shared : ℕ → Bool) (name : ℕ) (values : List Value) → IsSetting graph names shared → is_among printed name ≡ false → Going graph names printed (Ref name ∷ values)
    → Going graph names (printed ++ name ∷ []) (parts_at graph name ++ values)
going_first graph names printed shared name values setting fresh going = record {
  fits = λ other. elim (true_false (name == other)) [
    | inl same ↦ subst (λ n. one_printed (printed ++ name ∷ []) n + refs n (parts_at graph name ++ values) ≤ refs n (held graph (printed ++ name ∷ []))) (same_name name other same) here
    | inr differs ↦
        let e : one_printed (printed ++ name ∷ []) other ≡ one_printed printed other = ap (λ b. cond b 1 0) (printed_push printed name other differs) in
        omega (arith, going.fits other, ref_other name other values differs, held_push graph other name printed, refs_append other (parts_at graph name) values)
  ];
  left = λ other unseen. elim (true_false (name == other)) [
    | inl same ↦ let e : is_among (printed ++ name ∷ []) other ≡ true = subst (λ n. is_among (printed ++ name ∷ []) n ≡ true) (same_name name other same) (numbered_last printed name) in absurd (cc (e, unseen))
    | inr differs ↦
        let before = going.left other (sym (printed_push printed name other differs) ∙ unseen) in
        omega (arith, before, ref_other name other values differs, held_push graph other name printed, refs_append other (parts_at graph name) values)
  ];
  distinct = distinct_push printed name going.distinct fresh;
  within = λ other is. elim (true_false (name == other)) [
    | inl same ↦ subst (λ n. is_among names n ≡ true) (same_name name other same) known
    | inr differs ↦ going.within other (sym (printed_push printed name other differs) ∙ is)
  ];
  named = λ other some. elim (true_false (refs other (parts_at graph name) == 0)) [
    | inl zero_here ↦
        let e : refs other (parts_at graph name) ≡ 0 = same_name (refs other (parts_at graph name)) 0 zero_here in
        going.named other (omega (arith, some, refs_append other (parts_at graph name) values, ref_more name other values))
    | inr some_here ↦ setting.closed name other known (some_is (refs other (parts_at graph name)) some_here)
  ];
}
  where
    known : is_among names name ≡ true
    known = going.named name (omega (arith, ref_here name values))

    here : one_printed (printed ++ name ∷ []) name + refs name (parts_at graph name ++ values) ≤ refs name (held graph (printed ++ name ∷ []))
    here =
        let e : one_printed (printed ++ name ∷ []) name ≡ 1 = ap (λ b. cond b 1 0) (numbered_last printed name) in
        let f : one_printed printed name ≡ 0 = ap (λ b. cond b 1 0) fresh in
        omega (arith, going.fits name, ref_here name values, held_push graph name name printed, refs_append name (parts_at graph name) values)

-- an object that was printed and is referred to again is shared
pub again_shared : (graph : Graph) (names printed : List ℕ) (shared : ℕ → Bool) (name : ℕ) (values : List Value) → IsSetting graph names shared → is_among printed name ≡ true → Going graph names printed (Ref name ∷ values)
    → shared name ≡ true
again_shared graph names printed shared name values setting old going =
    let e : one_printed printed name ≡ 1 = ap (λ b. cond b 1 0) old in
    let all = sum_within (λ n. refs name (parts_at graph n)) printed names going.distinct going.within in
    setting.twice name (omega (arith, going.fits name, ref_here name values, held_refs graph name printed, held_refs graph name names, all))

-- Whole expressions

-- the cdr that continues a list form
pub record GoesOn (objects : List Object) (shared : ℕ → Bool) (printed : List ℕ) (area charge : ℕ) (cdr : Value) (next : ℕ) : Type 0 where
  pub is : cdr ≡ Ref next
  pub like : is_cons_like area charge (object_at objects next) ≡ true
  pub alone : shared next ≡ false
  pub fresh : is_among printed next ≡ false

pub next_goes : (objects : List Object) (shared : ℕ → Bool) (printed : List ℕ) (area charge : ℕ) (cdr : Value) (next : ℕ) → next_of objects shared printed area charge cdr ≡ Some next → GoesOn objects shared printed area charge cdr next
next_goes objects shared printed area charge (Fix i) next is = absurd (cc (is))
next_goes objects shared printed area charge Nil next is = absurd (cc (is))
next_goes objects shared printed area charge (Ref name) next is = of_tests (is_cons_like area charge (object_at objects name)) (shared name) (is_among printed name) refl refl refl is
  where
    of_tests : (like alone old : Bool) → is_cons_like area charge (object_at objects name) ≡ like → shared name ≡ alone → is_among printed name ≡ old
        → (if like && not alone && not old then Some name else None) ≡ Some next → GoesOn objects shared printed area charge (Ref name) next
    of_tests true false false one two three here =
        let e : name ≡ next = cc (here) in
        subst (λ n. GoesOn objects shared printed area charge (Ref name) n) e (record { is = refl; like = one; alone = two; fresh = three })
    of_tests true false true one two three here = absurd (cc (here))
    of_tests true true old one two three here = absurd (cc (here))
    of_tests false alone old one two three here = absurd (cc (here))

-- after an expression, the values after it remain
mutual
  pub prints_going : {objects : List Object} {shared : ℕ → Bool} {printed : List ℕ} {value : Value} {tokens : List Token} {after : List ℕ} → Prints objects shared printed value tokens after
      → (registers : List Value) (names : List ℕ) (values : List Value) → IsSetting (graph_with registers objects) names shared → Going (graph_with registers objects) names printed (value ∷ values) → Going (graph_with registers objects) names after values
  prints_going (number printed i) registers names values setting going = going_plain (graph_with registers _) names printed (Fix i) values (λ name. refl) going
  prints_going (none printed) registers names values setting going = going_plain (graph_with registers _) names printed Nil values (λ name. refl) going
  prints_going (again printed name old) registers names values setting going = going_again (graph_with registers _) names printed name values old going
  prints_going {shared = shared} (first printed after name form fresh prints) registers names values setting going =
      form_going prints registers names values setting (going_first (graph_with registers _) names printed shared name values setting fresh going)

  pub form_going : {objects : List Object} {shared : ℕ → Bool} {area charge : ℕ} {printed : List ℕ} {body : Body} {tokens : List Token} {after : List ℕ} → PrintsForm objects shared area charge printed body tokens after
      → (registers : List Value) (names : List ℕ) (values : List Value) → IsSetting (graph_with registers objects) names shared → Going (graph_with registers objects) names printed (parts body ++ values)
      → Going (graph_with registers objects) names after values
  form_going (list area charge printed after car cdr tokens prints) registers names values setting going = conses_going prints registers names values setting going
  form_going (block area charge code printed after fields tokens prints) registers names values setting going = fields_going prints registers names values setting going

  pub conses_going : {objects : List Object} {shared : ℕ → Bool} {area charge : ℕ} {printed : List ℕ} {body : Body} {tokens : List Token} {after : List ℕ} → PrintsConses objects shared area charge printed body tokens after
      → (registers : List Value) (names : List ℕ) (values : List Value) → IsSetting (graph_with registers objects) names shared → Going (graph_with registers objects) names printed (parts body ++ values)
      → Going (graph_with registers objects) names after values
  conses_going (ends area charge printed after car element prints) registers names values setting going =
      going_plain (graph_with registers _) names after Nil values (λ name. refl) (prints_going prints registers names (Nil ∷ values) setting going)
  conses_going {objects} {shared} (goes area charge printed middle after car cdr next element others prints is rest) registers names values setting going =
      let there = next_goes objects shared middle area charge cdr next is in
      let behind = prints_going prints registers names (cdr ∷ values) setting going in
      let at = subst (λ (v : Value). Going (graph_with registers objects) names middle (v ∷ values)) there.is behind in
      conses_going rest registers names values setting (going_first (graph_with registers objects) names middle shared next values setting there.fresh at)
  conses_going (dotted area charge printed middle after car cdr element last prints some is rest) registers names values setting going =
      prints_going rest registers names values setting (prints_going prints registers names (cdr ∷ values) setting going)

  pub fields_going : {objects : List Object} {shared : ℕ → Bool} {printed : List ℕ} {fields : List Value} {tokens : List Token} {after : List ℕ} → PrintsFields objects shared printed fields tokens after
      → (registers : List Value) (names : List ℕ) (values : List Value) → IsSetting (graph_with registers objects) names shared → Going (graph_with registers objects) names printed (fields ++ values)
      → Going (graph_with registers objects) names after values
  fields_going (done printed) registers names values setting going = going
  fields_going (more printed middle after value fields field others prints rest) registers names values setting going =
      fields_going rest registers names values setting (prints_going prints registers names (fields ++ values) setting going)
