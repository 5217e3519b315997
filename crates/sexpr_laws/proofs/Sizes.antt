-- Printed tokens can be spelled, and there are no more of them than the charges of what was printed allow.
use Rattle.std.proofs.Common.{◌≡◌, ℕ, ◌+◌, ◌-◌, ◌*◌, ◌<◌, ◌≤◌, ◌^◌, ◌⊎◌, List, [], ◌∷◌, ◌++◌, length, take, Bool, true, false, Some, inl, inr, sym, subst, arith, length-append}
use Rattle.std.specs.Prelude.{if◌then◌else◌, count_by, pos, negsuc, ℤ, sum_by}
use Rattle.std.specs.List.{All}
use Rattle.std.proofs.lemmas.List.{length-take}
use Rattle.std.proofs.lemmas.List.Elements.{All-append, All-cons, All-head, All-nil, All-tail}
use Rattle.std.proofs.lemmas.List.Sums.{count_by-le-length, sum_by_push}
use Rattle.file_modes.specs.lisp_graph.Graph.{object_at}
use Rattle.file_modes.specs.lisp_graph.World.{IsCharge}
use Rattle.file_modes.specs.lisp_graph.KeyedGraph.{code_of}
use Rattle.file_modes.specs.lisp_graph.declared.object.Value.{Value}
use Rattle.file_modes.specs.lisp_graph.declared.object.Value.TheVariants.{Fix, Nil}
use Rattle.file_modes.specs.lisp_graph.declared.object.Body.{Body}
use Rattle.file_modes.specs.lisp_graph.declared.object.Body.TheVariants.{Cons, Block}
use Rattle.file_modes.specs.lisp_graph.declared.object.Object.{Object}
use Rattle.file_modes.specs.lisp_graph.declared.world.AreaRule.{AreaRule}
use Rattle.file_modes.specs.world_text.Spelling.{IsWritten}
use Rattle.file_modes.specs.sexpr_text.declared.bracket.Bracket.TheVariants.{Curly}
use Rattle.file_modes.specs.sexpr_text.declared.token.Token.{Token}
use Rattle.file_modes.specs.sexpr_text.declared.token.Token.TheVariants.{Root, Dot, Atom, Label, Again, Open, Close}
use Rattle.file_modes.specs.sexpr_print.Places.{is_among, parts}
use Rattle.file_modes.specs.sexpr_print.Printing.{Prints, PrintsConses, PrintsFields, PrintsForm, again, block, bracket_of, dotted, done, ends, first, goes, label_of, list, mark, more, none, number}
use Rattle.file_modes.proofs.dump_laws.NumberingGrowth.{Grows, grows_long, grows_one, grows_twice}
use Rattle.sexpr_laws.specs.Spellable.{AreSpellable, CanSpell}
use Rattle.sexpr_laws.specs.ReadBack.{in_order}
use Rattle.file_modes.proofs.dump_laws.KeyNumbers.{numbered_front, numbered_last}
use Rattle.sexpr_laws.specs.Compiled.{IsInteger}
use Rattle.sexpr_laws.proofs.Copies.{conses_grow, fields_grow, form_grows, prints_grow}
use Rattle.sexpr_laws.proofs.Labels.{place_of}
use Rattle.sexpr_laws.proofs.PrintedRoots.{PrintsAll, a_line, a_nil, all_grow, no_more}

-- an object that can be spelled
pub record IsWritable (areas : ℕ) (object : Object) : Type 0 where
  pub within : object.area < areas
  pub charge : IsCharge object.body object.charge
  pub code : code_of object.body ≤ 65535
  pub integers : All IsInteger (parts object.body)

-- the names that are printed in the end, all of objects that can be spelled
pub record AreWritable (areas : ℕ) (objects : List Object) (all : List ℕ) : Type 0 where
  pub each : (name : ℕ) → is_among all name ≡ true → IsWritable areas (object_at objects name)
  pub few : length all < 2 ^ 32

-- what the objects of these names are charged together
abbrev pub charges : List Object → List ℕ → ℕ
charges objects names = sum_by (λ name. (object_at objects name).charge) names

-- these tokens can be spelled; there are at most `count` of them, and 4 for each word that the objects printed since are charged
pub record IsSmall (areas : List AreaRule) (objects : List Object) (printed after : List ℕ) (tokens : List Token) (count : ℕ) : Type 0 where
  pub spelled : AreSpellable areas tokens
  pub long : length tokens + 4 * charges objects printed ≤ count + 4 * charges objects after

charges_push : (objects : List Object) (printed : List ℕ) (name : ℕ) → charges objects (printed ++ name ∷ []) ≡ charges objects printed + (object_at objects name).charge
charges_push objects printed name = sum_by_push (λ n. (object_at objects n).charge) printed name

one_token : (areas : List AreaRule) (token : Token) → CanSpell areas token → AreSpellable areas (token ∷ [])
one_token areas token can = All-cons (CanSpell areas) token [] can (All-nil (CanSpell areas))

last_one : (areas : ℕ) (objects : List Object) (printed after all : List ℕ) (name : ℕ) → AreWritable areas objects all → Grows (printed ++ name ∷ []) after → Grows after all → IsWritable areas (object_at objects name)
last_one areas objects printed after all name can grows last =
    let whole = grows_twice grows last in
    can.each name (subst (λ (l : List ℕ). is_among l name ≡ true) (sym whole.is) (numbered_front (printed ++ name ∷ []) whole.later name (numbered_last printed name)))

-- a label counts printed objects
label_small : (shared : ℕ → Bool) (printed all : List ℕ) → length all < 2 ^ 32 → Grows printed all → count_by shared printed < 2 ^ 32
label_small shared printed all few grows = omega (arith, count_by-le-length shared printed, grows_long grows)

again_small : (shared : ℕ → Bool) (printed all : List ℕ) (name : ℕ) → length all < 2 ^ 32 → Grows printed all → label_of shared printed name < 2 ^ 32
again_small shared printed all name few grows =
    omega (arith, count_by-le-length shared (take (place_of printed name) printed), length-take (place_of printed name) printed, grows_long grows)

written : (i : ℤ) → IsInteger (Fix i) → IsWritten (Fix i)
written (pos i) is = is
written (negsuc i) is = is

mark_small : (areas : List AreaRule) (objects : List Object) (shared : ℕ → Bool) (printed after : List ℕ) (name : ℕ) (form : List Token) → count_by shared printed < 2 ^ 32
    → IsSmall areas objects (printed ++ name ∷ []) after form ((object_at objects name).charge * 4 - 1) → 1 ≤ (object_at objects name).charge → IsSmall areas objects printed after (mark shared printed name ++ form) 1
mark_small areas objects shared printed after name form small rest some = of_test (shared name)
  where
    charged : charges objects (printed ++ name ∷ []) ≡ charges objects printed + (object_at objects name).charge
    charged = charges_push objects printed name

    of_test : (b : Bool) → IsSmall areas objects printed after ((if b then Label (count_by shared printed) ∷ [] else []) ++ form) 1
    of_test true = record { spelled = All-cons (CanSpell areas) (Label (count_by shared printed)) form small rest.spelled; long = omega (arith, rest.long, charged) }
    of_test false = record { spelled = rest.spelled; long = omega (arith, rest.long, charged) }

some_charge : (body : Body) (charge : ℕ) → IsCharge body charge → 1 ≤ charge
some_charge (Cons car cdr) charge (inl is) = omega arith
some_charge (Cons car cdr) charge (inr is) = omega arith
some_charge (Block code fields) charge is = omega arith

two_charge : (charge : ℕ) → (charge ≡ 2) ⊎ (charge ≡ 3) → 2 ≤ charge
two_charge charge (inl is) = omega arith
two_charge charge (inr is) = omega arith

mutual
  pub prints_small : {objects : List Object} {shared : ℕ → Bool} {printed : List ℕ} {value : Value} {tokens : List Token} {after : List ℕ} → Prints objects shared printed value tokens after
      → (areas : List AreaRule) (all : List ℕ) → AreWritable (length areas) objects all → Grows after all → IsInteger value → IsSmall areas objects printed after tokens 1
  prints_small (number printed i) areas all can last integer = record { spelled = one_token areas (Atom (Fix i)) (written i integer); long = omega arith }
  prints_small (none printed) areas all can last integer = record { spelled = one_token areas (Atom Nil) tt; long = omega arith }
  prints_small {objects} {shared} (again printed name old) areas all can last integer = record { spelled = one_token areas (Again (label_of shared printed name)) (again_small shared printed all name can.few last); long = omega arith }
  prints_small {objects} {shared} (first printed after name form fresh prints) areas all can last integer =
      let grown = form_grows prints in
      let object = last_one (length areas) objects printed after all name can grown last in
      mark_small areas objects shared printed after name form (label_small shared printed all can.few (grows_twice (grows_one printed name) (grows_twice grown last))) (form_small prints areas all can last object)
      (some_charge (object_at objects name).body (object_at objects name).charge object.charge)

  pub form_small : {objects : List Object} {shared : ℕ → Bool} {area charge : ℕ} {printed : List ℕ} {body : Body} {tokens : List Token} {after : List ℕ} → PrintsForm objects shared area charge printed body tokens after
      → (areas : List AreaRule) (all : List ℕ) → AreWritable (length areas) objects all → Grows after all → IsWritable (length areas) (record { area = area; charge = charge; body = body }) → IsSmall areas objects printed after tokens (charge * 4 - 1)
  form_small {objects} (list area charge printed after car cdr tokens prints) areas all can last object =
      let rest = conses_small prints areas all can last object.integers in
      record { spelled = All-cons (CanSpell areas) (Open (Some area) (bracket_of charge)) tokens object.within rest.spelled; long = omega (arith, rest.long, two_charge charge object.charge) }
  form_small {objects} (block area charge code printed after fields tokens prints) areas all can last object =
      let rest = fields_small prints areas all can last object.integers in
      let small : CanSpell areas (Atom (Fix (pos code))) = omega (arith, object.code) in
      record {
        spelled = All-cons (CanSpell areas) (Open (Some area) Curly) (Atom (Fix (pos code)) ∷ (tokens ++ Close Curly ∷ [])) object.within
            (All-cons (CanSpell areas) (Atom (Fix (pos code))) (tokens ++ Close Curly ∷ []) small (All-append (CanSpell areas) tokens (Close Curly ∷ []) rest.spelled (one_token areas (Close Curly) tt)));
        long = omega (arith, rest.long, length-append tokens (Close Curly ∷ []), object.charge);
      }

  pub conses_small : {objects : List Object} {shared : ℕ → Bool} {area charge : ℕ} {printed : List ℕ} {body : Body} {tokens : List Token} {after : List ℕ} → PrintsConses objects shared area charge printed body tokens after
      → (areas : List AreaRule) (all : List ℕ) → AreWritable (length areas) objects all → Grows after all → All IsInteger (parts body) → IsSmall areas objects printed after tokens 4
  conses_small {objects} (ends area charge printed after car element prints) areas all can last integers =
      let one = prints_small prints areas all can last (All-head IsInteger car (Nil ∷ []) integers) in
      record {
        spelled = All-append (CanSpell areas) element (Close (bracket_of charge) ∷ []) one.spelled (one_token areas (Close (bracket_of charge)) tt);
        long = omega (arith, one.long, length-append element (Close (bracket_of charge) ∷ []));
      }
  conses_small {objects} {shared} (goes area charge printed middle after car cdr next element others prints is others_print) areas all can last integers =
      let grown = conses_grow others_print in
      let object = last_one (length areas) objects middle after all next can grown last in
      let one = prints_small prints areas all can (grows_twice (grows_twice (grows_one middle next) grown) last) (All-head IsInteger car (cdr ∷ []) integers) in
      let rest = conses_small others_print areas all can last object.integers in
      let charged = charges_push objects middle next in
      let some = some_charge (object_at objects next).body (object_at objects next).charge object.charge in
      record {
        spelled = All-append (CanSpell areas) element others one.spelled rest.spelled;
        long = omega (arith, one.long, rest.long, length-append element others);
      }
  conses_small {objects} (dotted area charge printed middle after car cdr element tail prints some is tail_prints) areas all can last integers =
      let one = prints_small prints areas all can (grows_twice (prints_grow tail_prints) last) (All-head IsInteger car (cdr ∷ []) integers) in
      let rest = prints_small tail_prints areas all can last (All-head IsInteger cdr [] (All-tail IsInteger car (cdr ∷ []) integers)) in
      record {
        spelled = All-append (CanSpell areas) element (Dot ∷ (tail ++ Close (bracket_of charge) ∷ [])) one.spelled
            (All-cons (CanSpell areas) Dot (tail ++ Close (bracket_of charge) ∷ []) tt (All-append (CanSpell areas) tail (Close (bracket_of charge) ∷ []) rest.spelled (one_token areas (Close (bracket_of charge)) tt)));
        long = omega (arith, one.long, rest.long, length-append element (Dot ∷ (tail ++ Close (bracket_of charge) ∷ [])), length-append tail (Close (bracket_of charge) ∷ []));
      }

  pub fields_small : {objects : List Object} {shared : ℕ → Bool} {printed : List ℕ} {values : List Value} {tokens : List Token} {after : List ℕ} → PrintsFields objects shared printed values tokens after
      → (areas : List AreaRule) (all : List ℕ) → AreWritable (length areas) objects all → Grows after all → All IsInteger values → IsSmall areas objects printed after tokens (length values)
  fields_small (done printed) areas all can last integers = record { spelled = All-nil (CanSpell areas); long = omega arith }
  fields_small {objects} (more printed middle after value values field others prints others_print) areas all can last integers =
      let one = prints_small prints areas all can (grows_twice (fields_grow others_print) last) (All-head IsInteger value values integers) in
      let rest = fields_small others_print areas all can last (All-tail IsInteger value values integers) in
      record {
        spelled = All-append (CanSpell areas) field others one.spelled rest.spelled;
        long = omega (arith, one.long, rest.long, length-append field others);
      }

-- Lines of roots

pub record AreSmall (areas : List AreaRule) (objects : List Object) (printed after : List ℕ) (lines : List (List Token)) (count : ℕ) : Type 0 where
  pub spelled : All (AreSpellable areas) lines
  pub long : length (in_order lines) + 4 * charges objects printed ≤ 3 * count + 4 * charges objects after
  pub few : length lines ≤ count

pub all_small : {objects : List Object} {shared : ℕ → Bool} {register : ℕ} {printed : List ℕ} {values : List Value} {lines : List (List Token)} {after : List ℕ} → PrintsAll objects shared register printed values lines after
    → (areas : List AreaRule) (all : List ℕ) → AreWritable (length areas) objects all → Grows after all → All IsInteger values → register + length values ≤ 256 → AreSmall areas objects printed after lines (length values)
all_small (no_more register printed) areas all can last integers few = record { spelled = All-nil (AreSpellable areas); long = omega arith; few = omega arith }
all_small (a_nil register printed after values lines others) areas all can last integers few =
    let rest = all_small others areas all can last (All-tail IsInteger Nil values integers) (omega arith) in
    record { spelled = rest.spelled; long = omega (arith, rest.long); few = omega (arith, rest.few) }
all_small {objects} (a_line register printed middle after value values tokens lines prints others) areas all can last integers few =
    let one = prints_small prints areas all can (grows_twice (all_grow others) last) (All-head IsInteger value values integers) in
    let rest = all_small others areas all can last (All-tail IsInteger value values integers) (omega arith) in
    let small : CanSpell areas (Atom (Fix (pos register))) = omega arith in
    record {
      spelled = All-cons (AreSpellable areas) (Root ∷ Atom (Fix (pos register)) ∷ tokens) lines
          (All-cons (CanSpell areas) Root (Atom (Fix (pos register)) ∷ tokens) tt (All-cons (CanSpell areas) (Atom (Fix (pos register))) tokens small one.spelled)) rest.spelled;
      long = omega (arith, one.long, rest.long, length-append tokens (in_order lines));
      few = omega (arith, rest.few);
    }
