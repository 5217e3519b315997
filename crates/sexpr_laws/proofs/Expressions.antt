-- Printed expressions are read back: each gives the copies of the objects that were printed in it.
use Rattle.std.proofs.Common.{◌≡◌, ℕ, ◌+◌, ◌-◌, ◌≤◌, ◌⊎◌, List, [], ◌∷◌, ◌++◌, length, map, drop, Bool, true, false, Some, inl, inr, Result, Ok, refl, ap, sym, ◌∙◌, subst, arith, append-nil, append_assoc, length-append}
use Rattle.std.specs.Prelude.{if◌then◌else◌, ◌==◌, ◌&&◌, count_by, pos}
use Rattle.std.proofs.lemmas.Bool.Decides.{nat_tests}
use Rattle.std.proofs.lemmas.List.{length-map}
use Rattle.file_modes.specs.lisp_graph.Graph.{object_at}
use Rattle.file_modes.specs.lisp_graph.KeyedGraph.{is_cons}
use Rattle.file_modes.specs.lisp_graph.declared.object.Value.{Value}
use Rattle.file_modes.specs.lisp_graph.declared.object.Value.TheVariants.{Fix, Nil, Ref}
use Rattle.file_modes.specs.lisp_graph.declared.object.Body.{Body}
use Rattle.file_modes.specs.lisp_graph.declared.object.Body.TheVariants.{Cons, Block}
use Rattle.file_modes.specs.lisp_graph.declared.object.Object.{Object}
use Rattle.file_modes.specs.world_text.Next.{◌>>=◌}
use Rattle.file_modes.specs.sexpr_text.declared.bracket.Bracket.TheVariants.{Round, Square, Curly}
use Rattle.file_modes.specs.sexpr_text.declared.token.Piece.{Piece}
use Rattle.file_modes.specs.sexpr_text.declared.token.Token.{Token}
use Rattle.file_modes.specs.sexpr_text.declared.token.Token.TheVariants.{Dot, Atom, Label, Open, Close}
use Rattle.file_modes.specs.sexpr_text.declared.fault.SexprFault.{SexprFault}
use Rattle.file_modes.specs.sexpr_text.Reading.{Read, closes, conses, cons_charge, expression, fields, is_dot, object_begun}
use Rattle.file_modes.specs.sexpr_print.Places.{is_among, is_cons_like, parts}
use Rattle.file_modes.specs.sexpr_print.Printing.{Prints, PrintsConses, PrintsFields, PrintsForm, again, block, bracket_of, dotted, done, ends, first, goes, label_of, list, mark, more, none, number}
use Rattle.file_modes.proofs.dump_laws.NumberingGrowth.{Grows, grows_one, grows_twice}
use Rattle.file_modes.proofs.dump_laws.KeyNumbers.{numbered_last}
use Rattle.sexpr_laws.proofs.PrinterState.{GoesOn, Going, IsFine, IsSetting, again_shared, going_first, graph_with, next_goes, prints_going}
use Rattle.sexpr_laws.proofs.Labels.{label_known, label_new, labels_grow, labels_of, labels_stay, place_of}
use Rattle.sexpr_laws.proofs.Copies.{body_in, conses_grow, fields_grow, form_grows, object_in, place_next, place_stays, prints_grow, since, since_long, since_none, since_one, since_twice, value_in}
use Rattle.sexpr_laws.proofs.TokenPrefixes.{Begins, Opens, begins_less, begins_long, begins_plain, conses_start, form_open, prints_start, same_closes, splits, takes}
use Rattle.sexpr_laws.proofs.ReaderSteps.{Labels, again_reads, atom_reads, block_reads, cons_read, conses_dotted, conses_end, conses_go, fields_end, fields_go, form_reads, inside_of, label_reads, list_reads, nil_read}

-- what is printed, and the names that are printed in the end
pub record Context (objects : List Object) (shared : ℕ → Bool) : Type 0 where
  pub registers : List Value
  pub names : List ℕ
  pub all : List ℕ
  pub setting : IsSetting (graph_with registers objects) names shared

-- these values remain to be printed
abbrev pub Left : (objects : List Object) (shared : ℕ → Bool) → Context objects shared → List ℕ → List Value → Type 0
Left objects shared context printed values = Going (graph_with context.registers objects) context.names printed values

-- what was read of what was printed meanwhile
abbrev pub read_of : {A : Type 0} → List Object → (ℕ → Bool) → List ℕ → List ℕ → List ℕ → A → List Piece → Read A
read_of objects shared all printed after value rest = record { value = value; objects = since objects all printed after; labels = labels_of shared after; rest = rest }

-- the same if an object begins it
abbrev pub object_of : List Object → (ℕ → Bool) → List ℕ → List ℕ → List ℕ → ℕ → Object → List Piece → Read Value
object_of objects shared all printed after next object rest = record { value = Ref next; objects = object ∷ since objects all printed after; labels = labels_of shared after; rest = rest }

-- an object of this area and charge, as it is read
abbrev pub whole : List ℕ → ℕ → ℕ → Body → Object
whole all area charge body = record { area = area; charge = charge; body = body_in all body }

-- Charges

charge_back : (charge : ℕ) → (charge ≡ 2) ⊎ (charge ≡ 3) → cons_charge (bracket_of charge) ≡ charge
charge_back charge (inl is) = let e : (charge == 2) ≡ true = grind (arith, nat_tests, is) in ap (λ (b : Bool). cons_charge (if b then Round else Square)) e ∙ sym is
charge_back charge (inr is) = let e : (charge == 2) ≡ false = grind (arith, nat_tests, is) in ap (λ (b : Bool). cons_charge (if b then Round else Square)) e ∙ sym is

and_both : (a b : Bool) → (a && b) ≡ true → (a ≡ true) × (b ≡ true)
and_both true b is = (refl, is)
and_both false b is = absurd (cc (is))

-- a cons of the same area and charge
like_whole : (all : List ℕ) (area charge : ℕ) (object : Object) → is_cons_like area charge object ≡ true → object_in all object ≡ whole all area charge object.body
like_whole all area charge object like =
    let outer = and_both (is_cons object.body && object.area == area) (object.charge == charge) like in
    let inner = and_both (is_cons object.body) (object.area == area) outer.0 in
    let e : object.area ≡ area = grind (arith, nat_tests, inner) in
    let f : object.charge ≡ charge = grind (arith, nat_tests, outer) in
    ap (λ (a : ℕ). whole all a object.charge object.body) e ∙ ap (λ (c : ℕ). whole all area c object.body) f

-- What was read, put together

ends_is : (objects : List Object) (shared : ℕ → Bool) (all printed after : List ℕ) (area charge next : ℕ) (car : Value) (rest : List Piece) → cons_charge (bracket_of charge) ≡ charge
    → cons_read area (bracket_of charge) next (read_of objects shared all printed after (value_in all car) rest) (nil_read (labels_of shared after) rest) ≡ object_of objects shared all printed after next (whole all area charge (Cons car Nil)) (drop 1 rest)
ends_is objects shared all printed after area charge next car rest charged =
    ap (λ (c : ℕ). record { value = Ref next; objects = record { area = area; charge = c; body = Cons (value_in all car) Nil } ∷ (since objects all printed after ++ []); labels = labels_of shared after; rest = drop 1 rest }) charged
    ∙ ap (λ (os : List Object). record { value = Ref next; objects = whole all area charge (Cons car Nil) ∷ os; labels = labels_of shared after; rest = drop 1 rest }) (append-nil (since objects all printed after))

dotted_is : (objects : List Object) (shared : ℕ → Bool) (all printed middle after : List ℕ) (area charge next : ℕ) (car cdr : Value) (between rest : List Piece) → cons_charge (bracket_of charge) ≡ charge → Grows printed middle → Grows middle after
    → cons_read area (bracket_of charge) next (read_of objects shared all printed middle (value_in all car) between) (read_of objects shared all middle after (value_in all cdr) rest) ≡ object_of objects shared all printed after next (whole all area charge (Cons car cdr)) rest
dotted_is objects shared all printed middle after area charge next car cdr between rest charged one two =
    ap (λ (c : ℕ). record { value = Ref next; objects = record { area = area; charge = c; body = Cons (value_in all car) (value_in all cdr) } ∷ (since objects all printed middle ++ since objects all middle after); labels = labels_of shared after; rest = rest }) charged
    ∙ ap (λ (os : List Object). record { value = Ref next; objects = whole all area charge (Cons car cdr) ∷ os; labels = labels_of shared after; rest = rest }) (sym (since_twice objects all printed middle after one two))

goes_is : (objects : List Object) (shared : ℕ → Bool) (all printed middle after : List ℕ) (area charge next name : ℕ) (car cdr : Value) (between rest : List Piece) → cons_charge (bracket_of charge) ≡ charge → Grows printed middle
    → Grows (middle ++ name ∷ []) after → Grows after all → GoesOn objects shared middle area charge cdr name
    → cons_read area (bracket_of charge) next (read_of objects shared all printed middle (value_in all car) between) (object_of objects shared all (middle ++ name ∷ []) after (length middle) (whole all area charge (object_at objects name).body) rest)
    ≡ object_of objects shared all printed after next (whole all area charge (Cons car cdr)) rest
goes_is objects shared all printed middle after area charge next name car cdr between rest charged one two last on =
    let e : value_in all cdr ≡ Ref (length middle) = ap (value_in all) on.is ∙ ap Ref (place_next middle all name on.fresh (grows_twice two last)) in
    let f : since objects all middle after ≡ whole all area charge (object_at objects name).body ∷ since objects all (middle ++ name ∷ []) after =
    since_one objects all middle after name two ∙ ap (λ (o : Object). o ∷ since objects all (middle ++ name ∷ []) after) (like_whole all area charge (object_at objects name) on.like) in
    ap (λ (v : Value). cons_read area (bracket_of charge) next (read_of objects shared all printed middle (value_in all car) between) (record { value = v; objects = whole all area charge (object_at objects name).body ∷ since objects all (middle ++ name ∷ []) after; labels = labels_of shared after; rest = rest })) (sym e)
    ∙ ap (λ (os : List Object). cons_read area (bracket_of charge) next (read_of objects shared all printed middle (value_in all car) between) (record { value = value_in all cdr; objects = os; labels = labels_of shared after; rest = rest })) (sym f)
    ∙ dotted_is objects shared all printed middle after area charge next car cdr between rest charged one (grows_twice (grows_one middle name) two)

field_is : (objects : List Object) (shared : ℕ → Bool) (all printed middle after : List ℕ) (value : Value) (values : List Value) (rest : List Piece) → Grows printed middle → Grows middle after
    → ◌≡◌ {A = Read (List Value)} (record { value = value_in all value ∷ map (value_in all) values; objects = since objects all printed middle ++ since objects all middle after; labels = labels_of shared after; rest = rest })
    (read_of objects shared all printed after (map (value_in all) (value ∷ values)) rest)
field_is objects shared all printed middle after value values rest one two =
    ap (λ (os : List Object). record { value = value_in all value ∷ map (value_in all) values; objects = os; labels = labels_of shared after; rest = rest }) (sym (since_twice objects all printed middle after one two))

-- the number of objects that the reader has made is the number of those that were printed
middle_at : (objects : List Object) (all printed middle : List ℕ) (next : ℕ) → next + 1 ≡ length printed → Grows printed middle → next + 1 + length (since objects all printed middle) ≡ length middle
middle_at objects all printed middle next at grows = omega (arith, since_long objects all printed middle grows)

-- a form, with or without a label before it
first_read : (objects : List Object) (shared : ℕ → Bool) (all printed after : List ℕ) (name : ℕ) (form : List Token) (depth : ℕ) (pieces rest : List Piece) → length pieces ≤ depth → Begins (mark shared printed name ++ form) pieces rest
    → Opens form
    → ((limit : ℕ) (others : List Piece) → length others ≤ limit + 1 → Begins form others rest
    → (object_begun (length printed) (labels_of shared (printed ++ name ∷ [])) others >>= inside_of limit (length printed)) ≡ Ok (object_of objects shared all (printed ++ name ∷ []) after (length printed) (object_in all (object_at objects name)) rest))
    → expression depth (length printed) (labels_of shared printed) pieces ≡ Ok (object_of objects shared all (printed ++ name ∷ []) after (length printed) (object_in all (object_at objects name)) rest)
first_read objects shared all printed after name form depth pieces rest deep begins opens read = of_test (shared name) refl begins
  where
    labelled : shared name ≡ true → Begins (Label (count_by shared printed) ∷ form) pieces rest
        → expression depth (length printed) (labels_of shared printed) pieces ≡ Ok (object_of objects shared all (printed ++ name ∷ []) after (length printed) (object_in all (object_at objects name)) rest)
    labelled is here =
        let one = takes (Label (count_by shared printed)) form pieces rest here in
        label_reads depth (length printed) (count_by shared printed) (labels_of shared printed) form pieces rest deep here (label_new shared printed)
        ∙ ap (λ (l : Labels). object_begun (length printed) l (drop 1 pieces) >>= inside_of (depth - 1) (length printed)) (sym (labels_grow shared printed name is))
        ∙ read (depth - 1) (drop 1 pieces) (omega (arith, one.long)) one.behind

    bare : shared name ≡ false → Begins form pieces rest
        → expression depth (length printed) (labels_of shared printed) pieces ≡ Ok (object_of objects shared all (printed ++ name ∷ []) after (length printed) (object_in all (object_at objects name)) rest)
    bare is here =
        let opened = subst (λ (l : List Token). Begins l pieces rest) opens.is here in
        let one = takes (Open (Some opens.area) opens.bracket) opens.behind pieces rest opened in
        form_reads depth (length printed) opens.area opens.bracket (labels_of shared printed) opens.behind pieces rest deep opened
        ∙ ap (λ (l : Labels). object_begun (length printed) l pieces >>= inside_of (depth - 1) (length printed)) (sym (labels_stay shared printed name is))
        ∙ read (depth - 1) pieces (omega (arith, one.long)) here

    of_test : (b : Bool) → shared name ≡ b → Begins ((if b then Label (count_by shared printed) ∷ [] else []) ++ form) pieces rest
        → expression depth (length printed) (labels_of shared printed) pieces ≡ Ok (object_of objects shared all (printed ++ name ∷ []) after (length printed) (object_in all (object_at objects name)) rest)
    of_test true is here = labelled is here
    of_test false is here = bare is here

first_is : (objects : List Object) (shared : ℕ → Bool) (all printed after : List ℕ) (name : ℕ) (rest : List Piece) → is_among printed name ≡ false → Grows (printed ++ name ∷ []) after → Grows (printed ++ name ∷ []) all
    → object_of objects shared all (printed ++ name ∷ []) after (length printed) (object_in all (object_at objects name)) rest ≡ read_of objects shared all printed after (value_in all (Ref name)) rest
first_is objects shared all printed after name rest fresh grown last =
    ap (λ (n : ℕ). object_of objects shared all (printed ++ name ∷ []) after n (object_in all (object_at objects name)) rest) (sym (place_next printed all name fresh last))
    ∙ ap (λ (os : List Object). record { value = Ref (place_of all name); objects = os; labels = labels_of shared after; rest = rest }) (sym (since_one objects all printed after name grown))

-- the fields after the code of a block
abbrev pub fields_reader : ℕ → List Piece → ℕ → Labels → Result (Read (List Value)) SexprFault
fields_reader depth pieces next labels = fields (expression depth) (length (drop 1 (drop 1 pieces))) 0 next labels (drop 1 (drop 1 pieces))

mutual
  pub prints_read : {objects : List Object} {shared : ℕ → Bool} {printed : List ℕ} {value : Value} {tokens : List Token} {after : List ℕ} → Prints objects shared printed value tokens after
      → (context : Context objects shared) (values : List Value) → Left objects shared context printed (value ∷ values) → Grows after context.all → (depth : ℕ) (pieces rest : List Piece) → length pieces ≤ depth → Begins tokens pieces rest
      → expression depth (length printed) (labels_of shared printed) pieces ≡ Ok (read_of objects shared context.all printed after (value_in context.all value) rest)
  prints_read {objects} {shared} (number printed i) context values going last depth pieces rest deep begins =
      atom_reads depth (length printed) (labels_of shared printed) (Fix i) pieces rest deep begins
      ∙ ap (λ (os : List Object). Ok (record { value = Fix i; objects = os; labels = labels_of shared printed; rest = rest })) (sym (since_none objects context.all printed))
  prints_read {objects} {shared} (none printed) context values going last depth pieces rest deep begins =
      atom_reads depth (length printed) (labels_of shared printed) Nil pieces rest deep begins
      ∙ ap (λ (os : List Object). Ok (record { value = Nil; objects = os; labels = labels_of shared printed; rest = rest })) (sym (since_none objects context.all printed))
  prints_read {objects} {shared} (again printed name old) context values going last depth pieces rest deep begins =
      let yet : shared name ≡ true = again_shared (graph_with context.registers objects) context.names printed shared name values context.setting old going in
      again_reads depth (length printed) (label_of shared printed name) (place_of printed name) (labels_of shared printed) pieces rest deep begins (label_known shared printed name old yet)
      ∙ ap (λ (n : ℕ). Ok (record { value = Ref n; objects = []; labels = labels_of shared printed; rest = rest })) (sym (place_stays printed context.all name old last))
      ∙ ap (λ (os : List Object). Ok (record { value = Ref (place_of context.all name); objects = os; labels = labels_of shared printed; rest = rest })) (sym (since_none objects context.all printed))
  prints_read {objects} {shared} (first printed after name form fresh prints) context values going last depth pieces rest deep begins =
      let object : Object = object_at objects name in
      let grown = form_grows prints in
      let entered = going_first (graph_with context.registers objects) context.names printed shared name values context.setting fresh going in
      let read = λ (limit : ℕ) (others : List Piece) (short : length others ≤ limit + 1) (starts_so : Begins form others rest).
      form_read prints context values entered last (context.setting.fine name (entered.within name (numbered_last printed name))) limit (length printed) others rest short starts_so (sym (length-append printed (name ∷ []))) in
      first_read objects shared context.all printed after name form depth pieces rest deep begins (form_open prints) read
      ∙ ap Ok (first_is objects shared context.all printed after name rest fresh grown (grows_twice grown last))

  pub form_read : {objects : List Object} {shared : ℕ → Bool} {area charge : ℕ} {printed : List ℕ} {body : Body} {tokens : List Token} {after : List ℕ} → PrintsForm objects shared area charge printed body tokens after
      → (context : Context objects shared) (values : List Value) → Left objects shared context printed (parts body ++ values) → Grows after context.all → IsFine (record { area = area; charge = charge; body = body })
      → (depth next : ℕ) (pieces rest : List Piece) → length pieces ≤ depth + 1 → Begins tokens pieces rest → next + 1 ≡ length printed
      → (object_begun next (labels_of shared printed) pieces >>= inside_of depth next) ≡ Ok (object_of objects shared context.all printed after next (whole context.all area charge body) rest)
  form_read {objects} {shared} (list area charge printed after car cdr tokens prints) context values going last fine depth next pieces rest deep begins at =
      let one = takes (Open (Some area) (bracket_of charge)) tokens pieces rest begins in
      list_reads depth next area charge (labels_of shared printed) tokens pieces rest (object_of objects shared context.all printed after next (whole context.all area charge (Cons car cdr)) rest) begins
      (conses_read prints context values going last (charge_back charge fine.charge) depth (length (drop 1 pieces)) next (drop 1 pieces) rest (omega (arith, one.long)) (omega arith) one.behind at)
  form_read {objects} {shared} (block area charge code printed after fields tokens prints) context values going last fine depth next pieces rest deep begins at =
      let one = takes (Open (Some area) Curly) (Atom (Fix (pos code)) ∷ (tokens ++ Close Curly ∷ [])) pieces rest begins in
      let two = takes (Atom (Fix (pos code))) (tokens ++ Close Curly ∷ []) (drop 1 pieces) rest one.behind in
      let read = fields_read prints context values going last depth (length (drop 1 (drop 1 pieces))) 0 (drop 1 (drop 1 pieces)) rest (omega (arith, one.long, two.long)) (omega arith) (omega (arith, fine.wide)) two.behind in
      block_reads depth next area code (labels_of shared printed) (tokens ++ Close Curly ∷ []) pieces rest (read_of objects shared context.all printed after (map (value_in context.all) fields) rest) begins fine.code
      (ap (λ (n : ℕ). fields_reader depth pieces n (labels_of shared printed)) at ∙ read)
      ∙ ap (λ (c : ℕ). Ok (object_of objects shared context.all printed after next (record { area = area; charge = c; body = Block code (map (value_in context.all) fields) }) rest)) (omega (arith, length-map fields (value_in context.all), fine.charge))

  pub conses_read : {objects : List Object} {shared : ℕ → Bool} {area charge : ℕ} {printed : List ℕ} {body : Body} {tokens : List Token} {after : List ℕ} → PrintsConses objects shared area charge printed body tokens after
      → (context : Context objects shared) (values : List Value) → Left objects shared context printed (parts body ++ values) → Grows after context.all → cons_charge (bracket_of charge) ≡ charge
      → (depth many next : ℕ) (pieces rest : List Piece) → length pieces ≤ depth → length pieces ≤ many → Begins tokens pieces rest → next + 1 ≡ length printed
      → conses (expression depth) many area (bracket_of charge) next (labels_of shared printed) pieces ≡ Ok (object_of objects shared context.all printed after next (whole context.all area charge body) rest)
  conses_read {objects} {shared} (ends area charge printed after car element prints) context values going last charged depth many next pieces rest deep few begins at =
      let parted = splits element (Close (bracket_of charge) ∷ []) pieces rest begins in
      let shut = takes (Close (bracket_of charge)) [] parted.middle rest parted.behind in
      conses_end depth many area (bracket_of charge) next (labels_of shared printed) pieces (read_of objects shared context.all printed after (value_in context.all car) parted.middle) few
      (ap (λ (n : ℕ). expression depth n (labels_of shared printed) pieces) at ∙ prints_read prints context (Nil ∷ values) going last depth pieces parted.middle deep parted.before)
      (ap (closes (bracket_of charge)) shut.token ∙ same_closes (bracket_of charge))
      ∙ ap Ok (ends_is objects shared context.all printed after area charge next car parted.middle charged)
      ∙ ap (λ (left : List Piece). Ok (object_of objects shared context.all printed after next (whole context.all area charge (Cons car Nil)) left)) shut.behind
  conses_read {objects} {shared} (goes area charge printed middle after car cdr name element others prints is others_print) context values going last charged depth many next pieces rest deep few begins at =
      let parted = splits element others pieces rest begins in
      let on = next_goes objects shared middle area charge cdr name is in
      let grown = conses_grow others_print in
      let less = begins_less element pieces parted.middle (prints_start prints) parted.before in
      let plain = begins_plain (bracket_of charge) others parted.middle rest (conses_start others_print) parted.behind in
      let behind = prints_going prints context.registers context.names (cdr ∷ values) context.setting going in
      let there = subst (λ (v : Value). Left objects shared context middle (v ∷ values)) on.is behind in
      let entered = going_first (graph_with context.registers objects) context.names middle shared name values context.setting on.fresh there in
      let reads = conses_read others_print context values entered last charged depth (many - 1) (length middle) parted.middle rest (omega arith) (omega arith) parted.behind (sym (length-append middle (name ∷ []))) in
      conses_go depth many area (bracket_of charge) next (labels_of shared printed) pieces (read_of objects shared context.all printed middle (value_in context.all car) parted.middle)
      (object_of objects shared context.all (middle ++ name ∷ []) after (length middle) (whole context.all area charge (object_at objects name).body) rest) few
      (ap (λ (n : ℕ). expression depth n (labels_of shared printed) pieces) at ∙ prints_read prints context (cdr ∷ values) going (grows_twice (grows_twice (grows_one middle name) grown) last) depth pieces parted.middle deep parted.before)
      plain.0 plain.1
      (ap (λ (n : ℕ). conses (expression depth) (many - 1) area (bracket_of charge) n (labels_of shared middle) parted.middle) (middle_at objects context.all printed middle next at (prints_grow prints))
      ∙ ap (λ (l : Labels). conses (expression depth) (many - 1) area (bracket_of charge) (length middle) l parted.middle) (sym (labels_stay shared middle name on.alone)) ∙ reads)
      ∙ ap Ok (goes_is objects shared context.all printed middle after area charge next name car cdr parted.middle rest charged (prints_grow prints) grown last on)
  conses_read {objects} {shared} (dotted area charge printed middle after car cdr element tail prints some is tail_prints) context values going last charged depth many next pieces rest deep few begins at =
      let parted = splits element (Dot ∷ (tail ++ Close (bracket_of charge) ∷ [])) pieces rest begins in
      let dot = takes Dot (tail ++ Close (bracket_of charge) ∷ []) parted.middle rest parted.behind in
      let ended = splits tail (Close (bracket_of charge) ∷ []) (drop 1 parted.middle) rest dot.behind in
      let shut = takes (Close (bracket_of charge)) [] ended.middle rest ended.behind in
      let grown = prints_grow tail_prints in
      let less = begins_long element pieces parted.middle parted.before in
      let behind = prints_going prints context.registers context.names (cdr ∷ values) context.setting going in
      conses_dotted depth many area (bracket_of charge) next (labels_of shared printed) pieces (read_of objects shared context.all printed middle (value_in context.all car) parted.middle)
      (read_of objects shared context.all middle after (value_in context.all cdr) ended.middle) few
      (ap (λ (n : ℕ). expression depth n (labels_of shared printed) pieces) at ∙ prints_read prints context (cdr ∷ values) going (grows_twice grown last) depth pieces parted.middle deep parted.before)
      (ap (closes (bracket_of charge)) dot.token) (ap is_dot dot.token)
      (ap (λ (n : ℕ). expression depth n (labels_of shared middle) (drop 1 parted.middle)) (middle_at objects context.all printed middle next at (prints_grow prints))
      ∙ prints_read tail_prints context values behind last depth (drop 1 parted.middle) ended.middle (omega (arith, dot.long)) ended.before)
      (ap (closes (bracket_of charge)) shut.token ∙ same_closes (bracket_of charge))
      ∙ ap Ok (dotted_is objects shared context.all printed middle after area charge next car cdr parted.middle (drop 1 ended.middle) charged (prints_grow prints) grown)
      ∙ ap (λ (left : List Piece). Ok (object_of objects shared context.all printed after next (whole context.all area charge (Cons car cdr)) left)) shut.behind

  pub fields_read : {objects : List Object} {shared : ℕ → Bool} {printed : List ℕ} {values : List Value} {tokens : List Token} {after : List ℕ} → PrintsFields objects shared printed values tokens after
      → (context : Context objects shared) (behind : List Value) → Left objects shared context printed (values ++ behind) → Grows after context.all
      → (depth many had : ℕ) (pieces rest : List Piece) → length pieces ≤ depth → length pieces ≤ many → had + length values ≤ 2047 → Begins (tokens ++ Close Curly ∷ []) pieces rest
      → fields (expression depth) many had (length printed) (labels_of shared printed) pieces ≡ Ok (read_of objects shared context.all printed after (map (value_in context.all) values) rest)
  fields_read {objects} {shared} (done printed) context behind going last depth many had pieces rest deep few small begins =
      let shut = takes (Close Curly) [] pieces rest begins in
      fields_end depth many had (length printed) (labels_of shared printed) pieces few (ap (closes Curly) shut.token)
      ∙ ap (λ (left : List Piece). Ok (record { value = []; objects = []; labels = labels_of shared printed; rest = left })) shut.behind
      ∙ ap (λ (os : List Object). Ok (record { value = []; objects = os; labels = labels_of shared printed; rest = rest })) (sym (since_none objects context.all printed))
  fields_read {objects} {shared} (more printed middle after value values field others prints others_print) context behind going last depth many had pieces rest deep few small begins =
      let start = prints_start prints in
      let parted = splits field (others ++ Close Curly ∷ []) pieces rest (subst (λ (l : List Token). Begins l pieces rest) (append_assoc field others (Close Curly ∷ [])) begins) in
      let grown = fields_grow others_print in
      let less = begins_less field pieces parted.middle start parted.before in
      let plain = begins_plain Curly field pieces parted.middle start parted.before in
      let left = prints_going prints context.registers context.names (values ++ behind) context.setting going in
      fields_go depth many had (length printed) (labels_of shared printed) pieces (read_of objects shared context.all printed middle (value_in context.all value) parted.middle)
      (read_of objects shared context.all middle after (map (value_in context.all) values) rest) few plain.0 (omega arith)
      (prints_read prints context (values ++ behind) going (grows_twice grown last) depth pieces parted.middle deep parted.before)
      (ap (λ (n : ℕ). fields (expression depth) (many - 1) (had + 1) n (labels_of shared middle) parted.middle) (since_long objects context.all printed middle (prints_grow prints))
      ∙ fields_read others_print context behind left last depth (many - 1) (had + 1) parted.middle rest (omega arith) (omega arith) (omega arith) parted.behind)
      ∙ ap Ok (field_is objects shared context.all printed middle after value values rest (prints_grow prints) grown)
