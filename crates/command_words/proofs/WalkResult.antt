-- The walk results in the mode that the arguments request.
use Rattle.std.proofs.Common.{◌≡◌, ℕ, List, [], ◌∷◌, ◌++◌, length, Bool, true, false, Option, Some, None, refl, sym, ap, ap₂, ◌∙◌, subst}
use Rattle.std.specs.Prelude.{◌==◌, ◌&&◌, ◌||◌, bytes_eq, codes, nat_lt, drop, if◌then◌else◌, is_some}
use Rattle.std.proofs.lemmas.List.{append-nil}
use Rattle.world_text.proofs.reading_laws.ValueLaws.{other_bytes, same_bytes, eq_bytes}
use Rattle.world_text.specs.Numbers.{number_value}
use Rattle.clap.specs.Lexer.{has_byte}
use Rattle.clap.specs.Kinds.{IsAmong, Kinds, or_else}
use Rattle.clap.specs.Walk.{Row, Rule, Text, Waiting, arg_by_long, at_row, has_row, idle, more_values, option, settled_rows, used, walked, nothing_held, walk_from, with_values, without}
use Rattle.clap.specs.Faults.{fault_of, settle_fault, use_fault}
use Rattle.clap.specs.Simple.{App}
use Rattle.clap.specs.Values.{reading_of}
use Rattle.clap.proofs.FaultLemmas.{leaf_fault}
use Rattle.clap.proofs.WalkLemmas.{first_value-rows}
use Rattle.clap.specs.declared.builder.value_parser.ValueParser.TheVariants as vp
use Rattle.clap.specs.declared.parser.matches.Found.{Found}
use Rattle.clap.specs.declared.parser.matches.ValueSource.TheVariants.{CommandLine}
use Rattle.command_words.specs.Given.{asked}
use Rattle.clap.specs.Words.{first_of, first_value, matches_of, rows_of}
use Rattle.clap.specs.declared.error.kind.ErrorKind.{ErrorKind}
use Rattle.clap.specs.declared.error.kind.ErrorKind.TheVariants.{ArgumentConflict, InvalidValue}
use Rattle.std.specs.Option.{option_and_then}
use Rattle.command_words.specs.declared.mode.Mode.{Mode}
use Rattle.command_words.specs.App.{lispm}
use Rattle.command_words.specs.Words.{Parts, equals_at, has_value, is_option, mode_in, parts_of, with_mode, with_option}
use Rattle.command_words.proofs.ArgumentKinds.{Kind, any_within, kind, take_whole, dashes, option as an_option, short, plain}
use Rattle.command_words.proofs.Options.{IsNoNumber, IsOther, Name, Object, Number, Count, Named, known, other, Values, no_values, other_useless, put, text, value_of, value_useless}
use Rattle.command_words.proofs.Rows.{Shows, at_end, missing, row, shows_nothing, shows_option, shows_word}
use Rattle.command_words.proofs.ParserState.{all, option_new, option_twice, option_useless, position, word_first, word_twice, word_wrong, words_twice}
use Rattle.command_words.proofs.Walk.{answer, app, as_mode, at, closing, end_seen, end_waiting, ending, first_mode, hold, long_turn, mode_first, name_in_word, option_idle, option_waits, outcome, plain_idle, plain_waits, reach, reach_is, rule, rules, short_idle, short_waits, value_if, value_in_word, waiting_for}

-- Names

flipped : (a b : Text) → bytes_eq a b ≡ false → bytes_eq b a ≡ false
flipped a b differ = other_bytes b a (λ e. let same : bytes_eq a b ≡ true = rw e (eq_bytes a) in absurd (cc (same, differ)))

named : (name : Text) → Named name
named name = by_object (bytes_eq (text Object) name) refl
  where
    is : (n : Name) → bytes_eq (text n) name ≡ true → Named name
    is n same = subst Named (same_bytes (text n) name same) (known n)

    by_count : bytes_eq (text Object) name ≡ false → bytes_eq (text Number) name ≡ false → (b : Bool) → bytes_eq (text Count) name ≡ b → Named name
    by_count o n true same = is Count same
    by_count o n false c = other name (record { object = flipped (text Object) name o; number = flipped (text Number) name n; count = flipped (text Count) name c })

    by_number : bytes_eq (text Object) name ≡ false → (b : Bool) → bytes_eq (text Number) name ≡ b → Named name
    by_number o true same = is Number same
    by_number o false n = by_count o n (bytes_eq (text Count) name) refl

    by_object : (b : Bool) → bytes_eq (text Object) name ≡ b → Named name
    by_object true same = is Object same
    by_object false o = by_number o (bytes_eq (text Number) name) refl

known_rule : (name : Name) → arg_by_long rules (text name) ≡ Some (rule name)
known_rule Object = refl
known_rule Number = refl
known_rule Count = refl

other_rule : (name : Text) → IsOther name → arg_by_long rules name ≡ None
other_rule name is =
    let o = flipped name (codes "object") is.object in
    let n = flipped name (codes "number") is.number in
    let c = flipped name (codes "count") is.count in
    rw (o, n, c) refl

-- What is pending, once it is used

-- what is pending can be used, and then the rows show these values
record Stands (r : List Row) (p : Option (Text × List Text)) (word : Option Text) (g : Values) : Type 0 where
  pub settle : settle_fault rules false (hold r p) ≡ []
  pub rows : Shows (settled_rows rules p r) word g

new_row : (id v : Text) (r : List Row) → has_row id r ≡ false → with_values id (reading_of vp.String) CommandLine (v ∷ []) (without id r) ≡ r ++ row id v ∷ []
new_row id v r none =
    ap (at_row id (more_values CommandLine (v ∷ [])) (row id v ∷ [])) (at_end id (λ _. []) [] r none ∙ append-nil r) ∙ at_end id (more_values CommandLine (v ∷ [])) (row id v ∷ []) r none

mode_stands : (r : List Row) (g : Values) (word : Text) → Shows r None g → Stands r (Some (codes "mode", word ∷ [])) (Some word) g
mode_stands r g word s = record {
  settle = let none : has_row (codes "mode") r ≡ false = s.mode.there in rw none refl;
  rows = subst (λ (x : List Row). Shows x (Some word) g) (sym (new_row (codes "mode") word r s.mode.there)) (shows_word r g word s);
}

use_new : (r : List Row) (word : Option Text) (g : Values) (name : Name) (v : Text) → Shows r word g → value_of name g ≡ None → use_fault false (rule name) (v ∷ []) r ≡ []
use_new r word g Object v s none = let there : has_row (codes "object") r ≡ false = missing r word g Object s none in rw there refl
use_new r word g Number v s none = let there : has_row (codes "number") r ≡ false = missing r word g Number s none in rw there refl
use_new r word g Count v s none = let there : has_row (codes "count") r ≡ false = missing r word g Count s none in rw there refl

there : (r : List Row) (word : Option Text) (g : Values) (name : Name) (u : Text) → Shows r word g → value_of name g ≡ Some u → has_row (text name) r ≡ true
there r word g name u s is = (s.option name).there ∙ ap is_some is

use_twice : (r : List Row) (word : Option Text) (g : Values) (name : Name) (u v : Text) → Shows r word g → value_of name g ≡ Some u → use_fault false (rule name) (v ∷ []) r ≡ ArgumentConflict ∷ []
use_twice r word g Object u v s is = let had : has_row (codes "object") r ≡ true = there r word g Object u s is in rw had refl
use_twice r word g Number u v s is = let had : has_row (codes "number") r ≡ true = there r word g Number u s is in rw had refl
use_twice r word g Count u v s is = let had : has_row (codes "count") r ≡ true = there r word g Count u s is in rw had refl

used_shows : (r : List Row) (word : Option Text) (g : Values) (name : Name) (v : Text) → Shows r word g → value_of name g ≡ None → Shows (used (rule name) (v ∷ []) r) word (put name v g)
used_shows r word g name v s none =
    subst (λ (x : List Row). Shows x word (put name v g)) (sym (new_row (text name) v r (missing r word g name s none))) (shows_option r word g name v s none)

settle_use : (r : List Row) (name : Name) (v : Text) → settle_fault rules false (hold r (Some (text name, v ∷ []))) ≡ use_fault false (rule name) (v ∷ []) r
settle_use r Object v = refl
settle_use r Number v = refl
settle_use r Count v = refl

settled_use : (r : List Row) (name : Name) (v : Text) → settled_rows rules (Some (text name, v ∷ [])) r ≡ used (rule name) (v ∷ []) r
settled_use r Object v = refl
settled_use r Number v = refl
settled_use r Count v = refl

value_stands : (r : List Row) (word : Option Text) (g : Values) (name : Name) (v : Text) → Shows r word g → value_of name g ≡ None → Stands r (Some (text name, v ∷ [])) word (put name v g)
value_stands r word g name v s none = record {
  settle = settle_use r name v ∙ use_new r word g name v s none;
  rows = subst (λ (x : List Row). Shows x word (put name v g)) (sym (settled_use r name v)) (used_shows r word g name v s none);
}

-- What is pending can't be used

pub record Breaks (r : List Row) (p : Option (Text × List Text)) : Type 0 where
  pub first : ErrorKind
  pub others : Kinds
  pub is : settle_fault rules false (hold r p) ≡ first ∷ others

broken_end : (r : List Row) (p : Option (Text × List Text)) → Breaks r p → ending (hold r p) ≡ None
broken_end r p b = ap (λ (k : Kinds). closing k (settled_rows rules p r)) b.is

broken_mode : (given : Option Text) (r : List Row) (p : Option (Text × List Text)) (waiting : Waiting) (is_trailing : Bool) (word : Text) (words : List Text) → Breaks r p
    → as_mode (at (hold r p) waiting (position given) is_trailing) word words (hold r p) ≡ None
broken_mode None r p waiting t word words b = mode_first r p waiting t word words ∙ ap (λ (k : Kinds). first_mode k (settled_rows rules p r) t word words) b.is
broken_mode (Some first) r p waiting t word words b = refl

broken_trailing : (words : List Text) (given : Option Text) (r : List Row) (p : Option (Text × List Text)) (waiting : Waiting) → Breaks r p → reach (at (hold r p) waiting (position given) true) words ≡ None
unfolding walked
broken_trailing [] given r p waiting b = broken_end r p b
broken_trailing (word ∷ words) given r p waiting b = broken_mode given r p waiting true word words b

broken_known : (name : Name) (is_there : Bool) (v : Text) (r : List Row) (p : Option (Text × List Text)) (waiting : Waiting) (q : ℕ) (word : Text) (words : List Text) → Breaks r p
    → long_turn (Some (rule name)) (value_if is_there v) (hold r p) waiting q word words ≡ None
broken_known name true v r p waiting q word words b =
    ap (λ (k : Kinds). outcome (or_else (or_else k (use_fault false (rule name) (v ∷ []) (settled_rows rules p r))) [])
    (reach (at (hold (used (rule name) (v ∷ []) (settled_rows rules p r)) None) idle q false) words)) b.is
broken_known name false v r p waiting q word words b =
    ap (λ (k : Kinds). outcome (or_else k []) (reach (at (hold (settled_rows rules p r) (waiting_for name)) (option (text name)) q false) words)) b.is

broken_long : (name : Text) (is_there : Bool) (v : Text) (r : List Row) (p : Option (Text × List Text)) (waiting : Waiting) (q : ℕ) (word : Text) (words : List Text) → Breaks r p → Named name
    → long_turn (arg_by_long rules name) (value_if is_there v) (hold r p) waiting q word words ≡ None
broken_long name is_there v r p waiting q word words b (other n is) = ap (λ (a : Option Rule). long_turn a (value_if is_there v) (hold r p) waiting q word words) (other_rule n is)
broken_long name is_there v r p waiting q word words b (known n) =
    ap (λ (a : Option Rule). long_turn a (value_if is_there v) (hold r p) waiting q word words) (known_rule n) ∙ broken_known n is_there v r p waiting q word words b

broken_idle : (words : List Text) (given : Option Text) (r : List Row) (p : Option (Text × List Text)) → Breaks r p → reach (at (hold r p) idle (position given) false) words ≡ None
unfolding walked
broken_idle [] given r p b = broken_end r p b
broken_idle (word ∷ words) given r p b = by_kind word (kind word)
  where
    by_kind : (word : Text) → Kind word → reach (at (hold r p) idle (position given) false) (word ∷ words) ≡ None
    by_kind word dashes = broken_trailing words given r p idle b
    by_kind word (an_option c body) =
        option_idle (hold r p) (position given) c body words
        ∙ broken_long (name_in_word (c ∷ body)) (has_byte 61 (c ∷ body)) (value_in_word (c ∷ body)) r p idle (position given) (45 ∷ 45 ∷ c ∷ body) words b (named (name_in_word (c ∷ body)))
    by_kind word (short y ys is) = short_idle r p (position given) y ys words is (broken_mode given r p idle false (45 ∷ y ∷ ys) words b)
    by_kind word (plain w is) = plain_idle (hold r p) (position given) w words is ∙ broken_mode given r p idle false w words b

-- an option that waits for its value
unused : (name : Name) (r : List Row) → Breaks r (waiting_for name)
unused Object r = record { first = InvalidValue; others = []; is = refl }
unused Number r = record { first = InvalidValue; others = []; is = refl }
unused Count r = record { first = InvalidValue; others = []; is = refl }

-- After `--`

trails : (words : List Text) (given : Option Text) (g : Values) (r : List Row) (p : Option (Text × List Text)) (waiting : Waiting) → Stands r p given g
    → reach (at (hold r p) waiting (position given) true) words ≡ all given g (Some (record { options = []; modes = words }))
unfolding walked
trails [] given g r p waiting s = ap (λ (k : Kinds). closing k (settled_rows rules p r)) s.settle ∙ end_seen (settled_rows rules p r) given g s.rows
trails (word ∷ words) None g r p waiting s =
    mode_first r p waiting true word words ∙ ap (λ (k : Kinds). first_mode k (settled_rows rules p r) true word words) s.settle
    ∙ trails words (Some word) g (settled_rows rules p r) (Some (codes "mode", word ∷ [])) idle (mode_stands (settled_rows rules p r) g word s.rows)
trails (word ∷ words) (Some first) g r p waiting s = sym (words_twice first word g [] words)

-- Before it

abbrev Idles : List Text → Type 0
Idles words = (given : Option Text) (g : Values) (r : List Row) (p : Option (Text × List Text)) → Stands r p given g
    → reach (at (hold r p) idle (position given) false) words ≡ all given g (parts_of None words)

abbrev Waits : List Text → Type 0
Waits words = (name : Name) (given : Option Text) (g : Values) (r : List Row) → Shows r given g
    → reach (at (hold r (waiting_for name)) (option (text name)) (position given) false) words ≡ all given g (parts_of (Some (text name)) words)

-- an argument for the mode
mode_idle : (given : Option Text) (g : Values) (r : List Row) (p : Option (Text × List Text)) (word : Text) (words : List Text) → Stands r p given g → Idles words
    → as_mode (at (hold r p) idle (position given) false) word words (hold r p) ≡ all given g (with_mode word (parts_of None words))
mode_idle None g r p word words s idles =
    mode_first r p idle false word words ∙ ap (λ (k : Kinds). first_mode k (settled_rows rules p r) false word words) s.settle
    ∙ idles (Some word) g (settled_rows rules p r) (Some (codes "mode", word ∷ [])) (mode_stands (settled_rows rules p r) g word s.rows) ∙ sym (word_first word g (parts_of None words))
mode_idle (Some first) g r p word words s idles = sym (word_twice first word g (parts_of None words))

-- an option with its value
abbrev after_use : Name → List Row → Text → ℕ → List Text → Kinds → Option Mode
after_use name found v q words k = outcome (or_else k []) (reach (at (hold (used (rule name) (v ∷ []) found) None) idle q false) words)

abbrev with_value : Name → Kinds → List Row → Text → ℕ → List Text → Option Mode
with_value name settle found v q words =
    outcome (or_else (or_else settle (use_fault false (rule name) (v ∷ []) found)) []) (reach (at (hold (used (rule name) (v ∷ []) found) None) idle q false) words)

value_idle : (name : Name) (given : Option Text) (g : Values) (r : List Row) (v : Text) (words : List Text) → Shows r given g → Idles words
    → with_value name [] r v (position given) words ≡ all given g (with_option (text name) v (parts_of None words))
value_idle name given g r v words s idles = go (value_of name g) refl
  where
    go : (o : Option Text) → value_of name g ≡ o → with_value name [] r v (position given) words ≡ all given g (with_option (text name) v (parts_of None words))
    go None none =
        ap (after_use name r v (position given) words) (use_new r given g name v s none)
        ∙ idles given (put name v g) (used (rule name) (v ∷ []) r) None (record { settle = refl; rows = used_shows r given g name v s none }) ∙ option_new given g name v (parts_of None words) none
    go (Some u) is = ap (after_use name r v (position given) words) (use_twice r given g name u v s is) ∙ sym (option_twice given g name u v (parts_of None words) is)

-- the value that an option waits for
value_waits : (name : Name) (given : Option Text) (g : Values) (r : List Row) (v : Text) (words : List Text) → Shows r given g → Idles words
    → reach (at (hold r (Some (text name, v ∷ []))) idle (position given) false) words ≡ all given g (with_option (text name) v (parts_of None words))
value_waits name given g r v words s idles = go (value_of name g) refl
  where
    go : (o : Option Text) → value_of name g ≡ o → reach (at (hold r (Some (text name, v ∷ []))) idle (position given) false) words ≡ all given g (with_option (text name) v (parts_of None words))
    go None none = idles given (put name v g) r (Some (text name, v ∷ [])) (value_stands r given g name v s none) ∙ option_new given g name v (parts_of None words) none
    go (Some u) is =
        broken_idle words given r (Some (text name, v ∷ [])) (record { first = ArgumentConflict; others = []; is = settle_use r name v ∙ use_twice r given g name u v s is })
        ∙ sym (option_twice given g name u v (parts_of None words) is)

-- an option of another name
other_waits : (given : Option Text) (g : Values) (name : Text) (words : List Text) → IsOther name → all given g (parts_of (Some name) words) ≡ None
unfolding parts_of
other_waits given g name [] is = refl
other_waits given g name (value ∷ words) is = option_useless given g name value (parts_of None words) (other_useless name value is)

abbrev if_value : Bool → Text → Text → Text → List Text → Option Parts
if_value is_there name v body words = if is_there then with_option name v (parts_of None words) else parts_of (Some body) words

known_reads : (name : Name) (given : Option Text) (g : Values) (r : List Row) (p : Option (Text × List Text)) (v body word : Text) (words : List Text) (is_there : Bool)
    → Stands r p given g → Idles words → Waits words → (is_there ≡ false → text name ≡ body)
    → long_turn (Some (rule name)) (value_if is_there v) (hold r p) idle (position given) word words ≡ all given g (if_value is_there (text name) v body words)
known_reads name given g r p v body word words true s idles waits whole =
    ap (λ (k : Kinds). with_value name k (settled_rows rules p r) v (position given) words) s.settle ∙ value_idle name given g (settled_rows rules p r) v words s.rows idles
known_reads name given g r p v body word words false s idles waits whole =
    ap (λ (k : Kinds). outcome (or_else k []) (reach (at (hold (settled_rows rules p r) (waiting_for name)) (option (text name)) (position given) false) words)) s.settle
    ∙ waits name given g (settled_rows rules p r) s.rows ∙ ap (λ (n : Text). all given g (parts_of (Some n) words)) (whole refl)

other_reads : (name : Text) (given : Option Text) (g : Values) (v body : Text) (words : List Text) (is_there : Bool) → IsOther name → (is_there ≡ false → name ≡ body)
    → all given g (if_value is_there name v body words) ≡ None
other_reads name given g v body words true is whole = option_useless given g name v (parts_of None words) (other_useless name v is)
other_reads name given g v body words false is whole = ap (λ (n : Text). all given g (parts_of (Some n) words)) (sym (whole refl)) ∙ other_waits given g name words is

option_reads : (name : Text) (given : Option Text) (g : Values) (r : List Row) (p : Option (Text × List Text)) (v body word : Text) (words : List Text) (is_there : Bool)
    → Stands r p given g → Idles words → Waits words → (is_there ≡ false → name ≡ body) → Named name
    → long_turn (arg_by_long rules name) (value_if is_there v) (hold r p) idle (position given) word words ≡ all given g (if_value is_there name v body words)
option_reads name given g r p v body word words is_there s idles waits whole (other n is) =
    ap (λ (a : Option Rule). long_turn a (value_if is_there v) (hold r p) idle (position given) word words) (other_rule n is) ∙ sym (other_reads n given g v body words is_there is whole)
option_reads name given g r p v body word words is_there s idles waits whole (known n) =
    ap (λ (a : Option Rule). long_turn a (value_if is_there v) (hold r p) idle (position given) word words) (known_rule n) ∙ known_reads n given g r p v body word words is_there s idles waits whole

-- the parts of the arguments, by the shape of the first one
abbrev if_plain : Bool → Bool → Text → List Text → Option Parts
if_plain d o word words =
    if d then Some (record { options = []; modes = words })
    else if o then if_value (has_value (drop 2 word)) (name_in_word (drop 2 word)) (value_in_word (drop 2 word)) (drop 2 word) words
    else with_mode word (parts_of None words)

plain_parts : (word : Text) (words : List Text) → bytes_eq word (codes "--") ≡ false → is_option word ≡ false → parts_of None (word ∷ words) ≡ with_mode word (parts_of None words)
unfolding parts_of
plain_parts word words d o = ap₂ (λ (x y : Bool). if_plain x y word words) d o

no_test : (a b : Bool) → (if a then false else if b && false then false else false) ≡ false
no_test true b = refl
no_test false true = refl
no_test false false = refl

-- no number begins with a dash
dash_number : (xs : Text) → IsNoNumber (45 ∷ xs)
dash_number xs = λ low high.
    ap (λ (n : Bool). if n then (if nat_lt (number_value (45 ∷ xs)) low || nat_lt high (number_value (45 ∷ xs)) then None else Some (number_value (45 ∷ xs))) else None)
    (no_test (length (45 ∷ xs) == 0) (nat_lt 1 (length (45 ∷ xs))))

dash_value : (given : Option Text) (g : Values) (name : Text) (xs : Text) (parts : Option Parts) → all given g (with_option name (45 ∷ xs) parts) ≡ None
dash_value given g name xs parts = option_useless given g name (45 ∷ xs) parts (value_useless name (45 ∷ xs) (dash_number xs))

idle_turn : (word : Text) (words : List Text) → Kind word → Idles words → Waits words → Idles (word ∷ words)
unfolding parts_of walked
idle_turn word words dashes idles waits given g r p s = trails words given g r p idle s
idle_turn word words (an_option c body) idles waits given g r p s =
    let is_there : has_byte 61 (c ∷ body) ≡ has_value (c ∷ body) = any_within (λ (x : ℕ). x == 61) (c ∷ body) in
    option_idle (hold r p) (position given) c body words
    ∙ ap (λ (t : Bool). long_turn (arg_by_long rules (name_in_word (c ∷ body))) (value_if t (value_in_word (c ∷ body))) (hold r p) idle (position given) (45 ∷ 45 ∷ c ∷ body) words) is_there
    ∙ option_reads (name_in_word (c ∷ body)) given g r p (value_in_word (c ∷ body)) (c ∷ body) (45 ∷ 45 ∷ c ∷ body) words (has_value (c ∷ body)) s idles waits
    (λ none. take_whole (c ∷ body) (equals_at (c ∷ body)) none) (named (name_in_word (c ∷ body)))
idle_turn word words (short y ys is) idles waits given g r p s =
    let wrong : all given g (with_mode (45 ∷ y ∷ ys) (parts_of None words)) ≡ None = word_wrong given (45 ∷ y ∷ ys) g (parts_of None words) refl in
    short_idle r p (position given) y ys words is (mode_idle given g r p (45 ∷ y ∷ ys) words s idles ∙ wrong)
    ∙ sym (ap (all given g) (plain_parts (45 ∷ y ∷ ys) words is.dashes is.option) ∙ wrong)
idle_turn word words (plain w is) idles waits given g r p s =
    plain_idle (hold r p) (position given) w words is ∙ mode_idle given g r p w words s idles ∙ sym (ap (all given g) (plain_parts w words is.dashes is.option))

wait_turn : (word : Text) (words : List Text) → Kind word → Idles words → Waits (word ∷ words)
unfolding parts_of walked
wait_turn word words dashes idles name given g r s =
    broken_trailing words given r (waiting_for name) (option (text name)) (unused name r) ∙ sym (dash_value given g (text name) (45 ∷ []) (parts_of None words))
wait_turn word words (an_option c body) idles name given g r s =
    option_waits (text name) (hold r (waiting_for name)) (position given) c body words
    ∙ broken_long (name_in_word (c ∷ body)) (has_byte 61 (c ∷ body)) (value_in_word (c ∷ body)) r (waiting_for name) (option (text name)) (position given) (45 ∷ 45 ∷ c ∷ body) words (unused name r)
    (named (name_in_word (c ∷ body)))
    ∙ sym (dash_value given g (text name) (45 ∷ c ∷ body) (parts_of None words))
wait_turn word words (short y ys is) idles name given g r s =
    let wrong : all given g (with_option (text name) (45 ∷ y ∷ ys) (parts_of None words)) ≡ None = dash_value given g (text name) (y ∷ ys) (parts_of None words) in
    short_waits name r (position given) y ys words is (value_waits name given g r (45 ∷ y ∷ ys) words s idles ∙ wrong) ∙ sym wrong
wait_turn word words (plain w is) idles name given g r s = plain_waits name r (position given) w words is ∙ value_waits name given g r w words s idles

both : (words : List Text) → Idles words × Waits words
unfolding parts_of
both [] = (
  (λ given g r p s. ap (λ (k : Kinds). closing k (settled_rows rules p r)) s.settle ∙ end_seen (settled_rows rules p r) given g s.rows),
  (λ name given g r s. end_waiting name r),
)
both (word ∷ words) = let rest = both words in (idle_turn word words (kind word) rest.0 rest.1, wait_turn word words (kind word) rest.0)

-- All arguments

seen_nothing : (parts : Option Parts) → all None no_values parts ≡ option_and_then mode_in parts
seen_nothing None = refl
seen_nothing (Some parts) = refl

sought : (words : List Text) → outcome (fault_of lispm words) (answer (matches_of lispm words)) ≡ option_and_then mode_in (parts_of None words)
sought words =
    ap (λ (k : Kinds). outcome k (answer (matches_of lispm words))) (leaf_fault app nothing_held words refl) ∙ reach_is words (walk_from nothing_held)
    ∙ (both words).0 None no_values [] None (record { settle = refl; rows = shows_nothing }) ∙ seen_nothing (parts_of None words)

-- a text that the parser found
reads : (command : App) (words : List Text) (m : Found) (id : Text) (value : Option Text) → command ≡ lispm → rows_of m ≡ matches_of command words → value ≡ first_value m id
    → value ≡ first_of id (matches_of lispm words)
reads command words m id value is rows given = given ∙ first_value-rows m id ∙ ap (first_of id) (rows ∙ ap (λ (a : App). matches_of a words) is)

-- if the parser found these
pub found : (command : App) (words : List Text) (m : Found) (word object number count : Option Text) → command ≡ lispm → fault_of command words ≡ [] → rows_of m ≡ matches_of command words
    → word ≡ first_value m (codes "mode") → object ≡ first_value m (codes "object") → number ≡ first_value m (codes "number") → count ≡ first_value m (codes "count")
    → asked word object number count ≡ option_and_then mode_in (parts_of None words)
found command words m word object number count is none rows w o n c =
    let ws = reads command words m (codes "mode") word is rows w in
    let os = reads command words m (codes "object") object is rows o in
    let ns = reads command words m (codes "number") number is rows n in
    let cs = reads command words m (codes "count") count is rows c in
    ap₂ (λ x y. asked x y number count) ws os ∙ ap₂ (λ x y. asked (first_of (codes "mode") (matches_of lispm words)) (first_of (codes "object") (matches_of lispm words)) x y) ns cs
    ∙ ap (λ (k : Kinds). outcome k (answer (matches_of lispm words))) (sym none ∙ ap (λ (a : App). fault_of a words) is) ∙ sought words

some_kind : (kinds : Kinds) (kind : ErrorKind) (mode : Option Mode) → IsAmong kind kinds → outcome kinds mode ≡ None
some_kind [] kind mode is = elim is [ ]
some_kind (k ∷ ks) kind mode is = refl

-- if it failed, and not because memory ran out
pub failed : (command : App) (words : List Text) (kind : ErrorKind) → command ≡ lispm → IsAmong kind (fault_of command words) → option_and_then mode_in (parts_of None words) ≡ None
failed command words kind is among =
    sym (sought words) ∙ some_kind (fault_of lispm words) kind (answer (matches_of lispm words)) (subst (λ (a : App). IsAmong kind (fault_of a words)) is among)
