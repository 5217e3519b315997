-- Rows that show an argument for the mode and the values of options.
use Rattle.std.proofs.Common.{◌≡◌, List, [], ◌∷◌, ◌++◌, Bool, true, false, Option, Some, None, refl, ap, ◌∙◌}
use Rattle.std.specs.Prelude.{◌||◌, bytes_eq, codes, find, is_some, slice_get}
use Rattle.std.specs.List.{list_any}
use Rattle.std.specs.Option.{option_and_then, option_map_or, option_or}
use Rattle.std.proofs.lemmas.List.Folds.{find-append, list_any-append}
use Rattle.clap.specs.Facts.{explicit_source}
use Rattle.clap.specs.Takes.{is_given}
use Rattle.clap.specs.Walk.{Row, Text, at_row, first_of, has_row}
use Rattle.clap.specs.Values.{reading_of}
use Rattle.clap.specs.declared.builder.value_parser.ValueParser.TheVariants as vp
use Rattle.clap.specs.declared.parser.matches.ValueSource.TheVariants.{CommandLine}
use Rattle.command_words.proofs.Options.{Name, Object, Number, Count, Values, no_values, put, text, value_of}

abbrev pub row : Text → Text → Row
row id value = record { id = id; values = value ∷ []; count = None; source = Some CommandLine; reading = reading_of vp.String }

-- the rows have this value for the id
pub record IsAt (id : Text) (r : List Row) (value : Option Text) : Type 0 where
  pub first : first_of id r ≡ value
  pub there : has_row id r ≡ is_some value
  pub given : is_given id r ≡ is_some value

pub record Shows (r : List Row) (word : Option Text) (g : Values) : Type 0 where
  pub mode : IsAt (codes "mode") r word
  pub option : (name : Name) → IsAt (text name) r (value_of name g)

-- One more row

abbrev is : Text → Row → Bool
is id r = bytes_eq r.id id

neither : (a b : Bool) → (a || b) ≡ false → (a ≡ false) × (b ≡ false)
neither true b e = absurd (cc (e))
neither false b e = (refl, e)

none_found : (p : Row → Bool) (r : List Row) → list_any p r ≡ false → find p r ≡ None
none_found p [] none = refl
none_found p (x ∷ r) none =
    let n = neither (p x) (list_any p r) none in
    let fails = n.0 in
    rw fails (none_found p r n.1)

-- if no earlier row passes the test, the new row decides
decides : (p : Row → Bool) (r : List Row) (x : Row) → list_any p r ≡ false → find p (r ++ x ∷ []) ≡ find p (x ∷ [])
decides p r x none = find-append p r (x ∷ []) ∙ ap (λ f. option_or f (find p (x ∷ []))) (none_found p r none)

or_none : (o : Option Row) → option_or o None ≡ o
or_none None = refl
or_none (Some x) = refl

or_false : (b : Bool) → (b || false) ≡ b
or_false true = refl
or_false false = refl

passes : (p : Row → Bool) (r : List Row) (x : Row) → p x ≡ false → find p (r ++ x ∷ []) ≡ find p r
passes p r x fails = find-append p r (x ∷ []) ∙ rw fails (or_none (find p r))

passes_any : (p : Row → Bool) (r : List Row) (x : Row) → p x ≡ false → list_any p (r ++ x ∷ []) ≡ list_any p r
passes_any p r x fails = list_any-append p r (x ∷ []) ∙ rw fails (or_false (list_any p r))

decides_any : (p : Row → Bool) (r : List Row) (x : Row) → list_any p r ≡ false → list_any p (r ++ x ∷ []) ≡ list_any p (x ∷ [])
decides_any p r x none = list_any-append p r (x ∷ []) ∙ rw none refl

-- a row of another id
stays : (id other v : Text) (r : List Row) (value : Option Text) → bytes_eq other id ≡ false → IsAt id r value → IsAt id (r ++ row other v ∷ []) value
stays id other v r value fails at = record {
  first = ap (option_and_then (λ (x : Row). slice_get x.values 0)) (passes (is id) r (row other v) fails) ∙ at.first;
  there = passes_any (is id) r (row other v) fails ∙ at.there;
  given = ap (λ (f : Option Row). option_map_or (λ (x : Row). explicit_source x.source) f false) (passes (is id) r (row other v) fails) ∙ at.given;
}

-- a row of the id
added : (id v : Text) (r : List Row) → bytes_eq id id ≡ true → has_row id r ≡ false → IsAt id (r ++ row id v ∷ []) (Some v)
added id v r same none = record {
  first = ap (option_and_then (λ (x : Row). slice_get x.values 0)) (decides (is id) r (row id v) none) ∙ rw same refl;
  there = decides_any (is id) r (row id v) none ∙ rw same refl;
  given = ap (λ (f : Option Row). option_map_or (λ (x : Row). explicit_source x.source) f false) (decides (is id) r (row id v) none) ∙ rw same refl;
}

-- if no row has the id, rows are appended
pub at_end : (id : Text) (change : Row → List Row) (missing r : List Row) → has_row id r ≡ false → at_row id change missing r ≡ r ++ missing
at_end id change missing [] none = refl
at_end id change missing (x ∷ r) none =
    let n = neither (bytes_eq x.id id) (has_row id r) none in
    let fails = n.0 in
    rw fails (ap (λ (xs : List Row). x ∷ xs) (at_end id change missing r n.1))

-- What is shown

pub shows_nothing : Shows [] None no_values
shows_nothing = record { mode = record { first = refl; there = refl; given = refl }; option = none }
  where
    none : (name : Name) → IsAt (text name) [] (value_of name no_values)
    none Object = record { first = refl; there = refl; given = refl }
    none Number = record { first = refl; there = refl; given = refl }
    none Count = record { first = refl; there = refl; given = refl }

pub shows_word : (r : List Row) (g : Values) (word : Text) → Shows r None g → Shows (r ++ row (codes "mode") word ∷ []) (Some word) g
shows_word r g word s = record { mode = added (codes "mode") word r refl s.mode.there; option = rest }
  where
    rest : (name : Name) → IsAt (text name) (r ++ row (codes "mode") word ∷ []) (value_of name g)
    rest Object = stays (codes "object") (codes "mode") word r g.object refl (s.option Object)
    rest Number = stays (codes "number") (codes "mode") word r g.number refl (s.option Number)
    rest Count = stays (codes "count") (codes "mode") word r g.count refl (s.option Count)

pub missing : (r : List Row) (word : Option Text) (g : Values) (name : Name) → Shows r word g → value_of name g ≡ None → has_row (text name) r ≡ false
missing r word g name s none = (s.option name).there ∙ ap is_some none

pub shows_option : (r : List Row) (word : Option Text) (g : Values) (name : Name) (v : Text) → Shows r word g → value_of name g ≡ None → Shows (r ++ row (text name) v ∷ []) word (put name v g)
shows_option r word g Object v s none = record { mode = stays (codes "mode") (codes "object") v r word refl s.mode; option = rest }
  where
    rest : (name : Name) → IsAt (text name) (r ++ row (codes "object") v ∷ []) (value_of name (put Object v g))
    rest Object = added (codes "object") v r refl (missing r word g Object s none)
    rest Number = stays (codes "number") (codes "object") v r g.number refl (s.option Number)
    rest Count = stays (codes "count") (codes "object") v r g.count refl (s.option Count)
shows_option r word g Number v s none = record { mode = stays (codes "mode") (codes "number") v r word refl s.mode; option = rest }
  where
    rest : (name : Name) → IsAt (text name) (r ++ row (codes "number") v ∷ []) (value_of name (put Number v g))
    rest Object = stays (codes "object") (codes "number") v r g.object refl (s.option Object)
    rest Number = added (codes "number") v r refl (missing r word g Number s none)
    rest Count = stays (codes "count") (codes "number") v r g.count refl (s.option Count)
shows_option r word g Count v s none = record { mode = stays (codes "mode") (codes "count") v r word refl s.mode; option = rest }
  where
    rest : (name : Name) → IsAt (text name) (r ++ row (codes "count") v ∷ []) (value_of name (put Count v g))
    rest Object = stays (codes "object") (codes "count") v r g.object refl (s.option Object)
    rest Number = stays (codes "number") (codes "count") v r g.number refl (s.option Number)
    rest Count = added (codes "count") v r refl (missing r word g Count s none)
