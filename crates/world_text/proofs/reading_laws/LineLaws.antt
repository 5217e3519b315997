-- The lines that are accepted are the spellings of what is allowed.
use Rattle.std.proofs.Common.{◌≡◌, ℕ, suc, ◌+◌, ◌<◌, ◌≤◌, ◌⊎◌, List, [], ◌∷◌, length, drop, Bool, true, false, Ok, inl, inr, refl, ap, sym, ◌∙◌, arith, subst, decimal, codes}
use Rattle.std.specs.Prelude.{◌==◌, ◌&&◌, not, if◌then◌else◌, bytes_eq, map}
use Rattle.std.specs.List.{All, list_all}
use Rattle.std.proofs.lemmas.List.{length-map}
use Rattle.store_word.specs.declared.space.Space.{Space}
use Rattle.lisp_graph.specs.declared.object.Value.{Value}
use Rattle.lisp_graph.specs.declared.world.AreaRule.{AreaRule}
use Rattle.world_text.specs.declared.fault.WorldStep.{WorldStep}
use Rattle.world_text.specs.declared.fault.WorldStep.TheVariants.{TraceBegins, WorldEnds}
use Rattle.world_text.specs.declared.fault.WorldFault.TheVariants.{Bad}
use Rattle.world_text.specs.declared.reading.reason.Reason.TheVariants.{AreaExpected, BadLine, NotAWorld, SpaceExpected, WrongCount}
use Rattle.world_text.specs.declared.reading.reader.Section.{Section}
use Rattle.world_text.specs.declared.reading.reader.Section.TheVariants.{Opening, Sizing, FirstArea, Areas, Objects, Roots, Closed}
use Rattle.world_text.specs.declared.reading.reader.WorldReader.{WorldReader}
use Rattle.world_text.specs.reading.Words.{first_word, is_well_formed, is_word, words_of}
use Rattle.world_text.specs.reading.Reader.{Said}
use Rattle.world_text.specs.reading.Closing.{closing_line, closing_word, missing_at, root_line, unless_missing}
use Rattle.world_text.specs.reading.Header.{area_line, capacity_line, opening_line, space_line}
use Rattle.world_text.specs.reading.Line.{area_lines, is_opening, last_lines, line_at, line_in, object_lines}
use Rattle.world_text.specs.writing.Spelling.{WorldLine, FormatLine, SpaceLine, AreaLine, CapacityLine, ConsLine, BlockLine, RunLine, RootLine, ClosingLine, IsWritten, line_of, kind_text, name_of, spelled, value_text, words_said}
use Rattle.world_text.specs.reading.Limits.{AreNamed}
use Rattle.world_text.specs.reading.Accepts.{AreSizes, IsAllowed, MayClose, Says, outcome, takes_area, takes_object, takes_root}
use Rattle.world_text.proofs.reading_laws.ValueLaws.{areas_spell, kinds_spell, name_word, same_bytes, values_spell}
use Rattle.world_text.proofs.reading_laws.NumberLaws.{decimal_word}
use Rattle.world_text.proofs.reading_laws.HeaderLaws.{area_line_all, size_words, area_line_only, capacity_line_all, capacity_line_only, space_line_all, space_line_only}
use Rattle.world_text.proofs.reading_laws.ObjectLaws.{block_all, block_only, cons_all, cons_only, no_words, run_all, run_only}
use Rattle.world_text.proofs.reading_laws.ClosingLaws.{missing_ok, none_at, root_all, root_only, unless_ok}
use Rattle.world_text.proofs.reading_laws.Rows.{both, formed_row, line_formed}
use Rattle.world_text.proofs.reading_laws.ReadLaws.{all_words, eq_number, guard_ok}

-- what a line with these words means
pub record LineOf (place : WorldReader) (head : List ℕ) (words : List (List ℕ)) (y : WorldStep × WorldReader) : Type 0 where
  pub line : WorldLine
  pub allowed : IsAllowed place line
  pub is : head ∷ words ≡ words_said place.world.areas line
  pub brings : outcome place line ≡ y

-- what is known of a place
pub record Known (place : WorldReader) : Type 0 where
  pub named : AreNamed place.world.areas
  pub few : place.world.space.registers ≤ 256

-- one of two lines
pub if_ok : (b : Bool) (one other : Said) (y : WorldStep × WorldReader) → (if b then one else other) ≡ Ok y → ((b ≡ true) × (one ≡ Ok y)) ⊎ ((b ≡ false) × (other ≡ Ok y))
if_ok true one other y is = inl (refl, is)
if_ok false one other y is = inr (refl, is)

-- a line with this first word
with_head : (place : WorldReader) (head word : List ℕ) (words : List (List ℕ)) (y : WorldStep × WorldReader) → bytes_eq head word ≡ true → LineOf place word words y → LineOf place head words y
with_head place head word words y same line =
    let P : List ℕ → Type 0 = λ h. LineOf place h words y in
    subst P (sym (same_bytes head word same)) line

-- What is accepted

closing_only : (place : WorldReader) (count : ℕ) (words : List (List ℕ)) (y : WorldStep × WorldReader) → MayClose place → count ≡ length words + 1 → closing_line place count ≡ Ok y → LineOf place (closing_word place.file) words y
unfolding closing_line
closing_only place count words y may counted is =
    let g = guard_ok (count == 1) _ (Bad WrongCount) y is in
    let none : words ≡ [] = no_words words (omega (arith, eq_number count 1 g.0)) in
    record { line = ClosingLine place.file; allowed = (may, refl); is = ap (λ ws. closing_word place.file ∷ ws) none; brings = let f = g.1 in cc }

last_only : (place : WorldReader) (head : List ℕ) (count : ℕ) (words : List (List ℕ)) (y : WorldStep × WorldReader) → Known place → takes_root place.second place.part ≡ true → count ≡ length words + 1
    → last_lines place head count words ≡ Ok y → LineOf place head words y
unfolding last_lines
last_only place head count words y known part counted is =
    elim (if_ok (bytes_eq head (codes "root")) _ _ y is) [
      | inl root ↦
          let u = unless_ok (missing_at place) (root_line place count words) y root.1 in
          let r = root_only place count words y known.few counted u.1 in
          let may : MayClose place = record { part = part; refer = missing_ok place place.part u.0 } in
          with_head place head (codes "root") words y root.0
          (record { line = RootLine r.register r.value; allowed = (may, r.new); is = ap (λ ws. codes "root" ∷ ws) r.is; brings = r.brings })
      | inr other ↦ elim (if_ok (bytes_eq head (closing_word place.file)) _ _ y other.1) [
        | inl closing ↦
            let u = unless_ok (missing_at place) (closing_line place count) y closing.1 in
            let may : MayClose place = record { part = part; refer = missing_ok place place.part u.0 } in
            with_head place head (closing_word place.file) words y closing.0 (closing_only place count words y may counted u.1)
        | inr none ↦ absurd (cc (none.1))
      ]
    ]

-- a place in which an object line is allowed also allows a root line
object_root : (second : Bool) (part : Section) → takes_object second part ≡ true → takes_root second part ≡ true
object_root second Opening is = absurd (cc (is))
object_root second Sizing is = absurd (cc (is))
object_root second FirstArea is = absurd (cc (is))
object_root second Areas is = is
object_root second Objects is = refl
object_root second Roots is = refl
object_root second Closed is = absurd (cc (is))

objects_only : (place : WorldReader) (head : List ℕ) (count : ℕ) (words : List (List ℕ)) (y : WorldStep × WorldReader) → Known place → takes_object place.second place.part ≡ true → count ≡ length words + 1
    → object_lines place head count words ≡ Ok y → LineOf place head words y
unfolding object_lines
objects_only place head count words y known part counted is =
    elim (if_ok (bytes_eq head (codes "cons")) _ _ y is) [
      | inl cons ↦
          let c = cons_only place count words y known.named counted cons.1 in
          with_head place head (codes "cons") words y cons.0
          (record { line = ConsLine c.area c.car c.cdr; allowed = (part, c.first, c.second, c.quota); is = ap (λ ws. codes "cons" ∷ ws) c.is; brings = c.brings })
      | inr other ↦ elim (if_ok (bytes_eq head (codes "block")) _ _ y other.1) [
        | inl block ↦
            let b = block_only place count words y known.named counted block.1 in
            with_head place head (codes "block") words y block.0
            (record { line = BlockLine b.area b.code b.fields; allowed = (part, b.small, b.few, b.written, b.quota); is = ap (λ ws. codes "block" ∷ ws) b.is; brings = b.brings })
        | inr more ↦ elim (if_ok (place.second && bytes_eq head (codes "run")) _ _ y more.1) [
          | inl run ↦
              let both = both place.second (bytes_eq head (codes "run")) run.0 in
              let r = run_only place count words y known.named counted run.1 in
              with_head place head (codes "run") words y both.1
              (record { line = RunLine r.area r.cars; allowed = (part, both.0, r.some, r.few, r.written, r.quota); is = ap (λ ws. codes "run" ∷ ws) r.is; brings = r.brings })
          | inr last ↦ last_only place head count words y known (object_root place.second place.part part) counted last.1
        ]
      ]
    ]

area_only : (place : WorldReader) (head : List ℕ) (count : ℕ) (words : List (List ℕ)) (y : WorldStep × WorldReader) → takes_area place.part ≡ true → count ≡ length words + 1
    → bytes_eq head (codes "area") ≡ true → area_line place count words ≡ Ok y → LineOf place head words y
area_only place head count words y part counted same is =
    let a = area_line_only place count words y counted is in
    with_head place head (codes "area") words y same
    (record { line = AreaLine a.rule; allowed = (part, a.new); is = ap (λ ws. codes "area" ∷ ws) a.is; brings = a.brings })

areas_only : (place : WorldReader) (head : List ℕ) (count : ℕ) (words : List (List ℕ)) (y : WorldStep × WorldReader) → Known place → place.part ≡ Areas → count ≡ length words + 1
    → area_lines place head count words ≡ Ok y → LineOf place head words y
unfolding area_lines
areas_only place head count words y known part counted is =
    elim (if_ok (bytes_eq head (codes "area")) _ _ y is) [
      | inl area ↦ area_only place head count words y (ap takes_area part) counted area.0 area.1
      | inr other ↦ elim (if_ok place.second _ _ y other.1) [
        | inl second ↦ elim (if_ok (bytes_eq head (codes "capacity")) _ _ y second.1) [
          | inl capacity ↦
              let c = capacity_line_only place count words y counted capacity.1 in
              with_head place head (codes "capacity") words y capacity.0
              (record { line = CapacityLine c.numbers; allowed = (part, second.0, c.count, c.small); is = ap (λ ws. codes "capacity" ∷ ws) c.is; brings = c.brings })
          | inr none ↦ absurd (cc (none.1))
        ]
        | inr first ↦
            let takes : takes_object place.second place.part ≡ true = ap (takes_object place.second) part ∙ ap not first.0 in
            objects_only place head count words y known takes counted first.1
      ]
    ]

in_only : (part : Section) (place : WorldReader) (head : List ℕ) (count : ℕ) (words : List (List ℕ)) (y : WorldStep × WorldReader) → Known place → place.part ≡ part → count ≡ length words + 1
    → line_in part place head count words ≡ Ok y → LineOf place head words y
unfolding line_in
in_only Opening place head count words y known part counted is = absurd (cc (is))
in_only Sizing place head count words y known part counted is =
    let g = guard_ok (bytes_eq head (codes "space")) _ (Bad SpaceExpected) y is in
    let s = space_line_only place count words y counted g.1 in
    with_head place head (codes "space") words y g.0
    (record { line = SpaceLine s.space; allowed = (part, s.sizes); is = ap (λ ws. codes "space" ∷ ws) s.is; brings = s.brings })
in_only FirstArea place head count words y known part counted is =
    let g = guard_ok (bytes_eq head (codes "area")) _ (Bad AreaExpected) y is in
    area_only place head count words y (ap takes_area part) counted g.0 g.1
in_only Areas place head count words y known part counted is = areas_only place head count words y known part counted is
in_only Objects place head count words y known part counted is = objects_only place head count words y known (ap (takes_object place.second) part) counted is
in_only Roots place head count words y known part counted is = last_only place head count words y known (ap (takes_root place.second) part) counted is
in_only Closed place head count words y known part counted is = absurd (cc (is))

opening_part : (part : Section) → is_opening part ≡ true → part ≡ Opening
opening_part Opening is = refl
opening_part Sizing is = absurd (cc (is))
opening_part FirstArea is = absurd (cc (is))
opening_part Areas is = absurd (cc (is))
opening_part Objects is = absurd (cc (is))
opening_part Roots is = absurd (cc (is))
opening_part Closed is = absurd (cc (is))

opening_only : (place : WorldReader) (text : List ℕ) (step : WorldStep) (next : WorldReader) → place.part ≡ Opening → opening_line place text ≡ Ok (step, next) → Says place text step next
opening_only place text step next part is =
    elim (if_ok (bytes_eq text (codes "lispm-world 1")) _ _ (step, next) is) [
      | inl first ↦ record { line = FormatLine false; allowed = part; is = same_bytes text (codes "lispm-world 1") first.0; brings = let f = first.1 in cc }
      | inr other ↦
          let g = guard_ok (bytes_eq text (codes "lispm-world 2")) _ (Bad NotAWorld) (step, next) other.1 in
          record { line = FormatLine true; allowed = part; is = same_bytes text (codes "lispm-world 2") g.0; brings = let f = g.1 in cc }
    ]

no_text : is_well_formed [] ≡ true → ⊥
unfolding is_well_formed words_of
no_text is = cc (is)

-- the words of a well-formed text
formed_only : (place : WorldReader) (text : List ℕ) (words : List (List ℕ)) (step : WorldStep) (next : WorldReader) → Known place → words_of text ≡ words → is_well_formed text ≡ true
    → line_in place.part place (first_word words) (length words) (drop 1 words) ≡ Ok (step, next) → Says place text step next
formed_only place text [] step next known cut formed is =
    let none : text ≡ [] = (formed_row text formed).0 ∙ ap line_of cut in
    absurd (no_text (ap is_well_formed (sym none) ∙ formed))
formed_only place text (head ∷ words) step next known cut formed is =
    let said = in_only place.part place head (suc (length words)) words (step, next) known refl (omega arith) is in
    let row = (formed_row text formed).0 in
    record { line = said.line; allowed = said.allowed; is = row ∙ ap line_of (cut ∙ said.is); brings = said.brings }

pub accepted_only : (place : WorldReader) (text : List ℕ) (step : WorldStep) (next : WorldReader) → Known place → line_at place text ≡ Ok (step, next) → Says place text step next
accepted_only place text step next known is =
    elim (if_ok (is_opening place.part) _ _ (step, next) is) [
      | inl opening ↦ opening_only place text step next (opening_part place.part opening.0) opening.1
      | inr later ↦
          let g = guard_ok (is_well_formed text) _ (Bad BadLine) (step, next) later.1 in
          formed_only place text (words_of text) step next known refl g.0 g.1
    ]

-- What is spelled

formed_all : (place : WorldReader) (head : List ℕ) (words : List (List ℕ)) (y : WorldStep × WorldReader) → is_opening place.part ≡ false → list_all is_word (head ∷ words) ≡ true
    → line_in place.part place head (length words + 1) words ≡ Ok y → line_at place (line_of (head ∷ words)) ≡ Ok y
formed_all place head words y later good is =
    let f = line_formed head words good in
    let e : suc (length words) ≡ length words + 1 = omega arith in
    rw (later, f.0, f.1, e) is

not_opening : (second : Bool) (part : Section) → takes_root second part ≡ true → is_opening part ≡ false
not_opening second Opening is = absurd (cc (is))
not_opening second Sizing is = refl
not_opening second FirstArea is = refl
not_opening second Areas is = refl
not_opening second Objects is = refl
not_opening second Roots is = refl
not_opening second Closed is = refl

then_goes : (b : Bool) (one other : Said) (y : WorldStep × WorldReader) → b ≡ true → one ≡ Ok y → (if b then one else other) ≡ Ok y
then_goes true one other y is goes = goes
then_goes false one other y is goes = absurd (cc (is))

else_goes : (b : Bool) (one other : Said) (y : WorldStep × WorldReader) → b ≡ false → other ≡ Ok y → (if b then one else other) ≡ Ok y
else_goes true one other y is goes = absurd (cc (is))
else_goes false one other y is goes = goes

and_false : (b : Bool) → (b && false) ≡ false
and_false true = refl
and_false false = refl

not_true : (b : Bool) → not b ≡ true → b ≡ false
not_true true is = absurd (cc (is))
not_true false is = refl

-- a line after the area lines
in_objects : (part : Section) (place : WorldReader) (head : List ℕ) (count : ℕ) (words : List (List ℕ)) (y : WorldStep × WorldReader) → takes_object place.second part ≡ true
    → bytes_eq head (codes "area") ≡ false → object_lines place head count words ≡ Ok y → line_in part place head count words ≡ Ok y
unfolding line_in area_lines
in_objects Opening place head count words y part other is = absurd (cc (part))
in_objects Sizing place head count words y part other is = absurd (cc (part))
in_objects FirstArea place head count words y part other is = absurd (cc (part))
in_objects Areas place head count words y part other is =
    else_goes (bytes_eq head (codes "area")) _ _ y other (else_goes place.second _ _ y (not_true place.second part) is)
in_objects Objects place head count words y part other is = is
in_objects Roots place head count words y part other is = absurd (cc (part))
in_objects Closed place head count words y part other is = absurd (cc (part))

in_roots : (part : Section) (place : WorldReader) (head : List ℕ) (count : ℕ) (words : List (List ℕ)) (y : WorldStep × WorldReader) → takes_root place.second part ≡ true
    → bytes_eq head (codes "area") ≡ false → object_lines place head count words ≡ Ok y → last_lines place head count words ≡ Ok y → line_in part place head count words ≡ Ok y
unfolding line_in
in_roots Opening place head count words y part other is last = absurd (cc (part))
in_roots Sizing place head count words y part other is last = absurd (cc (part))
in_roots FirstArea place head count words y part other is last = absurd (cc (part))
in_roots Areas place head count words y part other is last = in_objects Areas place head count words y part other is
in_roots Objects place head count words y part other is last = is
in_roots Roots place head count words y part other is last = last
in_roots Closed place head count words y part other is last = absurd (cc (part))

-- the words of an allowed line are words

name_good : (place : WorldReader) (area : ℕ) → Known place → area < length place.world.areas → is_word (name_of place.world.areas area) ≡ true
name_good place area known within = (areas_spell place.world.areas known.named).words area within

all_good : (values : List Value) → All IsWritten values → list_all is_word (map value_text values) ≡ true
all_good values written = all_words IsWritten value_text values values_spell.words written

numbers_good : (numbers : List ℕ) → All (λ number. number ≤ 16777216) numbers → list_all is_word (map decimal numbers) ≡ true
numbers_good capacities small = all_words (λ n. n ≤ 16777216) decimal capacities (λ n up. decimal_word n (omega arith)) small

-- one line after another

unless_goes : (place : WorldReader) (said : Said) (y : WorldStep × WorldReader) → MayClose place → said ≡ Ok y → unless_missing (missing_at place) said ≡ Ok y
unless_goes place said y may is = rw (none_at place may.refer) is

cons_back : (place : WorldReader) (area : ℕ) (car cdr : Value) → Known place → IsAllowed place (ConsLine area car cdr) → line_at place (spelled place.world.areas (ConsLine area car cdr)) ≡ Ok (outcome place (ConsLine area car cdr))
unfolding object_lines
cons_back place area car cdr known may =
    let y : WorldStep × WorldReader = outcome place (ConsLine area car cdr) in
    let words : List (List ℕ) = name_of place.world.areas area ∷ value_text car ∷ value_text cdr ∷ [] in
    let good : list_all is_word (codes "cons" ∷ words) ≡ true = rw (name_good place area known may.3.within, values_spell.words car may.1, values_spell.words cdr may.2) refl in
    formed_all place (codes "cons") words y (not_opening place.second place.part (object_root place.second place.part may.0)) good
    (in_objects place.part place (codes "cons") 4 words y may.0 refl (cons_all place area car cdr known.named may.1 may.2 may.3))

block_back : (place : WorldReader) (area code : ℕ) (fields : List Value) → Known place → IsAllowed place (BlockLine area code fields)
    → line_at place (spelled place.world.areas (BlockLine area code fields)) ≡ Ok (outcome place (BlockLine area code fields))
unfolding object_lines
block_back place area code fields known may =
    let y : WorldStep × WorldReader = outcome place (BlockLine area code fields) in
    let words : List (List ℕ) = name_of place.world.areas area ∷ decimal code ∷ map value_text fields in
    let good : list_all is_word (codes "block" ∷ words) ≡ true = rw (name_good place area known may.4.within, decimal_word code (omega (arith, may.1)), all_good fields may.3) refl in
    formed_all place (codes "block") words y (not_opening place.second place.part (object_root place.second place.part may.0)) good
    (in_objects place.part place (codes "block") (length words + 1) words y may.0 refl
    (block_all place area code fields (length words + 1) known.named (omega (arith, length-map fields value_text)) may.1 may.2 may.3 may.4))

run_back : (place : WorldReader) (area : ℕ) (cars : List Value) → Known place → IsAllowed place (RunLine area cars) → line_at place (spelled place.world.areas (RunLine area cars)) ≡ Ok (outcome place (RunLine area cars))
unfolding object_lines
run_back place area cars known may =
    let y : WorldStep × WorldReader = outcome place (RunLine area cars) in
    let words : List (List ℕ) = name_of place.world.areas area ∷ map value_text cars in
    let good : list_all is_word (codes "run" ∷ words) ≡ true = rw (name_good place area known may.5.within, all_good cars may.4) refl in
    formed_all place (codes "run") words y (not_opening place.second place.part (object_root place.second place.part may.0)) good
    (in_objects place.part place (codes "run") (length words + 1) words y may.0 refl
    (then_goes (place.second && true) _ _ y (ap (λ b. b && true) may.1)
    (run_all place area cars (length words + 1) known.named (omega (arith, length-map cars value_text)) may.2 may.3 may.4 may.5)))

root_back : (place : WorldReader) (register : ℕ) (value : Value) → Known place → IsAllowed place (RootLine register value) → line_at place (spelled place.world.areas (RootLine register value)) ≡ Ok (outcome place (RootLine register value))
unfolding object_lines last_lines
root_back place register value known may =
    let y : WorldStep × WorldReader = outcome place (RootLine register value) in
    let words : List (List ℕ) = decimal register ∷ value_text value ∷ [] in
    let good : list_all is_word (codes "root" ∷ words) ≡ true = rw (decimal_word register (omega (arith, may.1.within, known.few)), values_spell.words value may.1.written) refl in
    let goes : unless_missing (missing_at place) (root_line place 3 words) ≡ Ok y = unless_goes place (root_line place 3 words) y may.0 (root_all place register value known.few may.1) in
    formed_all place (codes "root") words y (not_opening place.second place.part may.0.part) good
    (in_roots place.part place (codes "root") 3 words y may.0.part refl (else_goes (place.second && false) _ _ y (and_false place.second) goes) goes)

closing_at : (place : WorldReader) (file : Bool) → place.file ≡ file → closing_line place 1 ≡ Ok (outcome place (ClosingLine file))
unfolding closing_line
closing_at place file is = ap (λ (b : Bool). Ok (if b then WorldEnds else TraceBegins, record place { part = Closed })) is

closing_goes : (place : WorldReader) (file : Bool) (head : List ℕ) → MayClose place → place.file ≡ file → bytes_eq head (codes "root") ≡ false → bytes_eq head (closing_word file) ≡ true
    → last_lines place head 1 [] ≡ Ok (outcome place (ClosingLine file))
unfolding last_lines
closing_goes place file head may is other same =
    let y : WorldStep × WorldReader = outcome place (ClosingLine file) in
    else_goes (bytes_eq head (codes "root")) _ _ y other
    (then_goes (bytes_eq head (closing_word place.file)) _ _ y (ap (λ b. bytes_eq head (closing_word b)) is ∙ same) (unless_goes place (closing_line place 1) y may (closing_at place file is)))

closing_back : (place : WorldReader) (file : Bool) → IsAllowed place (ClosingLine file) → line_at place (spelled place.world.areas (ClosingLine file)) ≡ Ok (outcome place (ClosingLine file))
unfolding object_lines
closing_back place true may =
    let y : WorldStep × WorldReader = outcome place (ClosingLine true) in
    let goes = closing_goes place true (codes "end-world") may.0 may.1 refl refl in
    formed_all place (codes "end-world") [] y (not_opening place.second place.part may.0.part) refl
    (in_roots place.part place (codes "end-world") 1 [] y may.0.part refl (else_goes (place.second && false) _ _ y (and_false place.second) goes) goes)
closing_back place false may =
    let y : WorldStep × WorldReader = outcome place (ClosingLine false) in
    let goes = closing_goes place false (codes "trace") may.0 may.1 refl refl in
    formed_all place (codes "trace") [] y (not_opening place.second place.part may.0.part) refl
    (in_roots place.part place (codes "trace") 1 [] y may.0.part refl (else_goes (place.second && false) _ _ y (and_false place.second) goes) goes)

in_area : (part : Section) (place : WorldReader) (count : ℕ) (words : List (List ℕ)) (y : WorldStep × WorldReader) → takes_area part ≡ true → area_line place count words ≡ Ok y
    → line_in part place (codes "area") count words ≡ Ok y
unfolding line_in area_lines
in_area Opening place count words y part is = absurd (cc (part))
in_area Sizing place count words y part is = absurd (cc (part))
in_area FirstArea place count words y part is = is
in_area Areas place count words y part is = is
in_area Objects place count words y part is = absurd (cc (part))
in_area Roots place count words y part is = absurd (cc (part))
in_area Closed place count words y part is = absurd (cc (part))

area_later : (part : Section) → takes_area part ≡ true → is_opening part ≡ false
area_later Opening is = absurd (cc (is))
area_later Sizing is = refl
area_later FirstArea is = refl
area_later Areas is = refl
area_later Objects is = refl
area_later Roots is = refl
area_later Closed is = refl

area_back : (place : WorldReader) (rule : AreaRule) → IsAllowed place (AreaLine rule) → line_at place (spelled place.world.areas (AreaLine rule)) ≡ Ok (outcome place (AreaLine rule))
area_back place rule may =
    let y : WorldStep × WorldReader = outcome place (AreaLine rule) in
    let words : List (List ℕ) = rule.name ∷ kind_text rule.kind ∷ decimal rule.quota ∷ [] in
    let good : list_all is_word (codes "area" ∷ words) ≡ true = rw (name_word rule.name may.1.name, kinds_spell.words rule.kind tt, decimal_word rule.quota (omega (arith, may.1.quota))) refl in
    formed_all place (codes "area") words y (area_later place.part may.0) good (in_area place.part place 4 words y may.0 (area_line_all place rule may.1))

in_capacity : (place : WorldReader) (count : ℕ) (words : List (List ℕ)) (y : WorldStep × WorldReader) → place.second ≡ true → capacity_line place count words ≡ Ok y
    → line_in Areas place (codes "capacity") count words ≡ Ok y
unfolding line_in area_lines
in_capacity place count words y second is = then_goes place.second _ _ y second is

capacity_back : (place : WorldReader) (capacities : List ℕ) → IsAllowed place (CapacityLine capacities) → line_at place (spelled place.world.areas (CapacityLine capacities)) ≡ Ok (outcome place (CapacityLine capacities))
capacity_back place capacities may =
    let y : WorldStep × WorldReader = outcome place (CapacityLine capacities) in
    let words : List (List ℕ) = map decimal capacities in
    let goes = capacity_line_all place capacities (length words + 1) (omega (arith, length-map capacities decimal)) may.2 may.3 in
    formed_all place (codes "capacity") words y (ap is_opening may.0) (numbers_good capacities may.3)
    (ap (λ part. line_in part place (codes "capacity") (length words + 1) words) may.0 ∙ in_capacity place (length words + 1) words y may.1 goes)

in_space : (place : WorldReader) (words : List (List ℕ)) (y : WorldStep × WorldReader) → space_line place 6 words ≡ Ok y → line_in Sizing place (codes "space") 6 words ≡ Ok y
unfolding line_in
in_space place words y is = is

sizes_good : (space : Space) → AreSizes space → list_all is_word (size_words space) ≡ true
sizes_good space sizes =
    rw (decimal_word space.regions (omega (arith, sizes.regions)), decimal_word space.frames (omega (arith, sizes.frames)), decimal_word space.registers (omega (arith, sizes.registers)), decimal_word space.levels (omega (arith, sizes.levels)), decimal_word space.rate (omega (arith, sizes.rate))) refl

space_back : (place : WorldReader) (space : Space) → IsAllowed place (SpaceLine space) → line_at place (spelled place.world.areas (SpaceLine space)) ≡ Ok (outcome place (SpaceLine space))
space_back place space may =
    let y : WorldStep × WorldReader = outcome place (SpaceLine space) in
    formed_all place (codes "space") (size_words space) y (ap is_opening may.0) (sizes_good space may.1)
    (ap (λ part. line_in part place (codes "space") 6 (size_words space)) may.0 ∙ in_space place (size_words space) y (space_line_all place space may.1))

format_back : (place : WorldReader) (second : Bool) → place.part ≡ Opening → line_at place (spelled place.world.areas (FormatLine second)) ≡ Ok (outcome place (FormatLine second))
format_back place true part = then_goes (is_opening place.part) _ _ (outcome place (FormatLine true)) (ap is_opening part) refl
format_back place false part = then_goes (is_opening place.part) _ _ (outcome place (FormatLine false)) (ap is_opening part) refl

spelled_back : (place : WorldReader) (line : WorldLine) → Known place → IsAllowed place line → line_at place (spelled place.world.areas line) ≡ Ok (outcome place line)
spelled_back place (FormatLine second) known may = format_back place second may
spelled_back place (SpaceLine space) known may = space_back place space may
spelled_back place (AreaLine rule) known may = area_back place rule may
spelled_back place (CapacityLine numbers) known may = capacity_back place numbers may
spelled_back place (ConsLine area car cdr) known may = cons_back place area car cdr known may
spelled_back place (BlockLine area code fields) known may = block_back place area code fields known may
spelled_back place (RunLine area cars) known may = run_back place area cars known may
spelled_back place (RootLine register value) known may = root_back place register value known may
spelled_back place (ClosingLine file) known may = closing_back place file may

pub accepted_all : (place : WorldReader) (text : List ℕ) (step : WorldStep) (next : WorldReader) → Known place → Says place text step next → line_at place text ≡ Ok (step, next)
accepted_all place text step next known says = ap (line_at place) says.is ∙ spelled_back place says.line known says.allowed ∙ ap Ok says.brings
